-- The limits and the sizes of buffers in bytes, each named once.
-- Assumes nothing.
use Rattle.std.specs.Prelude.{ℕ}
use Rattle.steps.specs.Sizes as Sizes

-- moduli go from 2 to this one
abbrev pub max_modulus : ℕ
max_modulus = 4095

-- the arrays have no more places for terms
abbrev pub max_terms : ℕ
max_terms = Sizes.max_terms

-- nor for coefficients, and for the lengths of a profile
abbrev pub max_cells : ℕ
max_cells = Sizes.max_cells

-- modulus, count and the terms, two bytes each
abbrev pub query_bytes : ℕ
query_bytes = 260

-- a_0 .. a_128, and as many lengths of a profile
abbrev pub a_bytes : ℕ
a_bytes = 258

abbrev pub profile_bytes : ℕ
profile_bytes = 258

-- b_0 .. b_127
abbrev pub b_bytes : ℕ
b_bytes = 256

-- a, and b behind it
abbrev pub register_bytes : ℕ
register_bytes = 514
