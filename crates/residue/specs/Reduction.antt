-- The number by which a remainder modulo q is taken with two products and no division.
-- Assumes nothing.
use Rattle.std.specs.Prelude.{ℕ, ◌+◌, ◌/◌}

-- 2 ^ 48
abbrev pub two48 : ℕ
two48 = 281474976710656

-- 2 ^ 48 / q + 1
abbrev pub scale_of : ℕ → ℕ
scale_of q = two48 / q + 1
