-- The sizes of the arrays, each named once.
-- Assumes nothing.
use Rattle.std.specs.Prelude.{ℕ}

-- the terms, and the cells of b
abbrev pub max_terms : ℕ
max_terms = 128

-- the cells of a, and the lengths after 0, 1, .., 128 steps
abbrev pub max_cells : ℕ
max_cells = 129

-- the rows: a power p^e below 65,536 has e at most 15
abbrev pub max_rows : ℕ
max_rows = 15

-- the words of a log: 128 for each of at most 15 rows
abbrev pub log_words : ℕ
log_words = 1920
