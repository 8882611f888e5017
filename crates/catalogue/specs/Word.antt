-- The first four terms in a query or a record, as one number.
-- Assumes nothing.
use Rattle.std.specs.Prelude.{List, ℕ, ◌+◌, ◌*◌}
use Rattle.lists.specs.Table.{at}

abbrev pub word_of : List ℕ → ℕ
word_of s =
    at s 4 + 256 * at s 5 + 65536 * at s 6 + 16777216 * at s 7
    + 4294967296 * (at s 8 + 256 * at s 9 + 65536 * at s 10 + 16777216 * at s 11)
