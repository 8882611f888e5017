-- The Games-Chan halving of one period of a binary sequence.
-- Assumes nothing.
use Rattle.std.specs.Prelude.{Bool, List, ℕ, zero, suc, ◌+◌, ◌%◌, ◌^◌, ◌<◌, eqb}
use Rattle.lists.specs.Choice.{pick}
use Rattle.lists.specs.Table.{at, tabulate}
use Rattle.lists.specs.Search.{all}

-- of 2 h digits: whether the halves are equal, the first half, and the sum of the halves modulo 2
abbrev pub equal_halves : ℕ → List ℕ → Bool
equal_halves h s = all h (λ i. eqb (at s i) (at s (h + i)))

abbrev pub first_half : ℕ → List ℕ → List ℕ
first_half h s = tabulate h (at s)

abbrev pub halves_sum : ℕ → List ℕ → List ℕ
halves_sum h s = tabulate h (λ i. (at s i + at s (h + i)) % 2)

-- The length for a period of 2^w digits. Compare the halves; if equal go on with one; if not, add half the size to the total and go on with their sum
-- modulo 2; at size 1 add the last digit.
unfoldable pub halving : ℕ → List ℕ → ℕ
halving zero s = at s zero
halving (suc w) s = pick (equal_halves (2 ^ w) s) (halving w (first_half (2 ^ w) s)) (2 ^ w + halving w (halves_sum (2 ^ w) s))

-- the first n digits are 0 or 1
abbrev pub Binary : ℕ → List ℕ → Type 0
Binary n s = (i : ℕ) → i < n → at s i < 2
