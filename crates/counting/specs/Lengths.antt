-- How many sequences have each length.
-- Assumes nothing.
use Rattle.std.specs.Prelude.{ℕ, ◌^◌, eqb}
use Rattle.recurrence.specs.Register.{complexity}
use Rattle.counting.specs.Numbering.{list_at, count_below}

-- how many of the m^n sequences of n terms below m have linear complexity l
unfoldable pub with_length : ℕ → ℕ → ℕ → ℕ
with_length m n l = count_below (m ^ n) (λ x. eqb (complexity m (list_at m n x) n) l)
