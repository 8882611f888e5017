-- `merge::first_apart` meets its contract: below i the terms agree.
-- Assumes nothing.
use mathlib.Core.Path.{◌≡◌}
use mathlib.Core.Bool.{false, not}
use Prim.Native.Nat.{ℕ, ◌%◌, ◌<◌}
use lib.Dec.{eqb}
use Rattle.lists.specs.Table.{at}
use Rattle.merge.proofs.first_apart.Given as goal

abbrev pub invariant-loop-i : goal.invariant-loop-i
invariant-loop-i l =
    (j : ℕ) → j < l.i → not (eqb (at l.xs j % l.g) (at l.ys j % l.g)) ≡ false
