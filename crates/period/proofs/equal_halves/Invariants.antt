-- `period::equal_halves` meets its contract: below i the halves are equal.
-- Assumes nothing.
use mathlib.Core.Path.{◌≡◌}
use mathlib.Core.Bool.{true}
use Prim.Native.Nat.{ℕ, ◌+◌, ◌<◌}
use lib.Dec.{eqb}
use Rattle.lists.specs.Table.{at}
use Rattle.period.proofs.equal_halves.Given as goal

abbrev pub invariant-loop-i : goal.invariant-loop-i
invariant-loop-i l =
    (j : ℕ) → j < l.i → eqb (at l.digits j) (at l.digits (l.h + j)) ≡ true
