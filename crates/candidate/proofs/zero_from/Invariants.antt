-- `candidate::zero_from` meets its contract: below i every place passes the test.
-- Assumes nothing.
use mathlib.Core.Path.{◌≡◌}
use mathlib.Core.Bool.{true}
use Prim.Native.Nat.{ℕ, ◌<◌}
use lib.Dec.{ltb, eqb}
use Rattle.lists.specs.Choice.{pick}
use Rattle.lists.specs.Table.{at}
use Rattle.cells.specs.Cell.{cells_from}
use Rattle.candidate.proofs.zero_from.Given as goal

abbrev pub invariant-loop-i : goal.invariant-loop-i
invariant-loop-i l =
    (j : ℕ) → j < l.i → pick (ltb j l.k) true (eqb (at (cells_from l.s 0 l.n) j) 0) ≡ true
