-- `candidate::all_below` meets its contract: below i every cell passes the test.
-- Assumes nothing.
use mathlib.Core.Path.{◌≡◌}
use mathlib.Core.Bool.{true}
use Prim.Native.Nat.{ℕ, ◌<◌}
use lib.Dec.{ltb}
use Rattle.lists.specs.Table.{at}
use Rattle.cells.specs.Cell.{cells_from}
use Rattle.candidate.proofs.all_below.Given as goal

abbrev pub invariant-loop-i : goal.invariant-loop-i
invariant-loop-i l =
    (j : ℕ) → j < l.i → ltb (at (cells_from l.s 0 l.n) j) l.m ≡ true
