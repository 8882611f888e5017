-- `period::load` meets its contract: below i every digit is 0 or 1, and the digits are the cells.
-- Assumes nothing.
use mathlib.Core.Path.{◌≡◌}
use mathlib.Core.Bool.{false}
use Prim.Native.Nat.{ℕ, ◌<◌}
use lib.Dec.{leb}
use Rattle.lists.specs.Table.{at}
use Rattle.lists.proofs.Table.{Filled}
use Rattle.cells.specs.Cell.{cell_at, cells_from}
use Rattle.period.specs.Rules.{max_period}
use Rattle.period.proofs.load.Given as goal

abbrev pub invariant-loop-i : goal.invariant-loop-i
invariant-loop-i l =
    ((j : ℕ) → j < l.i → leb 2 (at (cells_from l.cells 0 l.n) j) ≡ false) × (Filled 0 (λ (j : ℕ). cell_at l.cells j) max_period l.i l.digits)
