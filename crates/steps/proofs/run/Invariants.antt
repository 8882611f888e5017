-- `steps::run` meets its contract: before step k the machine holds the state before step k, and the log the records of the steps before it.
-- Assumes nothing.
use mathlib.Core.Path.{◌≡◌}
use Prim.Native.Nat.{ℕ, zero, ◌≤◌, ◌<◌, ◌*◌}
use lib.ListN.{length}
use Rattle.lists.specs.Table.{at}
use Rattle.recurrence.specs.Steps.{L-at}
use Rattle.steps.specs.Sizes.{max_cells}
use Rattle.steps.specs.State.{State}
use Rattle.steps.specs.Log.{Noted, power_of}
use Rattle.steps.proofs.Log.{word_at}
use Rattle.steps.proofs.run.Given as goal

abbrev pub invariant-loop-k : goal.invariant-loop-k
invariant-loop-k l =
    State l.ring l.s l.k l.machine × (length l.lens ≡ max_cells)
    × ((j : ℕ) → j ≤ l.k → at l.lens j ≡ L-at l.ring.p l.ring.e l.s zero j) × ((j : ℕ) → l.k < j → at l.lens j ≡ zero)
    × Noted l.first (l.k * l.ring.e) (word_at (power_of l.ring) l.s l.n) l.initial.log l.log
