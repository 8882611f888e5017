-- `steps::Seen::look` meets its contract.
-- Assumes nothing.
use mathlib.Core.Path.{◌≡◌}
use Prim.Native.Nat.{ℕ, ◌<◌}
use lib.ListN.{length}
use Rattle.lists.specs.Table.{at}
use Rattle.recurrence.specs.Steps.{u_at, θ-at}
use Rattle.steps.specs.Sizes.{max_rows}
use Rattle.steps.proofs.Seen.look.Given as goal

abbrev pub invariant-loop-i : goal.invariant-loop-i
invariant-loop-i l =
    (length l.self.u ≡ max_rows) × (length l.self.theta ≡ max_rows)
    × ((η : ℕ) → η < l.i → at l.self.u η ≡ u_at l.ring.p l.ring.e l.s η l.k)
    × ((η : ℕ) → η < l.i → at l.self.theta η ≡ θ-at l.ring.p l.ring.e l.s η l.k)
