-- `timing::add_up` meets its contract: the sum so far is over the places passed, and each adds at most 8 (2^32 - 1).
-- Assumes nothing.
use mathlib.Core.Path.{◌≡◌}
use Prim.Native.Nat.{ℕ, ◌*◌, ◌≤◌}
use Rattle.lists.specs.Sum.{sum_to}
use Rattle.lists.specs.Table.{at}
use Rattle.steps.specs.Log.{unpacked}
use Rattle.timing.specs.Entries.{numbers_of}
use Rattle.timing.proofs.add_up.Given as goal

abbrev pub invariant-loop-i : goal.invariant-loop-i
invariant-loop-i l =
    (l.sum ≡ sum_to l.i (λ (j : ℕ). numbers_of (unpacked (at l.log j)))) × (l.sum ≤ l.i * 34359738360)
