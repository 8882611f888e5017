-- `steps::first_rows` meets its contract.
-- Assumes nothing.
use mathlib.Core.Path.{◌≡◌}
use Prim.Native.Nat.{◌^◌}
use Rattle.steps.specs.Passes.{Starting}
use Rattle.steps.proofs.first_rows.Given as goal

abbrev pub invariant-loop-i : goal.invariant-loop-i
invariant-loop-i l =
    Starting l.ring.p l.initial.a l.a l.i × (l.power ≡ l.ring.p ^ l.i)
