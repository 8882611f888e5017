-- `residue::power` meets its contract: after some turns r is p to as many, which no later power is below.
-- Assumes nothing.
use mathlib.Core.Path.{◌≡◌}
use Prim.Native.Nat.{◌^◌}
use Rattle.residue.proofs.power.Given as goal

abbrev pub invariant-loop : goal.invariant-loop
invariant-loop l =
    l.r ≡ l.p ^ l.counter
