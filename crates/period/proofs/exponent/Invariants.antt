-- `period::exponent` meets its contract: n is no power of 2 below w.
-- Assumes nothing.
use mathlib.Core.Path.{◌≡◌}
use mathlib.Core.Bool.{false}
use Prim.Native.Nat.{ℕ, ◌^◌, ◌<◌}
use lib.Dec.{eqb}
use Rattle.period.proofs.exponent.Given as goal

abbrev pub invariant-loop-w : goal.invariant-loop-w
invariant-loop-w l =
    (j : ℕ) → j < l.w → eqb l.n (2 ^ j) ≡ false
