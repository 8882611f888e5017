-- `steps::first_rows` meets its contract.
-- Assumes nothing.
use mathlib.Core.Path.{ap}
use Prim.Native.Nat.{ℕ, suc, ◌≤◌, ◌*◌, ◌^◌}
use native.Mathlib.Nat.{pow-suc, pow-le-pow_right}
use native.Mathlib.Omega.{arith}
use Rattle.steps.proofs.Model.{base_up, whole_low}
use Rattle.steps.proofs.first_rows.Goals as goal

pub overflow_mul-power : goal.overflow_mul-power
overflow_mul-power c =
    let i = c.loop-i.i in
    let ring = c.args.ring in
    let up : ring.p ^ suc i ≤ ring.p ^ ring.e = pow-le-pow_right (base_up ring) (omega arith) in
    omega (arith, whole_low ring, pow-suc ring.p i, ap (λ (y : ℕ). y * ring.p) c.loop-i.invariant.1)
