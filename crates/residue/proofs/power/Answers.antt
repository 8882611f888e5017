-- `residue::power` meets its contract: no power on the way is above the last.
-- Assumes nothing.
use mathlib.Core.Path.{ap}
use Prim.Native.Nat.{ℕ, suc, ◌*◌, ◌^◌, ◌≤◌}
use native.Mathlib.Nat.{pow-suc, pow-le-pow_right}
use native.Mathlib.Omega.{arith}
use Rattle.residue.proofs.power.Goals as goal

pub overflow_mul-r : goal.overflow_mul-r
overflow_mul-r c =
    let i = c.loop.counter in
    let p = c.args.p in
    let up : p ^ suc i ≤ p ^ c.args.e = pow-le-pow_right (omega arith) (omega arith) in
    omega (arith, pow-suc p i, ap (λ (y : ℕ). y * p) c.loop.invariant)
