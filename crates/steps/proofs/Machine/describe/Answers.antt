-- `steps::Machine::describe` meets its contract.
-- Assumes nothing.
use mathlib.Core.Path.{sym, ap, subst}
use Prim.Native.Nat.{◌≤◌}
use native.Mathlib.Omega.{arith}
use Rattle.lists.specs.Table.{at}
use Rattle.steps.specs.declared.Told.{Told}
use Rattle.steps.specs.Log.{described_of}
use Rattle.steps.proofs.Log.{told_g}
use Rattle.steps.proofs.Machine.describe.Goals as goal

-- whatever u is told of
pub overflow_cast-result-5 : goal.overflow_cast-result-5
overflow_cast-result-5 c =
    let a = c.args in
    let low : c.tell-x.result.g ≤ a.ring.e = subst (λ (x : Told). x.g ≤ a.ring.e) (sym c.tell-x.ensures) (told_g a.ring.e a.self.now.rows.length _) in
    omega (arith, low, a.ring.fit.few)

pub returns : goal.returns
unfolding described_of
returns c =
    let a = c.args in
    let r = a.self.now.rows in
    let s = a.self.now.seen in
    ap (λ (x : Told). record { power = a.ring.q; k = a.k; row = a.i; length = at r.length a.i; u = at s.u a.i; theta = at s.theta a.i; g = x.g; case = x.case })
    c.tell-x.ensures
