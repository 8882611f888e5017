-- `steps::Plan::make` meets its contract.
-- Assumes nothing.
use native.Mathlib.Omega.{arith}
use Rattle.steps.proofs.Passes.{plan_skip}
use Rattle.steps.proofs.Plan.make.Goals as goal

pub loop-i-preserved-then-n-rows : goal.loop-i-preserved-then-n-rows
loop-i-preserved-then-n-rows c =
    let a = c.args in
    let l = c.loop-i in
    let v = c.grown-n in
    plan_skip a.ring a.k a.rows.now a.seen.now l.self l.i l.invariant (omega arith) v.result v.ensures (omega arith)
