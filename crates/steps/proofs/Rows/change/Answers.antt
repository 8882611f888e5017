-- `steps::Rows::change` meets its contract.
-- Assumes nothing.
use native.Mathlib.Omega.{arith}
use Rattle.steps.proofs.Passes.{change_next}
use Rattle.steps.proofs.Rows.change.Goals as goal

pub loop-i-preserved : goal.loop-i-preserved
loop-i-preserved c =
    let a = c.args in
    let l = c.loop-i in
    change_next a.ring a.k a.memory.now a.seen.now a.self.now l.self l.i _ l.invariant (omega arith) c.cancel.ensures
