-- `batch::walk` meets its contract: after j records the first match among them, or none, is held for each query.
-- Assumes nothing.
use Rattle.batch.proofs.Whole.{holding_more}
use Rattle.batch.proofs.walk.Goals as goal

pub loop-j-preserved : goal.loop-j-preserved
loop-j-preserved c =
    let s = c.args in
    let l = c.loop-j in
    holding_more s.who s.queries.now s.catalogue.now _ _ _ _ l.j l.invariant c.pass.ensures
