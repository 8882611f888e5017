-- `batch::mark_all` meets its contract: the queries below i are marked.
-- Assumes nothing.
use Rattle.batch.proofs.Marks.{marked_more}
use Rattle.batch.proofs.mark_all.Goals as goal

pub loop-i-preserved : goal.loop-i-preserved
loop-i-preserved c =
    let s = c.args in
    let l = c.loop-i in
    marked_more s.queries.now l.marks l.i _ l.invariant c.slot.ensures.0 c.slot.ensures.1
