-- `batch::pass` meets its contract: a record whose slot is not marked is one that no query takes.
-- Assumes nothing.
use Rattle.batch.proofs.Marks.{passed_by}
use Rattle.batch.proofs.pass.Goals as goal

pub returns-then-marks-slot-eq0 : goal.returns-then-marks-slot-eq0
returns-then-marks-slot-eq0 c =
    passed_by c.args.who c.args.queries.now c.args.marks.now c.args.entry.now c.args.out.now c.args.replies.now c.args.j _ c.requires.2 c.requires.3 c.requires.4 c.slot.ensures.0 c.if-marks-slot-eq0.true
