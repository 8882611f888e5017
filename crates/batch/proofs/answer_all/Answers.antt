-- `batch::answer_all` meets its contract: what the walk holds after all records is settled.
-- Assumes nothing.
use Rattle.batch.proofs.Whole.{answered}
use Rattle.batch.proofs.answer_all.Goals as goal

pub returns : goal.returns
returns c =
    answered c.args.who c.args.queries.now c.args.catalogue.now _ _ _ _ c.requires.2 c.walk_first.ensures c.settle_all.ensures
