-- `batch::walk_first` meets its contract: the walk begins with zeros and the refusals.
-- Assumes nothing.
use Rattle.batch.proofs.Whole.{begun}
use Rattle.batch.proofs.walk_first.Goals as goal

pub walk-requires : goal.walk-requires
walk-requires c = record { n_bound = c.requires.2; holding = begun c.args.who c.args.queries.now c.args.catalogue.now c.args.out.now _ _ c.requires.0 c.clear.ensures c.check_all.ensures }
