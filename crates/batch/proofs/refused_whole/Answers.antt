-- `batch::refused_whole` meets its contract: it makes the three tests.
-- Assumes nothing.
use Rattle.batch.specs.Rules.{refused_whole}
use Rattle.batch.proofs.refused_whole.Goals as goal

pub returns : goal.returns
unfolding refused_whole
returns c = rw (← c.lengths_fit-misfit.ensures) c.refused_by.ensures
