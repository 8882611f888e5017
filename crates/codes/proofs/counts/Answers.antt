-- `counts` meets its contract: each count is a digit to the base 256.
-- Assumes nothing.
use Rattle.codes.proofs.Laws.{counts_valued}
use Rattle.codes.proofs.counts.Goals as goal

pub returns : goal.returns
returns c = counts_valued _ _ _
