-- `paper_tables::quintuples` meets its contract: all records that `work` tells of are in the log.
-- Assumes nothing.
use mathlib.Core.Path.{sym, ◌∙◌}
use Rattle.sequence.proofs.Tracing.{count_fits}
use Rattle.paper_tables.proofs.quintuples.Goals as goal

pub loop-i-init : goal.loop-i-init
loop-i-init g c = (count_fits _ _ _ _ _ (sym c.in-Ok.is ∙ c.work.ensures.0)).1
