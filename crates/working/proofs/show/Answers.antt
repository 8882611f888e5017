-- `working::show` meets its contract: all records that `work` tells of are in the log.
-- Assumes nothing.
use mathlib.Core.Path.{sym, ◌∙◌}
use Rattle.sequence.proofs.Tracing.{count_fits}
use Rattle.working.proofs.show.Goals as goal

pub table-requires : goal.table-requires
table-requires g c = (count_fits _ _ _ _ _ (sym c.in-Ok.is ∙ c.work-worked.ensures.0)).1
