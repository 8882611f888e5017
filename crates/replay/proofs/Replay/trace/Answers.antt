-- `Replay::trace` meets its contract: all records that `work` tells of are in the log.
-- Assumes nothing.
use mathlib.Core.Path.{sym, ◌∙◌}
use Rattle.sequence.proofs.Tracing.{count_fits}
use Rattle.replay.proofs.Replay.trace.Goals as goal

pub hash_log-records-requires : goal.hash_log-records-requires
hash_log-records-requires g c = (count_fits _ _ _ _ _ (sym c.in-Ok.is ∙ c.work-r.ensures.0)).1
