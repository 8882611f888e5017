-- `paper_tables::quintuples`: all records that `work` tells of are in the log.
-- Assumes nothing.
use Rattle.std.proofs.Common.{◌≤◌}
use Rattle.steps.specs.Sizes.{log_words}
use Rattle.paper_tables.proofs.quintuples.Given as goal

abbrev pub invariant-loop-i : goal.invariant-loop-i
invariant-loop-i g l = l.i-end ≤ log_words
