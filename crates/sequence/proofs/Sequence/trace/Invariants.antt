-- The loop of `sequence::trace` has stored the records of the log's first i words.
-- Assumes nothing.
use mathlib.Core.Path.{◌≡◌}
use Rattle.sequence.proofs.Tracing.{filling_of}
use Rattle.sequence.proofs.Sequence.trace.Given as goal

abbrev pub invariant-loop-i : goal.invariant-loop-i
invariant-loop-i l = l.sheet ≡ filling_of l.log l.initial.sheet l.i
