-- `batch::mark_all` meets its contract: the queries below i are marked.
-- Assumes nothing.
use Rattle.batch.specs.Inner.{Marked}
use Rattle.batch.proofs.mark_all.Given as goal

abbrev pub invariant-loop-i : goal.invariant-loop-i
invariant-loop-i l = Marked l.queries l.marks l.i
