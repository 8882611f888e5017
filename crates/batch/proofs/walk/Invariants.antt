-- `batch::walk` meets its contract: after j records the first match among them, or none, is held for each query.
-- Assumes nothing.
use Rattle.batch.specs.Walk.{Holding}
use Rattle.batch.proofs.walk.Given as goal

abbrev pub invariant-loop-j : goal.invariant-loop-j
invariant-loop-j l = Holding l.who l.queries l.catalogue l.j l.out l.replies
