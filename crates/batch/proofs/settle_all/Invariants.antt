-- `batch::settle_all` meets its contract: the queries below i are settled, the others hold what they held.
-- Assumes nothing.
use Rattle.batch.proofs.Turns.{Settling}
use Rattle.batch.proofs.settle_all.Given as goal

abbrev pub invariant-loop-i : goal.invariant-loop-i
invariant-loop-i l =
    Settling l.queries l.initial.out l.initial.replies l.i l.out l.replies
