-- `batch::offer_all` meets its contract: the queries below i were offered the record, the others hold what they held.
-- Assumes nothing.
use Rattle.batch.proofs.Turns.{Offering}
use Rattle.batch.proofs.offer_all.Given as goal

abbrev pub invariant-loop-i : goal.invariant-loop-i
invariant-loop-i l =
    Offering l.who l.queries l.entry l.j l.initial.out l.initial.replies l.i l.out l.replies
