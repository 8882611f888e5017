-- `lines::write_query` meets its contract: the loop keeps what `Writing` says.
-- Assumes nothing.
use Rattle.sequence.proofs.Writing.{Writing}
use Rattle.lines.proofs.Writing.{remainder}
use Rattle.lines.proofs.write_query.Given as goal

abbrev pub invariant-loop-j : goal.invariant-loop-j
invariant-loop-j l =
    Writing l.m l.n (remainder l.m l.terms) l.query l.j
