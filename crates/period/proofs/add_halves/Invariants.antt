-- `period::add_halves` meets its contract: below j stands the sum, and from j on what was lent.
-- Assumes nothing.
use Rattle.period.proofs.Loops.{Summed}
use Rattle.period.proofs.add_halves.Given as goal

abbrev pub invariant-loop-j : goal.invariant-loop-j
invariant-loop-j l =
    Summed l.initial.digits l.h l.j l.digits
