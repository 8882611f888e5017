-- `period::halve` meets its contract: the length is what has been added and the length of what is left.
-- Assumes nothing.
use Rattle.period.proofs.Loops.{Going}
use Rattle.period.proofs.halve.Given as goal

abbrev pub invariant-loop-w : goal.invariant-loop-w
invariant-loop-w l =
    Going l.initial.digits l.e l.digits l.w l.total
