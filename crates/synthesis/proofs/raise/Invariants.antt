-- `synthesis::raise` meets its contract: the lengths below i are the larger, and the others are as they were.
-- Assumes nothing.
use Rattle.synthesis.proofs.Joining.{Raising}
use Rattle.synthesis.proofs.raise.Given as goal

abbrev pub invariant-loop-i : goal.invariant-loop-i
invariant-loop-i l =
    Raising l.initial.lengths l.lens l.lengths l.i
