-- `enumeration::digits` meets its contract: the digits are read off from the last place to the first.
-- Assumes nothing.
use Rattle.enumeration.proofs.Loops.{Parted}
use Rattle.enumeration.proofs.digits.Given as goal

abbrev pub invariant-loop-i : goal.invariant-loop-i
invariant-loop-i l =
    Parted l.m l.n l.number l.i l.left l.terms
