-- `enumeration::count_lengths` meets its contract: the cells count the first x sequences.
-- Assumes nothing.
use Rattle.enumeration.proofs.Loops.{Tallied}
use Rattle.enumeration.proofs.count_lengths.Given as goal

abbrev pub invariant-loop-x : goal.invariant-loop-x
invariant-loop-x l =
    Tallied l.m l.n l.x l.counts
