-- `cells::write` meets its contract: the cells below i hold the numbers below i, and the rest is as it came.
-- Assumes nothing.
use Rattle.cells.proofs.Laws.{Written}
use Rattle.cells.proofs.write.Given as goal

abbrev pub invariant-loop-i : goal.invariant-loop-i
invariant-loop-i l =
    Written l.values l.initial.out l.i l.out
