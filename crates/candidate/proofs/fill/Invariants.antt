-- `candidate::fill` meets its contract: the first i cells hold what a run gives.
-- Assumes nothing.
use Rattle.cells.proofs.Laws.{Written}
use Rattle.recurrence.specs.Running.{generated}
use Rattle.candidate.specs.Rules.{a_cells, b_cells}
use Rattle.candidate.proofs.fill.Given as goal

abbrev pub invariant-loop-i : goal.invariant-loop-i
invariant-loop-i l =
    Written (generated l.m l.l (a_cells l.a) (b_cells l.b) l.n) l.initial.out l.i l.out
