-- `candidate::next_cell` meets its contract: the products below i are summed.
-- Assumes nothing.
use Rattle.cells.specs.Cell.{cells_from}
use Rattle.candidate.specs.Rules.{a_cells}
use Rattle.candidate.proofs.Laws.{Summed, backs}
use Rattle.candidate.proofs.next_cell.Given as goal

abbrev pub invariant-loop-i : goal.invariant-loop-i
invariant-loop-i l =
    Summed (backs (a_cells l.a) (cells_from l.out 0 l.j) l.j) l.i l.sum
