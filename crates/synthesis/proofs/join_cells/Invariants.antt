-- `synthesis::join_cells` meets its contract: the cells below i are joined, and the others are as they were.
-- Assumes nothing.
use Rattle.synthesis.proofs.Joining.{Gluing}
use Rattle.synthesis.proofs.join_cells.Given as goal

abbrev pub invariant-loop-i : goal.invariant-loop-i
invariant-loop-i l =
    Gluing l.big l.q l.initial.a l.row l.a l.i
