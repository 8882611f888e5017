-- `synthesis::start_cells` meets its contract: a cell that is not set keeps its 0.
-- Assumes nothing.
use Rattle.synthesis.specs.Joining.{Starts}
use Rattle.synthesis.proofs.start_cells.Given as goal

abbrev pub invariant-loop-i : goal.invariant-loop-i
invariant-loop-i l =
    Starts l.terms l.a l.i l.m l.b
