-- `formatting::Line::cells`: the cells before i are written.
-- Assumes nothing.
use Rattle.lists.specs.Table.{tabulate}
use Rattle.lists.specs.Text.{bytes}
use Rattle.cells.specs.Cell.{cell_at}
use Rattle.formatting.proofs.Separated.{Written}
use Rattle.formatting.proofs.Line.cells.Given as goal

abbrev pub invariant-loop-i : goal.invariant-loop-i
invariant-loop-i l = Written (bytes ",") l.fn.self (tabulate l.i (cell_at l.s)) l.self
