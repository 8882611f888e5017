-- `formatting::Line::cells`: the cells before i are written.
-- Assumes nothing.
use mathlib.Core.Path.{◌∙◌}
use native.Mathlib.Omega.{arith}
use Rattle.lists.specs.Table.{tabulate}
use Rattle.lists.specs.Text.{bytes}
use Rattle.lists.proofs.Table.{length_tabulate}
use Rattle.cells.specs.Cell.{cell_at}
use Rattle.formatting.proofs.Separated.{separated_none, written_first, written_cell}
use Rattle.formatting.proofs.Line.cells.Goals as goal

pub returns-then-count-eq0-clause-text : goal.returns-then-count-eq0-clause-text
returns-then-count-eq0-clause-text c =
    separated_none _ _ _ (length_tabulate c.args.count (cell_at c.args.s.now) ∙ c.if-count-eq0.true)

pub loop-i-init : goal.loop-i-init
unfolding tabulate
loop-i-init c =
    written_first _ (c.from.ensures ∙ c.cell.ensures.0) c.number.ensures.text c.number.ensures.upper_bound

pub number_after-requires : goal.number_after-requires
number_after-requires c =
    omega (arith, c.loop-i.invariant.room, length_tabulate c.loop-i.i (cell_at c.args.s.now))

pub loop-i-preserved : goal.loop-i-preserved
unfolding bytes
loop-i-preserved c =
    let more = c.number_after.ensures in
    written_cell _ _ c.loop-i.invariant (c.from-in-loop-i.ensures ∙ c.cell-in-loop-i.ensures.0) more.text more.upper_bound

pub returns-clause-upper_bound : goal.returns-clause-upper_bound
returns-clause-upper_bound c =
    omega (arith, c.loop-i.invariant.room, length_tabulate c.loop-i.i (cell_at c.args.s.now))
