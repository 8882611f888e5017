-- `candidate::fill` meets its contract: the first i cells hold what a run gives.
-- Assumes nothing.
use mathlib.Core.Path.{ap, ◌∙◌}
use native.Mathlib.Omega.{arith}
use Rattle.cells.specs.Cell.{put_cell}
use Rattle.cells.proofs.Laws.{written_none, written_more, written_all}
use Rattle.recurrence.proofs.Running.{generated_length}
use Rattle.candidate.specs.Rules.{a_cells, b_cells}
use Rattle.candidate.proofs.Laws.{run_cell, run_fits}
use Rattle.candidate.proofs.fill.Goals as goal

pub loop-i-init : goal.loop-i-init
loop-i-init c = written_none (run_fits _ _ _ _ _ c.args.out.now c.requires.m_nonzero.6)

pub loop-i-preserved : goal.loop-i-preserved
loop-i-preserved c =
    let v = c.args in
    let h = c.loop-i-test.true in
    let fits = run_fits v.m v.l (a_cells v.a.now) (b_cells v.b.now) v.n v.out.now c.requires.m_nonzero.6 in
    written_more fits _ c.loop-i.invariant (omega (arith, generated_length v.m v.l (a_cells v.a.now) (b_cells v.b.now) v.n))
    (c.put.ensures ∙ ap (put_cell c.loop-i.out c.loop-i.i)
    (run_cell v.m v.l (a_cells v.a.now) (b_cells v.b.now) v.n c.loop-i.i c.next_cell-v.result v.out.now c.loop-i.out
    c.requires.m_nonzero.0 c.requires.m_nonzero.1 h c.requires.m_nonzero.6 c.loop-i.invariant c.next_cell-v.ensures))

pub returns : goal.returns
returns c =
    written_all (run_fits _ _ _ _ _ c.args.out.now c.requires.m_nonzero.6) c.loop-i.invariant
    (omega (arith, generated_length c.args.m c.args.l (a_cells c.args.a.now) (b_cells c.args.b.now) c.args.n))
