-- `candidate::next_cell` meets its contract.
-- Assumes nothing.
use mathlib.Core.Path.{sym, ◌∙◌}
use Prim.Native.Nat.{◌<◌}
use native.Mathlib.Nat.{mod-lt}
use native.Mathlib.Omega.{arith}
use Rattle.cells.specs.Cell.{cells_from}
use Rattle.cells.proofs.Laws.{at_cells}
use Rattle.sequence.specs.Limits.{max_terms}
use Rattle.candidate.specs.Rules.{a_cells, b_cells}
use Rattle.candidate.proofs.Laws.{summed_none, summed_more, is_back, is_next}
use Rattle.candidate.proofs.next_cell.Goals as goal

pub loop-i-init : goal.loop-i-init
loop-i-init c = summed_none

pub loop-i-preserved : goal.loop-i-preserved
loop-i-preserved c =
    let x = c.cell in
    let y = c.cell-in-loop-i in
    let l = c.loop-i in
    let v = c.args in
    let h : l.i < v.j = omega arith in
    summed_more _ l.invariant
    (is_back v.a.now v.out.now v.j l.i x.result y.result c.product-sum.result h (omega arith) x.ensures.0 y.ensures.0 c.product-sum.ensures.0)
    c.product-sum.ensures.1

pub sub-requires : goal.sub-requires
sub-requires c =
    let v = c.args in
    (omega (arith, at_cells v.b.now max_terms v.j c.requires.5), rw c.remainder.ensures (mod-lt _ c.requires.0), c.requires.1)

pub returns : goal.returns
returns c =
    let v = c.args in
    is_next v.m v.l (a_cells v.a.now) (b_cells v.b.now) (cells_from v.out.now 0 v.j) v.j c.loop-i.i c.loop-i.sum c.remainder.result c.cell-2.result _ (omega arith) c.loop-i.invariant.is
    c.remainder.ensures (c.cell-2.ensures.0 ∙ sym (at_cells v.b.now max_terms v.j (omega arith))) c.sub.ensures
