-- `candidate::first_difference` meets its contract: every place below j agrees, and the products below i of place j are summed.
-- Assumes nothing.
use mathlib.Core.Path.{sym, ◌∙◌}
use native.Mathlib.Nat.{not-suc-le-zero, le_refl, lt_irrefl}
use native.Mathlib.Omega.{arith}
use borrow.Author.Count.{below_more}
use borrow.Author.Rules.{rules}
use Rattle.lists.proofs.Search.{is_first}
use Rattle.cells.proofs.Laws.{at_cells}
use Rattle.recurrence.specs.Running.{first_difference}
use Rattle.sequence.specs.Limits.{max_terms}
use Rattle.candidate.specs.Rules.{a_cells, b_cells}
use Rattle.candidate.proofs.Laws.{summed_none, summed_more, summed_all, is_place, agrees, differs}
use Rattle.candidate.proofs.first_difference.Goals as goal

pub places-init : goal.places-init
places-init c = λ k h. absurd (not-suc-le-zero h)

pub loop-i-init : goal.loop-i-init
loop-i-init c = (summed_none, search rules)

pub overflow_add-sum : goal.overflow_add-sum
overflow_add-sum c = omega (arith, c.loop-i.invariant.0.small)

pub loop-i-preserved : goal.loop-i-preserved
loop-i-preserved c =
    let x = c.cell-in-loop-i in
    let v = c.args in (
      summed_more _ c.loop-i.invariant.0
          (is_place v.terms.now v.a.now c.places.j c.loop-i.i x.result c.product-sum.result (omega arith) x.ensures.0 c.product-sum.ensures.0)
          c.product-sum.ensures.1,
      search rules,
    )

pub places-preserved : goal.places-preserved
places-preserved c =
    let v = c.args in
    below_more _ _ c.places.invariant
    (agrees v.terms.now (a_cells v.a.now) (b_cells v.b.now) v.m c.places.j _ _ _
    (summed_all v.terms.now (a_cells v.a.now) c.places.j c.loop-i.invariant.0 (omega (arith, c.if-j-i.true, c.loop-i.invariant.1)))
    c.remainder.ensures (c.cell.ensures.0 ∙ sym (at_cells v.b.now max_terms c.places.j (omega arith))) c.if-remainder-cell.true)

pub returns-then-n-j : goal.returns-then-n-j
unfolding first_difference
returns-then-n-j c = is_first _ _ _ (le_refl _) (λ k h. c.places.invariant k (omega arith)) (λ h. absurd (lt_irrefl _ h))

pub returns-else-remainder-cell : goal.returns-else-remainder-cell
unfolding first_difference
returns-else-remainder-cell c =
    let v = c.args in
    is_first _ _ _ (omega arith) c.places.invariant λ h.
    differs v.terms.now (a_cells v.a.now) (b_cells v.b.now) v.m c.places.j _ _ _
    (summed_all v.terms.now (a_cells v.a.now) c.places.j c.loop-i.invariant.0 (omega (arith, c.if-j-i.true, c.loop-i.invariant.1)))
    c.remainder.ensures (c.cell.ensures.0 ∙ sym (at_cells v.b.now max_terms c.places.j (omega arith))) c.if-remainder-cell.false
