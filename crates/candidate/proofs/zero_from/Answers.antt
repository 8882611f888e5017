-- `candidate::zero_from` meets its contract: below i every place passes the test.
-- Assumes nothing.
use mathlib.Core.Path.{sym}
use native.Mathlib.Omega.{arith}
use borrow.Author.Count.{below_more}
use borrow.Author.Tests.{lt-ltb, le-ltb, eq-eqb, ne_eqb}
use Rattle.lists.proofs.Search.{all_true, all_false}
use Rattle.cells.proofs.Laws.{at_cells}
use Rattle.candidate.proofs.zero_from.Goals as goal

pub loop-i-init : goal.loop-i-init
loop-i-init c = λ j h. rw (lt-ltb j _ h)

pub returns-then-cell-ne0 : goal.returns-then-cell-ne0
returns-then-cell-ne0 c =
    let h = c.loop-i-test.true in
    sym (all_false _ _ _ h (rw (le-ltb _ _ c.loop-i.auto.i, at_cells _ _ _ h, ← c.cell.ensures.0) (ne_eqb _ _ c.if-cell-ne0.true)))

pub loop-i-preserved : goal.loop-i-preserved
loop-i-preserved c =
    let h = c.loop-i-test.true in
    let l = c.loop-i in
    below_more _ _ l.invariant (rw (le-ltb _ _ l.auto.i, at_cells _ _ _ h, ← c.cell.ensures.0) (eq-eqb _ _ c.if-cell-ne0.false))

pub returns : goal.returns
returns c = sym (all_true _ _ (λ j h. c.loop-i.invariant j (omega arith)))
