-- `candidate::all_below` meets its contract: below i every cell passes the test.
-- Assumes nothing.
use mathlib.Core.Path.{sym}
use native.Mathlib.Omega.{arith}
use borrow.Author.Count.{below_more}
use borrow.Author.Tests.{lt-ltb, le-ltb}
use Rattle.lists.proofs.Search.{all_true, all_false}
use Rattle.cells.proofs.Laws.{at_cells}
use Rattle.candidate.proofs.all_below.Goals as goal

pub returns-then-m-cell : goal.returns-then-m-cell
returns-then-m-cell c =
    let h = c.loop-i-test.true in
    sym (all_false _ _ _ h (rw (at_cells _ _ _ h, ← c.cell.ensures.0) (le-ltb _ _ c.if-m-cell.true)))

pub loop-i-preserved : goal.loop-i-preserved
loop-i-preserved c =
    let h = c.loop-i-test.true in
    below_more _ _ c.loop-i.invariant (rw (at_cells _ _ _ h, ← c.cell.ensures.0) (lt-ltb _ _ c.if-m-cell.false))

pub returns : goal.returns
returns c = sym (all_true _ _ (λ j h. c.loop-i.invariant j (omega arith)))
