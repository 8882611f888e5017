-- `period::load` meets its contract: the first digit above 1 ends the loop.
-- Assumes nothing.
use mathlib.Core.Path.{◌≡◌, sym, ◌∙◌, subst}
use mathlib.Core.Bool.{true, false}
use Prim.Native.Nat.{ℕ}
use native.Mathlib.Omega.{arith}
use lib.Dec.{leb}
use borrow.Author.Count.{below_more}
use borrow.Author.Tests.{le-leb, lt-leb}
use Rattle.lists.proofs.Table.{filled_more}
use Rattle.lists.proofs.Search.{is_first, none_first}
use Rattle.cells.proofs.Laws.{at_cells}
use Rattle.period.proofs.load.Goals as goal

pub returns-then-x-ge2 : goal.returns-then-x-ge2
returns-then-x-ge2 c =
    let l = c.loop-i in (
      is_first _ _ _ (omega arith) l.invariant.0
          (λ h. subst (λ (x : ℕ). leb 2 x ≡ true) (c.cell-x.ensures.0 ∙ sym (at_cells c.args.cells.now _ _ h)) (le-leb _ _ c.if-x-ge2.true)),
      l.invariant.1.size,
      l.invariant.1.done,
    )

pub loop-i-preserved : goal.loop-i-preserved
loop-i-preserved c =
    let l = c.loop-i in
    let h = c.loop-i-test.true in (
      below_more _ _ l.invariant.0 (subst (λ (x : ℕ). leb 2 x ≡ false) (c.cell-x.ensures.0 ∙ sym (at_cells c.args.cells.now _ _ h)) (lt-leb _ _ c.if-x-ge2.false)),
      filled_more _ l.invariant.1 (omega (arith, c.requires.1)) c.cell-x.ensures.0,
    )

pub returns : goal.returns
returns c =
    let l = c.loop-i in
    (sym (none_first _ _ (λ j h. l.invariant.0 j (omega arith))), l.invariant.1.size, λ j h. l.invariant.1.done j (omega arith))
