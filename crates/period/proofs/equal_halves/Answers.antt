-- `period::equal_halves` meets its contract: below i the halves are equal.
-- Assumes nothing.
use mathlib.Core.Path.{sym}
use native.Mathlib.Nat.{not-suc-le-zero}
use native.Mathlib.Omega.{arith}
use borrow.Author.Count.{below_more}
use borrow.Author.Tests.{eq-eqb, ne_eqb}
use Rattle.lists.proofs.Search.{all_true, all_false}
use Rattle.period.proofs.equal_halves.Goals as goal

pub loop-i-init : goal.loop-i-init
loop-i-init c = λ j h. absurd (not-suc-le-zero h)

pub returns-then-digits-i : goal.returns-then-digits-i
returns-then-digits-i c = sym (all_false _ _ c.loop-i.i c.loop-i-test.true (ne_eqb _ _ c.if-digits-i.true))

pub loop-i-preserved : goal.loop-i-preserved
loop-i-preserved c = below_more _ _ c.loop-i.invariant (eq-eqb _ _ c.if-digits-i.false)

pub returns : goal.returns
returns c = sym (all_true _ _ (λ j h. c.loop-i.invariant j (omega arith)))
