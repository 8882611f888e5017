-- `sequence::zero_from` meets its contract: below i every place passes the test.
-- Assumes nothing.
use mathlib.Core.Path.{sym}
use native.Mathlib.Omega.{arith}
use borrow.Author.Count.{below_more}
use borrow.Author.Rules.{rules}
use borrow.Author.Tests.{lt-ltb, le-ltb, eq-eqb, ne_eqb}
use Rattle.lists.proofs.Search.{all_true, all_false}
use Rattle.sequence.specs.Limits.{max_terms}
use Rattle.sequence.proofs.zero_from.Goals as goal

pub loop-i-init : goal.loop-i-init
loop-i-init c = (search rules, λ j h. rw (lt-ltb j _ h))

pub returns-then-terms-i-ne0 : goal.returns-then-terms-i-ne0
returns-then-terms-i-ne0 c = sym (all_false max_terms _ c.loop-i.i c.loop-i-test.true (rw (le-ltb _ _ c.loop-i.invariant.0, ne_eqb _ _ c.if-terms-i-ne0.true)))

pub loop-i-preserved : goal.loop-i-preserved
loop-i-preserved c = (omega arith, below_more _ _ c.loop-i.invariant.1 (rw (le-ltb _ _ c.loop-i.invariant.0, eq-eqb _ _ c.if-terms-i-ne0.false)))

pub returns : goal.returns
returns c = sym (all_true _ _ (λ j h. c.loop-i.invariant.1 j (omega arith)))
