-- `merge::first_apart` meets its contract: the first place where the terms disagree ends the loop.
-- Assumes nothing.
use mathlib.Core.Path.{sym, ap}
use mathlib.Core.Bool.{not}
use native.Mathlib.Omega.{arith}
use borrow.Author.Count.{below_more}
use borrow.Author.Tests.{eq-eqb, ne_eqb}
use Rattle.lists.proofs.Search.{is_first, none_first}
use Rattle.merge.proofs.first_apart.Goals as goal

pub returns-then-xs-i : goal.returns-then-xs-i
returns-then-xs-i c = is_first _ _ _ (omega arith) c.loop-i.invariant (λ h. ap not (ne_eqb _ _ c.if-xs-i.true))

pub loop-i-preserved : goal.loop-i-preserved
loop-i-preserved c = below_more _ _ c.loop-i.invariant (ap not (eq-eqb _ _ c.if-xs-i.false))

pub returns : goal.returns
returns c = sym (none_first _ _ (λ j h. c.loop-i.invariant j (omega arith)))
