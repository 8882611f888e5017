-- `period::exponent` meets its contract: n is 2^w, and no smaller power.
-- Assumes nothing.
use mathlib.Core.Path.{sym, ◌∙◌}
use native.Mathlib.Omega.{arith}
use borrow.Author.Tests.{eq-eqb}
use Rattle.std.proofs.lemmas.Nat.{one_shl}
use Rattle.lists.proofs.Search.{is_first, none_first}
use Rattle.period.specs.Rules.{exponent}
use Rattle.period.proofs.exponent.Goals as goal

pub returns-then-n-w : goal.returns-then-n-w
unfolding exponent
returns-then-n-w c =
    let l = c.loop-w in
    is_first _ _ _ (omega arith) l.invariant (λ h. eq-eqb _ _ (c.if-n-w.true ∙ one_shl l.w 64 (omega arith)))

pub returns : goal.returns
unfolding exponent
returns c = sym (none_first _ _ (λ j h. c.loop-w.invariant j (omega arith)))
