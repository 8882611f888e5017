-- `sequence::first_large` meets its contract: below i every term is below the modulus.
-- Assumes nothing.
use native.Mathlib.Nat.{not-suc-le-zero, lt_irrefl}
use native.Mathlib.Omega.{arith}
use borrow.Author.Count.{below_more}
use borrow.Author.Rules.{rules}
use borrow.Author.Tests.{le-leb, lt-leb}
use Rattle.lists.proofs.Search.{is_first}
use Rattle.sequence.proofs.first_large.Goals as goal

pub loop-i-init : goal.loop-i-init
loop-i-init c = (search rules, λ j h. absurd (not-suc-le-zero h))

pub returns-then-modulus-terms : goal.returns-then-modulus-terms
returns-then-modulus-terms c = is_first _ _ _ (omega arith) c.loop-i.invariant.1 (λ h. le-leb _ _ c.if-modulus-terms.true)

pub loop-i-preserved : goal.loop-i-preserved
loop-i-preserved c = (omega arith, below_more _ _ c.loop-i.invariant.1 (lt-leb _ _ c.if-modulus-terms.false))

pub returns : goal.returns
returns c =
    let p = c.loop-i in
    is_first _ _ _ (omega arith) (λ j h. p.invariant.1 j (omega arith)) (λ h. absurd (lt_irrefl _ h))
