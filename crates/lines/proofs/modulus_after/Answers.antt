-- `lines::modulus_after` meets its contract.
-- Assumes nothing.
use borrow.Author.Tests.{eq-eqb, ne_eqb}
use Rattle.lines.proofs.modulus_after.Goals as goal

pub returns-then-b-eq58 : goal.returns-then-b-eq58
returns-then-b-eq58 c = simp (eq-eqb _ _ c.if-b-eq58.true)

pub returns : goal.returns
returns c = simp (ne_eqb _ _ c.if-b-eq58.false)
