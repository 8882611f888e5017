-- `sequence::accept` meets its contract: the length first, then the faults of what it writes down.
-- Assumes nothing.
use Rattle.std.proofs.Common.{refl}
use Rattle.std.proofs.lemmas.Result.{err_from_is_err_and}
use borrow.Author.Tests.{eq-eqb, ne_eqb}
use Rattle.sequence.specs.Rules.{check_of, accepted_of}
use Rattle.sequence.proofs.accept.Goals as goal

pub returns-then-query-ne-QUERY_BYTES : goal.returns-then-query-ne-QUERY_BYTES
unfolding accepted_of check_of
returns-then-query-ne-QUERY_BYTES c = simp (ne_eqb _ _ c.if-query-ne-QUERY_BYTES.true)

pub returns-in_err-inspect : goal.returns-in_err-inspect
unfolding accepted_of check_of
returns-in_err-inspect c = let p = err_from_is_err_and c.from_residual.result c.from_residual.ensures.1 in
    rw (p.1, p.2, eq-eqb _ _ c.if-query-ne-QUERY_BYTES.false, ← c.load-s.ensures, ← c.inspect.ensures, c.in_err-inspect.was) refl

pub returns : goal.returns
unfolding accepted_of check_of
returns c = rw (eq-eqb _ _ c.if-query-ne-QUERY_BYTES.false, ← c.load-s.ensures, ← c.inspect.ensures, c.in_ok-inspect.was) refl
