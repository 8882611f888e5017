-- `sequence::check` meets its contract: the length first, then the faults of what it writes down.
-- Assumes nothing.
use Rattle.std.proofs.Common.{refl}
use borrow.Author.Tests.{eq-eqb, ne_eqb}
use Rattle.sequence.specs.Rules.{check_of, checked_of}
use Rattle.sequence.proofs.check.Goals as goal

pub returns-then-query-ne-QUERY_BYTES : goal.returns-then-query-ne-QUERY_BYTES
unfolding checked_of check_of
returns-then-query-ne-QUERY_BYTES c = rw (c.loaded-sequence.ensures, ne_eqb _ _ c.if-query-ne-QUERY_BYTES.true) refl

pub returns : goal.returns
unfolding checked_of check_of
returns c = rw (c.inspect-outcome.ensures, c.loaded-sequence.ensures, eq-eqb _ _ c.if-query-ne-QUERY_BYTES.false) refl
