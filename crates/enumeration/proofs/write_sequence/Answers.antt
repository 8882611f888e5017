-- `enumeration::write_sequence` meets its contract: the digits of a number below k, as a query.
-- Assumes nothing.
use mathlib.Core.Path.{refl}
use native.Mathlib.Omega.{arith}
use Rattle.enumeration.proofs.Laws.{Legal, counted, number_refused, number_taken, query_is}
use Rattle.enumeration.proofs.write_sequence.Goals as goal

pub returns-then-from-number : goal.returns-then-from-number
returns-then-from-number c =
    let a = c.args in
    record { value = number_refused a.k a.number (omega (arith, c.if-from-number.true)); query_after = refl }

pub overflow_cast-number : goal.overflow_cast-number
overflow_cast-number c =
    let l : Legal c.args.m c.args.n c.args.k = counted _ _ _ c.requires.0 in
    omega (arith, l.small)

pub digits-requires : goal.digits-requires
digits-requires c =
    let l : Legal c.args.m c.args.n c.args.k = counted _ _ _ c.requires.0 in
    (omega (arith, l.least), l.count)

pub returns : goal.returns
returns c =
    let a = c.args in
    record { value = number_taken a.k a.number (omega (arith, c.if-from-number.false)); query_after = query_is _ _ _ c.digits.ensures c.write.ensures }
