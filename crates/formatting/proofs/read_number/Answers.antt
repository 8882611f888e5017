-- `formatting::read_number`: the digits before the index are read.
-- Assumes nothing.
use mathlib.Core.Path.{refl, sym, ◌∙◌}
use native.Mathlib.Omega.{arith}
use borrow.Author.Tests.{eqb-true, eqb-false}
use Rattle.formatting.proofs.Pairs.{no_digits, valued_none, valued_broken, valued_past, valued_next, valued_all}
use Rattle.formatting.proofs.read_number.Goals as goal

pub returns-then-is_empty : goal.returns-then-is_empty
returns-then-is_empty c = no_digits c.args.s.now (eqb-true _ _ (sym c.is_empty.ensures ∙ c.if-is_empty.true))

pub loop-b-init : goal.loop-b-init
loop-b-init c = valued_none c.args.s.now

pub returns-then-not-is_digit : goal.returns-then-not-is_digit
returns-then-not-is_digit c =
    let l = c.loop-b in
    valued_broken l.invariant c.loop-b-test.true refl (sym c.is_digit.ensures ∙ c.if-not-is_digit.true)

pub returns : goal.returns
returns c =
    let some = eqb-false _ 0 (sym c.is_empty.ensures ∙ c.if-is_empty.false) in
    valued_all c.loop-b.invariant (omega (arith, some)) c.loop-b-test.false

pub returns-in-Err : goal.returns-in-Err
returns-in-Err c =
    let fits = c.in-Err.ensures in
    valued_past c.loop-b.invariant c.loop-b-test.true refl (sym c.is_digit.ensures ∙ c.if-not-is_digit.false) refl (omega (arith, fits, c.from.ensures, c.from-in-loop-b.ensures))

pub loop-b-preserved : goal.loop-b-preserved
loop-b-preserved c =
    let fits = c.in-Ok.ensures in
    valued_next c.loop-b.invariant c.loop-b-test.true refl (sym c.is_digit.ensures ∙ c.if-not-is_digit.false)
    (omega (arith, fits.1, c.from.ensures, c.from-in-loop-b.ensures)) (omega (arith, fits.0, fits.1))
