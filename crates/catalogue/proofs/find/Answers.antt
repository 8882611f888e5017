-- `catalogue::find` meets its contract. The loop's invariant: no record passed is one of the query.
-- Assumes nothing.
use mathlib.Core.Path.{sym, ap, ◌∙◌}
use Prim.Native.Nat.{◌*◌}
use native.Mathlib.Nat.{not-suc-le-zero}
use native.Mathlib.Omega.{arith}
use borrow.Author.Count.{below_more}
use borrow.Author.Rules.{rules}
use Rattle.catalogue.specs.Rules.{record_bytes, is_of}
use Rattle.catalogue.proofs.Laws.{cut_record, found, missed}
use Rattle.catalogue.proofs.find.Goals as goal

pub loop-i-init : goal.loop-i-init
loop-i-init c = (search rules, λ j h. absurd (not-suc-le-zero h))

pub returns-then-is_of : goal.returns-then-is_of
returns-then-is_of c =
    let s = c.args in
    let told = sym (ap (is_of s.query.now) (cut_record s.catalogue.now (c.loop-i.i * record_bytes))) ∙ sym c.is_of.ensures ∙ c.if-is_of.true in
    found _ _ _ c.loop-i-test.true c.loop-i.invariant.1 told

pub loop-i-preserved : goal.loop-i-preserved
loop-i-preserved c =
    let s = c.args in
    let told = sym (ap (is_of s.query.now) (cut_record s.catalogue.now (c.loop-i.i * record_bytes))) ∙ sym c.is_of.ensures ∙ c.if-is_of.false in
    (omega arith, below_more _ _ c.loop-i.invariant.1 told)

pub returns : goal.returns
returns c = missed _ _ (λ j h. c.loop-i.invariant.1 j (omega arith))
