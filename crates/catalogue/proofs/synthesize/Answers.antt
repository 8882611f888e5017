-- `catalogue::synthesize` meets its contract: each reply is the one that its tests pick, and the record is written only behind them.
-- Assumes nothing.
use mathlib.Core.Path.{refl, sym, ◌∙◌}
use borrow.Author.Tests.{eq-eqb, ne_eqb}
use Rattle.std.proofs.lemmas.Result.{err_from_is_err_and}
use Rattle.sequence.proofs.Laws.{checked_refused, accepted}
use Rattle.catalogue.specs.Rules.{synthesize_of}
use Rattle.catalogue.proofs.Laws.{is_made}
use Rattle.catalogue.proofs.Answers.{synthesize_told}
use Rattle.catalogue.proofs.synthesize.Goals as goal

pub returns-then-out-ne-RECORD_BYTES : goal.returns-then-out-ne-RECORD_BYTES
unfolding synthesize_of
returns-then-out-ne-RECORD_BYTES c =
    let v = c.args in
    synthesize_told v.query.now v.out.now (simp (ne_eqb _ _ c.if-out-ne-RECORD_BYTES.true)) refl

pub returns-in_err-s : goal.returns-in_err-s
unfolding synthesize_of
returns-in_err-s c =
    let v = c.args in
    let p = err_from_is_err_and c.from_residual.result c.from_residual.ensures.1 in
    rw (p.1, p.2)
    (synthesize_told v.query.now v.out.now (simp (eq-eqb _ _ c.if-out-ne-RECORD_BYTES.false, checked_refused _ (sym c.in_err-s.was ∙ c.accept.ensures))) refl)

pub write_record-requires : goal.write_record-requires
write_record-requires c =
    let q = accepted _ (sym c.in_ok-s.was ∙ c.accept.ensures) in
    (q.long, q.sound, c.if-out-ne-RECORD_BYTES.false)

pub returns : goal.returns
unfolding synthesize_of
returns c =
    let v = c.args in
    let q = accepted _ (sym c.in_ok-s.was ∙ c.accept.ensures) in
    synthesize_told v.query.now v.out.now
    (simp (eq-eqb _ _ c.if-out-ne-RECORD_BYTES.false, q.done))
    (c.write_record.ensures ∙ is_made _ _ q.same)
