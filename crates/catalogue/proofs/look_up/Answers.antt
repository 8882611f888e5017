-- `catalogue::look_up` meets its contract: each reply is the one that its tests pick.
-- Assumes nothing.
use mathlib.Core.Path.{refl, sym, ◌∙◌}
use borrow.Author.Tests.{eq-eqb, ne_eqb}
use Rattle.std.proofs.lemmas.Result.{err_from_is_err_and}
use Rattle.sequence.proofs.Laws.{checked_refused, accepted}
use Rattle.catalogue.specs.Rules.{look_up_of}
use Rattle.catalogue.proofs.Answers.{look_up_told}
use Rattle.catalogue.proofs.look_up.Goals as goal

pub returns-then-out-ne-RECORD_BYTES : goal.returns-then-out-ne-RECORD_BYTES
unfolding look_up_of
returns-then-out-ne-RECORD_BYTES c =
    let v = c.args in
    look_up_told v.query.now v.catalogue.now v.out.now (simp (ne_eqb _ _ c.if-out-ne-RECORD_BYTES.true)) refl

pub returns-in_err-s : goal.returns-in_err-s
unfolding look_up_of
returns-in_err-s c =
    let v = c.args in
    let p = err_from_is_err_and c.from_residual.result c.from_residual.ensures.1 in
    rw (p.1, p.2)
    (look_up_told v.query.now v.catalogue.now v.out.now (simp (eq-eqb _ _ c.if-out-ne-RECORD_BYTES.false, checked_refused _ (sym c.in_err-s.was ∙ c.accept.ensures))) refl)

pub fetch-requires : goal.fetch-requires
fetch-requires c =
    let q = accepted _ (sym c.in_ok-s.was ∙ c.accept.ensures) in
    (q.long, q.same, q.sound, c.if-out-ne-RECORD_BYTES.false)

pub returns : goal.returns
unfolding look_up_of
returns c =
    let v = c.args in
    let q = accepted _ (sym c.in_ok-s.was ∙ c.accept.ensures) in
    look_up_told v.query.now v.catalogue.now v.out.now
    (simp (eq-eqb _ _ c.if-out-ne-RECORD_BYTES.false, q.done) c.fetch.ensures.value)
    c.fetch.ensures.out_after
