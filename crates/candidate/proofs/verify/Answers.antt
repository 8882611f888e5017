-- `candidate::verify` meets its contract: each reply is the one that its tests pick, and a query that is not refused is sound.
-- Assumes nothing.
use mathlib.Core.Path.{sym, ◌∙◌}
use borrow.Author.Tests.{eq-eqb, ne_eqb}
use Rattle.std.proofs.lemmas.Result.{err_from_is_err_and}
use Rattle.sequence.proofs.Laws.{checked_refused, accepted}
use Rattle.candidate.specs.Rules.{verify_of}
use Rattle.candidate.proofs.Answers.{verify_told}
use Rattle.candidate.proofs.verify.Goals as goal

pub returns-then-a-ne-A_BYTES : goal.returns-then-a-ne-A_BYTES
unfolding verify_of
returns-then-a-ne-A_BYTES c =
    let v = c.args in
    verify_told v.query.now v.a.now v.b.now v.length (simp (ne_eqb _ _ c.if-a-ne-A_BYTES.true))

pub returns-then-b-ne-B_BYTES : goal.returns-then-b-ne-B_BYTES
unfolding verify_of
returns-then-b-ne-B_BYTES c =
    let v = c.args in
    verify_told v.query.now v.a.now v.b.now v.length (simp (eq-eqb _ _ c.if-a-ne-A_BYTES.false, ne_eqb _ _ c.if-b-ne-B_BYTES.true))

pub returns-in_err-s : goal.returns-in_err-s
unfolding verify_of
returns-in_err-s c =
    let v = c.args in
    let p = err_from_is_err_and c.from_residual.result c.from_residual.ensures.1 in
    rw (p.1, p.2)
    (verify_told v.query.now v.a.now v.b.now v.length
    (simp (eq-eqb _ _ c.if-a-ne-A_BYTES.false, eq-eqb _ _ c.if-b-ne-B_BYTES.false, checked_refused _ (sym c.in_err-s.was ∙ c.accept.ensures))))

pub judge-requires : goal.judge-requires
judge-requires c =
    ((accepted _ (sym c.in_ok-s.was ∙ c.accept.ensures)).sound, c.if-a-ne-A_BYTES.false, c.if-b-ne-B_BYTES.false)

pub returns : goal.returns
unfolding verify_of
returns c =
    let v = c.args in
    let q = accepted _ (sym c.in_ok-s.was ∙ c.accept.ensures) in
    verify_told v.query.now v.a.now v.b.now v.length
    (simp (eq-eqb _ _ c.if-a-ne-A_BYTES.false, eq-eqb _ _ c.if-b-ne-B_BYTES.false, q.done, ← q.same) c.judge.ensures)
