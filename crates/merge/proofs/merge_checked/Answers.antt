-- `merge::merge_checked` meets its contract: a query that is not refused is sound.
-- Assumes nothing.
use mathlib.Core.Path.{refl, sym, ◌∙◌}
use Rattle.std.proofs.lemmas.Result.{err_from_is_err_and}
use Rattle.sequence.proofs.Laws.{checked_refused, accepted}
use Rattle.merge.proofs.Laws.{first_refused, second_refused, both_passed}
use Rattle.merge.proofs.merge_checked.Goals as goal

pub returns-in_err-s : goal.returns-in_err-s
returns-in_err-s c =
    let a = c.args in
    let p = err_from_is_err_and c.from_residual.result c.from_residual.ensures.1 in
    rw (p.1, p.2) (record { value = first_refused a.first.now a.second.now (checked_refused _ (sym c.in_err-s.was ∙ c.accept.ensures)); query_after = refl })

pub returns-in_err-t : goal.returns-in_err-t
returns-in_err-t c =
    let a = c.args in
    let p = err_from_is_err_and c.from_residual-in_err-t.result c.from_residual-in_err-t.ensures.1 in
    let s = accepted _ (sym c.in_ok-s.was ∙ c.accept.ensures) in
    rw (p.1, p.2) (record { value = second_refused a.first.now a.second.now s.done (checked_refused _ (sym c.in_err-t.was ∙ c.accept-2.ensures)); query_after = refl })

pub merge_sound-requires : goal.merge_sound-requires
merge_sound-requires c = (
  (accepted _ (sym c.in_ok-s.was ∙ c.accept.ensures)).sound,
  (accepted _ (sym c.in_ok-t.was ∙ c.accept-2.ensures)).sound,
  c.requires,
)

pub returns : goal.returns
returns c =
    let a = c.args in
    both_passed a.first.now a.second.now a.query.now (accepted _ (sym c.in_ok-s.was ∙ c.accept.ensures)) (accepted _ (sym c.in_ok-t.was ∙ c.accept-2.ensures))
    c.merge_sound.ensures.value c.merge_sound.ensures.query_after
