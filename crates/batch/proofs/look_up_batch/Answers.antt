-- `batch::look_up_batch` meets its contract: each reply is the one that its tests pick.
-- Assumes nothing.
use mathlib.Core.Path.{sym, ◌∙◌}
use Rattle.std.proofs.lemmas.Result.{err_from_is_err_and}
use Rattle.batch.proofs.Whole.{fits_out, fits_replies, done_right, refused_told, done_told}
use Rattle.batch.proofs.look_up_batch.Goals as goal

pub returns-in_err-refused_whole : goal.returns-in_err-refused_whole
returns-in_err-refused_whole c =
    let s = c.args in
    let p = err_from_is_err_and c.from_residual.result c.from_residual.ensures.1 in
    rw (p.1, p.2) (refused_told s.queries.now s.catalogue.now s.out.now s.replies.now s.who c.refused_whole.ensures c.in_err-refused_whole.was)

pub answer_all-requires : goal.answer_all-requires
answer_all-requires c =
    let e = sym c.refused_whole.ensures ∙ c.in_ok-refused_whole.was in
    let d = done_right _ _ _ _ e in
    (fits_out _ _ _ d.sized, fits_replies _ _ _ d.sized, d.whole)

pub returns : goal.returns
returns c =
    let s = c.args in
    done_told s.queries.now s.catalogue.now s.out.now s.replies.now s.who c.refused_whole.ensures c.in_ok-refused_whole.was c.answer_all.ensures c.tally.ensures
