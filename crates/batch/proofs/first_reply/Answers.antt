-- `batch::first_reply` meets its contract: each outcome goes to its number.
-- Assumes nothing.
use mathlib.Core.Path.{sym, ap, ◌∙◌}
use Rattle.sequence.specs.Answers.{outcome_answer, Outcome}
use Rattle.sequence.proofs.Laws.{checked_refused, accepted}
use Rattle.codes.specs.Codes.{code_of}
use Rattle.batch.proofs.first_reply.Goals as goal

pub returns-in-Ok : goal.returns-in-Ok
returns-in-Ok c = ap (λ (o : Outcome). code_of (outcome_answer o)) (sym (accepted _ (sym c.in-Ok.is ∙ c.accept.ensures)).done)

pub returns-in-Err : goal.returns-in-Err
returns-in-Err c = c.refused.ensures ∙ ap (λ (o : Outcome). code_of (outcome_answer o)) (sym (checked_refused _ (sym c.in-Err.is ∙ c.accept.ensures)))
