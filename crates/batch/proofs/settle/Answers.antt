-- `batch::settle` meets its contract: a query that passed its checks is concluded.
-- Assumes nothing.
use mathlib.Core.Path.{sym, ◌∙◌}
use Rattle.sequence.proofs.Laws.{checked_refused, accepted}
use Rattle.batch.proofs.settle.Goals as goal

pub conclude-requires : goal.conclude-requires
conclude-requires c =
    let q = accepted _ (sym c.in-Ok.is ∙ c.accept.ensures) in
    (q.long, q.same, q.sound, c.requires)

pub returns-in-Ok : goal.returns-in-Ok
returns-in-Ok c =
    let q = accepted _ (sym c.in-Ok.is ∙ c.accept.ensures) in
    record { value = simp (q.done, ← q.same) c.conclude.ensures.value; part_after = simp (q.done, ← q.same) c.conclude.ensures.part_after }

pub returns-in-Err : goal.returns-in-Err
returns-in-Err c =
    let e = checked_refused _ (sym c.in-Err.is ∙ c.accept.ensures) in
    record { value = simp e; part_after = simp e }
