-- `timing_trace` meets its contract: the promise of `Sequence::work`, with the numbers of its records added up.
-- Assumes nothing.
use mathlib.Core.Path.{sym, ap, ◌∙◌}
use Rattle.std.specs.Prelude.{Result}
use Rattle.steps.specs.Sizes.{log_words}
use Rattle.sequence.specs.declared.Refusal.{Refusal}
use Rattle.sequence.specs.declared.Sequence.{Sequence}
use Rattle.sequence.specs.declared.Worked.{Worked}
use Rattle.sequence.specs.Trace.{words_of, sheet_filled, trace_of}
use Rattle.sequence.proofs.Tracing.{zeros, count_fits}
use Rattle.timing.specs.Entries.{sum_of}
use Rattle.timing.proofs.Laws.{sum_told}
use Rattle.timing.proofs.timing_trace.Goals as goal

pub add_up-requires : goal.add_up-requires
add_up-requires c = (count_fits _ _ _ log_words c.in-Ok.w (sym c.in-Ok.is ∙ c.work.ensures.0)).1

pub returns-in-Ok-clause-value : goal.returns-in-Ok-clause-value
unfolding zeros
returns-in-Ok-clause-value c =
    let v = c.args in
    let w = c.work.ensures in
    let log = w.3 ∙ ap (λ (r : Result Worked Refusal). sheet_filled r (words_of c.given.result) zeros) c.in-Ok.is in
    c.add_up.ensures
    ∙ sum_told c.given.result v.a.now v.b.now log_words c.in-Ok.w (sym c.in-Ok.is ∙ w.0) _ log
    ∙ ap (λ (s : Sequence). sum_of (trace_of s v.a.now v.b.now log_words) s) c.given.ensures
