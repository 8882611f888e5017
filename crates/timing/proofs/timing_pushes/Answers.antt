-- `timing_pushes` meets its contract: after i pushes the others are what is left.
-- Assumes nothing.
use mathlib.Core.Path.{◌≡◌, sym, ap, ◌∙◌}
use native.Mathlib.Omega.{arith}
use Rattle.sequence.specs.declared.Opened.{Opened}
use Rattle.sequence.specs.declared.Sequence.{Sequence}
use Rattle.sequence.specs.Rules.{open_of}
use Rattle.column.specs.Rules.{terms_in, each_of}
use Rattle.timing.proofs.Pushing.{pushing_more, pushing_refused, pushing_all}
use Rattle.timing.proofs.timing_pushes.Goals.{else-loop-i-test, then-loop-i-test+then-is_err}
use Rattle.timing.proofs.timing_pushes.Goals as goal

pub loop-i-preserved : goal.loop-i-preserved
loop-i-preserved c =
    let p = c.push.ensures in
    pushing_more c.loop-i.invariant _ _ _ (omega arith) c.cell.ensures.0 p.value p.self_after (sym c.is_err.ensures.value ∙ c.if-is_err.false)

pub returns : goal.returns
returns c =
    let l = c.loop-i-test in
    let ts = terms_in c.args.list.now in
    let whole : l.s ≡ (each_of c.open.result.sequence ts).sequence = elim l.branch [
      | else-loop-i-test w ↦ w.s-is ∙ pushing_all c.loop-i.invariant w.loop-i-test.false
      | then-loop-i-test+then-is_err w ↦
          let p = w.push.ensures in
          w.s-is
          ∙ pushing_refused c.loop-i.invariant _ _ _ w.loop-i-test.true w.cell.ensures.0 p.value p.self_after (sym w.is_err.ensures.value ∙ w.if-is_err.true)
    ] in
    let all : l.s ≡ (each_of (open_of c.args.m).sequence ts).sequence = whole ∙ ap (λ (o : Opened). (each_of o.sequence ts).sequence) c.open.ensures.value in
    record { value = ap (λ (s : Sequence). s.count) all; terms_after = ap (λ (s : Sequence). s.terms) all }
