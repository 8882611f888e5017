-- `sequence::trace` meets its contract: `work` says how many words there are, and that sheet and log have room for them.
-- Assumes nothing.
use mathlib.Core.Path.{◌≡◌, refl, sym, ap, ◌∙◌}
use mathlib.Core.List.{List}
use Prim.Native.Nat.{ℕ}
use native.Mathlib.Numerals.{add-one}
use native.Mathlib.Omega.{arith}
use lib.ListN.{length, set}
use Rattle.std.specs.Prelude.{Result}
use Rattle.std.proofs.lemmas.Result.{err_from_is_err_and}
use Rattle.steps.specs.declared.StepRecord.{StepRecord}
use Rattle.sequence.specs.declared.Refusal.{Refusal}
use Rattle.sequence.specs.declared.Worked.{Worked}
use Rattle.sequence.specs.Report.{a_buffer, b_buffer, filled}
use Rattle.sequence.specs.Trace.{words_of, sheet_filled}
use Rattle.sequence.proofs.Tracing.{zeros, filling_of, filling_none, filling_long, filling_more, work_told, reply_told, count_fits, filling_all, trace_told}
use Rattle.sequence.proofs.Sequence.trace.Goals as goal

pub returns-in_err-w : goal.returns-in_err-w
returns-in_err-w c =
    let v = c.args in
    let w = c.work.ensures in
    let was = c.in_err-w.was in
    let p = err_from_is_err_and c.from_residual.result c.from_residual.ensures.1 in
    let h = sym (work_told v.self.now v.a.now v.b.now (length v.sheet.now) (sym was ∙ w.0)) in
    rw (p.1, p.2) (
      h,
      w.1 ∙ ap (λ (r : Result Worked Refusal). filled r (a_buffer v.self.now) v.a.now) was,
      w.2 ∙ ap (λ (r : Result Worked Refusal). filled r (b_buffer v.self.now) v.b.now) was,
      refl,
      trace_told v.self.now v.a.now v.b.now (length v.sheet.now) h,
    )

pub loop-i-init : goal.loop-i-init
loop-i-init c = sym (filling_none c.work.new.log c.args.sheet.now)

pub entry-requires : goal.entry-requires
entry-requires c =
    let v = c.args in
    let most = (count_fits v.self.now v.a.now v.b.now (length v.sheet.now) c.in_ok-w.w (sym c.in_ok-w.was ∙ c.work.ensures.0)).1 in
    omega (arith, most)

pub offset_bounds-sheet-i : goal.offset_bounds-sheet-i
offset_bounds-sheet-i c =
    let v = c.args in
    let most = (count_fits v.self.now v.a.now v.b.now (length v.sheet.now) c.in_ok-w.w (sym c.in_ok-w.was ∙ c.work.ensures.0)).1 in
    record { fits = omega (arith, most) }

pub bounds-sheet-i : goal.bounds-sheet-i
bounds-sheet-i c =
    let v = c.args in
    let i = c.loop-i.i in
    let few = (count_fits v.self.now v.a.now v.b.now (length v.sheet.now) c.in_ok-w.w (sym c.in_ok-w.was ∙ c.work.ensures.0)).0 in
    omega (arith, few, ap length c.loop-i.invariant, filling_long c.work.new.log v.sheet.now i (omega (arith, few)))

pub loop-i-preserved : goal.loop-i-preserved
loop-i-preserved c =
    let v = c.args in
    let i = c.loop-i.i in
    let log = c.work.new.log in
    let few = (count_fits v.self.now v.a.now v.b.now (length v.sheet.now) c.in_ok-w.w (sym c.in_ok-w.was ∙ c.work.ensures.0)).0 in
    ap (λ (x : List StepRecord). set x i c.entry.result) c.loop-i.invariant
    ∙ ap (λ (x : StepRecord). set (filling_of log v.sheet.now i) i x) c.entry.ensures
    ∙ filling_more log v.sheet.now i (omega (arith, few))
    ∙ ap (λ (k : ℕ). filling_of log v.sheet.now k) (sym (add-one i))

pub returns : goal.returns
unfolding zeros
returns c =
    let v = c.args in
    let y = c.in_ok-w.w in
    let was = c.in_ok-w.was in
    let w = c.work.ensures in
    let e = sym was ∙ w.0 in
    let same : c.loop-i.i ≡ y.count = omega arith in
    let n = length v.sheet.now in
    let h = sym (reply_told v.self.now v.a.now v.b.now n y e) in (
      h,
      w.1 ∙ ap (λ (r : Result Worked Refusal). filled r (a_buffer v.self.now) v.a.now) was,
      w.2 ∙ ap (λ (r : Result Worked Refusal). filled r (b_buffer v.self.now) v.b.now) was,
      c.loop-i.invariant
          ∙ ap (λ (k : ℕ). filling_of c.work.new.log v.sheet.now k) same
          ∙ filling_all v.self.now v.a.now v.b.now n y e c.work.new.log (w.3 ∙ ap (λ (r : Result Worked Refusal). sheet_filled r (words_of v.self.now) zeros) was) v.sheet.now,
      trace_told v.self.now v.a.now v.b.now n h,
    )
