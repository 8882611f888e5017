-- `sequence::work` meets its contract.
-- Assumes nothing.
use mathlib.Core.Path.{◌≡◌, refl, sym, ap, ◌∙◌}
use Prim.Native.Nat.{ℕ, ◌*◌}
use native.Mathlib.Nat.{mul-le-mul}
use native.Mathlib.Omega.{arith}
use borrow.Author.Tests.{eq-eqb, ne_eqb, le-leb, lt-leb}
use Rattle.cells.specs.Cell.{bytes_of}
use Rattle.synthesis.specs.declared.Synthesis.{Synthesis}
use Rattle.synthesis.specs.Synthesis.{synthesis_of}
use Rattle.sequence.specs.Trace.{sheet_size, trace_of}
use Rattle.sequence.specs.Rules.{IsSound}
use Rattle.sequence.proofs.Laws.{sound_of}
use Rattle.sequence.proofs.Reporting.{long_a, long_b, small_terms, short_length, told}
use Rattle.sequence.proofs.Tracing.{work_refused, work_done, log_filled}
use Rattle.sequence.proofs.Sequence.work.Goals as goal

pub returns-then-a-ne-A_BYTES : goal.returns-then-a-ne-A_BYTES
unfolding trace_of
returns-then-a-ne-A_BYTES c =
    let v = c.args in
    work_refused v.self.now v.a.now v.b.now v.room v.log.now (rw (ne_eqb _ _ c.if-a-ne-A_BYTES.true) refl)

pub returns-then-b-ne-B_BYTES : goal.returns-then-b-ne-B_BYTES
unfolding trace_of
returns-then-b-ne-B_BYTES c =
    let v = c.args in
    work_refused v.self.now v.a.now v.b.now v.room v.log.now (rw (eq-eqb _ _ c.if-a-ne-A_BYTES.false, ne_eqb _ _ c.if-b-ne-B_BYTES.true) refl)

pub count_rows-requires : goal.count_rows-requires
count_rows-requires c =
    let h : IsSound c.args.self.now = sound_of _ (sym c.is_sound.ensures ∙ c.if-is_sound.true) in
    (h.least, omega (arith, h.most))

pub overflow_mul-count : goal.overflow_mul-count
overflow_mul-count c =
    let h : IsSound c.args.self.now = sound_of _ (sym c.is_sound.ensures ∙ c.if-is_sound.true) in
    omega (arith, mul-le-mul h.count c.count_rows.ensures.1)

pub returns-then-room-count : goal.returns-then-room-count
unfolding trace_of
returns-then-room-count c =
    let v = c.args in
    let size : v.self.now.count * c.count_rows.result ≡ sheet_size v.self.now = ap (λ (k : ℕ). v.self.now.count * k) c.count_rows.ensures.0 in
    work_refused v.self.now v.a.now v.b.now v.room v.log.now
    (rw (eq-eqb _ _ c.if-a-ne-A_BYTES.false, eq-eqb _ _ c.if-b-ne-B_BYTES.false, ← c.is_sound.ensures, c.if-is_sound.true, lt-leb (sheet_size v.self.now) v.room (omega (arith, size, c.if-room-count.true))) refl)

pub trace-x-requires : goal.trace-x-requires
trace-x-requires c =
    let h : IsSound c.args.self.now = sound_of _ (sym c.is_sound.ensures ∙ c.if-is_sound.true) in
    (h.least, omega (arith, h.most), h.count, small_terms c.args.self.now h)

pub write_report-report-requires : goal.write_report-report-requires
write_report-report-requires c =
    let s = c.args.self.now in
    let x = c.trace-x.ensures.0 in
    (long_a _ s x, long_b _ s x, short_length _ s x (sound_of _ (sym c.is_sound.ensures ∙ c.if-is_sound.true)), c.if-a-ne-A_BYTES.false, c.if-b-ne-B_BYTES.false)

pub returns-then-is_sound : goal.returns-then-is_sound
unfolding trace_of synthesis_of
returns-then-is_sound c =
    let v = c.args in
    let sound = c.is_sound.ensures in
    let h : IsSound v.self.now = sound_of _ (sym sound ∙ c.if-is_sound.true) in
    let x = c.trace-x.ensures in
    let r = c.write_report-report.ensures in
    let size : v.self.now.count * c.count_rows.result ≡ sheet_size v.self.now = ap (λ (k : ℕ). v.self.now.count * k) c.count_rows.ensures.0 in (
      work_done v.self.now v.a.now v.b.now v.room _ _
          (rw (eq-eqb _ _ c.if-a-ne-A_BYTES.false, eq-eqb _ _ c.if-b-ne-B_BYTES.false, ← sound, c.if-is_sound.true, le-leb (sheet_size v.self.now) v.room (omega (arith, size, c.if-room-count.false)))
          (sym (told _ v.self.now x.0 _ r.0 r.1))) size,
      r.2 ∙ ap (λ (y : Synthesis). bytes_of y.a) x.0,
      r.3 ∙ ap (λ (y : Synthesis). bytes_of y.b) x.0,
      x.1 ∙ log_filled v.self.now v.log.now h c.requires,
    )

pub returns : goal.returns
unfolding trace_of
returns c =
    let v = c.args in
    work_refused v.self.now v.a.now v.b.now v.room v.log.now
    (rw (eq-eqb _ _ c.if-a-ne-A_BYTES.false, eq-eqb _ _ c.if-b-ne-B_BYTES.false, ← c.is_sound.ensures, c.if-is_sound.false) refl)
