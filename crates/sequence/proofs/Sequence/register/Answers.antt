-- `sequence::register` meets its contract.
-- Assumes nothing.
use mathlib.Core.Path.{refl, sym, ap, ◌∙◌}
use borrow.Author.Tests.{eq-eqb, ne_eqb}
use Rattle.cells.specs.Cell.{bytes_of}
use Rattle.synthesis.specs.declared.Synthesis.{Synthesis}
use Rattle.synthesis.specs.Synthesis.{synthesis_of}
use Rattle.sequence.specs.Report.{report_of}
use Rattle.sequence.proofs.Laws.{sound_of}
use Rattle.sequence.proofs.Answers.{report_told}
use Rattle.sequence.proofs.Reporting.{long_a, long_b, short_length, told}
use Rattle.sequence.proofs.Sequence.register.Goals as goal

pub returns-then-a-ne-A_BYTES : goal.returns-then-a-ne-A_BYTES
unfolding report_of
returns-then-a-ne-A_BYTES c = let v = c.args in report_told v.self.now v.a.now v.b.now (rw (ne_eqb _ _ c.if-a-ne-A_BYTES.true) refl) refl refl

pub returns-then-b-ne-B_BYTES : goal.returns-then-b-ne-B_BYTES
unfolding report_of
returns-then-b-ne-B_BYTES c = let v = c.args in report_told v.self.now v.a.now v.b.now (rw (eq-eqb _ _ c.if-a-ne-A_BYTES.false, ne_eqb _ _ c.if-b-ne-B_BYTES.true) refl) refl refl

pub solve-x-requires : goal.solve-x-requires
solve-x-requires c = sound_of _ (sym c.is_sound.ensures ∙ c.if-is_sound.true)

pub write_report-requires : goal.write_report-requires
write_report-requires c =
    let s = c.args.self.now in
    let x = c.solve-x.ensures in
    (long_a _ s x, long_b _ s x, short_length _ s x (sound_of _ (sym c.is_sound.ensures ∙ c.if-is_sound.true)), c.if-a-ne-A_BYTES.false, c.if-b-ne-B_BYTES.false)

pub returns-then-is_sound : goal.returns-then-is_sound
unfolding report_of synthesis_of
returns-then-is_sound c =
    let t = c.args in
    let r = c.write_report.ensures in
    report_told t.self.now t.a.now t.b.now
    (rw (eq-eqb _ _ c.if-a-ne-A_BYTES.false, eq-eqb _ _ c.if-b-ne-B_BYTES.false, ← c.is_sound.ensures, c.if-is_sound.true) (told _ t.self.now c.solve-x.ensures _ r.0 r.1))
    (r.2 ∙ ap (λ (z : Synthesis). bytes_of z.a) c.solve-x.ensures)
    (r.3 ∙ ap (λ (z : Synthesis). bytes_of z.b) c.solve-x.ensures)

pub returns : goal.returns
unfolding report_of
returns c =
    let v = c.args in
    report_told v.self.now v.a.now v.b.now (rw (eq-eqb _ _ c.if-a-ne-A_BYTES.false, eq-eqb _ _ c.if-b-ne-B_BYTES.false, ← c.is_sound.ensures, c.if-is_sound.false) refl) refl refl
