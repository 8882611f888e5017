-- `sequence::profile` meets its contract.
-- Assumes nothing.
use mathlib.Core.Path.{refl, sym, ap, ◌∙◌}
use native.Mathlib.Omega.{arith}
use borrow.Author.Tests.{eq-eqb, ne_eqb}
use Rattle.cells.specs.Cell.{bytes_of}
use Rattle.synthesis.specs.declared.Synthesis.{Synthesis}
use Rattle.synthesis.specs.Synthesis.{synthesis_of}
use Rattle.sequence.specs.Report.{profile_of}
use Rattle.sequence.proofs.Laws.{sound_of}
use Rattle.sequence.proofs.Answers.{profile_told}
use Rattle.sequence.proofs.Reporting.{long_a, long_lengths}
use Rattle.sequence.proofs.Sequence.profile.Goals as goal

pub returns-then-cells-ne-PROFILE_BYTES : goal.returns-then-cells-ne-PROFILE_BYTES
unfolding profile_of
returns-then-cells-ne-PROFILE_BYTES c = let v = c.args in profile_told v.self.now v.cells.now (rw (ne_eqb _ _ c.if-cells-ne-PROFILE_BYTES.true)) refl

pub solve-x-requires : goal.solve-x-requires
solve-x-requires c = sound_of _ (sym c.is_sound.ensures ∙ c.if-is_sound.true)

pub write-requires : goal.write-requires
write-requires c = omega (arith, long_a _ _ c.solve-x.ensures, long_lengths _ _ c.solve-x.ensures)

pub returns-then-is_sound : goal.returns-then-is_sound
unfolding profile_of synthesis_of
returns-then-is_sound c =
    let a = c.args in
    profile_told a.self.now a.cells.now
    (rw (eq-eqb _ _ c.if-cells-ne-PROFILE_BYTES.false, ← c.is_sound.ensures, c.if-is_sound.true))
    (c.write.ensures ∙ ap (λ (z : Synthesis). bytes_of z.lengths) c.solve-x.ensures)

pub returns : goal.returns
unfolding profile_of
returns c = let v = c.args in profile_told v.self.now v.cells.now (rw (eq-eqb _ _ c.if-cells-ne-PROFILE_BYTES.false, ← c.is_sound.ensures, c.if-is_sound.false)) refl
