-- `candidate::generate` meets its contract: each reply is the one that its tests pick, and a candidate without a flaw is run.
-- Assumes nothing.
use mathlib.Core.Path.{refl, sym, ◌∙◌}
use Prim.Native.Nat.{◌≤◌}
use borrow.Author.Rules.{rules}
use Rattle.std.proofs.lemmas.Result.{err_from_is_err_and}
use borrow.Author.Tests.{lt-ltb, le-ltb, eq-eqb, ne_eqb}
use Rattle.sequence.specs.Limits.{max_modulus}
use Rattle.sequence.proofs.Laws.{inside}
use Rattle.candidate.specs.Rules.{a_cells, b_cells, IsFine, generate_of}
use Rattle.candidate.proofs.Laws.{fine_of}
use Rattle.candidate.proofs.Answers.{generate_told}
use Rattle.candidate.proofs.generate.Goals as goal

pub returns-then-a-ne-A_BYTES : goal.returns-then-a-ne-A_BYTES
unfolding generate_of
returns-then-a-ne-A_BYTES c =
    let v = c.args in
    generate_told v.modulus v.a.now v.b.now v.length v.out.now
    (simp (ne_eqb _ _ c.if-a-ne-A_BYTES.true))
    refl

pub returns-then-b-ne-B_BYTES : goal.returns-then-b-ne-B_BYTES
unfolding generate_of
returns-then-b-ne-B_BYTES c =
    let v = c.args in
    generate_told v.modulus v.a.now v.b.now v.length v.out.now
    (simp (eq-eqb _ _ c.if-a-ne-A_BYTES.false, ne_eqb _ _ c.if-b-ne-B_BYTES.true))
    refl

pub returns-then-odd-ne0 : goal.returns-then-odd-ne0
unfolding generate_of
returns-then-odd-ne0 c =
    let v = c.args in
    generate_told v.modulus v.a.now v.b.now v.length v.out.now
    (simp (eq-eqb _ _ c.if-a-ne-A_BYTES.false, eq-eqb _ _ c.if-b-ne-B_BYTES.false, ne_eqb _ _ c.if-odd-ne0.true))
    refl

pub returns-then-outside : goal.returns-then-outside
unfolding generate_of
returns-then-outside c =
    let v = c.args in
    generate_told v.modulus v.a.now v.b.now v.length v.out.now
    (simp (eq-eqb _ _ c.if-a-ne-A_BYTES.false, eq-eqb _ _ c.if-b-ne-B_BYTES.false, eq-eqb _ _ c.if-odd-ne0.false, ← c.outside.ensures, c.if-outside.true))
    refl

pub returns-then-n-gt-TERMS : goal.returns-then-n-gt-TERMS
unfolding generate_of
returns-then-n-gt-TERMS c =
    let v = c.args in
    generate_told v.modulus v.a.now v.b.now v.length v.out.now
    (simp (eq-eqb _ _ c.if-a-ne-A_BYTES.false, eq-eqb _ _ c.if-b-ne-B_BYTES.false, eq-eqb _ _ c.if-odd-ne0.false, ← c.outside.ensures, c.if-outside.false, lt-ltb _ _ c.if-n-gt-TERMS.true))
    refl

pub fill-requires : goal.fill-requires
fill-requires c =
    let v = c.args in
    let limits : (2 ≤ v.modulus) × (v.modulus ≤ max_modulus) = inside v.modulus (sym c.outside.ensures ∙ c.if-outside.false) in
    let fine : IsFine v.modulus v.length (a_cells v.a.now) (b_cells v.b.now) = fine_of _ _ _ _ (sym c.find_flaw.ensures ∙ c.in_ok-find_flaw.was) in
    record { m_nonzero = search rules; by_index = fine.coefficients.below_b }

pub returns-in_err-find_flaw : goal.returns-in_err-find_flaw
unfolding generate_of
returns-in_err-find_flaw c =
    let v = c.args in
    let p = err_from_is_err_and c.from_residual.result c.from_residual.ensures.1 in
    rw (p.1, p.2)
    (generate_told v.modulus v.a.now v.b.now v.length v.out.now
    (simp (eq-eqb _ _ c.if-a-ne-A_BYTES.false, eq-eqb _ _ c.if-b-ne-B_BYTES.false, eq-eqb _ _ c.if-odd-ne0.false, ← c.outside.ensures, c.if-outside.false, le-ltb _ _ c.if-n-gt-TERMS.false, ← c.find_flaw.ensures, c.in_err-find_flaw.was))
    refl)

pub returns : goal.returns
unfolding generate_of
returns c =
    let v = c.args in
    generate_told v.modulus v.a.now v.b.now v.length v.out.now
    (simp (eq-eqb _ _ c.if-a-ne-A_BYTES.false, eq-eqb _ _ c.if-b-ne-B_BYTES.false, eq-eqb _ _ c.if-odd-ne0.false, ← c.outside.ensures, c.if-outside.false, le-ltb _ _ c.if-n-gt-TERMS.false, ← c.find_flaw.ensures, c.in_ok-find_flaw.was))
    c.fill.ensures
