-- Which refusals testing and running reply: those of the query, or those of the candidate, and only these.
-- Assumes nothing.
use mathlib.Core.Path.{◌≡◌, refl, sym, ◌∙◌}
use mathlib.Core.Bool.{Bool, true, false}
use mathlib.Core.Logic.{◌⊎◌, inl, inr}
use mathlib.Core.List.{List}
use Prim.Native.Nat.{ℕ, zero, ◌/◌, ◌%◌, ◌≤◌, ◌<◌}
use native.Mathlib.Omega.{arith}
use lib.Dec.{ltb, eqb}
use lib.ListN.{length}
use borrow.Author.Tests.{ltb-false, eqb-true, eq-eqb}
use Rattle.std.specs.Prelude.{Some, None, Ok, Err}
use Rattle.lists.specs.Choice.{pick}
use Rattle.lists.specs.Table.{at}
use Rattle.recurrence.specs.Running.{first_difference}
use Rattle.sequence.specs.declared.Refusal.{Refusal}
use Rattle.sequence.specs.declared.Refusal.TheVariants as R
use Rattle.sequence.specs.Limits.{max_modulus, max_terms, a_bytes, b_bytes}
use Rattle.sequence.specs.Answers.{refusal, Outcome, and_then}
use Rattle.sequence.specs.Rules.{outside, sequence_of, check_of}
use Rattle.sequence.proofs.Laws.{inside, refused_done, same_number, refused_as}
use Rattle.candidate.specs.Rules.{a_cells, b_cells, flaw_of, Fits, IsFine, verdict_of, judge_of, verify_of, generate_of, Verdict}
use Rattle.candidate.proofs.Testing.{verify_judges}
use Rattle.candidate.proofs.Laws.{Found, long, coefficient, lead, fine, found, of_fine}

-- the refusals of a candidate are numbered from 6 on
pub flaw_large : (m l : ℕ) (a b : List ℕ) {r : Refusal} → flaw_of m l a b ≡ Err r → 5 < (refusal r).number
flaw_large m l a b {r} h = go (found m l a b)
  where
    large : {x : Refusal} → flaw_of m l a b ≡ Err x → 5 < (refusal x).number → 5 < (refusal r).number
    large e k = omega (arith, k, same_number (sym e ∙ h))

    go : Found m l a b (flaw_of m l a b) → 5 < (refusal r).number
    go (long x e) = large e (omega arith)
    go (coefficient x y e) = large e (omega arith)
    go (lead x y z e) = large e (omega arith)
    go (fine f e) = refused_done (sym h ∙ e)

-- each of them with its condition, in both directions
module _ (m l : ℕ) (a b : List ℕ) where
  flaw : Outcome
  flaw = flaw_of m l a b

  -- another refusal, or none
  other : {A : Type 0} {r r' : Refusal} → flaw ≡ Err r → flaw ≡ Err r' → ((refusal r).number ≡ (refusal r').number → ⊥) → A
  other h e k = absurd (k (same_number (sym h ∙ e)))

  none : {A : Type 0} {r : Refusal} → flaw ≡ Err r → flaw ≡ Ok tt → A
  none h e = refused_done (sym h ∙ e)

  pub told_long : flaw_of m l a b ≡ Err R.CandidateLength → max_terms < l
  unfolding flaw
  told_long h = go (found m l a b)
    where
      go : Found m l a b (flaw_of m l a b) → max_terms < l
      go (long x e) = x
      go (coefficient x y e) = other h e (λ k. omega arith)
      go (lead x y z e) = other h e (λ k. omega arith)
      go (fine f e) = none h e

  pub long_told : max_terms < l → flaw_of m l a b ≡ Err R.CandidateLength
  long_told h = go (found m l a b)
    where
      go : Found m l a b (flaw_of m l a b) → flaw_of m l a b ≡ Err R.CandidateLength
      go (long x e) = e
      go (coefficient x y e) = absurd (omega (arith, x, h))
      go (lead x y z e) = absurd (omega (arith, x, h))
      go (fine f e) = absurd (omega (arith, f.short, h))

  pub told_coefficient : flaw_of m l a b ≡ Err R.CandidateCoefficient → (l ≤ max_terms) × (Fits m l a b → ⊥)
  unfolding flaw
  told_coefficient h = go (found m l a b)
    where
      go : Found m l a b (flaw_of m l a b) → (l ≤ max_terms) × (Fits m l a b → ⊥)
      go (long x e) = other h e (λ k. omega arith)
      go (coefficient x y e) = (x, y)
      go (lead x y z e) = other h e (λ k. omega arith)
      go (fine f e) = none h e

  pub coefficient_told : l ≤ max_terms → (Fits m l a b → ⊥) → flaw_of m l a b ≡ Err R.CandidateCoefficient
  coefficient_told h k = go (found m l a b)
    where
      go : Found m l a b (flaw_of m l a b) → flaw_of m l a b ≡ Err R.CandidateCoefficient
      go (long x e) = absurd (omega (arith, x, h))
      go (coefficient x y e) = e
      go (lead x y z e) = absurd (k y)
      go (fine f e) = absurd (k f.coefficients)

  pub told_lead : flaw_of m l a b ≡ Err R.CandidateLead → (l ≤ max_terms) × Fits m l a b × (at a 0 ≡ 1 → ⊥)
  unfolding flaw
  told_lead h = go (found m l a b)
    where
      go : Found m l a b (flaw_of m l a b) → (l ≤ max_terms) × Fits m l a b × (at a 0 ≡ 1 → ⊥)
      go (long x e) = other h e (λ k. omega arith)
      go (coefficient x y e) = other h e (λ k. omega arith)
      go (lead x y z e) = (x, y, z)
      go (fine f e) = none h e

  pub lead_told : l ≤ max_terms → Fits m l a b → (at a 0 ≡ 1 → ⊥) → flaw_of m l a b ≡ Err R.CandidateLead
  lead_told h f k = go (found m l a b)
    where
      go : Found m l a b (flaw_of m l a b) → flaw_of m l a b ≡ Err R.CandidateLead
      go (long x e) = absurd (omega (arith, x, h))
      go (coefficient x y e) = absurd (y f)
      go (lead x y z e) = e
      go (fine g e) = absurd (k g.lead)

  -- a refused one is malformed
  pub told_malformed : {r : Refusal} → flaw_of m l a b ≡ Err r → IsFine m l a b → ⊥
  told_malformed h f = refused_done (sym h ∙ of_fine m l a b f)

-- ---- testing

-- a verdict is no refusal
no_refusal : {A : Type 0} (n i : ℕ) {r : Refusal} → verdict_of n i ≡ Err r → A
no_refusal n i h = go (ltb i n) h
  where
    go : {A : Type 0} {r : Refusal} (b : Bool) → ◌≡◌ {A = Verdict} (pick b (Ok (Some i)) (Ok None)) (Err r) → A
    go true h = let z : ◌≡◌ {A = ℕ} 0 1 = cc in absurd (omega arith)
    go false h = let z : ◌≡◌ {A = ℕ} 0 1 = cc in absurd (omega arith)

-- where the buffers are right, the refusals are those of the query, then those of the candidate
pub verify_query : (query a b : List ℕ) (l : ℕ) {r : Refusal} → length a ≡ a_bytes → length b ≡ b_bytes → check_of query ≡ Err r → verify_of query a b l ≡ Err r
unfolding verify_of
verify_query query a b l ha hb h = rw (eq-eqb (length a) a_bytes ha, eq-eqb (length b) b_bytes hb, h)

pub verify_flaw :
    (query a b : List ℕ) (l : ℕ) {r : Refusal} → length a ≡ a_bytes → length b ≡ b_bytes → check_of query ≡ Ok tt
    → flaw_of (sequence_of query).modulus l (a_cells a) (b_cells b) ≡ Err r → verify_of query a b l ≡ Err r
unfolding judge_of
verify_flaw query a b l ha hb h k = verify_judges query a b l h ha hb ∙ rw k

-- and a refusal other than 5 for a and b is one of these
pub record VerifyRefused (query a b : List ℕ) (l : ℕ) (r : Refusal) : Type 0 where
  pub a_size : length a ≡ a_bytes
  pub b_size : length b ≡ b_bytes
  pub source : (check_of query ≡ Err r) ⊎ ((check_of query ≡ Ok tt) × (flaw_of (sequence_of query).modulus l (a_cells a) (b_cells b) ≡ Err r))

pub verify_refused : (query a b : List ℕ) (l : ℕ) {r : Refusal} → verify_of query a b l ≡ Err r → ((refusal r).number ≡ 5 → ⊥) → VerifyRefused query a b l r
unfolding verify_of judge_of
verify_refused query a b l {r} h other =
    go (eqb (length a) a_bytes) (eqb (length b) b_bytes) (check_of query) flaw refl refl refl refl h
  where
    flaw : Outcome
    flaw = flaw_of (sequence_of query).modulus l (a_cells a) (b_cells b)

    n : ℕ
    n = (sequence_of query).count

    i : ℕ
    i = first_difference (sequence_of query).modulus (sequence_of query).terms (a_cells a) (b_cells b) n

    buffer : {A : Type 0} → ◌≡◌ {A = Verdict} (Err R.Buffer) (Err r) → A
    buffer k = absurd (other (sym (same_number (refused_as k))))

    go :
        (x y : Bool) (o f : Outcome) → eqb (length a) a_bytes ≡ x → eqb (length b) b_bytes ≡ y → check_of query ≡ o → flaw ≡ f
        → pick x (pick y (and_then o (and_then f (verdict_of n i))) (Err R.Buffer)) (Err R.Buffer) ≡ Err r → VerifyRefused query a b l r
    go false y o f x' y' o' f' k = buffer k
    go true false o f x' y' o' f' k = buffer k
    go true true (Err s) f x' y' o' f' k = record { a_size = eqb-true _ _ x'; b_size = eqb-true _ _ y'; source = inl (o' ∙ refused_as k) }
    go true true (Ok _) (Err s) x' y' o' f' k = record { a_size = eqb-true _ _ x'; b_size = eqb-true _ _ y'; source = inr (o', f' ∙ refused_as k) }
    go true true (Ok _) (Ok _) x' y' o' f' k = no_refusal n i k

-- ---- running

-- where a run is refused by a number above 5, no refusal before those of the candidate applies
pub record GenerateRefused (m : ℕ) (a b : List ℕ) (l : ℕ) (cells : List ℕ) (r : Refusal) : Type 0 where
  pub a_size : length a ≡ a_bytes
  pub b_size : length b ≡ b_bytes
  pub even : length cells % 2 ≡ zero
  pub limits : (2 ≤ m) × (m ≤ max_modulus)
  pub count : length cells / 2 ≤ max_terms
  pub source : flaw_of m l (a_cells a) (b_cells b) ≡ Err r

pub generate_refused : (m : ℕ) (a b : List ℕ) (l : ℕ) (cells : List ℕ) {r : Refusal} → generate_of m a b l cells ≡ Err r → 5 < (refusal r).number → GenerateRefused m a b l cells r
unfolding generate_of
generate_refused m a b l cells {r} h large =
    go (eqb (length a) a_bytes) (eqb (length b) b_bytes) (eqb (length cells % 2) 0) (outside m) (ltb max_terms (length cells / 2)) refl refl refl refl refl h
  where
    -- the number of another refusal is too small
    other : {x : Refusal} {A : Type 0} → (refusal x).number ≤ 5 → ◌≡◌ {A = Outcome} (Err x) (Err r) → A
    other small k = absurd (omega (arith, small, large, same_number k))

    flaw : Outcome
    flaw = flaw_of m l (a_cells a) (b_cells b)

    go :
        (p q s t u : Bool) → eqb (length a) a_bytes ≡ p → eqb (length b) b_bytes ≡ q → eqb (length cells % 2) 0 ≡ s → outside m ≡ t → ltb max_terms (length cells / 2) ≡ u
        → pick p (pick q (pick s (pick t (Err R.Modulus) (pick u (Err R.Count) flaw)) (Err R.Buffer)) (Err R.Buffer)) (Err R.Buffer) ≡ Err r
        → GenerateRefused m a b l cells r
    go false q s t u p' q' s' t' u' k = other (omega arith) k
    go true false s t u p' q' s' t' u' k = other (omega arith) k
    go true true false t u p' q' s' t' u' k = other (omega arith) k
    go true true true true u p' q' s' t' u' k = other (omega arith) k
    go true true true false true p' q' s' t' u' k = other (omega arith) k
    go true true true false false p' q' s' t' u' k =
        record { a_size = eqb-true _ _ p'; b_size = eqb-true _ _ q'; even = eqb-true _ _ s'; limits = inside m t'; count = ltb-false _ _ u'; source = k }
