-- Laws of the comparison of two sequences: which of its cases holds, and what the code has where they can be merged.
-- Assumes nothing.
use mathlib.Core.Path.{◌≡◌, refl, sym, ap, ap₂, ◌∙◌, subst}
use mathlib.Core.Logic.{◌⊎◌, inl, inr}
use mathlib.Core.Bool.{Bool, true, false, not}
use mathlib.Core.List.{List, ◌∷◌}
use Prim.Native.Nat.{ℕ, zero, ◌*◌, ◌/◌, ◌%◌, ◌≤◌, ◌<◌}
use native.Mathlib.Nat.{div-le_self, mul-le-mul_right}
use native.Mathlib.Omega.{arith}
use lib.Dec.{eqb, ltb}
use lib.ListN.{length, replicate, length-replicate}
use borrow.Author.Tests.{not-false, eqb-true, ltb-true, ltb-false, lt-ltb, le-ltb, eq-eqb, ne_eqb}
use Rattle.std.specs.Prelude.{Ok, Err}
use Rattle.lists.specs.Table.{at, tabulate}
use Rattle.lists.proofs.Search.{lt_or_le, false_true, first_passes, first_before, first_none, is_first}
use Rattle.lists.proofs.Table.{length_tabulate, at_tabulate, at_past, is_tabulate}
use Rattle.residue.specs.Remainders.{joined, two}
use Rattle.residue.specs.Units.{Coprime}
use Rattle.residue.proofs.Common.{met_parts, g_pos, a_whole, b_whole, μ-pos, ν-pos, rest_coprime, multiple_is, multiple_product}
use Rattle.cells.specs.Cell.{bytes_of}
use Rattle.sequence.specs.declared.Sequence.{Sequence}
use Rattle.sequence.specs.declared.Refusal.{Refusal}
use Rattle.sequence.specs.declared.Refusal.TheVariants as R
use Rattle.sequence.specs.Limits.{max_modulus, max_terms}
use Rattle.sequence.specs.Report.{filled}
use Rattle.sequence.specs.Rules.{IsSound, query_of, sequence_of, check_of}
use Rattle.sequence.proofs.Laws.{refused_done, Accepted}
use Rattle.steps.proofs.Passes.{line_blank}
use Rattle.merge.specs.Rules.{divisor_of, multiple_of, merged_query, first_apart, compared_by, compared_of, past_buffers, merged_in}
use Rattle.sequence.specs.Answers.{Outcome, and_then}

-- ---- the cases

-- the terms of both at place i agree modulo the common divisor
abbrev pub AgreeAt : Sequence → Sequence → ℕ → Type 0
AgreeAt s t i = at s.terms i % divisor_of s t ≡ at t.terms i % divisor_of s t

-- two sequences that can be merged
pub record Mergeable (s t : Sequence) : Type 0 where
  pub counts : s.count ≡ t.count
  pub within : multiple_of s t ≤ max_modulus
  pub agree : (i : ℕ) → i < s.count → AgreeAt s t i

-- place i is the first where they disagree
pub record ApartAt (s t : Sequence) (i : ℕ) : Type 0 where
  pub counts : s.count ≡ t.count
  pub within : multiple_of s t ≤ max_modulus
  pub here : i < s.count
  pub apart : AgreeAt s t i → ⊥
  pub before : (j : ℕ) → j < i → AgreeAt s t j

pub data Comparison (s t : Sequence) (o : Outcome) : Type 0 where
  counts : (s.count ≡ t.count → ⊥) → o ≡ Err R.CountsDiffer → Comparison s t o
  multiple : s.count ≡ t.count → max_modulus < multiple_of s t → o ≡ Err R.MultipleAbove → Comparison s t o
  terms : (i : ℕ) → ApartAt s t i → o ≡ Err (R.TermsDisagree i) → Comparison s t o
  merges : Mergeable s t → o ≡ Ok tt → Comparison s t o

module _ (s t : Sequence) where
  abbrev test : ℕ → Bool
  test i = not (eqb (at s.terms i % divisor_of s t) (at t.terms i % divisor_of s t))

  abbrev place : ℕ
  place = first_apart (divisor_of s t) s.terms t.terms s.count

  agree_test : (i : ℕ) → AgreeAt s t i → test i ≡ false
  agree_test i e = ap not (eq-eqb (at s.terms i % divisor_of s t) (at t.terms i % divisor_of s t) e)

  test_agree : (i : ℕ) → test i ≡ false → AgreeAt s t i
  test_agree i e = eqb-true (at s.terms i % divisor_of s t) (at t.terms i % divisor_of s t) (not-false (eqb (at s.terms i % divisor_of s t) (at t.terms i % divisor_of s t)) e)

  pub comparing : Comparison s t (compared_of s t)
  unfolding compared_of
  comparing = go (eqb s.count t.count) refl (ltb max_modulus (multiple_of s t)) refl (ltb place s.count) refl
    where
      go :
          (d : Bool) → eqb s.count t.count ≡ d → (e : Bool) → ltb max_modulus (multiple_of s t) ≡ e → (f : Bool) → ltb place s.count ≡ f
          → Comparison s t (compared_by (not d) e f place)
      go false hd e he f hf = counts (λ h. false_true (sym hd ∙ eq-eqb s.count t.count h)) refl
      go true hd true he f hf = multiple (eqb-true s.count t.count hd) (ltb-true max_modulus (multiple_of s t) he) refl
      go true hd false he true hf =
          terms place
          (record {
            counts = eqb-true s.count t.count hd;
            within = ltb-false max_modulus (multiple_of s t) he;
            here = ltb-true place s.count hf;
            apart = λ h. false_true (sym (agree_test place h) ∙ first_passes s.count test (ltb-true place s.count hf));
            before = λ j h. test_agree j (first_before s.count test j h);
          }) refl
      go true hd false he false hf =
          merges
          (record {
            counts = eqb-true s.count t.count hd;
            within = ltb-false max_modulus (multiple_of s t) he;
            agree = λ i h. test_agree i (first_none s.count test (ltb-false place s.count hf) i h);
          }) refl

  -- and each case gives its reply
  pub counts_told : (s.count ≡ t.count → ⊥) → compared_of s t ≡ Err R.CountsDiffer
  unfolding compared_of
  counts_told h = rw (ne_eqb s.count t.count h) refl

  pub multiple_told : s.count ≡ t.count → max_modulus < multiple_of s t → compared_of s t ≡ Err R.MultipleAbove
  unfolding compared_of
  multiple_told e h = rw (eq-eqb s.count t.count e, lt-ltb max_modulus (multiple_of s t) h) refl

  pub terms_told : (i : ℕ) → ApartAt s t i → compared_of s t ≡ Err (R.TermsDisagree i)
  unfolding compared_of
  terms_told i x =
      rw (eq-eqb s.count t.count x.counts, le-ltb max_modulus (multiple_of s t) x.within, ← found, lt-ltb i s.count x.here) refl
    where
      passes : (b : Bool) → test i ≡ b → b ≡ true
      passes true e = refl
      passes false e = absurd (x.apart (test_agree i e))

      found : i ≡ place
      found = is_first s.count test i (omega (arith, x.here)) (λ j h. agree_test j (x.before j h)) (λ h. passes (test i) refl)

  pub merges_told : Mergeable s t → compared_of s t ≡ Ok tt
  unfolding compared_of
  merges_told x =
      rw (eq-eqb s.count t.count x.counts, le-ltb max_modulus (multiple_of s t) x.within, ← none, le-ltb s.count s.count (omega arith)) refl
    where
      none : s.count ≡ place
      none = is_first s.count test s.count (omega arith) (λ j h. agree_test j (x.agree j h)) (λ h. absurd (omega arith))

  pub mergeable : compared_of s t ≡ Ok tt → Mergeable s t
  mergeable e = go comparing
    where
      go : Comparison s t (compared_of s t) → Mergeable s t
      go (counts h k) = refused_done (sym k ∙ e)
      go (multiple h l k) = refused_done (sym k ∙ e)
      go (terms i x k) = refused_done (sym k ∙ e)
      go (merges x k) = x

-- ---- what the code has

-- A modulus times what is left of another fits its type. So does the product of both, which no code takes: with it the edit that takes it is refused
-- at the promise.
pub product_fits : (a b g : ℕ) → a ≤ max_modulus → b ≤ max_modulus → (a * (b / g) ≤ max_modulus * max_modulus) × (a * b ≤ max_modulus * max_modulus)
product_fits a b g h k = (omega (arith, mul-le-mul_right (b / g) h, div-le_self b g), omega (arith, mul-le-mul_right b h))

-- What is left of two moduli by their common divisor g.
pub record Rests (s t : Sequence) (g : ℕ) : Type 0 where
  pub g_pos : zero < g
  pub mu_pos : zero < s.modulus / g
  pub nu_pos : zero < t.modulus / g
  pub coprime : Coprime (s.modulus / g) (t.modulus / g)
  pub first : s.modulus / g * g ≡ s.modulus
  pub second : t.modulus / g * g ≡ t.modulus
  pub product : s.modulus * (t.modulus / g) ≡ multiple_of s t
  pub multiple : s.modulus / g * (t.modulus / g) * g ≡ multiple_of s t

module _ (s t : Sequence) (S : IsSound s) (T : IsSound t) where
  pub a_pos : zero < s.modulus
  a_pos = omega (arith, S.least)

  pub b_pos : zero < t.modulus
  b_pos = omega (arith, T.least)

  pub rests : (g : ℕ) → g ≡ divisor_of s t → Rests s t g
  rests g e =
      subst (Rests s t) (sym e)
      (record {
        g_pos = g_pos s.modulus t.modulus a_pos b_pos;
        mu_pos = μ-pos s.modulus t.modulus a_pos b_pos;
        nu_pos = ν-pos s.modulus t.modulus a_pos b_pos;
        coprime = rest_coprime s.modulus t.modulus a_pos b_pos;
        first = sym (a_whole s.modulus t.modulus a_pos b_pos);
        second = sym (b_whole s.modulus t.modulus a_pos b_pos);
        product = multiple_product s.modulus t.modulus a_pos b_pos;
        multiple = sym (multiple_is s.modulus t.modulus a_pos b_pos);
      })

  -- the comparison, from its parts
  pub compared_is :
      (g i : ℕ) → g ≡ divisor_of s t → i ≡ first_apart g s.terms t.terms s.count → {r : Outcome}
      → r ≡ compared_by (not (eqb s.count t.count)) (ltb max_modulus (s.modulus * (t.modulus / g))) (ltb i s.count) i → r ≡ compared_of s t
  unfolding compared_of
  compared_is g i eg ei e =
      e ∙ (λ j. compared_by (not (eqb s.count t.count)) (ltb max_modulus ((rests g eg).product j)) (ltb (found j) s.count) (found j))
    where
      found : i ≡ first_apart (divisor_of s t) s.terms t.terms s.count
      found = ei ∙ ap (λ (k : ℕ). first_apart k s.terms t.terms s.count) eg

  -- what the loop that writes the merged terms is handed
  module _ (g : ℕ) (eg : g ≡ divisor_of s t) (x : Mergeable s t) where
    R' : Rests s t g
    R' = rests g eg

    pub multiple_fits : (s.modulus * (t.modulus / g) ≡ s.modulus / g * (t.modulus / g) * g) × (s.modulus * (t.modulus / g) < 65536)
    multiple_fits = (R'.product ∙ sym R'.multiple, omega (arith, R'.product, x.within))

    pub rests_fit : s.modulus / g * (t.modulus / g) < 65536
    rests_fit = met_parts (s.modulus / g) (t.modulus / g) g R'.g_pos (omega (arith, multiple_fits.0, multiple_fits.1))

    pub terms_fit :
        (i : ℕ) → i < s.count
        → (at s.terms i < s.modulus / g * g) × (at t.terms i < t.modulus / g * g) × (at s.terms i % g ≡ at t.terms i % g)
    terms_fit i h = (
      omega (arith, R'.first, S.below i h),
      omega (arith, R'.second, T.below i (omega (arith, x.counts))),
      subst (λ (k : ℕ). at s.terms i % k ≡ at t.terms i % k) (sym eg) (x.agree i h),
    )

    pub merged_is :
        query_of (s.modulus * (t.modulus / g))
        (tabulate s.count (λ i. joined (s.modulus * (t.modulus / g)) (two (s.modulus / g * g) (at s.terms i) (t.modulus / g * g) (at t.terms i))))
        ≡ merged_query s t
    unfolding merged_query
    merged_is =
        λ j. query_of (R'.product j) (tabulate s.count (λ i. joined (R'.product j) (two (R'.first j) (at s.terms i) (R'.second j) (at t.terms i))))

-- ---- the loop that merges them

-- the first i terms are there, and the others are zero
pub record Merging (f : ℕ → ℕ) (i : ℕ) (terms : List ℕ) : Type 0 where
  pub long : length terms ≡ max_terms
  pub done : (j : ℕ) → j < i → at terms j ≡ f j
  pub rest : (j : ℕ) → i ≤ j → at terms j ≡ zero

pub merging_none : (f : ℕ → ℕ) → Merging f zero (replicate max_terms zero)
merging_none f = record { long = length-replicate max_terms zero; done = λ j h. absurd (omega arith); rest = λ j h. line_blank max_terms j }

pub merging_all : {f : ℕ → ℕ} {i n : ℕ} {terms : List ℕ} → Merging f i terms → i ≡ n → terms ≡ tabulate max_terms (at (tabulate n f))
merging_all {f} {i} {n} {terms} m e = is_tabulate max_terms (at (tabulate n f)) zero terms m.long (λ j h. go j (lt_or_le j n))
  where
    go : (j : ℕ) → (j < n) ⊎ (n ≤ j) → at terms j ≡ at (tabulate n f) j
    go j (inl h) = m.done j (omega arith) ∙ sym (at_tabulate n f j h)
    go j (inr h) = m.rest j (omega arith) ∙ sym (at_past (tabulate n f) j (omega (arith, length_tabulate n f)))

-- the query of what was merged
pub written_query : (m n : ℕ) (f : ℕ → ℕ) {terms query : List ℕ} → terms ≡ tabulate max_terms (at (tabulate n f)) → query ≡ bytes_of (m ∷ n ∷ terms)
    → query ≡ query_of m (tabulate n f)
written_query m n f d e = e ∙ ap₂ (λ (k : ℕ) (ts : List ℕ). bytes_of (m ∷ k ∷ ts)) (sym (length_tabulate n f)) d

-- ---- the checks of the two queries

pub first_refused : (x y : List ℕ) {r : Refusal} → check_of x ≡ Err r → Err r ≡ past_buffers x y
first_refused x y e = sym (ap (λ (o : Outcome). and_then o (and_then (check_of y) (compared_of (sequence_of x) (sequence_of y)))) e)

pub second_refused : (x y : List ℕ) {r : Refusal} → check_of x ≡ Ok tt → check_of y ≡ Err r → Err r ≡ past_buffers x y
second_refused x y d e = sym (ap₂ (λ (o p : Outcome). and_then o (and_then p (compared_of (sequence_of x) (sequence_of y)))) d e)

-- where neither is refused, what the merger of the two sequences replies and leaves
pub both_passed :
    (x y old : List ℕ) {s t : Sequence} → Accepted x s → Accepted y t → {r : Outcome} {new : List ℕ}
    → r ≡ compared_of s t → new ≡ filled r (merged_query s t) old
    → record { value : r ≡ past_buffers x y; query_after : new ≡ merged_in r x y old }
both_passed x y old p q {r} told written = record {
  value = told ∙ (λ i. compared_of (p.same i) (q.same i)) ∙ sym (ap₂ (λ (a b : Outcome). and_then a (and_then b (compared_of (sequence_of x) (sequence_of y)))) p.done q.done);
  query_after = written ∙ (λ i. filled r (merged_query (p.same i) (q.same i)) old);
}
