-- Testing and running a candidate without a flaw: neither is refused, and the verdict goes by what running gives.
-- Assumes nothing.
use mathlib.Core.Path.{◌≡◌, refl, sym, ◌∙◌, subst}
use mathlib.Core.Logic.{◌⊎◌, inl, inr}
use mathlib.Core.Bool.{Bool, true, false}
use mathlib.Core.List.{List}
use Prim.Native.Nat.{ℕ, zero, ◌*◌, ◌/◌, ◌%◌, ◌≤◌, ◌<◌}
use native.Mathlib.Nat.{le_refl}
use native.Mathlib.Omega.{arith}
use lib.Dec.{ltb}
use lib.ListN.{length}
use borrow.Author.Tests.{ltb-true, ltb-false, lt-ltb, le-ltb, eq-eqb}
use Rattle.std.specs.Prelude.{Some, None, Ok}
use Rattle.lists.specs.Choice.{pick}
use Rattle.lists.specs.Table.{at}
use Rattle.lists.proofs.Table.{at_past}
use Rattle.lists.proofs.Search.{first_le, lt_or_le}
use Rattle.recurrence.specs.Running.{generated, first_difference}
use Rattle.recurrence.proofs.Running.{yes→runs, runs→yes, no→differs, differs→no}
use Rattle.sequence.specs.declared.Sequence.{Sequence}
use Rattle.sequence.specs.Limits.{max_modulus, max_terms, max_cells, a_bytes, b_bytes}
use Rattle.sequence.specs.Rules.{sequence_of, check_of, IsSound}
use Rattle.candidate.specs.Rules.{a_cells, b_cells, flaw_of, IsFine, verdict_of, judge_of, verify_of, generate_of, Verdict}
use Rattle.candidate.proofs.Laws.{fine_of}

-- ---- neither is refused

pub verify_judges : (query a b : List ℕ) (l : ℕ) → check_of query ≡ Ok tt → length a ≡ a_bytes → length b ≡ b_bytes
    → verify_of query a b l ≡ judge_of (sequence_of query) (a_cells a) (b_cells b) l
unfolding verify_of
verify_judges query a b l h ha hb = rw (eq-eqb (length a) a_bytes ha, eq-eqb (length b) b_bytes hb, h)

-- where no refusal of a run before them applies, the candidate's decide
pub generate_flaw :
    (m : ℕ) (a b : List ℕ) (l : ℕ) (cells : List ℕ) → length a ≡ a_bytes → length b ≡ b_bytes → length cells % 2 ≡ zero → 2 ≤ m → m ≤ max_modulus → length cells / 2 ≤ max_terms
    → generate_of m a b l cells ≡ flaw_of m l (a_cells a) (b_cells b)
unfolding generate_of
generate_flaw m a b l cells ha hb even least most few =
    rw (
      eq-eqb (length a) a_bytes ha,
      eq-eqb (length b) b_bytes hb,
      eq-eqb (length cells % 2) 0 even,
      le-ltb m 2 least,
      le-ltb max_modulus m most,
      le-ltb max_terms (length cells / 2) few,
    )

pub generate_done : (m : ℕ) (a b : List ℕ) (l : ℕ) (cells : List ℕ) (n : ℕ) → 2 ≤ m → m ≤ max_modulus → length a ≡ a_bytes → length b ≡ b_bytes
    → flaw_of m l (a_cells a) (b_cells b) ≡ Ok tt → length cells ≡ 2 * n → n ≤ max_terms → generate_of m a b l cells ≡ Ok tt
generate_done m a b l cells n least most ha hb good long few = generate_flaw m a b l cells ha hb (omega arith) least most (omega arith) ∙ good

-- ---- verdicts

yes_none : (n d : ℕ) → verdict_of n d ≡ Ok None → n ≤ d
yes_none n d h = go (ltb d n) refl h
  where
    go : (t : Bool) → ltb d n ≡ t → ◌≡◌ {A = Verdict} (pick t (Ok (Some d)) (Ok None)) (Ok None) → n ≤ d
    go true e h = let z : ◌≡◌ {A = ℕ} 0 1 = cc in absurd (omega arith)
    go false e h = ltb-false _ _ e

no_first : (n d j : ℕ) → verdict_of n d ≡ Ok (Some j) → (d ≡ j) × (d < n)
no_first n d j h = go (ltb d n) refl h
  where
    go : (t : Bool) → ltb d n ≡ t → ◌≡◌ {A = Verdict} (pick t (Ok (Some d)) (Ok None)) (Ok (Some j)) → (d ≡ j) × (d < n)
    go true e h = (cc, ltb-true _ _ e)
    go false e h = let z : ◌≡◌ {A = ℕ} 0 1 = cc in absurd (omega arith)

-- ---- the test against a sound sequence

-- running the candidate gives the term at place i
abbrev pub GivesAt : Sequence → List ℕ → List ℕ → ℕ → ℕ → Type 0
GivesAt s a b l i = at s.terms i ≡ at (generated s.modulus l a b s.count) i

module _ (s : Sequence) (a b : List ℕ) (l : ℕ) (sound : IsSound s) (long_a : length a ≡ max_cells) (long_b : length b ≡ max_terms)
    (good : flaw_of s.modulus l a b ≡ Ok tt) where
  fine : IsFine s.modulus l a b
  fine = fine_of s.modulus l a b good

  judged : judge_of s a b l ≡ verdict_of s.count (first_difference s.modulus s.terms a b s.count)
  unfolding judge_of
  judged = rw good

  within : first_difference s.modulus s.terms a b s.count ≤ s.count
  unfolding first_difference
  within = first_le s.count _

  pos : zero < s.modulus
  pos = omega (arith, sound.least)

  past : (i : ℕ) → l < i → at a i ≡ zero
  past i h = go (lt_or_le i max_cells)
    where
      go : (i < max_cells) ⊎ (max_cells ≤ i) → at a i ≡ zero
      go (inl k) = fine.coefficients.past_a i h k
      go (inr k) = at_past a i (omega arith)

  small : (i : ℕ) → at b i < s.modulus
  small i = go (lt_or_le i max_terms)
    where
      go : (i < max_terms) ⊎ (max_terms ≤ i) → at b i < s.modulus
      go (inl k) = fine.coefficients.below_b i k
      go (inr k) = omega (arith, at_past b i (omega arith), pos)

  pub yes_gives : judge_of s a b l ≡ Ok None → (i : ℕ) → i < s.count → GivesAt s a b l i
  yes_gives h =
      yes→runs s.modulus l a b pos fine.lead past small s.terms s.count sound.below
      (omega (arith, within, yes_none s.count (first_difference s.modulus s.terms a b s.count) (sym judged ∙ h)))

  pub gives_yes : ((i : ℕ) → i < s.count → GivesAt s a b l i) → judge_of s a b l ≡ Ok None
  gives_yes h =
      judged
      ∙ rw (runs→yes s.modulus l a b pos fine.lead past small s.terms s.count sound.below h, le-ltb s.count s.count (le_refl _))

  pub no_differs : (j : ℕ) → judge_of s a b l ≡ Ok (Some j) → (j < s.count) × ((i : ℕ) → i < j → GivesAt s a b l i) × (GivesAt s a b l j → ⊥)
  no_differs j h =
      let e = no_first s.count (first_difference s.modulus s.terms a b s.count) j (sym judged ∙ h) in
      let k : j < s.count = subst (λ (z : ℕ). z < s.count) e.0 e.1 in
      let r = no→differs s.modulus l a b pos fine.lead past small s.terms s.count sound.below j e.0 k in
      (k, r.0, r.1)

  pub differs_no : (j : ℕ) → j < s.count → ((i : ℕ) → i < j → GivesAt s a b l i) → (GivesAt s a b l j → ⊥) → judge_of s a b l ≡ Ok (Some j)
  differs_no j k below other =
      judged
      ∙ rw (differs→no s.modulus l a b pos fine.lead past small s.terms s.count sound.below j k below other, lt-ltb j s.count k)
