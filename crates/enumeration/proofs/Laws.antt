-- Laws of the number of sequences: what is known where it is within the limits, and when each refusal is given; of the sequence with a number.
-- Assumes nothing.
use mathlib.Core.Path.{◌≡◌, refl, sym, ap, ap₂, ◌∙◌, subst}
use mathlib.Core.Logic.{◌⊎◌, inl, inr}
use mathlib.Core.Bool.{Bool, true, false}
use mathlib.Core.List.{List, ◌∷◌}
use Prim.Native.Nat.{ℕ, zero, suc, ◌^◌, ◌≤◌, ◌<◌, min}
use native.Mathlib.Nat.{pow-le-pow_left, pow-le-pow_right}
use native.Mathlib.Decide.{dec_le}
use native.Mathlib.Omega.{arith}
use lib.ListN.{length}
use borrow.Author.Tests.{lt-ltb, le-ltb, eq-eqb, ne_eqb}
use Rattle.std.specs.Prelude.{Ok, Err}
use Rattle.lists.specs.Table.{at, tabulate}
use Rattle.lists.proofs.Search.{lt_or_le}
use Rattle.lists.proofs.Table.{at_tabulate}
use Rattle.cells.specs.Cell.{bytes_of}
use Rattle.residue.proofs.Congruence.{of_eq}
use Rattle.recurrence.specs.Register.{complexity}
use Rattle.recurrence.proofs.Register.{complexity_same}
use Rattle.counting.specs.Numbering.{list_at}
use Rattle.counting.proofs.Numbering.{list_at_length, list_at_below}
use Rattle.steps.specs.Run.{Below}
use Rattle.sequence.specs.declared.Refusal.{Refusal}
use Rattle.sequence.specs.declared.Refusal.TheVariants as R
use Rattle.sequence.specs.Limits.{max_modulus, max_terms, query_bytes}
use Rattle.sequence.specs.Rules.{outside}
use Rattle.sequence.proofs.Laws.{inside}
use Rattle.enumeration.specs.Rules.{max_sequences, lengths, tally_bytes, counted_of, number_in, tally_in, enumerate_of, query_numbered, tally_of, Counted}

-- ---- the power

-- at most 4,096 sequences: at most 12 terms
few_terms : (m n : ℕ) → 2 ≤ m → m ^ n ≤ max_sequences → n < lengths
few_terms m n big h = go (dec_le n 12)
  where
    go : Dec (n ≤ 12) → n < lengths
    go (yes k) = omega arith
    go (no k) = absurd (omega (arith, pow-le-pow_left big 13, pow-le-pow_right {n = m} (let z : zero < m = omega arith in z) {i = 13} {j = n} (omega arith)))

-- ---- m and n within the limits, with k sequences

pub record Legal (m n k : ℕ) : Type 0 where
  pub least : 2 ≤ m
  pub most : m ≤ max_modulus
  pub count : n ≤ max_terms
  pub few : n < lengths
  pub power : k ≡ m ^ n
  pub small : k ≤ max_sequences

pub legal : (m n : ℕ) → 2 ≤ m → m ≤ max_modulus → m ^ n ≤ max_sequences → Legal m n (m ^ n)
legal m n least most small =
    let few = few_terms m n least small in
    record { least = least; most = most; count = omega arith; few = few; power = refl; small = small }

-- ---- what is said of m and n

-- they are refused by r, or k sequences are counted
abbrev pub RefusedBy : ℕ → ℕ → Refusal → Type 0
RefusedBy m n r = counted_of m n ≡ Err r

abbrev pub CountedAs : ℕ → ℕ → ℕ → Type 0
CountedAs m n k = counted_of m n ≡ Ok k

module _ (m n : ℕ) where
  pub counted_modulus : outside m ≡ true → RefusedBy m n R.Modulus
  unfolding counted_of
  counted_modulus h = rw h

  pub counted_count : 2 ≤ m → m ≤ max_modulus → max_terms < n → RefusedBy m n R.Count
  unfolding counted_of
  counted_count a b h = rw (le-ltb m 2 a, le-ltb max_modulus m b, lt-ltb max_terms n h)

  pub counted_many : 2 ≤ m → m ≤ max_modulus → n ≤ max_terms → max_sequences < m ^ n → RefusedBy m n R.Census
  unfolding counted_of
  counted_many a b c h = rw (le-ltb m 2 a, le-ltb max_modulus m b, le-ltb max_terms n c, lt-ltb max_sequences (m ^ n) h)

  pub counted_fits : {k : ℕ} → Legal m n k → CountedAs m n k
  unfolding counted_of
  counted_fits {k} h =
      rw (le-ltb m 2 h.least, le-ltb max_modulus m h.most, le-ltb max_terms n h.count, le-ltb max_sequences (m ^ n) (omega (arith, h.power, h.small)))
      (ap Ok (sym h.power))

  -- the power cut above the limit tells
  pub counted_power : 2 ≤ m → m ≤ max_modulus → {k : ℕ} → k ≡ min (m ^ n) (suc max_sequences) → k ≤ max_sequences → Ok k ≡ counted_of m n
  counted_power a b {k} e h =
      let power : k ≡ m ^ n = omega arith in
      sym (counted_fits (subst (Legal m n) (sym power) (legal m n a b (omega arith))))

  -- one of the four is
  pub data Count : Type 0 where
    modulus : outside m ≡ true → RefusedBy m n R.Modulus → Count
    count : 2 ≤ m → m ≤ max_modulus → max_terms < n → RefusedBy m n R.Count → Count
    many : 2 ≤ m → m ≤ max_modulus → n ≤ max_terms → max_sequences < m ^ n → RefusedBy m n R.Census → Count
    fits : Legal m n (m ^ n) → CountedAs m n (m ^ n) → Count

  pub counting : Count
  counting = go (outside m) refl (lt_or_le max_terms n) (lt_or_le max_sequences (m ^ n))
    where
      go : (b : Bool) → outside m ≡ b → (max_terms < n) ⊎ (n ≤ max_terms) → (max_sequences < m ^ n) ⊎ (m ^ n ≤ max_sequences) → Count
      go true e c d = modulus e (counted_modulus e)
      go false e (inl h) d = let i = inside m e in count i.0 i.1 h (counted_count i.0 i.1 h)
      go false e (inr c) (inl h) = let i = inside m e in many i.0 i.1 c h (counted_many i.0 i.1 c h)
      go false e (inr c) (inr h) = let i = inside m e in fits (legal m n i.0 i.1 h) (counted_fits (legal m n i.0 i.1 h))

  -- they are counted only within the limits
  pub counted : (k : ℕ) → CountedAs m n k → Legal m n k
  counted k e = go counting
    where
      -- how many are said, if any
      said : Counted → ℕ
      said (Ok x) = suc x
      said (Err r) = zero

      refused : {r : Refusal} → RefusedBy m n r → ⊥
      refused h = let z : zero ≡ suc k = ap said (sym h ∙ e) in omega arith

      go : Count → Legal m n k
      go (modulus a h) = absurd (refused h)
      go (count a b c h) = absurd (refused h)
      go (many a b c d h) = absurd (refused h)
      go (fits l h) = subst (Legal m n) (let z : m ^ n ≡ k = omega (arith, ap said (sym h ∙ e)) in z) l

-- ---- the replies

pub number_refused : (k x : ℕ) → k ≤ x → Err R.Census ≡ number_in (Ok k) x
number_refused k x h = rw (le-ltb x k h)

pub number_taken : (k x : ℕ) → x < k → (Ok tt) ≡ number_in (Ok k) x
number_taken k x h = rw (lt-ltb x k h)

module _ (m n : ℕ) where
  pub enumerate_buffer : (x : ℕ) (query : List ℕ) → (length query ≡ query_bytes → ⊥) → enumerate_of m n x query ≡ Err R.Buffer
  unfolding enumerate_of
  enumerate_buffer x query h = rw (ne_eqb (length query) query_bytes h)

  pub enumerate_counted : (x : ℕ) (query : List ℕ) {c : Counted} → length query ≡ query_bytes → counted_of m n ≡ c → enumerate_of m n x query ≡ number_in c x
  unfolding enumerate_of
  enumerate_counted x query h e = rw (eq-eqb (length query) query_bytes h) (ap (λ (z : Counted). number_in z x) e)

  pub enumerate_refused : (x : ℕ) (query : List ℕ) {r : Refusal} → length query ≡ query_bytes → RefusedBy m n r → enumerate_of m n x query ≡ Err r
  enumerate_refused x query h e = enumerate_counted x query h e

  pub enumerate_large : (x : ℕ) (query : List ℕ) {k : ℕ} → length query ≡ query_bytes → CountedAs m n k → k ≤ x → enumerate_of m n x query ≡ Err R.Census
  enumerate_large x query {k} h e b = enumerate_counted x query h e ∙ sym (number_refused k x b)

  pub enumerate_done : (x : ℕ) (query : List ℕ) {k : ℕ} → length query ≡ query_bytes → CountedAs m n k → x < k → enumerate_of m n x query ≡ Ok tt
  enumerate_done x query {k} h e b = enumerate_counted x query h e ∙ sym (number_taken k x b)

  pub tally_buffer : (cells : List ℕ) → (length cells ≡ tally_bytes → ⊥) → tally_of m n cells ≡ Err R.Buffer
  unfolding tally_of
  tally_buffer cells h = rw (ne_eqb (length cells) tally_bytes h)

  pub tally_counted : (cells : List ℕ) {c : Counted} → length cells ≡ tally_bytes → counted_of m n ≡ c → tally_of m n cells ≡ tally_in c
  unfolding tally_of
  tally_counted cells h e = rw (eq-eqb (length cells) tally_bytes h) (ap tally_in e)

  pub tally_refused : (cells : List ℕ) {r : Refusal} → length cells ≡ tally_bytes → RefusedBy m n r → tally_of m n cells ≡ Err r
  tally_refused cells h e = tally_counted cells h e

  pub tally_done : (cells : List ℕ) {k : ℕ} → length cells ≡ tally_bytes → CountedAs m n k → tally_of m n cells ≡ Ok tt
  tally_done cells h e = tally_counted cells h e

-- ---- the sequence with a number

-- the query of its terms
pub query_is : (m n x : ℕ) {terms query : List ℕ} → terms ≡ tabulate max_terms (at (list_at m n x)) → query ≡ bytes_of (m ∷ n ∷ terms) → query ≡ query_numbered m n x
unfolding query_numbered
query_is m n x d e = e ∙ ap₂ (λ (k : ℕ) (ts : List ℕ). bytes_of (m ∷ k ∷ ts)) (sym (list_at_length m n x)) d

-- ---- the length of a sequence

module _ (m n x : ℕ) (least : 2 ≤ m) (most : m ≤ max_modulus) (few : n ≤ max_terms) {terms : List ℕ} (is : terms ≡ tabulate max_terms (at (list_at m n x))) where
  term : (j : ℕ) → j < max_terms → at terms j ≡ at (list_at m n x) j
  term j h = ap (λ (ts : List ℕ). at ts j) is ∙ at_tabulate max_terms (at (list_at m n x)) j h

  pub terms_below : Below max_terms 65536 terms
  terms_below j h = omega (arith, term j h, list_at_below m (let z : zero < m = omega arith in z) n x j)

  pub length_is : {r : ℕ} → (r ≡ complexity m terms n) × (r ≤ n) → (r ≡ complexity m (list_at m n x) n) × (r ≤ n)
  length_is (e, h) = (e ∙ complexity_same m least terms (list_at m n x) n (λ j k. of_eq (term j (omega arith))), h)
