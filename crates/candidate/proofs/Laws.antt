-- Laws of candidates: what each refusal says of one, what generates the terms passes, and what the loops of a test and of a run know.
-- Assumes nothing.
use mathlib.Core.Path.{◌≡◌, refl, sym, ap, ap₂, ◌∙◌}
use mathlib.Core.Bool.{Bool, true, false, not}
use mathlib.Core.List.{List}
use Prim.Native.Nat.{ℕ, zero, suc, ◌+◌, ◌*◌, ◌-◌, ◌%◌, ◌≤◌, ◌<◌, min}
use native.Mathlib.Nat.{mod-mod}
use native.Mathlib.Numerals.{add-one}
use native.Mathlib.Omega.{arith}
use lib.Dec.{ltb, eqb}
use lib.ListN.{length}
use borrow.Author.Tests.{ltb-true, ltb-false, eqb-true, lt-ltb, le-ltb, eq-eqb, ne_eqb}
use Rattle.std.specs.Prelude.{Ok, Err}
use Rattle.lists.specs.Choice.{both}
use Rattle.lists.specs.Table.{at}
use Rattle.lists.specs.Sum.{sum_to}
use Rattle.lists.proofs.Search.{false_true, both_left, both_right, both_true, all_true, all_at, none_first}
use Rattle.lists.proofs.Sum.{sum_to_more}
use Rattle.residue.specs.Congruence.{neg}
use Rattle.residue.specs.Reduction.{two48}
use Rattle.cells.specs.Cell.{cell_at, cells_from}
use Rattle.cells.proofs.Laws.{at_cells, Written, written_at}
use Rattle.recurrence.specs.Polynomial.{conv}
use Rattle.recurrence.specs.Running.{cell, generated, first_difference}
use Rattle.recurrence.proofs.Series.{summand, conv_sum, conv_comm}
use Rattle.recurrence.proofs.Running.{generated_length, generated_at, cell_same, cell_lt}
use Rattle.sequence.specs.declared.Refusal.TheVariants as R
use Rattle.sequence.specs.Limits.{max_cells, max_terms}
use Rattle.sequence.specs.Rules.{zero_from}
use Rattle.sequence.proofs.Laws.{zero_from_lem, zero_at, refused_done}
use Rattle.candidate.specs.Rules.{all_below, fits, flaw_by, flaw_of, Fits, IsFine}
use Rattle.sequence.specs.Answers.{Outcome}

-- ---- what is wrong with a candidate

pub of_fits : (m l : ℕ) (a b : List ℕ) → Fits m l a b → fits m l a b ≡ true
of_fits m l a b f =
    both_true (all_true max_cells (λ i. ltb (at a i) m) (λ i h. lt-ltb (at a i) m (f.below_a i h)))
    (both_true (all_true max_terms (λ i. ltb (at b i) m) (λ i h. lt-ltb (at b i) m (f.below_b i h)))
    (both_true (zero_from_lem (l + 1) max_cells a (λ i h k. f.past_a i (omega arith) k))
    (zero_from_lem l max_terms b f.past_b)))

pub fits_of : (m l : ℕ) (a b : List ℕ) → fits m l a b ≡ true → Fits m l a b
fits_of m l a b h =
    record {
      below_a = λ i k. ltb-true _ _ (all_at max_cells _ (both_left _ _ h) i k);
      below_b = λ i k. ltb-true _ _ (all_at max_terms _ (both_left _ _ below) i k);
      past_a = λ i k n. zero_at (l + 1) max_cells a (both_left _ _ past) i (omega arith) n;
      past_b = zero_at l max_terms b (both_right (zero_from (l + 1) max_cells a) _ past);
    }
  where
    below : both (all_below m max_terms b) (both (zero_from (l + 1) max_cells a) (zero_from l max_terms b)) ≡ true
    below = both_right (all_below m max_cells a) _ h

    past : both (zero_from (l + 1) max_cells a) (zero_from l max_terms b) ≡ true
    past = both_right (all_below m max_terms b) _ below

-- each of the three refusals with its condition, or none of them
pub data Found (m l : ℕ) (a b : List ℕ) (o : Outcome) : Type 0 where
  long : max_terms < l → o ≡ Err R.CandidateLength → Found m l a b o
  coefficient : l ≤ max_terms → (Fits m l a b → ⊥) → o ≡ Err R.CandidateCoefficient → Found m l a b o
  lead : l ≤ max_terms → Fits m l a b → (at a 0 ≡ 1 → ⊥) → o ≡ Err R.CandidateLead → Found m l a b o
  fine : IsFine m l a b → o ≡ Ok tt → Found m l a b o

pub found : (m l : ℕ) (a b : List ℕ) → Found m l a b (flaw_of m l a b)
unfolding flaw_of
found m l a b = go (ltb max_terms l) (fits m l a b) (eqb (at a 0) 1) refl refl refl
  where
    go : (x y z : Bool) → ltb max_terms l ≡ x → fits m l a b ≡ y → eqb (at a 0) 1 ≡ z → Found m l a b (flaw_by x (not y) (not z))
    go true y z x' y' z' = long (ltb-true _ _ x') refl
    go false false z x' y' z' = coefficient (ltb-false _ _ x') (λ f. false_true (sym y' ∙ of_fits m l a b f)) refl
    go false true false x' y' z' = lead (ltb-false _ _ x') (fits_of m l a b y') (λ e. false_true (sym z' ∙ eq-eqb _ _ e)) refl
    go false true true x' y' z' = fine (record { short = ltb-false _ _ x'; coefficients = fits_of m l a b y'; lead = eqb-true _ _ z' }) refl

pub of_fine : (m l : ℕ) (a b : List ℕ) → IsFine m l a b → flaw_of m l a b ≡ Ok tt
unfolding flaw_of
of_fine m l a b f = rw (le-ltb max_terms l f.short, of_fits m l a b f.coefficients, eq-eqb (at a 0) 1 f.lead)

-- nothing wrong was found with it
pub fine_of : (m l : ℕ) (a b : List ℕ) → flaw_of m l a b ≡ Ok tt → IsFine m l a b
fine_of m l a b h = go (found m l a b)
  where
    go : Found m l a b (flaw_of m l a b) → IsFine m l a b
    go (long x e) = refused_done (sym e ∙ h)
    go (coefficient x y e) = refused_done (sym e ∙ h)
    go (lead x y z e) = refused_done (sym e ∙ h)
    go (fine f e) = f

-- ---- the loops that sum products

-- the sum of the first i products by the rule f: it fits while i is small
pub record Summed (f : ℕ → ℕ) (i sum : ℕ) : Type 0 where
  pub is : sum ≡ sum_to i f
  pub small : sum ≤ i * two48

pub summed_none : {f : ℕ → ℕ} → Summed f 0 0
unfolding sum_to
summed_none = record { is = refl; small = omega arith }

pub summed_more : {f : ℕ → ℕ} {i sum : ℕ} (x : ℕ) → Summed f i sum → x ≡ f i → x ≤ two48 → Summed f (i + 1) (sum + x)
summed_more {f} {i} {sum} x s e h = record { is = ap₂ ◌+◌ s.is e ∙ sym (sum_to_more i f); small = omega (arith, s.small) }

-- ---- testing

-- the products of place j
abbrev pub places : List ℕ → List ℕ → ℕ → ℕ → ℕ
places S a j = summand (at a) (at S) j

pub is_place : (S a : List ℕ) (j i x r : ℕ) → i < max_cells → x ≡ cell_at a i → r ≡ x * at S (j - i) → r ≡ places S (cells_from a 0 max_cells) j i
is_place S a j i x r h e p = p ∙ ap (λ (z : ℕ). z * at S (j - i)) (e ∙ sym (at_cells a max_cells i h))

-- all of them
pub summed_all : (S a : List ℕ) (j : ℕ) {i sum : ℕ} → Summed (places S a j) i sum → i ≡ suc j → sum ≡ conv (at S) (at a) j
summed_all S a j s last = s.is ∙ ap (λ (k : ℕ). sum_to k (places S a j)) last ∙ sym (conv_sum (at a) (at S) j) ∙ conv_comm (at a) (at S) j

-- the test of place j
module _ (S a b : List ℕ) (m j sum r x : ℕ) (whole : sum ≡ conv (at S) (at a) j) (d : r ≡ sum % m) (e : x ≡ at b j) where
  rest : r ≡ conv (at S) (at a) j % m
  rest = d ∙ ap (λ (z : ℕ). z % m) whole

  pub agrees : r ≡ x → not (eqb (conv (at S) (at a) j % m) (at b j)) ≡ false
  agrees h = ap not (eq-eqb (conv (at S) (at a) j % m) (at b j) (sym rest ∙ h ∙ e))

  pub differs : (r ≡ x → ⊥) → not (eqb (conv (at S) (at a) j % m) (at b j)) ≡ true
  differs h = ap not (ne_eqb (conv (at S) (at a) j % m) (at b j) (λ q. h (rest ∙ q ∙ sym e)))

-- ---- running

-- the products of cell j, among the cells before it
abbrev pub backs : List ℕ → List ℕ → ℕ → ℕ → ℕ
backs a cells j i = at a (suc i) * at cells (j - suc i)

pub is_back :
    (a out : List ℕ) (j i x y r : ℕ) → i < j → i < max_terms → x ≡ cell_at a (i + 1) → y ≡ cell_at out (j - (i + 1)) → r ≡ x * y
    → r ≡ backs (cells_from a 0 max_cells) (cells_from out 0 j) j i
is_back a out j i x y r h k e f p =
    p ∙ ap₂ ◌*◌ (e ∙ sym (at_cells a max_cells (i + 1) (omega arith)) ∙ ap (at (cells_from a 0 max_cells)) (add-one i))
    (f ∙ sym (at_cells out j (j - (i + 1)) (omega arith)) ∙ ap (λ (z : ℕ). at (cells_from out 0 j) (j - z)) (add-one i))

pub is_next :
    (m l : ℕ) (a b cells : List ℕ) (j i sum y x r : ℕ) → i ≡ min l j → sum ≡ sum_to i (backs a cells j) → y ≡ sum % m → x ≡ at b j
    → r ≡ (x + neg m y) % m → r ≡ cell m l a b cells j
unfolding cell neg
is_next m l a b cells j i sum y x r hi hs hy hx hr =
    hr
    ∙ ap₂ (λ (y z : ℕ). (y + (m - z)) % m) hx
    (ap (λ (z : ℕ). z % m) hy ∙ mod-mod sum m ∙ ap (λ (z : ℕ). z % m) (hs ∙ ap (λ (k : ℕ). sum_to k (backs a cells j)) hi))

-- as many bytes as the cells of a run take
pub run_fits : (m l : ℕ) (a b : List ℕ) (n : ℕ) (out : List ℕ) → length out ≡ 2 * n → length out ≡ 2 * length (generated m l a b n)
run_fits m l a b n out h = h ∙ ap (λ (z : ℕ). 2 * z) (sym (generated_length m l a b n))

-- the cell made from a buffer that holds the cells before it
pub run_cell :
    (m l : ℕ) (a b : List ℕ) (n j v : ℕ) (out₀ out : List ℕ) → zero < m → m < 65536 → j < n → length out₀ ≡ 2 * n → Written (generated m l a b n) out₀ j out
    → v ≡ cell m l a b (cells_from out 0 j) j → v ≡ at (generated m l a b n) j
run_cell m l a b n j v out₀ out pos small h fits w e =
    e ∙ cell_same m l a b (cells_from out 0 j) (generated m l a b j) j held ∙ sym (generated_at m l a b n j h)
  where
    held : (i : ℕ) → i < j → at (cells_from out 0 j) i ≡ at (generated m l a b j) i
    held i k =
        at_cells out j i k
        ∙ written_at (run_fits m l a b n out₀ fits) i w k
        (rw (generated_at m l a b n i (omega arith)) (omega (arith, cell_lt m l a b pos (generated m l a b i) i)))
        ∙ generated_at m l a b n i (omega arith) ∙ sym (generated_at m l a b j i k)

-- ---- candidates that pass

-- no place differs
pub no_difference : (m : ℕ) (S a b : List ℕ) (n : ℕ) → ((j : ℕ) → j < n → conv (at S) (at a) j % m ≡ at b j) → first_difference m S a b n ≡ n
unfolding first_difference
no_difference m S a b n h = none_first n _ (λ j k. ap not (eq-eqb (conv (at S) (at a) j % m) (at b j) (h j k)))
