-- Laws of the loops over the cells of one row.
-- Assumes nothing.
use mathlib.Core.Path.{◌≡◌, refl, sym, ap, ap₂, ◌∙◌}
use mathlib.Core.List.{List}
use Prim.Native.Nat.{ℕ, zero, suc, ◌+◌, ◌*◌, ◌-◌, ◌%◌, ◌≤◌, ◌<◌}
use native.Mathlib.Nat.{le_refl, mod-eq_of_lt}
use native.Mathlib.Decide.{ℕ_discrete, dec_le}
use native.Mathlib.Omega.{arith}
use lib.ListN.{length, set, length-set}
use lib.Seq.{get_or-set_same, get_or-set_other}
use Rattle.lists.specs.Sum.{sum_to}
use Rattle.lists.specs.Table.{at}
use Rattle.lists.proofs.Sum.{sum_to_cut, sum_to_le}
use Rattle.residue.proofs.Reduction.{product_low}
use Rattle.recurrence.specs.Polynomial.{conv, up}
use Rattle.recurrence.proofs.Series.{summand, conv_comm, conv_sum, shift_below, shift_from}
use Rattle.recurrence.proofs.Polynomial.{at_up}
use Rattle.steps.specs.Sizes.{max_cells, max_terms}
use Rattle.steps.specs.Run.{Below}
use Rattle.steps.specs.Passes.{Clear, Added}

-- ---- a sum of products

-- the sum may stop where f has become 0
pub sum_stop : (f g : ℕ → ℕ) (k l : ℕ) → l ≤ k → ((i : ℕ) → l < i → i ≤ k → f i ≡ zero) → sum_to (suc l) (summand f g k) ≡ conv g f k
sum_stop f g k l h z =
    sym (sum_to_cut (suc k) (suc l) (summand f g k) (omega arith) (λ i a b. ap (λ (x : ℕ). x * g (k - i)) (z i a (omega arith)) ∙ omega arith))
    ∙ sym (conv_sum f g k) ∙ conv_comm f g k

module _ (f g : ℕ → ℕ) (k : ℕ) (hf : (i : ℕ) → i < max_cells → f i < 65536) (hg : (i : ℕ) → i < max_terms → g i < 65536) (h : k < max_terms) where
  pub summand_low : (i : ℕ) → i ≤ k → summand f g k i ≤ 4294836225
  summand_low i l = product_low (f i) (g (k - i)) (hf i (omega arith)) (hg (k - i) (omega arith))

  pub sum_low : (i : ℕ) → i ≤ suc k → sum_to i (summand f g k) ≤ i * 4294836225
  sum_low i l = sum_to_le i 4294836225 (summand f g k) (λ j m. summand_low j (omega arith))

-- ---- a multiple, moved up, is added

up_below : (s : ℕ) (y : List ℕ) (i : ℕ) → i < s → at (up s y) i ≡ zero
up_below s y i h = at_up s y i ∙ shift_below s (at y) i h

up_from : (s : ℕ) (y : List ℕ) (i : ℕ) → s ≤ i → at (up s y) i ≡ at y (i - s)
up_from s y i h = at_up s y i ∙ shift_from s (at y) i h

-- cells that agree still do when they are moved up
pub up_same : (s : ℕ) (x y : List ℕ) (n i : ℕ) → ((j : ℕ) → j < n → at x j ≡ at y j) → i < n → at (up s x) i ≡ at (up s y) i
up_same s x y n i h l = go (dec_le s i)
  where
    go : Dec (s ≤ i) → at (up s x) i ≡ at (up s y) i
    go (yes a) = up_from s x i a ∙ h (i - s) (omega arith) ∙ sym (up_from s y i a)
    go (no a) = up_below s x i (omega arith) ∙ sym (up_below s y i (omega arith))

-- the cells below s + i are done
pub record Adding (n q f s : ℕ) (x₀ y x : List ℕ) (i : ℕ) : Type 0 where
  pub long : length x ≡ length x₀
  pub done : (j : ℕ) → j < s + i → j < n → at x j ≡ (at x₀ j + f * at (up s y) j) % q
  pub todo : (j : ℕ) → s + i ≤ j → at x j ≡ at x₀ j

module _ (n q f s : ℕ) (x₀ y : List ℕ) (red : Below n q x₀) where
  nothing : (j : ℕ) → j < n → at (up s y) j ≡ zero → at x₀ j ≡ (at x₀ j + f * at (up s y) j) % q
  nothing j m z =
      sym (ap (λ (w : ℕ). (at x₀ j + f * w) % q) z
      ∙ ap (λ (w : ℕ). w % q) (let e : at x₀ j + f * zero ≡ at x₀ j = omega arith in e) ∙ mod-eq_of_lt (red j m))

  pub add_start : Adding n q f s x₀ y x₀ zero
  add_start = record { long = refl; done = λ j l m. nothing j m (up_below s y j (omega arith)); todo = λ j l. refl }

  pub add_next : (x : List ℕ) (i v : ℕ) → Adding n q f s x₀ y x i → s + i < length x₀ → v ≡ (at x (s + i) + f * at y i) % q
      → Adding n q f s x₀ y (set x (s + i) v) (i + 1)
  add_next x i v c h value =
      record {
        long = length-set x (s + i) v ∙ c.long;
        done = λ j l. go j (ℕ_discrete j (s + i)) l;
        todo = λ j l. get_or-set_other x (s + i) j v zero (λ e. omega arith) ∙ c.todo j (omega arith);
      }
    where
      moved : at (up s y) (s + i) ≡ at y i
      moved = up_from s y (s + i) (omega arith) ∙ ap (at y) (let e : s + i - s ≡ i = omega arith in e)

      go : (j : ℕ) → Dec (j ≡ s + i) → j < s + (i + 1) → j < n → at (set x (s + i) v) j ≡ (at x₀ j + f * at (up s y) j) % q
      go j (yes e) l m =
          ap (λ (k : ℕ). at (set x (s + i) v) k) e ∙ get_or-set_same x (s + i) v zero (omega (arith, c.long)) ∙ value
          ∙ ap₂ (λ (a b : ℕ). (a + f * b) % q) (c.todo (s + i) (le_refl (s + i))) (sym moved)
          ∙ ap (λ (k : ℕ). (at x₀ k + f * at (up s y) k) % q) (sym e)
      go j (no no_e) l m = get_or-set_other x (s + i) j v zero no_e ∙ c.done j (omega arith) m

  -- y has only m cells that are not 0
  pub add_done : (m i : ℕ) (x : List ℕ) → Clear m n y → m ≤ i → Adding n q f s x₀ y x i → Added n q f s x₀ y x
  add_done m i x none h c = record { long = c.long; cells = λ j l. go j (dec_le (suc j) (s + i)) l }
    where
      go : (j : ℕ) → Dec (j < s + i) → j < n → at x j ≡ (at x₀ j + f * at (up s y) j) % q
      go j (yes l) b = c.done j l b
      go j (no l) b =
          c.todo j (omega arith)
          ∙ nothing j b (up_from s y j (omega arith) ∙ none (j - s) (omega arith) (omega arith))
