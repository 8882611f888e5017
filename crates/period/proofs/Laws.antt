-- Laws of the reply: which of its cases holds, and what a length that is told is.
-- Assumes nothing.
use mathlib.Core.Path.{◌≡◌, refl, sym, ap, ◌∙◌, subst}
use mathlib.Core.Logic.{◌≢◌}
use mathlib.Core.List.{List}
use Prim.Native.Nat.{ℕ, zero, ◌+◌, ◌*◌, ◌/◌, ◌%◌, ◌^◌, ◌≤◌, ◌<◌}
use native.Mathlib.Nat.{lt_irrefl, mod-lt, one-le-pow}
use native.Mathlib.Omega.{arith}
use lib.Dec.{eqb, leb}
use lib.ListN.{length}
use borrow.Author.Tests.{eqb-true, leb-true, leb-false, lt-leb, le-leb, lt-ltb, le-ltb, eq-eqb, ne_eqb}
use Rattle.std.specs.Prelude.{Ok, Err}
use Rattle.lists.specs.Table.{at}
use Rattle.lists.specs.Search.{first}
use Rattle.lists.proofs.Table.{length_tabulate}
use Rattle.lists.proofs.Search.{first_le, first_passes, first_before, first_none, none_first, is_first}
use Rattle.cells.specs.Cell.{cell_at, cells_from}
use Rattle.cells.proofs.Laws.{at_cells}
use Rattle.residue.proofs.Congruence.{pow_lt}
use Rattle.recurrence.specs.Least.{Least}
use Rattle.sequence.specs.declared.Refusal.TheVariants as R
use Rattle.sequence.specs.Rules.{first_large}
use Rattle.period.specs.Halving.{halving, Binary}
use Rattle.period.specs.Rules.{periods, max_period, exponent, digits_in, period_length_of}
use Rattle.period.proofs.Halving.{halving_same, halving_le}
use Rattle.period.proofs.Loops.{power_small}
use Rattle.period.proofs.Least.{least_repeated}

-- ---- the exponent

-- one that is found is that of the power
pub exponent_power : (n : ℕ) → exponent n < periods → n ≡ 2 ^ exponent n
unfolding exponent
exponent_power n h = eqb-true n (2 ^ first periods (λ w. eqb n (2 ^ w))) (first_passes periods (λ w. eqb n (2 ^ w)) h)

-- and that of a power is found
pub power_exponent : (w : ℕ) → w < periods → exponent (2 ^ w) ≡ w
unfolding exponent
power_exponent w h =
    sym (is_first periods (λ v. eqb (2 ^ w) (2 ^ v)) w (omega arith) (λ v l. ne_eqb (2 ^ w) (2 ^ v) (λ e. lt_irrefl (2 ^ v) (rw e at (pow_lt 2 w (omega arith) l))))
    (λ l. eq-eqb (2 ^ w) (2 ^ w) refl))

-- ---- the digits

-- none of the first n cells is above 1
abbrev pub BelowTwo : List ℕ → ℕ → Type 0
BelowTwo cells n = (j : ℕ) → j < n → cell_at cells j < 2

module _ (cells : List ℕ) (n : ℕ) where
  pub digits_none : n ≤ first_large 2 (cells_from cells 0 n) n → BelowTwo cells n
  digits_none h j l =
      subst (λ (x : ℕ). x < 2) (at_cells cells n j l)
      (leb-false 2 (at (cells_from cells 0 n) j) (first_none n (λ i. leb 2 (at (cells_from cells 0 n) i)) h j l))

  pub none_digits : BelowTwo cells n → first_large 2 (cells_from cells 0 n) n ≡ n
  none_digits small =
      none_first n (λ i. leb 2 (at (cells_from cells 0 n) i))
      (λ j l. lt-leb 2 (at (cells_from cells 0 n) j) (subst (λ (x : ℕ). x < 2) (sym (at_cells cells n j l)) (small j l)))

  -- i is the first place of one above 1
  pub is_large : (i : ℕ) → i < n → 2 ≤ cell_at cells i → BelowTwo cells i → i ≡ first_large 2 (cells_from cells 0 n) n
  is_large i h large before =
      is_first n (λ i. leb 2 (at (cells_from cells 0 n) i)) i (omega arith)
      (λ j l. lt-leb 2 (at (cells_from cells 0 n) j) (subst (λ (x : ℕ). x < 2) (sym (at_cells cells n j (omega arith))) (before j l)))
      (λ l. le-leb 2 (at (cells_from cells 0 n) i) (subst (λ (x : ℕ). 2 ≤ x) (sym (at_cells cells n i h)) large))

  -- what stands there, and before it
  pub large_at : first_large 2 (cells_from cells 0 n) n < n → 2 ≤ cell_at cells (first_large 2 (cells_from cells 0 n) n)
  large_at h =
      subst (λ (x : ℕ). 2 ≤ x) (at_cells cells n (first_large 2 (cells_from cells 0 n) n) h)
      (leb-true 2 (at (cells_from cells 0 n) (first_large 2 (cells_from cells 0 n) n)) (first_passes n (λ i. leb 2 (at (cells_from cells 0 n) i)) h))

  pub large_before : BelowTwo cells (first_large 2 (cells_from cells 0 n) n)
  large_before j l =
      subst (λ (x : ℕ). x < 2) (at_cells cells n j (omega (arith, first_le n (λ i. leb 2 (at (cells_from cells 0 n) i)))))
      (leb-false 2 (at (cells_from cells 0 n) j) (first_before n (λ i. leb 2 (at (cells_from cells 0 n) i)) j l))

  -- x was loaded from digits, up to place i, which is their end
  pub loaded_small : (i : ℕ) → i ≡ first_large 2 (cells_from cells 0 n) n → n ≤ i → (j x : ℕ) → j < n → (j < i → x ≡ cell_at cells j) → x < 2
  loaded_small i e h j x l same = omega (arith, same (omega arith), digits_none (omega arith) j l)

-- ---- the cases of the reply, as the code meets them

module _ (cells : List ℕ) where
  abbrev n : ℕ
  n = length cells / 2

  pub reply_odd : length cells % 2 ≢ zero → Err R.Buffer ≡ period_length_of cells
  unfolding period_length_of
  reply_odd h = rw (ne_eqb (length cells % 2) zero h)

  module _ (even : length cells % 2 ≡ zero) (w : ℕ) (told : w ≡ exponent n) where
    pub reply_period : periods ≤ w → Err R.Period ≡ period_length_of cells
    unfolding period_length_of
    reply_period h = rw (eq-eqb (length cells % 2) zero even, le-ltb (exponent n) periods (omega arith))

    -- a period that is found is a power of 2
    pub period_power : w < periods → (n ≡ 2 ^ w) × (n ≤ max_period)
    period_power h =
        let p : n ≡ 2 ^ w = exponent_power n (omega arith) ∙ ap (λ (k : ℕ). 2 ^ k) (sym told) in
        (p, omega (arith, p, power_small w h))

    module _ (fits : w < periods) (i : ℕ) (seen : i ≡ first_large 2 (digits_in cells) n) where
      pub reply_digit : i < n → Err (R.Term i) ≡ period_length_of cells
      unfolding period_length_of
      reply_digit h =
          rw (eq-eqb (length cells % 2) zero even, lt-ltb (exponent n) periods (omega arith), lt-ltb (first_large 2 (digits_in cells) n) n (omega arith))
          (ap (λ (k : ℕ). Err (R.Term k)) seen)

      pub reply_length : n ≤ i → (digits : List ℕ) → ((j : ℕ) → j < i → at digits j ≡ cell_at cells j) → (l : ℕ) → l ≡ halving w digits → Ok l ≡ period_length_of cells
      unfolding period_length_of
      reply_length h digits same l e =
          rw (eq-eqb (length cells % 2) zero even, lt-ltb (exponent n) periods (omega arith), le-ltb (first_large 2 (digits_in cells) n) n (omega arith))
          (ap Ok
          (e
          ∙ halving_same w digits (digits_in cells)
          (λ j k. let b : j < n = omega (arith, (period_power fits).0) in same j (omega arith) ∙ sym (at_cells cells n j b))
          ∙ ap (λ (k : ℕ). halving k (digits_in cells)) told))

-- ---- the cases, by what is lent

-- there are 2^w cells, one of the seven periods
pub record Sized (cells : List ℕ) (w : ℕ) : Type 0 where
  pub below : w < periods
  pub size : length cells ≡ 2 * 2 ^ w

module _ {cells : List ℕ} {w : ℕ} (p : Sized cells w) where
  half : length cells / 2 ≡ 2 ^ w
  half = omega (arith, p.size)

  even : length cells % 2 ≡ zero
  even = omega (arith, p.size)

  told : w ≡ exponent (length cells / 2)
  told = sym (ap exponent half ∙ power_exponent w p.below)

  -- it is one of the seven, at most 64
  pub period_exponent : exponent (length cells / 2) < periods
  period_exponent = omega (arith, told, p.below)

  pub period_small : 2 ^ w ≤ max_period
  period_small = power_small w p.below

  pub large_told : (i : ℕ) → i < 2 ^ w → 2 ≤ cell_at cells i → BelowTwo cells i → period_length_of cells ≡ Err (R.Term i)
  large_told i h large before =
      sym (reply_digit cells even w told p.below i (is_large cells (length cells / 2) i (omega (arith, half)) large before) (omega (arith, half)))

  pub length_told_lem : BelowTwo cells (2 ^ w) → period_length_of cells ≡ Ok (halving w (cells_from cells 0 (2 ^ w)))
  length_told_lem small =
      sym (reply_length cells even w told p.below (length cells / 2)
      (sym (none_digits cells (length cells / 2) (λ j l. small j (omega (arith, half))))) (omega arith) (cells_from cells 0 (2 ^ w))
      (λ j l. at_cells cells (2 ^ w) j (omega (arith, half))) (halving w (cells_from cells 0 (2 ^ w))) refl)

  cells_binary : BelowTwo cells (2 ^ w) → Binary (2 ^ w) (cells_from cells 0 (2 ^ w))
  cells_binary small j l = subst (λ (x : ℕ). x < 2) (sym (at_cells cells (2 ^ w) j l)) (small j l)

  -- it is at most the period
  pub length_short : BelowTwo cells (2 ^ w) → halving w (cells_from cells 0 (2 ^ w)) ≤ 2 ^ w
  length_short small = halving_le w (cells_from cells 0 (2 ^ w)) (cells_binary small)

  -- and it is the least length for terms that repeat the cells, two periods of them or more
  pub length_least : BelowTwo cells (2 ^ w) → (T : ℕ → ℕ) (k : ℕ) → 2 * 2 ^ w ≤ k → ((j : ℕ) → j < k → T j ≡ cell_at cells (j % 2 ^ w))
      → Least 2 T k (halving w (cells_from cells 0 (2 ^ w)))
  length_least small T k enough same =
      least_repeated w (cells_from cells 0 (2 ^ w)) (length_tabulate (2 ^ w) (λ i. cell_at cells (0 + i)))
      (cells_binary small) T k (omega arith)
      (λ j l. same j l ∙ sym (at_cells cells (2 ^ w) (j % 2 ^ w) (mod-lt j (one-le-pow w 2 (omega arith)))))
