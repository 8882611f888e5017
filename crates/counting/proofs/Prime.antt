-- A prime modulus: how the linear complexity changes from term to term.
-- Assumes nothing.
use mathlib.Core.Path.{◌≡◌, sym, ap, ◌∙◌, subst}
use mathlib.Core.Logic.{◌⊎◌, inl, inr, ◌≢◌}
use mathlib.Core.List.{List, map}
use Prim.Native.Nat.{ℕ, zero, suc, ◌+◌, ◌-◌, ◌%◌, ◌^◌, ◌≤◌, ◌<◌, max}
use native.Mathlib.Nat.{pow-zero, pos_of_ne-zero}
use native.Mathlib.Decide.{ℕ_discrete, dec_le}
use native.Mathlib.Omega.{arith}
use Rattle.lists.specs.Table.{at, largest}
use Rattle.lists.proofs.Among.{Among, here}
use Rattle.residue.specs.Congruence.{Cong}
use Rattle.residue.specs.Units.{Prime}
use Rattle.residue.specs.Valuation.{valuation}
use Rattle.residue.specs.Factors.{PrimePower}
use Rattle.residue.proofs.Congruence.{rfl, of_eq, sy, tr}
use Rattle.residue.proofs.Valuation.{valuation_zero, valuation_parts}
use Rattle.residue.proofs.Factors.{power_one, itself, prime_powers_lem}
use Rattle.recurrence.specs.Polynomial.{conv, len}
use Rattle.recurrence.specs.Steps.{row_at, d_at, u_at, L-at}
use Rattle.recurrence.specs.Register.{complexity, register}
use Rattle.recurrence.proofs.Pairs.{Deg, Agree, conv_cong}
use Rattle.recurrence.proofs.Steps.{Alike, g_at}
use Rattle.recurrence.proofs.Theorem.{shortest, d_lt, d_of_a, length_stays, length_kept, length_grows}
use Rattle.recurrence.proofs.Register.{complexity_largest, register_a_at, complexity_short, complexity_same}

module _ (p : ℕ) (P : Prime p) (S : List ℕ) where
  one_pos : zero < 1
  one_pos = omega arith

  -- the complexity is the length of row 0 at p^1
  complexity_row : (k : ℕ) → complexity p S k ≡ len (row_at p 1 S zero k)
  unfolding largest
  complexity_row k =
      complexity_largest p P.big S k
      ∙ ap (λ (fs : List PrimePower). largest (map (λ f. len (row_at f.prime f.exponent S zero k)) fs)) (prime_powers_lem p P)
      ∙ omega arith

  -- what the next term leaves with the register so far
  abbrev pub leaves : ℕ → ℕ
  leaves k = conv (at S) (at (register p S k).a) k % p

  row_leaves : (k : ℕ) → d_at p 1 S zero k ≡ leaves k
  row_leaves k =
      d_of_a p 1 P one_pos S zero k one_pos
      ∙ ap (λ (q : ℕ). conv (at S) (at (row_at p 1 S zero k).a) k % q) (power_one p)
      ∙ (conv_cong (at S) (at S) (at (row_at p 1 S zero k).a) (at (register p S k).a) k (λ i h. rfl) (λ i h. same i)).same
    where
      same : (i : ℕ) → Cong p (at (row_at p 1 S zero k).a i) (at (register p S k).a i)
      same i =
          subst (λ (q : ℕ). Cong q (at (row_at p 1 S zero k).a i) (at (register p S k).a i)) (power_one p)
          (sy (register_a_at p P.big S k (subst (Among (itself p)) (sym (prime_powers_lem p P)) here) i))

  -- a term that the register fits keeps the length
  pub length_fits : (k : ℕ) → leaves k ≡ zero → complexity p S (suc k) ≡ complexity p S k
  length_fits k e =
      complexity_row (suc k)
      ∙ length_stays p 1 P one_pos S zero k one_pos (omega (arith, ap (valuation 1 p) (row_leaves k ∙ e) ∙ valuation_zero 1 p))
      ∙ sym (complexity_row k)

  -- after any other it is the larger of l and k + 1 - l
  pub length_fails : (k : ℕ) → leaves k ≢ zero → complexity p S (suc k) ≡ max (complexity p S k) (suc k - complexity p S k)
  length_fails k ne = go (dec_le (L-at p 1 S zero k + L-at p 1 S (g_at p 1 S zero k) k) k)
    where
      u_zero : u_at p 1 S zero k < 1
      u_zero =
          (valuation_parts 1 p (d_at p 1 S zero k) P.big (pos_of_ne-zero (λ z. ne (sym (row_leaves k) ∙ z))) (d_lt p 1 P one_pos S zero k)).below

      g_zero : L-at p 1 S (g_at p 1 S zero k) k ≡ L-at p 1 S zero k
      g_zero = ap (λ (g : ℕ). L-at p 1 S g k) (let z : g_at p 1 S zero k ≡ zero = omega arith in z)

      go : Dec (L-at p 1 S zero k + L-at p 1 S (g_at p 1 S zero k) k ≤ k) → complexity p S (suc k) ≡ max (complexity p S k) (suc k - complexity p S k)
      go (yes h) = omega (arith, (length_grows p 1 P one_pos S zero k one_pos u_zero h).0, g_zero, complexity_row k, complexity_row (suc k))
      go (no h) = omega (arith, length_kept p 1 P one_pos S zero k one_pos (omega arith), g_zero, complexity_row k, complexity_row (suc k))

  pub length_short : (k : ℕ) → complexity p S k ≤ k
  length_short k = complexity_short p P.big S k

  -- the length never shrinks, and grows to k + 1 - l or not at all
  length_up : (k : ℕ) → complexity p S k ≤ complexity p S (suc k)
  length_up k = go (ℕ_discrete (leaves k) zero)
    where
      go : Dec (leaves k ≡ zero) → complexity p S k ≤ complexity p S (suc k)
      go (yes e) = omega (arith, length_fits k e)
      go (no e) = omega (arith, length_fails k e)

  length_jump : (k : ℕ) → (complexity p S (suc k) ≡ complexity p S k) ⊎ (complexity p S (suc k) + complexity p S k ≡ suc k)
  length_jump k = go (ℕ_discrete (leaves k) zero) (dec_le (complexity p S k + complexity p S k) k)
    where
      go : Dec (leaves k ≡ zero) → Dec (complexity p S k + complexity p S k ≤ k)
          → (complexity p S (suc k) ≡ complexity p S k) ⊎ (complexity p S (suc k) + complexity p S k ≡ suc k)
      go (yes e) h = inl (length_fits k e)
      go (no e) (yes h) = inr (omega (arith, length_fails k e))
      go (no e) (no h) = inl (omega (arith, length_fails k e))

  -- while k is below 2l it stays
  length_steady : (k : ℕ) → k < complexity p S k + complexity p S k → complexity p S (suc k) ≡ complexity p S k
  length_steady k h = go (length_jump k)
    where
      go : (complexity p S (suc k) ≡ complexity p S k) ⊎ (complexity p S (suc k) + complexity p S k ≡ suc k) → complexity p S (suc k) ≡ complexity p S k
      go (inl e) = e
      go (inr e) = omega (arith, length_up k)

  -- from place j on: the length is as it was there, or the two add up to more than j
  pub length_later : (j d : ℕ) → (complexity p S (d + j) ≡ complexity p S j) ⊎ (suc j ≤ complexity p S (d + j) + complexity p S j)
  length_later j zero = inl (ap (complexity p S) (let e : zero + j ≡ j = omega arith in e))
  length_later j (suc d) =
      subst (λ (z : ℕ). (complexity p S z ≡ complexity p S j) ⊎ (suc j ≤ complexity p S z + complexity p S j))
      (let e : suc (d + j) ≡ suc d + j = omega arith in e) (go (length_later j d) (length_jump (d + j)))
    where
      go : (complexity p S (d + j) ≡ complexity p S j) ⊎ (suc j ≤ complexity p S (d + j) + complexity p S j)
          → (complexity p S (suc (d + j)) ≡ complexity p S (d + j)) ⊎ (complexity p S (suc (d + j)) + complexity p S (d + j) ≡ suc (d + j))
          → (complexity p S (suc (d + j)) ≡ complexity p S j) ⊎ (suc j ≤ complexity p S (suc (d + j)) + complexity p S j)
      go (inl x) (inl y) = inl (y ∙ x)
      go (inl x) (inr y) = inr (omega arith)
      go (inr x) y = inr (omega (arith, length_up (d + j)))

  -- no pair of series that starts with 1 and agrees with the terms is shorter
  pub length_least : (k l : ℕ) (a b : ℕ → ℕ) → Cong p (a zero) 1 → Agree p (at S) k a b → Deg p l a b → complexity p S k ≤ l
  length_least k l a b lead agree deg =
      subst (λ (x : ℕ). x ≤ l) (sym (complexity_row k))
      ((shortest p 1 P one_pos S zero k one_pos).least a b l
      (tr (at_one lead) (of_eq (sym (pow-zero p)))) (λ j h. at_one (agree j h))
      (record { top_a = λ i h. at_one (deg.top_a i h); top_b = λ i h. at_one (deg.top_b i h) }))
    where
      at_one : {x y : ℕ} → Cong p x y → Cong (p ^ 1) x y
      at_one {x} {y} h = subst (λ (q : ℕ). Cong q x y) (sym (power_one p)) h

-- terms added after the first n do not change the length before there are 2l
pub length_extended : (p : ℕ) → Prime p → (S T : List ℕ) (n : ℕ) → Alike p S T n
    → (d : ℕ) → d + n ≤ max n (complexity p S n + complexity p S n) → complexity p T (d + n) ≡ complexity p S n
length_extended p P S T n h zero l =
    ap (complexity p T) (let e : zero + n ≡ n = omega arith in e) ∙ sym (complexity_same p P.big S T n h)
length_extended p P S T n h (suc d) l =
    let ih : complexity p T (d + n) ≡ complexity p S n = length_extended p P S T n h d (omega arith) in
    ap (complexity p T) (let e : suc d + n ≡ suc (d + n) = omega arith in e)
    ∙ length_steady p P T (d + n) (omega (arith, ih)) ∙ ih
