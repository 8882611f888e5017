-- Modulo a prime, where 2l ≤ n, two lists of l coefficients that generate the n terms are equal.
-- Assumes nothing.
use mathlib.Core.Path.{◌≡◌, sym, ap, ◌∙◌, subst}
use mathlib.Core.Logic.{◌⊎◌, inl, inr, ◌≢◌}
use mathlib.Core.List.{List}
use Prim.Native.Nat.{ℕ, zero, suc, ◌+◌, ◌*◌, ◌-◌, ◌%◌, ◌≤◌, ◌<◌}
use native.Mathlib.Nat.{zero-mod, mul_comm}
use native.Mathlib.Decide.{ℕ_discrete, dec_lt}
use native.Mathlib.Omega.{arith}
use Rattle.lists.specs.Table.{at, tabulate}
use Rattle.lists.proofs.Table.{length_tabulate, at_tabulate, at_past}
use Rattle.residue.specs.Congruence.{Cong, neg}
use Rattle.residue.specs.Units.{Prime}
use Rattle.residue.proofs.Congruence.{rfl, of_eq, sy, tr, add, same_below, zero_r, add_neg, Invertible}
use Rattle.residue.proofs.Units.{prime_invertible}
use Rattle.residue.proofs.Factors.{power_one}
use Rattle.recurrence.specs.Polynomial.{conv}
use Rattle.recurrence.specs.Register.{complexity}
use Rattle.recurrence.proofs.Series.{shift, conv_add_r, conv_mul_r, conv_comm, conv_shift_r, shift_below, shift_from}
use Rattle.recurrence.proofs.Pairs.{Vanish, Deg, Agree, conv_cong, conv_zero}
use Rattle.counting.proofs.Prime.{length_short, length_later, length_least}

-- the coefficients of S × a that b has, where those from place l on are 0
abbrev pub start : (ℕ → ℕ) → (ℕ → ℕ) → ℕ → List ℕ
start S a l = tabulate l (conv S a)

module _ {m : ℕ} (S a : ℕ → ℕ) (k l : ℕ) (zeros : (j : ℕ) → l ≤ j → j < k → Cong m (conv S a j) zero) where
  pub start_agrees : Agree m S k a (at (start S a l))
  start_agrees j h = go (dec_lt j l)
    where
      go : Dec (j < l) → Cong m (conv S a j) (at (tabulate l (conv S a)) j)
      go (yes x) = of_eq (sym (at_tabulate l (conv S a) j x))
      go (no x) = tr (zeros j (omega arith) h) (of_eq (sym (at_past (tabulate l (conv S a)) j (omega (arith, length_tabulate l (conv S a))))))

  start_deg : Vanish m (suc l) a → Deg m l a (at (start S a l))
  start_deg top = record { top_a = top; top_b = λ i h. of_eq (at_past (tabulate l (conv S a)) i (omega (arith, length_tabulate l (conv S a)))) }

-- two series agree below place n, or there is a first place where they do not
first_apart_lem : (a a' : ℕ → ℕ) (n : ℕ)
    → ((i : ℕ) → i < n → a i ≡ a' i) ⊎ ((t : ℕ) × (t < n) × ((i : ℕ) → i < t → a i ≡ a' i) × (a t ≢ a' t))
first_apart_lem a a' zero = inl (λ i h. absurd (omega arith))
first_apart_lem a a' (suc n) = go (first_apart_lem a a' n) (ℕ_discrete (a n) (a' n))
  where
    last : ((i : ℕ) → i < n → a i ≡ a' i) → a n ≡ a' n → (i : ℕ) → i < suc n → Dec (i < n) → a i ≡ a' i
    last h e i k (yes l) = h i l
    last h e i k (no l) = subst (λ (z : ℕ). a z ≡ a' z) (let w : n ≡ i = omega arith in w) e

    go : ((i : ℕ) → i < n → a i ≡ a' i) ⊎ ((t : ℕ) × (t < n) × ((i : ℕ) → i < t → a i ≡ a' i) × (a t ≢ a' t)) → Dec (a n ≡ a' n)
        → ((i : ℕ) → i < suc n → a i ≡ a' i) ⊎ ((t : ℕ) × (t < suc n) × ((i : ℕ) → i < t → a i ≡ a' i) × (a t ≢ a' t))
    go (inr w) d = inr (w.0, omega (arith, w.1), w.2, w.3)
    go (inl h) (yes e) = inl (λ i k. last h e i k (dec_lt i n))
    go (inl h) (no ne) = inr (n, omega arith, h, ne)

-- a series that starts with 1, has coefficients below p and none past l, and whose product with S is 0 from place l to n-1
pub record Solution (p : ℕ) (S : ℕ → ℕ) (n l : ℕ) (a : ℕ → ℕ) : Type 0 where
  pub one : a zero ≡ 1
  pub small : (i : ℕ) → a i < p
  pub past : (i : ℕ) → l < i → a i ≡ zero
  pub zeros : (j : ℕ) → l ≤ j → j < n → Cong p (conv S a j) zero

module _ (p : ℕ) (P : Prime p) (S : List ℕ) (n : ℕ) (two : complexity p S n + complexity p S n ≤ n) (a a' : ℕ → ℕ)
    (x : Solution p (at S) n (complexity p S n) a) (x' : Solution p (at S) n (complexity p S n) a') where
  l : ℕ
  l = complexity p S n

  pos : zero < p
  pos = omega (arith, P.big)

  abbrev minus : ℕ → ℕ
  minus i = neg p (a' i)

  -- the difference
  abbrev δ : ℕ → ℕ
  δ i = a i + minus i

  δ-zero : (i : ℕ) → a i ≡ a' i → Cong p (δ i) zero
  δ-zero i e = tr (of_eq (ap (λ (z : ℕ). z + minus i) e)) (add_neg (a' i) pos)

  zero_δ : (i : ℕ) → Cong p (δ i) zero → a i ≡ a' i
  zero_δ i h =
      same_below (x.small i) (x'.small i)
      (tr (of_eq (let z : a i ≡ a i + zero = omega arith in z))
      (tr (add rfl (sy (add_neg (a' i) pos)))
      (tr (of_eq (let z : a i + (a' i + minus i) ≡ a i + minus i + a' i = omega arith in z))
      (tr (add h rfl) (of_eq (let z : zero + a' i ≡ a' i = omega arith in z))))))

  δ-zeros : (j : ℕ) → l ≤ j → j < n → Cong p (conv (at S) δ j) zero
  unfolding l
  δ-zeros j h k =
      tr (of_eq (conv_add_r (at S) a minus j))
      (tr (add (tr (x.zeros j h k) (sy (x'.zeros j h k))) rfl)
      (tr (of_eq (sym (conv_add_r (at S) a' minus j)))
      (tr (of_eq (conv_comm (at S) (λ i. a' i + minus i) j)) (conv_zero (λ i. a' i + minus i) (at S) j (λ i z. add_neg (a' i) pos)))))

  module _ (t : ℕ) (near : t < suc l) (same : (i : ℕ) → i < t → a i ≡ a' i) (differs : a t ≢ a' t) where
    -- the difference divided by x^t and by its first coefficient
    abbrev part : ℕ → ℕ
    part i = δ (t + i)

    moved : (i : ℕ) → Cong p (δ i) (shift t part i)
    moved i = go (dec_lt i t)
      where
        go : Dec (i < t) → Cong p (δ i) (shift t part i)
        go (yes h) = tr (δ-zero i (same i h)) (of_eq (sym (shift_below t part i h)))
        go (no h) = of_eq (sym (shift_from t part i (omega arith) ∙ ap δ (let e : t + (i - t) ≡ i = omega arith in e)))

    conv_part : (j : ℕ) → Cong p (conv (at S) δ (t + j)) (conv (at S) part j)
    conv_part j =
        tr (conv_cong (at S) (at S) δ (shift t part) (t + j) (λ i h. rfl) (λ i h. moved i))
        (of_eq (conv_shift_r t (at S) part (t + j) ∙ shift_from t (conv (at S) part) (t + j) (omega arith)
        ∙ ap (conv (at S) part) (let e : t + j - t ≡ j = omega arith in e)))

    unit : Invertible p (part zero)
    unit = subst (λ (q : ℕ). Invertible q (part zero)) (power_one p) (prime_invertible p 1 (part zero) P (omega arith) nonzero)
      where
        nonzero : part zero % p ≢ zero
        nonzero z =
            differs (zero_δ t (tr (of_eq (ap δ (let e : t ≡ t + zero = omega arith in e))) (record { same = z ∙ sym (zero-mod p) })))

    abbrev scaled : ℕ → ℕ
    scaled i = unit.inverse * part i

    short : complexity p S (n - t) ≤ l - t
    unfolding l
    short =
        length_least p P S (n - t) (l - t) scaled (at (start (at S) scaled (l - t)))
        (tr (of_eq (mul_comm unit.inverse (part zero))) unit.inverts)
        (start_agrees (at S) scaled (n - t) (l - t) zeros)
        (start_deg (at S) scaled (n - t) (l - t) zeros
        (λ i h. zero_r unit.inverse (δ-zero (t + i) (x.past (t + i) (omega arith) ∙ sym (x'.past (t + i) (omega arith))))))
      where
        zeros : (j : ℕ) → l - t ≤ j → j < n - t → Cong p (conv (at S) scaled j) zero
        zeros j h k =
            tr (of_eq (conv_mul_r unit.inverse (at S) part j))
            (zero_r unit.inverse (tr (sy (conv_part j)) (δ-zeros (t + j) (omega arith) (omega arith))))

    clash : zero < t → ⊥
    unfolding l
    clash h = go (length_later p P S (n - t) t)
      where
        back : complexity p S (t + (n - t)) ≡ complexity p S n
        back = ap (complexity p S) (let e : t + (n - t) ≡ n = omega (arith, length_short p P S n) in e)

        go : (complexity p S (t + (n - t)) ≡ complexity p S (n - t)) ⊎ (suc (n - t) ≤ complexity p S (t + (n - t)) + complexity p S (n - t)) → ⊥
        go (inl e) = omega (arith, short, back)
        go (inr e) = omega (arith, short, back)

  pub sole : (i : ℕ) → a i ≡ a' i
  unfolding l
  sole i = go (first_apart_lem a a' (suc (complexity p S n)))
    where
      positive : (t : ℕ) → a t ≢ a' t → zero < t
      positive zero ne = absurd (ne (x.one ∙ sym x'.one))
      positive (suc t) ne = omega arith

      inside : ((i : ℕ) → i < suc (complexity p S n) → a i ≡ a' i) → Dec (i < suc (complexity p S n)) → a i ≡ a' i
      inside h (yes k) = h i k
      inside h (no k) = x.past i (omega arith) ∙ sym (x'.past i (omega arith))

      go : ((i : ℕ) → i < suc (complexity p S n) → a i ≡ a' i) ⊎ ((t : ℕ) × (t < suc (complexity p S n)) × ((i : ℕ) → i < t → a i ≡ a' i) × (a t ≢ a' t)) → a i ≡ a' i
      go (inl h) = inside h (dec_lt i (suc (complexity p S n)))
      go (inr w) = absurd (clash w.0 w.1 w.2 w.3 (positive w.0 w.3))
