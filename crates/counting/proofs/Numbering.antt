-- Every list of n numbers below m has exactly one number below m^n, and the numbers are in dictionary order.
-- Assumes nothing.
use mathlib.Core.Path.{◌≡◌, refl, sym, ap, ◌∙◌, subst}
use mathlib.Core.List.{List, [], ◌∷◌, ◌++◌}
use Prim.Native.Nat.{ℕ, zero, suc, ◌+◌, ◌*◌, ◌/◌, ◌%◌, ◌^◌, ◌<◌}
use native.Mathlib.Nat.{mod-lt, mod-eq_of_lt, div-eq_of_lt, mul-add-div_right, mul-add-mod_self_right, div-add-mod', div-lt_iff_lt-mul, pow-suc, pow-zero, mul-le-mul_right, le_antisymm, le-div_iff_mul-le, div-mul-le_self}
use native.Mathlib.Decide.{ℕ_discrete, dec_lt}
use native.Mathlib.Omega.{arith}
use lib.ListN.{length}
use lib.Seq.{ext_get_or}
use Rattle.lists.specs.Table.{at}
use Rattle.lists.proofs.Table.{at_past, length_snoc, at_front, at_last}
use Rattle.counting.specs.Numbering.{list_at, ListOf, Before, NumberOf}

module _ (m : ℕ) where
  pub list_at_length : (n x : ℕ) → length (list_at m n x) ≡ n
  unfolding list_at
  list_at_length zero x = refl
  list_at_length (suc n) x = length_snoc (list_at m n (x / m)) (x % m) ∙ ap suc (list_at_length n (x / m))

  -- one more entry
  pub list_at_more : (n y s : ℕ) → s < m → list_at m (suc n) (y * m + s) ≡ list_at m n y ++ (s ∷ [])
  unfolding list_at
  list_at_more n y s h =
      ap (λ (z : ℕ). list_at m n z ++ ((y * m + s) % m ∷ [])) (mul-add-div_right (let z : zero < m = omega arith in z) y s ∙ omega (arith, div-eq_of_lt h))
      ∙ ap (λ (z : ℕ). list_at m n y ++ (z ∷ [])) (mul-add-mod_self_right y m s ∙ mod-eq_of_lt h)

  module _ (pos : zero < m) where
    pub list_at_below : (n x i : ℕ) → at (list_at m n x) i < m
    unfolding list_at
    list_at_below zero x i = pos
    list_at_below (suc n) x i = go (dec_lt i n) (ℕ_discrete i n) (list_at_below n (x / m) i)
      where
        go : Dec (i < n) → Dec (i ≡ n) → at (list_at m n (x / m)) i < m → at (list_at m n (x / m) ++ (x % m ∷ [])) i < m
        go (yes l) d h = omega (arith, at_front (list_at m n (x / m)) (x % m) i (omega (arith, list_at_length n (x / m))))
        go (no a) (yes e) h = omega (arith, at_last (list_at m n (x / m)) (x % m) i (list_at_length n (x / m) ∙ sym e), mod-lt x pos)
        go (no a) (no b) h =
            omega (arith, at_past (list_at m n (x / m) ++ (x % m ∷ [])) i (omega (arith, length_snoc (list_at m n (x / m)) (x % m), list_at_length n (x / m))))

    pub list_at_of : (n x : ℕ) → ListOf m n (list_at m n x)
    list_at_of n x = record { size = list_at_length n x; below = λ i h. list_at_below n x i }

  -- the number of n terms, the last one counting least
  unfoldable pub number : ℕ → (ℕ → ℕ) → ℕ
  number zero s = zero
  number (suc n) s = number n s * m + s n

  pub number_eq : (n : ℕ) (s t : ℕ → ℕ) → ((i : ℕ) → i < n → s i ≡ t i) → number n s ≡ number n t
  unfolding number
  number_eq zero s t h = refl
  number_eq (suc n) s t h = omega (arith, ap (λ (z : ℕ). z * m) (number_eq n s t (λ i k. h i (omega arith))), h n (omega arith))

  pub number_below : (n : ℕ) (s : ℕ → ℕ) → ((i : ℕ) → i < n → s i < m) → number n s < m ^ n
  unfolding number
  number_below zero s h = omega (arith, pow-zero m)
  number_below (suc n) s h =
      omega (arith, pow-suc m n, mul-le-mul_right m (number_below n s (λ i k. h i (omega arith))), h n (omega arith))

  pub list_at_number : (n : ℕ) (s : ℕ → ℕ) → ((i : ℕ) → i < n → s i < m) → (i : ℕ) → i < n → at (list_at m n (number n s)) i ≡ s i
  unfolding number
  list_at_number zero s h i l = absurd (omega arith)
  list_at_number (suc n) s h i l =
      ap (λ (ts : List ℕ). at ts i) (list_at_more n (number n s) (s n) (h n (omega arith)))
      ∙ go (dec_lt i n) (λ k. list_at_number n s (λ j z. h j (omega arith)) i k)
    where
      go : Dec (i < n) → (i < n → at (list_at m n (number n s)) i ≡ s i) → at (list_at m n (number n s) ++ (s n ∷ [])) i ≡ s i
      go (yes k) ih = at_front (list_at m n (number n s)) (s n) i (omega (arith, list_at_length n (number n s))) ∙ ih k
      go (no k) ih =
          let e : n ≡ i = omega arith in
          at_last (list_at m n (number n s)) (s n) i (list_at_length n (number n s) ∙ e) ∙ ap s e

  quotient_below : (n x : ℕ) → zero < m → x < m ^ suc n → x / m < m ^ n
  quotient_below n x pos h = (div-lt_iff_lt-mul {k = m} pos).1 (subst (λ (z : ℕ). x < z) (pow-suc m n) h)

  pub number_list_at : zero < m → (n x : ℕ) → x < m ^ n → number n (at (list_at m n x)) ≡ x
  unfolding number list_at
  number_list_at pos zero x h = omega (arith, pow-zero m)
  number_list_at pos (suc n) x h =
      omega (
        arith,
        at_last (list_at m n (x / m)) (x % m) n (list_at_length n (x / m)),
        div-add-mod' x m,
        ap (λ (z : ℕ). z * m) (number_eq n _ (at (list_at m n (x / m))) (λ i k. at_front (list_at m n (x / m)) (x % m) i (omega (arith, list_at_length n (x / m))))
            ∙ number_list_at pos n (x / m) (quotient_below n x pos h)),
      )

  -- lists with equal entries have equal numbers
  pub list_at_inj : zero < m → (n x y : ℕ) → x < m ^ n → y < m ^ n → ((i : ℕ) → i < n → at (list_at m n x) i ≡ at (list_at m n y) i) → x ≡ y
  list_at_inj pos n x y hx hy h =
      sym (number_list_at pos n x hx) ∙ number_eq n (at (list_at m n x)) (at (list_at m n y)) h ∙ number_list_at pos n y hy

  -- every list of n numbers below m has exactly one number
  pub numbered : zero < m → (n : ℕ) (ts : List ℕ) → ListOf m n ts → NumberOf m n ts (number n (at ts))
  numbered pos n ts h =
      record {
        below = number_below n (at ts) h.below;
        is =
            ext_get_or zero (list_at m n (number n (at ts))) ts (list_at_length n (number n (at ts)) ∙ sym h.size)
            (λ i l. list_at_number n (at ts) h.below i (omega (arith, list_at_length n (number n (at ts)))));
        only = λ y l e. sym (number_list_at pos n y l) ∙ ap (λ (us : List ℕ). number n (at us)) e;
      }

  -- and the numbers are in dictionary order
  pub in_order : zero < m → (n x y : ℕ) → x < y → y < m ^ n → Before (list_at m n x) (list_at m n y)
  unfolding list_at
  in_order pos zero x y h k = absurd (omega (arith, pow-zero m))
  in_order pos (suc n) x y h k = go (dec_lt (x / m) (y / m)) (λ l. in_order pos n (x / m) (y / m) l (quotient_below n y pos k))
    where
      long_x : length (list_at m n (x / m)) ≡ n
      long_x = list_at_length n (x / m)

      long_y : length (list_at m n (y / m)) ≡ n
      long_y = list_at_length n (y / m)

      front_x : (i : ℕ) → i < n → at (list_at m n (x / m) ++ (x % m ∷ [])) i ≡ at (list_at m n (x / m)) i
      front_x i l = at_front (list_at m n (x / m)) (x % m) i (omega (arith, long_x))

      front_y : (i : ℕ) → i < n → at (list_at m n (y / m) ++ (y % m ∷ [])) i ≡ at (list_at m n (y / m)) i
      front_y i l = at_front (list_at m n (y / m)) (y % m) i (omega (arith, long_y))

      go : Dec (x / m < y / m) → (x / m < y / m → Before (list_at m n (x / m)) (list_at m n (y / m)))
          → Before (list_at m n (x / m) ++ (x % m ∷ [])) (list_at m n (y / m) ++ (y % m ∷ []))
      go (yes l) ih =
          let b = ih l in
          let near : b.place < n = inside (dec_lt b.place n) b.less in
          record {
            place = b.place;
            same = λ i j. front_x i (omega arith) ∙ b.same i j ∙ sym (front_y i (omega arith));
            less = omega (arith, front_x b.place near, front_y b.place near, b.less);
          }
        where
          -- past their ends both read 0
          inside : {i : ℕ} → Dec (i < n) → at (list_at m n (x / m)) i < at (list_at m n (y / m)) i → i < n
          inside (yes z) w = z
          inside {i} (no z) w = absurd (omega (arith, at_past (list_at m n (y / m)) i (omega (arith, long_y))))
      go (no l) ih =
          let e : x / m ≡ y / m = le_antisymm ((le-div_iff_mul-le {k = m} pos).1 (omega (arith, div-mul-le_self x m))) (omega arith) in
          record {
            place = n;
            same = λ i j. front_x i j ∙ ap (λ (z : ℕ). at (list_at m n z) i) e ∙ sym (front_y i j);
            less =
                omega (
                  arith,
                  at_last (list_at m n (x / m)) (x % m) n long_x,
                  at_last (list_at m n (y / m)) (y % m) n long_y,
                  div-add-mod' x m,
                  div-add-mod' y m,
                  ap (λ (z : ℕ). z * m) e,
                );
          }
