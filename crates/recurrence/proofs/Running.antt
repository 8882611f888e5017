-- A candidate passes the test against some terms exactly when running it gives those terms; also for lengths above their number.
-- Assumes nothing.
use mathlib.Core.Path.{◌≡◌, refl, sym, ap, ◌∙◌, subst}
use mathlib.Core.Bool.{Bool, true, false, not}
use mathlib.Core.List.{List, [], ◌∷◌, ◌++◌}
use Prim.Native.Nat.{ℕ, zero, suc, ◌+◌, ◌*◌, ◌-◌, ◌%◌, ◌≤◌, ◌<◌, min}
use native.Mathlib.Nat.{le_refl, mod-lt, mod-eq_of_lt, sub-zero}
use native.Mathlib.Decide.{dec_lt, dec_le}
use native.Mathlib.Omega.{arith}
use lib.Dec.{eqb}
use lib.ListN.{length, length-append, get_or-append}
use lib.Seq.{get_or-append_seam}
use borrow.Author.Tests.{eq-eqb, eqb-true}
use Rattle.lists.specs.Table.{at}
use Rattle.lists.specs.Sum.{sum_to}
use Rattle.lists.proofs.Search.{first_before, first_passes, none_first, false_true}
use Rattle.lists.proofs.Sum.{sum_to_eq, sum_to_head, sum_to_cut}
use Rattle.residue.specs.Congruence.{neg}
use Rattle.residue.proofs.Congruence.{rfl, of_eq, sy, tr, add, modulo, add_neg}
use Rattle.recurrence.specs.Polynomial.{conv}
use Rattle.recurrence.specs.Running.{cell, generated, first_difference}
use Rattle.recurrence.proofs.Series.{summand, conv_sum, conv_comm}

module _ (m l : ℕ) (a b : List ℕ) where
  pub generated_length : (c : ℕ) → length (generated m l a b c) ≡ c
  unfolding generated
  generated_length zero = refl
  generated_length (suc c) = length-append (generated m l a b c) (cell m l a b (generated m l a b c) c ∷ []) ∙ omega (arith, generated_length c)

  -- a cell is the same however many are run, and comes from the cells before it
  pub generated_at : (c j : ℕ) → j < c → at (generated m l a b c) j ≡ cell m l a b (generated m l a b j) j
  unfolding generated
  generated_at zero j h = absurd (omega arith)
  generated_at (suc c) j h = go (dec_lt j c) (λ k. generated_at c j k)
    where
      cells : List ℕ
      cells = generated m l a b c

      go : Dec (j < c) → (j < c → at cells j ≡ cell m l a b (generated m l a b j) j)
          → at (cells ++ (cell m l a b cells c ∷ [])) j ≡ cell m l a b (generated m l a b j) j
      go (yes k) ih = get_or-append cells (cell m l a b cells c ∷ []) zero j (omega (arith, generated_length c)) ∙ ih k
      go (no k) ih =
          let e : j ≡ c = omega arith in
          ap (at (cells ++ (cell m l a b cells c ∷ []))) (e ∙ sym (generated_length c))
          ∙ get_or-append_seam cells (cell m l a b cells c) [] zero
          ∙ ap (λ (z : ℕ). cell m l a b (generated m l a b z) z) (sym e)

  pub generated_prefix : (c d j : ℕ) → j < c → j < d → at (generated m l a b c) j ≡ at (generated m l a b d) j
  generated_prefix c d j h k = generated_at c j h ∙ sym (generated_at d j k)

  pub cell_lt : zero < m → (cells : List ℕ) (j : ℕ) → cell m l a b cells j < m
  unfolding cell
  cell_lt pos cells j = mod-lt _ pos

  -- A cell reads only the cells before it.
  pub cell_same : (xs ys : List ℕ) (j : ℕ) → ((i : ℕ) → i < j → at xs i ≡ at ys i) → cell m l a b xs j ≡ cell m l a b ys j
  unfolding cell
  cell_same xs ys j h =
      ap (λ (s : ℕ). (at b j + neg m s) % m)
      (sum_to_eq (min l j) _ _ (λ i k. ap (λ (z : ℕ). at a (suc i) * z) (h (j - suc i) (omega arith))))

  module _ (pos : zero < m) (one : at a zero ≡ 1) (past : (i : ℕ) → l < i → at a i ≡ zero) (small : (j : ℕ) → at b j < m)
      (S : List ℕ) (n : ℕ) (below : (j : ℕ) → j < n → at S j < m) where
    back : List ℕ → ℕ → ℕ
    back R j = sum_to (min l j) (λ i. at a (suc i) * at R (j - suc i))

    -- coefficient j of the product is S_j and the sum over the terms before it
    product_sum : (j : ℕ) → conv (at S) (at a) j ≡ at S j + back S j
    unfolding back
    product_sum j =
        conv_comm (at S) (at a) j ∙ conv_sum (at a) (at S) j
        ∙ sum_to_head j (summand (at a) (at S) j)
        ∙ ap (λ (z : ℕ). z + sum_to j (λ i. summand (at a) (at S) j (suc i))) (ap (λ (z : ℕ). z * at S (j - zero)) one ∙ omega (arith, ap (at S) (sub-zero j)))
        ∙ ap (λ (z : ℕ). at S j + z) (shorter (dec_le l j))
      where
        f : ℕ → ℕ
        f i = at a (suc i) * at S (j - suc i)

        shorter : Dec (l ≤ j) → sum_to j f ≡ sum_to (min l j) f
        shorter (yes h) =
            sum_to_cut j l f h (λ i x y. ap (λ (z : ℕ). z * at S (j - suc i)) (past (suc i) (omega arith)) ∙ omega arith)
            ∙ ap (λ (z : ℕ). sum_to z f) (let e : l ≡ min l j = omega arith in e)
        shorter (no h) = ap (λ (z : ℕ). sum_to z f) (let e : j ≡ min l j = omega arith in e)

    -- the terms below j are those that running gives
    abbrev pub Gives-below : ℕ → Type 0
    Gives-below j = (i : ℕ) → i < j → at S i ≡ at (generated m l a b n) i

    -- where they are, the cell run next comes from the terms
    next_cell : (j : ℕ) → j < n → Gives-below j → at (generated m l a b n) j ≡ cell m l a b S j
    next_cell j h g =
        generated_at n j h
        ∙ cell_same (generated m l a b j) S j (λ i k. generated_prefix j n i k (omega arith) ∙ sym (g i k))

    passes→equal : (j : ℕ) → j < n → conv (at S) (at a) j % m ≡ at b j → at S j ≡ cell m l a b S j
    unfolding cell back
    passes→equal j h t =
        sym (mod-eq_of_lt (below j h))
        ∙ (tr (of_eq (let e : at S j ≡ at S j + zero = omega arith in e))
        (tr (add (rfl {a = at S j}) (sy (add_neg (back S j) pos)))
        (tr (of_eq (let e : at S j + (back S j + neg m (back S j)) ≡ at S j + back S j + neg m (back S j) = omega arith in e))
        (add (tr (of_eq (sym (product_sum j))) (tr (sy (modulo _)) (of_eq t))) (rfl {a = neg m (back S j)}))))).same

    equal→passes : (j : ℕ) → j < n → at S j ≡ cell m l a b S j → conv (at S) (at a) j % m ≡ at b j
    unfolding cell back
    equal→passes j h e =
        (tr (of_eq (product_sum j))
        (tr (add (tr (of_eq e) (modulo (at b j + neg m (back S j)))) (rfl {a = back S j}))
        (tr (of_eq (let z : at b j + neg m (back S j) + back S j ≡ at b j + (back S j + neg m (back S j)) = omega arith in z))
        (tr (add (rfl {a = at b j}) (add_neg (back S j) pos)) (of_eq (let z : at b j + zero ≡ at b j = omega arith in z)))))).same
        ∙ mod-eq_of_lt (small j)

    Test : ℕ → Bool
    Test j = not (eqb (conv (at S) (at a) j % m) (at b j))

    test_false : (j : ℕ) → Test j ≡ false → conv (at S) (at a) j % m ≡ at b j
    unfolding Test
    test_false j h = go (eqb (conv (at S) (at a) j % m) (at b j)) refl h
      where
        go : (t : Bool) → eqb (conv (at S) (at a) j % m) (at b j) ≡ t → not t ≡ false → conv (at S) (at a) j % m ≡ at b j
        go true e h = eqb-true _ _ e
        go false e h = false_true (sym h)

    false_test : (j : ℕ) → conv (at S) (at a) j % m ≡ at b j → Test j ≡ false
    unfolding Test
    false_test j h = ap not (eq-eqb _ _ h)

    -- the terms before the first difference are those that running gives
    agree_below : (j : ℕ) → j ≤ n → j ≤ first_difference m S a b n → Gives-below j
    unfolding first_difference Test
    agree_below zero h k i z = absurd (omega arith)
    agree_below (suc j) h k i z = go (dec_lt i j) (agree_below j (omega arith) (omega arith))
      where
        go : Dec (i < j) → Gives-below j → at S i ≡ at (generated m l a b n) i
        go (yes w) ih = ih i w
        go (no w) ih =
            let e : j ≡ i = omega arith in
            subst (λ (y : ℕ). at S y ≡ at (generated m l a b n) y) e
            (passes→equal j (omega arith) (test_false j (first_before n Test j (omega arith))) ∙ sym (next_cell j (omega arith) ih))

    -- no difference: running gives the terms
    pub yes→runs : first_difference m S a b n ≡ n → (i : ℕ) → i < n → at S i ≡ at (generated m l a b n) i
    yes→runs h = agree_below n (le_refl n) (omega arith)

    pub runs→yes : ((i : ℕ) → i < n → at S i ≡ at (generated m l a b n) i) → first_difference m S a b n ≡ n
    unfolding first_difference Test
    runs→yes h =
        none_first n Test (λ j k. false_test j (equal→passes j k (h j k ∙ next_cell j k (λ i z. h i (omega arith)))))

    -- a difference at j: running gives the terms below j and another at j
    pub no→differs : (j : ℕ) → first_difference m S a b n ≡ j → j < n → Gives-below j × (at S j ≡ at (generated m l a b n) j → ⊥)
    unfolding first_difference Test
    no→differs j e h = (
      agrees,
      λ z. false_true (sym (false_test j (equal→passes j h (z ∙ next_cell j h agrees))) ∙ subst (λ (y : ℕ). Test y ≡ true) e (first_passes n Test (omega arith))),
    )
      where
        agrees : Gives-below j
        agrees = agree_below j (omega arith) (omega arith)

    pub differs→no : (j : ℕ) → j < n → Gives-below j → (at S j ≡ at (generated m l a b n) j → ⊥) → first_difference m S a b n ≡ j
    differs→no j h g d = go (dec_lt (first_difference m S a b n) j) (dec_lt j (first_difference m S a b n))
      where
        go : Dec (first_difference m S a b n < j) → Dec (j < first_difference m S a b n) → first_difference m S a b n ≡ j
        go (yes x) y = absurd ((no→differs (first_difference m S a b n) refl (omega arith)).1 (g (first_difference m S a b n) x))
        go (no x) (yes y) = absurd (d (agree_below (suc j) h y j (le_refl (suc j))))
        go (no x) (no y) = omega arith
