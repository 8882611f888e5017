-- What the halving tells of a period s of 2^w digits: s is 0 throughout, or s = (1 + x)^v (1 + (1 + x) τ) modulo 2, where v and the length make 2^w; and
-- what a program that halves relies on.
-- Assumes nothing.
use mathlib.Core.Path.{◌≡◌, refl, sym, ap, ap₂, ◌∙◌, subst}
use mathlib.Core.Logic.{◌⊎◌, inl, inr}
use mathlib.Core.Bool.{Bool, true, false}
use mathlib.Core.List.{List}
use Prim.Native.Nat.{ℕ, zero, suc, ◌+◌, ◌-◌, ◌%◌, ◌^◌, ◌≤◌, ◌<◌}
use native.Mathlib.Nat.{two-pow-succ, mod-mod, mod-lt}
use native.Mathlib.Decide.{dec_lt}
use native.Mathlib.Omega.{arith}
use lib.Dec.{eqb}
use lib.ListN.{length}
use borrow.Author.Tests.{eq-eqb, eqb-true}
use Rattle.lists.specs.Choice.{pick}
use Rattle.lists.specs.Table.{at, tabulate}
use Rattle.lists.proofs.Table.{length_tabulate, at_tabulate, tabulate_eq, at_past}
use Rattle.lists.proofs.Search.{all_true, all_at, all_same, false_true}
use Rattle.residue.specs.Congruence.{Cong}
use Rattle.residue.proofs.Congruence.{rfl, of_eq, sy, tr, add, modulo, zero_add_zero}
use Rattle.recurrence.proofs.Series.{shift, const, shift_below, shift_from, shift_add}
use Rattle.recurrence.proofs.Pairs.{Vanish}
use Rattle.recurrence.proofs.Trace.{shift_cong}
use Rattle.period.specs.Halving.{equal_halves, first_half, halves_sum, halving, Binary}
use Rattle.period.proofs.Powers.{Δ, Δs, one_plus, Δs-cong, Δs-add, Δs-Δs, Δs-vanish, Δs-zero, twice, power_two}

-- a period of n digits with length c that is not 0 throughout
pub record Shape (n : ℕ) (s : List ℕ) (c : ℕ) : Type 0 where
  pub v : ℕ
  pub γ : ℕ
  pub τ : ℕ → ℕ
  pub size : v + c ≡ n
  pub positive : c ≡ suc γ
  pub short : Vanish 2 γ τ
  pub form : (i : ℕ) → Cong 2 (at s i) (Δs v (one_plus τ) i)

abbrev pub Result : ℕ → List ℕ → ℕ → Type 0
Result n s c = (((i : ℕ) → Cong 2 (at s i) zero) × (c ≡ zero)) ⊎ Shape n s c

-- past its end a list made by a rule reads 0
past : (n : ℕ) (f : ℕ → ℕ) (i : ℕ) → n ≤ i → at (tabulate n f) i ≡ zero
past n f i h = at_past (tabulate n f) i (omega (arith, length_tabulate n f))

one_plus_add : (τ f : ℕ → ℕ) (i : ℕ) → one_plus (λ j. τ j + f j) i ≡ one_plus τ i + Δ f i
one_plus_add τ f i = omega (arith, shift_add 1 τ f i)

module _ (w : ℕ) (s : List ℕ) (size : length s ≡ 2 ^ suc w) (bits : Binary (2 ^ suc w) s) where
  abbrev h : ℕ
  h = 2 ^ w

  abbrev first : List ℕ
  first = first_half h s

  abbrev second : List ℕ
  second = tabulate h (λ i. at s (h + i))

  -- s is the first half and x^h times the second
  apart : (i : ℕ) → at s i ≡ at first i + shift h (at second) i
  apart i = go (dec_lt i h)
    where
      late : h ≤ i → Dec (i - h < h) → at second (i - h) ≡ at s i
      late g (yes l) = at_tabulate h (λ j. at s (h + j)) (i - h) l ∙ ap (at s) (let e : h + (i - h) ≡ i = omega arith in e)
      late g (no l) = past h (λ j. at s (h + j)) (i - h) (omega arith) ∙ sym (at_past s i (omega (arith, size, two-pow-succ w)))

      go : Dec (i < h) → at s i ≡ at first i + shift h (at second) i
      go (yes l) = omega (arith, at_tabulate h (at s) i l, shift_below h (at second) i l)
      go (no l) =
          let g : h ≤ i = omega arith in
          omega (arith, past h (at s) i g, shift_from h (at second) i g, late g (dec_lt (i - h) h))

  sum_at : (i : ℕ) → at (halves_sum h s) i ≡ (at first i + at second i) % 2
  sum_at i = go (dec_lt i h)
    where
      go : Dec (i < h) → at (halves_sum h s) i ≡ (at first i + at second i) % 2
      go (yes l) =
          at_tabulate h (λ j. (at s j + at s (h + j)) % 2) i l
          ∙ ap₂ (λ (x y : ℕ). (x + y) % 2) (sym (at_tabulate h (at s) i l)) (sym (at_tabulate h (λ j. at s (h + j)) i l))
      go (no l) =
          let g : h ≤ i = omega arith in
          past h (λ j. (at s j + at s (h + j)) % 2) i g
          ∙ ap₂ (λ (x y : ℕ). (x + y) % 2) (sym (past h (at s) i g)) (sym (past h (λ j. at s (h + j)) i g))

  -- ---- equal halves: s = (1 + x)^h times one of them

  equal_form : ((i : ℕ) → i < h → at s i ≡ at s (h + i)) → (i : ℕ) → Cong 2 (at s i) (Δs h (at first) i)
  equal_form same i =
      tr (of_eq (apart i)) (tr (add (rfl {a = at first i}) (shift_cong h (at second) (at first) i (λ l. equal (i - h)))) (sy (power_two w (at first) i)))
    where
      equal : (j : ℕ) → Cong 2 (at second j) (at first j)
      equal j = go (dec_lt j h)
        where
          go : Dec (j < h) → Cong 2 (at second j) (at first j)
          go (yes l) = of_eq (at_tabulate h (λ i. at s (h + i)) j l ∙ sym (same j l) ∙ sym (at_tabulate h (at s) j l))
          go (no l) = of_eq (past h (λ i. at s (h + i)) j (omega arith) ∙ sym (past h (at s) j (omega arith)))

  of_equal : ((i : ℕ) → i < h → at s i ≡ at s (h + i)) → (c : ℕ) → Result h first c → Result (2 ^ suc w) s c
  of_equal same c (inl z) =
      inl ((λ i. tr (equal_form same i) (tr (Δs-cong h (at first) (λ j. zero) z.0 i) (of_eq (Δs-zero h i)))), z.1)
  of_equal same c (inr S) =
      inr (record {
        v = h + S.v;
        γ = S.γ;
        τ = S.τ;
        size = omega (arith, S.size, two-pow-succ w);
        positive = S.positive;
        short = S.short;
        form = λ i. tr (equal_form same i) (tr (Δs-cong h (at first) (Δs S.v (one_plus S.τ)) S.form i) (of_eq (sym (Δs-Δs h S.v (h + S.v) (one_plus S.τ) i refl))));
      })

  -- ---- other halves: s is their sum and (1 + x)^h times the second

  other_form : (i : ℕ) → Cong 2 (at s i) (at (halves_sum h s) i + Δs h (at second) i)
  other_form i =
      tr (of_eq (let e : at s i ≡ at first i + shift h (at second) i + zero = omega (arith, apart i) in e))
      (tr (add rfl (sy (twice (at second i))))
      (tr (of_eq (let e : at first i + shift h (at second) i + (at second i + at second i) ≡ at first i + at second i + (at second i + shift h (at second) i) = omega arith in e))
      (add (tr (sy (modulo (at first i + at second i))) (of_eq (sym (sum_at i)))) (sy (power_two w (at second) i)))))

  -- a sum that is 0 comes of equal halves
  sum_zero : ((i : ℕ) → Cong 2 (at (halves_sum h s) i) zero) → (i : ℕ) → i < h → at s i ≡ at s (h + i)
  sum_zero z i l = same (at s i) (at s (h + i)) (bits i (omega (arith, two-pow-succ w))) (bits (h + i) (omega (arith, two-pow-succ w))) even
    where
      even : (at s i + at s (h + i)) % 2 ≡ zero
      even =
          sym (mod-mod (at s i + at s (h + i)) 2) ∙ ap (λ (x : ℕ). x % 2) (sym (at_tabulate h (λ j. (at s j + at s (h + j)) % 2) i l)) ∙ (z i).same

      same : (x y : ℕ) → x < 2 → y < 2 → (x + y) % 2 ≡ zero → x ≡ y
      same x y a b e = omega arith

  of_other : ¬ ((i : ℕ) → i < h → at s i ≡ at s (h + i)) → (c : ℕ) → Result h (halves_sum h s) c → Result (2 ^ suc w) s (h + c)
  of_other n c (inl z) = absurd (n (sum_zero z.0))
  of_other n c (inr S) =
      inr (record {
        v = S.v;
        γ = h + S.γ;
        τ = τ;
        size = omega (arith, S.size, two-pow-succ w);
        positive = omega (arith, S.positive);
        short = λ i k. zero_add_zero (S.short i (omega arith)) (Δs-vanish S.γ (at second) h (λ j l. of_eq (past h (λ i. at s (h + i)) j l)) i (omega arith));
        form =
            λ i. tr (other_form i)
            (tr (add (S.form i) (of_eq (Δs-Δs S.v (suc S.γ) h (at second) i (omega (arith, S.size, S.positive)))))
            (tr (of_eq (sym (Δs-add S.v (one_plus S.τ) (Δs (suc S.γ) (at second)) i)))
            (Δs-cong S.v (λ j. one_plus S.τ j + Δs (suc S.γ) (at second) j) (one_plus τ) (λ j. of_eq (sym (one_plus_add S.τ (Δs S.γ (at second)) j))) i)));
      })
    where
      τ : ℕ → ℕ
      τ j = S.τ j + Δs S.γ (at second) j

-- a list made of a rule with digits has digits
binary : (n : ℕ) (f : ℕ → ℕ) → ((i : ℕ) → i < n → f i < 2) → Binary n (tabulate n f)
binary n f small i h = subst (λ (x : ℕ). x < 2) (sym (at_tabulate n f i h)) (small i h)

pub shape : (w : ℕ) (s : List ℕ) → length s ≡ 2 ^ w → Binary (2 ^ w) s → Result (2 ^ w) s (halving w s)
unfolding halving shift const
shape zero s size bits = start (at s zero) refl
  where
    rest : (i : ℕ) → at s (suc i) ≡ zero
    rest i = at_past s (suc i) (omega (arith, size))

    all_zero : at s zero ≡ zero → (i : ℕ) → Cong 2 (at s i) zero
    all_zero e zero = of_eq e
    all_zero e (suc i) = of_eq (rest i)

    one : at s zero ≡ 1 → (i : ℕ) → Cong 2 (at s i) (one_plus (λ j. zero) i)
    one e zero = of_eq e
    one e (suc i) = of_eq (rest i)

    start : (x : ℕ) → at s zero ≡ x → Result 1 s (at s zero)
    start zero e = inl (all_zero e, e)
    start (suc x) e =
        let u : at s zero ≡ 1 = omega (arith, bits zero (omega arith)) in
        inr (record { v = zero; γ = zero; τ = λ i. zero; size = omega arith; positive = u; short = λ i k. rfl; form = one u })
shape (suc w) s size bits =
    go (equal_halves (2 ^ w) s) refl
    (shape w (first_half (2 ^ w) s) (length_tabulate (2 ^ w) (at s)) (binary (2 ^ w) (at s) (λ i h. bits i (omega (arith, two-pow-succ w)))))
    (shape w (halves_sum (2 ^ w) s) (length_tabulate (2 ^ w) (λ i. (at s i + at s (2 ^ w + i)) % 2))
    (binary (2 ^ w) (λ i. (at s i + at s (2 ^ w + i)) % 2) (λ i h. mod-lt (at s i + at s (2 ^ w + i)) (omega arith))))
  where
    go : (t : Bool) → equal_halves (2 ^ w) s ≡ t
        → Result (2 ^ w) (first_half (2 ^ w) s) (halving w (first_half (2 ^ w) s)) → Result (2 ^ w) (halves_sum (2 ^ w) s) (halving w (halves_sum (2 ^ w) s))
        → Result (2 ^ suc w) s (pick t (halving w (first_half (2 ^ w) s)) (2 ^ w + halving w (halves_sum (2 ^ w) s)))
    go true e r₁ r₂ =
        of_equal w s size bits (λ i l. eqb-true (at s i) (at s (2 ^ w + i)) (all_at (2 ^ w) (λ i. eqb (at s i) (at s (2 ^ w + i))) e i l)) (halving w (first_half (2 ^ w) s)) r₁
    go false e r₁ r₂ =
        of_other w s size bits
        (λ same. false_true (sym e ∙ all_true (2 ^ w) (λ i. eqb (at s i) (at s (2 ^ w + i))) (λ i l. eq-eqb (at s i) (at s (2 ^ w + i)) (same i l))))
        (halving w (halves_sum (2 ^ w) s)) r₂

-- ---- what a program relies on

-- the first 2^w digits alone count
pub halving_same : (w : ℕ) (s t : List ℕ) → ((i : ℕ) → i < 2 ^ w → at s i ≡ at t i) → halving w s ≡ halving w t
unfolding halving
halving_same zero s t h = h zero (omega arith)
halving_same (suc w) s t h = λ i. pick (tests i) (halving w (halves i)) (2 ^ w + halving w (sums i))
  where
    tests : equal_halves (2 ^ w) s ≡ equal_halves (2 ^ w) t
    tests =
        all_same (2 ^ w) (λ i. eqb (at s i) (at s (2 ^ w + i))) (λ i. eqb (at t i) (at t (2 ^ w + i)))
        (λ i l. ap₂ eqb (h i (omega (arith, two-pow-succ w))) (h (2 ^ w + i) (omega (arith, two-pow-succ w))))

    halves : first_half (2 ^ w) s ≡ first_half (2 ^ w) t
    halves = tabulate_eq (2 ^ w) (at s) (at t) (λ i l. h i (omega (arith, two-pow-succ w)))

    sums : halves_sum (2 ^ w) s ≡ halves_sum (2 ^ w) t
    sums = tabulate_eq (2 ^ w) (λ i. (at s i + at s (2 ^ w + i)) % 2) (λ i. (at t i + at t (2 ^ w + i)) % 2)
        (λ i l. ap₂ (λ (x y : ℕ). (x + y) % 2) (h i (omega (arith, two-pow-succ w))) (h (2 ^ w + i) (omega (arith, two-pow-succ w))))

-- equal halves, and t has the first
pub equal_step : (w : ℕ) (s t : List ℕ) → equal_halves (2 ^ w) s ≡ true → ((i : ℕ) → i < 2 ^ w → at t i ≡ at s i) → halving w t ≡ halving (suc w) s
unfolding halving
equal_step w s t e h = rw (e, halving) (halving_same w t (first_half (2 ^ w) s) (λ i l. h i l ∙ sym (at_tabulate (2 ^ w) (at s) i l)))

-- other halves, and t has their sum
pub other_step : (w : ℕ) (s t : List ℕ) → equal_halves (2 ^ w) s ≡ false → ((i : ℕ) → i < 2 ^ w → at t i ≡ (at s i + at s (2 ^ w + i)) % 2)
    → 2 ^ w + halving w t ≡ halving (suc w) s
unfolding halving
other_step w s t e h =
    rw (e, halving) (ap (λ (x : ℕ). 2 ^ w + x) (halving_same w t (halves_sum (2 ^ w) s) (λ i l. h i l ∙ sym (at_tabulate (2 ^ w) (λ i. (at s i + at s (2 ^ w + i)) % 2) i l))))

-- the length is at most the period
pub halving_le : (w : ℕ) (s : List ℕ) → Binary (2 ^ w) s → halving w s ≤ 2 ^ w
unfolding halving
halving_le zero s bits = omega (arith, bits zero (omega arith))
halving_le (suc w) s bits =
    go (equal_halves (2 ^ w) s)
    (halving_le w (first_half (2 ^ w) s) (binary (2 ^ w) (at s) (λ i h. bits i (omega (arith, two-pow-succ w)))))
    (halving_le w (halves_sum (2 ^ w) s) (binary (2 ^ w) (λ i. (at s i + at s (2 ^ w + i)) % 2) (λ i h. mod-lt (at s i + at s (2 ^ w + i)) (omega arith))))
  where
    go : (t : Bool) → halving w (first_half (2 ^ w) s) ≤ 2 ^ w → halving w (halves_sum (2 ^ w) s) ≤ 2 ^ w
        → pick t (halving w (first_half (2 ^ w) s)) (2 ^ w + halving w (halves_sum (2 ^ w) s)) ≤ 2 ^ suc w
    go true a b = omega (arith, two-pow-succ w)
    go false a b = omega (arith, two-pow-succ w)
