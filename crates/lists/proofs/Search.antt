-- Laws of searches.
-- Assumes nothing.
use mathlib.Core.Path.{◌≡◌, refl, sym, ◌∙◌, subst}
use mathlib.Core.Bool.{Bool, true, false, not}
use mathlib.Core.Logic.{◌⊎◌, inl, inr}
use mathlib.Core.List.{List, ◌∷◌}
use Prim.Native.Nat.{ℕ, zero, suc, ◌≤◌, ◌<◌}
use native.Mathlib.Nat.{le_antisymm}
use native.Mathlib.Omega.{arith}
use lib.Dec.{T, ltb}
use borrow.Author.Tests.{ltb-true, ltb-false}
use Rattle.lists.specs.Choice.{both}
use Rattle.lists.specs.Search.{first, all, every}

pub false_true : {A : Type 0} → ◌≡◌ {A = Bool} false true → A
false_true q = absurd (subst (λ (b : Bool). T (not b)) q tt)

pub both_left : (a b : Bool) → both a b ≡ true → a ≡ true
both_left true b h = refl
both_left false b h = h

pub both_right : (a b : Bool) → both a b ≡ true → b ≡ true
both_right true b h = h
both_right false b h = false_true h

pub both_true : {a b : Bool} → a ≡ true → b ≡ true → both a b ≡ true
both_true h k = rw h k

-- one number is below another, or is not
pub lt_or_le : (a b : ℕ) → (a < b) ⊎ (b ≤ a)
lt_or_le a b = go (ltb a b) refl
  where
    go : (t : Bool) → ltb a b ≡ t → (a < b) ⊎ (b ≤ a)
    go true e = inl (ltb-true a b e)
    go false e = inr (ltb-false a b e)

-- ---- the first number that passes

pub first_le : (n : ℕ) (p : ℕ → Bool) → first n p ≤ n
unfolding first
first_le zero p = omega arith
first_le (suc n) p = go (p zero) (first_le n (λ i. p (suc i)))
  where
    go : (b : Bool) → first n (λ i. p (suc i)) ≤ n → elim b as (λ z. ℕ) [ true ↦ zero | false ↦ suc (first n (λ i. p (suc i))) ] ≤ suc n
    go true h = omega arith
    go false h = omega arith

-- where the search stopped before the end, the number passes
pub first_passes : (n : ℕ) (p : ℕ → Bool) → first n p < n → p (first n p) ≡ true
unfolding first
first_passes zero p h = absurd (omega arith)
first_passes (suc n) p h = go (p zero) refl (first_passes n (λ i. p (suc i))) h
  where
    go :
        (b : Bool) → p zero ≡ b → (first n (λ i. p (suc i)) < n → p (suc (first n (λ i. p (suc i)))) ≡ true)
        → elim b as (λ z. ℕ) [ true ↦ zero | false ↦ suc (first n (λ i. p (suc i))) ] < suc n
        → p (elim b as (λ z. ℕ) [ true ↦ zero | false ↦ suc (first n (λ i. p (suc i))) ]) ≡ true
    go true e ih h = e
    go false e ih h = ih (omega arith)

-- before it none does
pub first_before : (n : ℕ) (p : ℕ → Bool) (j : ℕ) → j < first n p → p j ≡ false
unfolding first
first_before zero p j h = absurd (omega arith)
first_before (suc n) p j h = go (p zero) refl (first_before n (λ i. p (suc i))) j h
  where
    go :
        (b : Bool) → p zero ≡ b → ((j : ℕ) → j < first n (λ i. p (suc i)) → p (suc j) ≡ false)
        → (i : ℕ) → i < elim b as (λ z. ℕ) [ true ↦ zero | false ↦ suc (first n (λ i. p (suc i))) ] → p i ≡ false
    go true e ih i h = absurd (omega arith)
    go false e ih zero h = e
    go false e ih (suc i) h = ih i (omega arith)

-- a search from the front that stopped at r
pub is_first : (n : ℕ) (p : ℕ → Bool) (r : ℕ) → r ≤ n → ((j : ℕ) → j < r → p j ≡ false) → (r < n → p r ≡ true) → r ≡ first n p
is_first n p r h before found = go (lt_or_le r (first n p)) (lt_or_le (first n p) r)
  where
    go : (r < first n p) ⊎ (first n p ≤ r) → (first n p < r) ⊎ (r ≤ first n p) → r ≡ first n p
    go (inl l) k = false_true (sym (first_before n p r l) ∙ found (omega (arith, first_le n p)))
    go (inr l) (inl k) = false_true (sym (before (first n p) k) ∙ first_passes n p (omega arith))
    go (inr l) (inr k) = le_antisymm k l

-- tests that agree are first passed at the same place
pub first_same : (n : ℕ) (p q : ℕ → Bool) → ((j : ℕ) → j < n → p j ≡ q j) → first n p ≡ first n q
first_same n p q h =
    is_first n q (first n p) (first_le n p) (λ j l. sym (h j (omega (arith, first_le n p))) ∙ first_before n p j l) (λ l. sym (h _ l) ∙ first_passes n p l)

-- where some number below n passes, the search finds one no larger
pub first_found : (n : ℕ) (p : ℕ → Bool) (j : ℕ) → j < n → p j ≡ true → (first n p ≤ j) × (p (first n p) ≡ true)
first_found n p j h e = go (lt_or_le j (first n p))
  where
    go : (j < first n p) ⊎ (first n p ≤ j) → (first n p ≤ j) × (p (first n p) ≡ true)
    go (inl k) = false_true (sym (first_before n p j k) ∙ e)
    go (inr k) = (k, first_passes n p (omega arith))

-- where the search went to the end, no number passes
pub first_none : (n : ℕ) (p : ℕ → Bool) → n ≤ first n p → (j : ℕ) → j < n → p j ≡ false
first_none n p h j k = first_before n p j (omega arith)

pub none_first : (n : ℕ) (p : ℕ → Bool) → ((j : ℕ) → j < n → p j ≡ false) → first n p ≡ n
none_first n p h = sym (is_first n p n (native.Mathlib.Nat.le_refl n) h (λ l. absurd (omega arith)))

-- ---- all numbers pass

pub all_true : (n : ℕ) (p : ℕ → Bool) → ((j : ℕ) → j < n → p j ≡ true) → all n p ≡ true
unfolding all
all_true zero p h = refl
all_true (suc n) p h = rw (h zero (omega arith), all) (all_true n (λ i. p (suc i)) (λ j k. h (suc j) (omega arith)))

pub all_false : (n : ℕ) (p : ℕ → Bool) (j : ℕ) → j < n → p j ≡ false → all n p ≡ false
unfolding all
all_false zero p j h e = absurd (omega arith)
all_false (suc n) p zero h e = rw (e, all)
all_false (suc n) p (suc j) h e = go (p zero) (all_false n (λ i. p (suc i)) j (omega arith) e)
  where
    go : (b : Bool) → all n (λ i. p (suc i)) ≡ false → elim b as (λ z. Bool) [ true ↦ all n (λ i. p (suc i)) | false ↦ false ] ≡ false
    go true q = q
    go false q = refl

-- tests that agree below n are passed by all or by not all
pub all_same : (n : ℕ) (p q : ℕ → Bool) → ((j : ℕ) → j < n → p j ≡ q j) → all n p ≡ all n q
unfolding all
all_same zero p q e = refl
all_same (suc n) p q e =
    let first : p zero ≡ q zero = e zero (omega arith) in
    let later = all_same n (λ i. p (suc i)) (λ i. q (suc i)) (λ j l. e (suc j) (omega arith)) in
    λ i. elim (first i) as (λ z. Bool) [ true ↦ later i | false ↦ false ]

pub all_at : (n : ℕ) (p : ℕ → Bool) → all n p ≡ true → (j : ℕ) → j < n → p j ≡ true
unfolding all
all_at zero p h j k = absurd (omega arith)
all_at (suc n) p h j k = go (p zero) refl h (all_at n (λ i. p (suc i))) j k
  where
    go :
        (b : Bool) → p zero ≡ b → elim b as (λ z. Bool) [ true ↦ all n (λ i. p (suc i)) | false ↦ false ] ≡ true
        → (all n (λ i. p (suc i)) ≡ true → (j : ℕ) → j < n → p (suc j) ≡ true)
        → (j : ℕ) → j < suc n → p j ≡ true
    go true e h ih zero k = e
    go true e h ih (suc j) k = ih h j (omega arith)
    go false e h ih j k = false_true h

-- ---- every entry passes

pub every_cons {ℓ} : {A : Type ℓ} (p : A → Bool) (x : A) (xs : List A) → p x ≡ true → every p xs ≡ true → every p (x ∷ xs) ≡ true
unfolding every
every_cons p x xs h k = rw (h, every) k

pub every_head {ℓ} : {A : Type ℓ} (p : A → Bool) (x : A) (xs : List A) → every p (x ∷ xs) ≡ true → p x ≡ true
unfolding every
every_head p x xs h = go (p x) h
  where
    go : (b : Bool) → elim b as (λ z. Bool) [ true ↦ every p xs | false ↦ false ] ≡ true → b ≡ true
    go true h = refl
    go false h = h

pub every_tail {ℓ} : {A : Type ℓ} (p : A → Bool) (x : A) (xs : List A) → every p (x ∷ xs) ≡ true → every p xs ≡ true
unfolding every
every_tail p x xs h = go (p x) h
  where
    go : (b : Bool) → elim b as (λ z. Bool) [ true ↦ every p xs | false ↦ false ] ≡ true → every p xs ≡ true
    go true h = h
    go false h = false_true h
