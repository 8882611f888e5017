-- Laws of lists made by a rule for their entries.
-- Assumes nothing.
use mathlib.Core.Path.{◌≡◌, refl, sym, ap, ap₂, ◌∙◌, subst}
use mathlib.Core.List.{List, [], ◌∷◌, ◌++◌, map}
use Prim.Native.Nat.{ℕ, zero, suc, ◌+◌, ◌≤◌, ◌<◌}
use native.Mathlib.Nat.{not-suc-le-zero, lt_irrefl, le_trans}
use native.Mathlib.Decide.{ℕ_discrete, dec_lt}
use native.Mathlib.Omega.{arith}
use lib.ListN.{length, get_or, set, length-set, length-append, get_or-append, get_or-eq_default}
use lib.Seq.{ext_get_or, get_or_at, get_or-set_same, get_or-set_other}
use borrow.Author.Count.{below_more}
use Rattle.lists.specs.Table.{at, tabulate}

pub length_tabulate {ℓ} : {A : Type ℓ} (n : ℕ) (f : ℕ → A) → length (tabulate n f) ≡ n
unfolding tabulate
length_tabulate zero f = refl
length_tabulate (suc n) f = ap suc (length_tabulate n (λ i. f (suc i)))

pub get_d_tabulate {ℓ} : {A : Type ℓ} (n : ℕ) (f : ℕ → A) (i : ℕ) (d : A) → i < n → get_or (tabulate n f) i d ≡ f i
unfolding tabulate
get_d_tabulate zero f i d h = absurd (omega arith)
get_d_tabulate (suc n) f zero d h = refl
get_d_tabulate (suc n) f (suc i) d h = get_d_tabulate n (λ i. f (suc i)) i d (omega arith)

-- past its end a list of numbers reads 0
pub at_past : (xs : List ℕ) (i : ℕ) → length xs ≤ i → at xs i ≡ zero
at_past xs i h = get_or-eq_default xs zero h

-- one more entry at the end
pub length_snoc : (xs : List ℕ) (x : ℕ) → length (xs ++ (x ∷ [])) ≡ suc (length xs)
length_snoc xs x = length-append xs (x ∷ []) ∙ omega arith

pub at_front : (xs : List ℕ) (x i : ℕ) → i < length xs → at (xs ++ (x ∷ [])) i ≡ at xs i
at_front xs x i h = get_or-append xs (x ∷ []) zero i h

pub at_last : (xs : List ℕ) (x n : ℕ) → length xs ≡ n → at (xs ++ (x ∷ [])) n ≡ x
at_last xs x n e = get_or_at xs x [] zero n e

pub at_tabulate : (n : ℕ) (f : ℕ → ℕ) (i : ℕ) → i < n → at (tabulate n f) i ≡ f i
at_tabulate n f i h = get_d_tabulate n f i zero h

-- where the rule gives 0 from place n on, cutting at n loses nothing
pub at_tabulate_all : (n : ℕ) (f : ℕ → ℕ) → ((i : ℕ) → n ≤ i → f i ≡ zero) → (i : ℕ) → at (tabulate n f) i ≡ f i
at_tabulate_all n f past i = go (dec_lt i n)
  where
    go : Dec (i < n) → at (tabulate n f) i ≡ f i
    go (yes h) = at_tabulate n f i h
    go (no h) = at_past (tabulate n f) i (omega (arith, length_tabulate n f)) ∙ sym (past i (omega arith))

pub tabulate_eq {ℓ} : {A : Type ℓ} (n : ℕ) (f g : ℕ → A) → ((i : ℕ) → i < n → f i ≡ g i) → tabulate n f ≡ tabulate n g
unfolding tabulate
tabulate_eq zero f g h = refl
tabulate_eq (suc n) f g h =
    ap₂ (λ x xs. x ∷ xs) (h zero (omega arith)) (tabulate_eq n (λ i. f (suc i)) (λ i. g (suc i)) (λ i k. h (suc i) (omega arith)))

-- a list that has been filled by the rule f
pub is_tabulate : {A : Type 0} (n : ℕ) (f : ℕ → A) (d : A) (xs : List A) → length xs ≡ n → ((i : ℕ) → i < n → get_or xs i d ≡ f i) → xs ≡ tabulate n f
is_tabulate n f d xs e h =
    ext_get_or d xs (tabulate n f) (e ∙ sym (length_tabulate n f)) λ i k. h i (rw (← e) k) ∙ sym (get_d_tabulate n f i d (rw (← e) k))

pub tabulate_self : {A : Type 0} (d : A) (xs : List A) → xs ≡ tabulate (length xs) (λ j. get_or xs j d)
tabulate_self d xs = is_tabulate (length xs) (λ j. get_or xs j d) d xs refl (λ i h. refl)

-- the last entry at the end
pub tabulate_last : {A : Type 0} (n : ℕ) (f : ℕ → A) → tabulate (suc n) f ≡ tabulate n f ++ (f n ∷ [])
unfolding tabulate
tabulate_last zero f = refl
tabulate_last (suc n) f = ap (λ (ys : List _). f zero ∷ ys) (tabulate_last n (λ i. f (suc i)))

-- each entry of a list, by its place
pub map_tabulate : {A B : Type 0} (f : A → B) (d : A) (xs : List A) → map f xs ≡ tabulate (length xs) (λ i. f (get_or xs i d))
unfolding tabulate
map_tabulate f d [] = refl
map_tabulate f d (x ∷ xs) = ap (λ (ys : List _). f x ∷ ys) (map_tabulate f d xs)

-- A list of n entries of which the first i are by the rule f: what a loop that fills an array knows.
pub record Filled {A : Type 0} (d : A) (f : ℕ → A) (n i : ℕ) (xs : List A) : Type 0 where
  pub size : length xs ≡ n
  pub done : (j : ℕ) → j < i → get_or xs j d ≡ f j

module _ {A : Type 0} {d : A} {f : ℕ → A} {n : ℕ} where
  pub filled_none : (xs : List A) → length xs ≡ n → Filled d f n 0 xs
  filled_none xs e = record { size = e; done = λ j h. absurd (not-suc-le-zero h) }

  pub filled_more : {i : ℕ} {xs : List A} (v : A) → Filled d f n i xs → i < n → v ≡ f i → Filled d f n (i + 1) (set xs i v)
  filled_more {i} {xs} v h k e =
      record {
        size = length-set xs i v ∙ h.size;
        done = below_more _ i
            (λ j l. get_or-set_other xs i j v d (λ q. lt_irrefl j (rw (← q) at l)) ∙ h.done j l)
            (get_or-set_same xs i v d (rw h.size k) ∙ e);
      }

  pub filled_all : {i : ℕ} {xs : List A} → Filled d f n i xs → n ≤ i → xs ≡ tabulate n f
  filled_all {xs = xs} h k = is_tabulate n f d xs h.size (λ j l. h.done j (le_trans l k))

-- ---- a loop that sets one place after the other

-- what holds of each place below i, and of what is set at i, holds of each place below i + 1
module _ {A : Type 0} (d : A) (Q : ℕ → A → Type 0) (x : List A) (i : ℕ) (v : A) where
  pub each_next : ((j : ℕ) → j < i → Q j (get_or x j d)) → i < length x → Q i v → (j : ℕ) → j < i + 1 → Q j (get_or (set x i v) j d)
  each_next before h now j l = go (ℕ_discrete j i)
    where
      go : Dec (j ≡ i) → Q j (get_or (set x i v) j d)
      go (yes e) = subst (λ (k : ℕ). Q k (get_or (set x i v) k d)) (sym e) (subst (Q i) (sym (get_or-set_same x i v d h)) now)
      go (no f) = subst (Q j) (sym (get_or-set_other x i j v d f)) (before j (omega arith))

-- the places past i are as they were
pub rest_next : {A : Type 0} (d : A) (x x₀ : List A) (i : ℕ) (v : A) → ((j : ℕ) → i ≤ j → get_or x j d ≡ get_or x₀ j d)
    → (j : ℕ) → i + 1 ≤ j → get_or (set x i v) j d ≡ get_or x₀ j d
rest_next d x x₀ i v before j l = get_or-set_other x i j v d (λ e. omega arith) ∙ before j (omega arith)

-- one more place, where nothing is set
pub each_skip : (Q : ℕ → Type 0) (i : ℕ) → ((j : ℕ) → j < i → Q j) → Q i → (j : ℕ) → j < i + 1 → Q j
each_skip Q i before now j l = go (ℕ_discrete j i)
  where
    go : Dec (j ≡ i) → Q j
    go (yes e) = subst Q (sym e) now
    go (no f) = before j (omega arith)
