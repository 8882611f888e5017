-- Counts: one number more, and by a numbering of what passes.
-- Assumes nothing.
use mathlib.Core.Path.{◌≡◌, refl, sym, ap, ◌∙◌}
use mathlib.Core.Logic.{◌≢◌}
use mathlib.Core.Bool.{Bool, true, false}
use Prim.Native.Nat.{ℕ, zero, ◌+◌, ◌≤◌, ◌<◌}
use native.Mathlib.Decide.{ℕ_discrete}
use native.Mathlib.Omega.{arith}
use lib.Dec.{eqb}
use borrow.Author.Tests.{eq-eqb, ne_eqb}
use Rattle.lists.specs.Choice.{pick}
use Rattle.lists.specs.Sum.{sum_to}
use Rattle.lists.proofs.Sum.{sum_to_more, sum_to_eq, sum_to_le, sum_to_zeros, sum_to_ones, sum_to_single, sum_to_swap}
use Rattle.lists.proofs.Search.{false_true}
use Rattle.counting.specs.Numbering.{count_below}

-- 1 where the numbers are equal, else 0
abbrev pub mark : ℕ → ℕ → ℕ
mark x y = pick (eqb x y) 1 zero

pub mark_same : (x y : ℕ) → x ≡ y → mark x y ≡ 1
mark_same x y e = ap (λ (t : Bool). pick t 1 zero) (eq-eqb x y e)

pub mark_other : (x y : ℕ) → x ≢ y → mark x y ≡ zero
mark_other x y e = ap (λ (t : Bool). pick t 1 zero) (ne_eqb x y e)

pub mark_iff : (x y v w : ℕ) → (x ≡ y → v ≡ w) → (v ≡ w → x ≡ y) → mark x y ≡ mark v w
mark_iff x y v w f g = go (ℕ_discrete x y)
  where
    go : Dec (x ≡ y) → mark x y ≡ mark v w
    go (yes e) = mark_same x y e ∙ sym (mark_same v w (f e))
    go (no n) = mark_other x y n ∙ sym (mark_other v w (λ e. n (g e)))

-- a loop that counts: one number more
pub count_more : (n : ℕ) (p : ℕ → Bool) → count_below (n + 1) p ≡ count_below n p + pick (p n) 1 zero
unfolding count_below
count_more n p = sum_to_more n (λ x. pick (p x) 1 zero)

pub count_le : (n : ℕ) (p : ℕ → Bool) → count_below n p ≤ n
unfolding count_below
count_le n p = omega (arith, sum_to_le n 1 (λ x. pick (p x) 1 zero) (λ i h. one (p i)))
  where
    one : (t : Bool) → pick t 1 zero ≤ 1
    one true = omega arith
    one false = omega arith

-- where f numbers what passes by 0, .., k - 1, k numbers pass: 1 for each that passes is the sum over i of 1 at f i
pub count_by : (k n : ℕ) (f : ℕ → ℕ) (p : ℕ → Bool) → ((i : ℕ) → i < k → f i < n)
    → ((i j : ℕ) → i < k → j < k → f i ≡ f j → i ≡ j) → ((i : ℕ) → i < k → p (f i) ≡ true)
    → ((x : ℕ) → x < n → p x ≡ true → (i : ℕ) × (i < k) × (f i ≡ x)) → count_below n p ≡ k
unfolding count_below
count_by k n f p into inj passes onto =
    sum_to_eq n (λ x. pick (p x) 1 zero) (λ x. sum_to k (λ i. mark (f i) x)) (λ x h. each x (p x) refl (onto x h))
    ∙ sum_to_swap n k (λ x i. mark (f i) x)
    ∙ sum_to_eq k (λ i. sum_to n (λ x. mark (f i) x)) (λ i. 1) one
    ∙ sum_to_ones k
  where
    one : (i : ℕ) → i < k → sum_to n (λ x. mark (f i) x) ≡ 1
    one i h =
        sum_to_single n (f i) (λ x. mark (f i) x) (into i h) (λ x l ne. mark_other (f i) x (λ e. ne (sym e)))
        ∙ mark_same (f i) (f i) refl

    each : (x : ℕ) (t : Bool) → p x ≡ t → (p x ≡ true → (i : ℕ) × (i < k) × (f i ≡ x)) → pick t 1 zero ≡ sum_to k (λ i. mark (f i) x)
    each x false e on = sym (sum_to_zeros k _ (λ i h. mark_other (f i) x (λ z. false_true (sym e ∙ ap p (sym z) ∙ passes i h))))
    each x true e on =
        let w = on e in
        sym (sum_to_single k w.0 (λ i. mark (f i) x) w.1
        (λ i h ne. mark_other (f i) x (λ z. ne (inj i w.0 h w.1 (z ∙ sym w.2))))
        ∙ mark_same (f w.0) x w.2)
