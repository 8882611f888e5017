-- Laws of the product of power series, which are functions ℕ → ℕ here. The product recurses on the place and takes the first
-- factor's tail, so that no place is subtracted and each law is one induction closed by `omega`.
-- Assumes nothing.
use mathlib.Core.Path.{◌≡◌, refl, sym, ap, ◌∙◌, fun_ext}
use Prim.Native.Nat.{ℕ, zero, suc, ◌+◌, ◌*◌, ◌-◌, ◌≤◌, ◌<◌}
use native.Mathlib.Nat.{suc-sub-suc, sub-zero}
use native.Mathlib.Omega.{arith}
use Rattle.lists.specs.Sum.{sum_to}
use Rattle.lists.proofs.Sum.{sum_to_head, sum_to_eq}
use Rattle.recurrence.specs.Polynomial.{conv}

-- the series divided by x, its first coefficient dropped
abbrev pub tail : (ℕ → ℕ) → ℕ → ℕ
tail f i = f (suc i)

-- the series times x^s
unfoldable pub shift : ℕ → (ℕ → ℕ) → ℕ → ℕ
shift zero f n = f n
shift (suc s) f zero = zero
shift (suc s) f (suc n) = shift s f n

-- the series with one coefficient, at place 0
unfoldable pub const : ℕ → ℕ → ℕ
const c zero = c
const c (suc n) = zero

pub conv_add_l : (f g h : ℕ → ℕ) (n : ℕ) → conv (λ i. f i + g i) h n ≡ conv f h n + conv g h n
unfolding conv
conv_add_l f g h zero = omega arith
conv_add_l f g h (suc n) = omega (arith, conv_add_l (tail f) (tail g) h n)

pub conv_add_r : (f g h : ℕ → ℕ) (n : ℕ) → conv f (λ i. g i + h i) n ≡ conv f g n + conv f h n
unfolding conv
conv_add_r f g h zero = omega arith
conv_add_r f g h (suc n) = omega (arith, conv_add_r (tail f) g h n)

pub conv_mul_l : (c : ℕ) (f g : ℕ → ℕ) (n : ℕ) → conv (λ i. c * f i) g n ≡ c * conv f g n
unfolding conv
conv_mul_l c f g zero = omega arith
conv_mul_l c f g (suc n) = omega (arith, conv_mul_l c (tail f) g n)

-- the recursion from the other end
pub conv_last : (f g : ℕ → ℕ) (n : ℕ) → conv f g (suc n) ≡ conv f (tail g) n + f (suc n) * g zero
unfolding conv
conv_last f g zero = omega arith
conv_last f g (suc n) = omega (arith, conv_last (tail f) g n)

pub conv_comm : (f g : ℕ → ℕ) (n : ℕ) → conv f g n ≡ conv g f n
unfolding conv
conv_comm f g zero = omega arith
conv_comm f g (suc n) = omega (arith, conv_comm (tail f) g n, conv_last g f n)

pub conv_assoc : (f g h : ℕ → ℕ) (n : ℕ) → conv (conv f g) h n ≡ conv f (conv g h) n
unfolding conv
conv_assoc f g h zero = omega arith
conv_assoc f g h (suc n) =
    omega (arith, conv_add_l (λ i. f zero * g (suc i)) (conv (tail f) g) h n, conv_mul_l (f zero) (tail g) h n, conv_assoc (tail f) g h n)

pub conv_shift : (s : ℕ) (f g : ℕ → ℕ) (n : ℕ) → conv (shift s f) g n ≡ shift s (conv f g) n
unfolding conv shift
conv_shift zero f g n = refl
conv_shift (suc s) f g zero = omega arith
conv_shift (suc s) f g (suc n) = omega (arith, conv_shift s f g n)

-- two products with one factor in common: f (g h) = h (g f)
pub conv_swap : (f g h : ℕ → ℕ) (n : ℕ) → conv f (conv g h) n ≡ conv h (conv g f) n
conv_swap f g h n =
    sym (conv_assoc f g h n) ∙ conv_comm (conv f g) h n ∙ ap (λ (s : ℕ → ℕ). conv h s n) (fun_ext (conv_comm f g))

pub conv_mul_r : (c : ℕ) (f g : ℕ → ℕ) (n : ℕ) → conv f (λ i. c * g i) n ≡ c * conv f g n
conv_mul_r c f g n = conv_comm f (λ i. c * g i) n ∙ conv_mul_l c g f n ∙ ap (λ (x : ℕ). c * x) (conv_comm g f n)

pub conv_shift_r : (s : ℕ) (f g : ℕ → ℕ) (n : ℕ) → conv f (shift s g) n ≡ shift s (conv f g) n
conv_shift_r s f g n = conv_comm f (shift s g) n ∙ conv_shift s g f n ∙ ap (λ (h : ℕ → ℕ). shift s h n) (fun_ext (conv_comm g f))

-- a shifted series, below its start and from there on
pub shift_below : (s : ℕ) (f : ℕ → ℕ) (n : ℕ) → n < s → shift s f n ≡ zero
unfolding shift
shift_below zero f n h = omega arith
shift_below (suc s) f zero h = refl
shift_below (suc s) f (suc n) h = shift_below s f n (omega arith)

pub shift_from : (s : ℕ) (f : ℕ → ℕ) (n : ℕ) → s ≤ n → shift s f n ≡ f (n - s)
unfolding shift
shift_from zero f n h = ap f (omega arith)
shift_from (suc s) f zero h = absurd (omega arith)
shift_from (suc s) f (suc n) h = shift_from s f n (omega arith) ∙ ap f (omega arith)

-- sums and shifts of shifted series
pub shift_add : (t : ℕ) (f g : ℕ → ℕ) (i : ℕ) → shift t (λ j. f j + g j) i ≡ shift t f i + shift t g i
unfolding shift
shift_add zero f g i = refl
shift_add (suc t) f g zero = omega arith
shift_add (suc t) f g (suc i) = shift_add t f g i

pub shift_shift : (t u : ℕ) (f : ℕ → ℕ) (i : ℕ) → shift t (shift u f) i ≡ shift (t + u) f i
unfolding shift
shift_shift zero u f i = ap (λ (z : ℕ). shift z f i) (let e : u ≡ zero + u = omega arith in e)
shift_shift (suc t) u f zero = ap (λ (z : ℕ). shift z f zero) (let e : suc (t + u) ≡ suc t + u = omega arith in e)
shift_shift (suc t) u f (suc i) = shift_shift t u f i ∙ ap (λ (z : ℕ). shift z f (suc i)) (let e : suc (t + u) ≡ suc t + u = omega arith in e)

-- 1 times a series
pub conv_one : (f : ℕ → ℕ) (n : ℕ) → conv (const 1) f n ≡ f n
unfolding conv const
conv_one f zero = omega arith
conv_one f (suc n) = omega (arith, none f n)
  where
    none : (g : ℕ → ℕ) (n : ℕ) → conv (λ i. zero) g n ≡ zero
    none g zero = omega arith
    none g (suc n) = omega (arith, none g n)

-- the product as a sum that a loop adds up
abbrev pub summand : (ℕ → ℕ) → (ℕ → ℕ) → ℕ → ℕ → ℕ
summand f g k i = f i * g (k - i)

pub conv_sum : (f g : ℕ → ℕ) (k : ℕ) → conv f g k ≡ sum_to (suc k) (summand f g k)
unfolding conv sum_to
conv_sum f g zero = omega (arith, ap (λ (x : ℕ). f zero * g x) (sub-zero zero))
conv_sum f g (suc k) =
    omega (arith, conv_sum (tail f) g k, sum_to_head (suc k) (summand f g (suc k)), ap (λ (x : ℕ). f zero * g x) (sub-zero (suc k)), later)
  where
    later : sum_to (suc k) (λ i. summand f g (suc k) (suc i)) ≡ sum_to (suc k) (summand (tail f) g k)
    later = sum_to_eq (suc k) (λ i. summand f g (suc k) (suc i)) (summand (tail f) g k) (λ i h. ap (λ (x : ℕ). f (suc i) * g x) (suc-sub-suc k i))
