-- The least divisor of an odd number from the table: a test of an entry at its place, which is computed for the whole table, and that an entry that passes is
-- the least divisor. Of an even number from 2 on it is 2; 0 stands for itself.
-- Assumes nothing.
use mathlib.Core.Path.{◌≡◌, refl, sym, ap, ◌∙◌, subst}
use mathlib.Core.Logic.{◌≢◌}
use mathlib.Core.Bool.{Bool, true, false}
use mathlib.Core.List.{List, [], ◌∷◌}
use Prim.Native.Nat.{ℕ, zero, suc, ◌+◌, ◌*◌, ◌-◌, ◌/◌, ◌%◌, ◌≤◌, ◌<◌, min, ◌∣◌}
use native.Mathlib.Nat.{mod-eq-zero_of_dvd, dvd_of_mod-eq-zero, div-mul_cancel, dvd-mul_right, div-lt_iff_lt-mul, le_of_dvd, add-zero, zero-add, add-suc, suc-add, le_of_suc-le-suc, not-suc-le-zero}
use native.Mathlib.Decide.{dec_lt, ℕ_discrete}
use native.Mathlib.Omega.{arith}
use lib.Dec.{eqb, leb, ltb}
use lib.ListN.{length, get_or}
use borrow.Author.Tests.{eqb-true, leb-true, ltb-true}
use Rattle.lists.specs.Choice.{pick, both}
use Rattle.lists.specs.Search.{first}
use Rattle.lists.proofs.Search.{both_left, both_right}
use Rattle.residue.specs.Factors.{least_divisor, divisors_end}
use Rattle.residue.proofs.Factors.{IsLeastDivisor, is_least_divisor}

-- ---- one entry

-- none of d, .., d + k - 1 divides n
abbrev none_from : ℕ → ℕ → ℕ → Bool
none_from n zero d = true
none_from n (suc k) d = both (ltb zero (n % d)) (none_from n k (suc d))

-- x is below 64 or is n itself, and no number below x and below 64 divides n
abbrev least : ℕ → ℕ → Bool
least n x = both (pick (ltb x 64) true (eqb x n)) (none_from n (min x 64 - 2) 2)

abbrev divides : ℕ → ℕ → Bool
divides n x = both (eqb (n % x) zero) (least n x)

-- the test of the entry x at the place i, which is that of 2 i + 1
abbrev pub entry : ℕ → ℕ → Bool
entry zero x = eqb x 1
entry (suc i) x = both (leb 2 x) (divides (2 * suc i + 1) x)

none_at : (n k d : ℕ) → none_from n k d ≡ true → (e : ℕ) → d ≤ e → e < d + k → n % e ≢ zero
none_at n zero d t e lo hi z = omega arith
none_at n (suc k) d t e lo hi z =
    go (ℕ_discrete e d) (none_at n k (suc d) (both_right (ltb zero (n % d)) (none_from n k (suc d)) t) e)
  where
    go : Dec (e ≡ d) → (suc d ≤ e → e < suc d + k → n % e ≢ zero) → ⊥
    go (yes h) ih =
        let p : zero < n % d = ltb-true zero (n % d) (both_left (ltb zero (n % d)) (none_from n k (suc d)) t) in
        let q : n % d ≡ zero = subst (λ (y : ℕ). n % y ≡ zero) h z in
        omega arith
    go (no h) ih = ih (omega arith) (omega arith) z

proper : (q d n : ℕ) → q * d ≡ n → d < n → 2 ≤ q
proper zero d n e h = absurd (omega arith)
proper (suc zero) d n e h = absurd (omega arith)
proper (suc (suc q)) d n e h = omega arith

large : (x n : ℕ) → pick (ltb x 64) true (eqb x n) ≡ true → 64 < x → x ≡ n
large x n t h = go (ltb x 64) refl t
  where
    go : (b : Bool) → ltb x 64 ≡ b → pick b true (eqb x n) ≡ true → x ≡ n
    go true e t' = absurd (omega (arith, ltb-true x 64 e))
    go false e t' = eqb-true x n t'

module _ (n x : ℕ) (pos : zero < n) (small : n < divisors_end) (t : both (leb 2 x) (divides n x) ≡ true) where
  two : 2 ≤ x
  two = leb-true 2 x (both_left (leb 2 x) (divides n x) t)

  t₁ : divides n x ≡ true
  t₁ = both_right (leb 2 x) (divides n x) t

  t₂ : least n x ≡ true
  t₂ = both_right (eqb (n % x) zero) (least n x) t₁

  whole : n % x ≡ zero
  whole = eqb-true (n % x) zero (both_left (eqb (n % x) zero) (least n x) t₁)

  last : 64 < x → x ≡ n
  last = large x n (both_left (pick (ltb x 64) true (eqb x n)) (none_from n (min x 64 - 2) 2) t₂)

  tested : (e : ℕ) → 2 ≤ e → e < 2 + (min x 64 - 2) → n % e ≢ zero
  tested = none_at n (min x 64 - 2) 2 (both_right (pick (ltb x 64) true (eqb x n)) (none_from n (min x 64 - 2) 2) t₂)

  -- a divisor from 64 on has a cofactor below 64, which the test has ruled out
  none_below : (d : ℕ) → 1 < d → d < x → n % d ≢ zero
  none_below d lo hi z = go (dec_lt d 64)
    where
      go : Dec (d < 64) → ⊥
      go (yes h) = tested d lo (omega (arith, two)) z
      go (no h) =
          let same : x ≡ n = last (omega arith) in
          let e : n / d * d ≡ n = div-mul_cancel d (dvd_of_mod-eq-zero d z) in
          let low : n / d < 64 = (div-lt_iff_lt-mul {k = d} {x = n} {y = 64} (omega arith)).1 (omega arith) in
          let big : 2 ≤ n / d = proper (n / d) d n e (omega arith) in
          tested (n / d) big (omega arith)
          (mod-eq-zero_of_dvd (n / d) (subst (λ (m : ℕ). n / d ∣ m) e (dvd-mul_right (n / d) d)))

  passes : IsLeastDivisor n x
  passes = record { big = two; most = le_of_dvd pos (dvd_of_mod-eq-zero x whole); divides = whole; none = none_below }

-- an entry that passes is the least divisor
entry_is : (i x : ℕ) → 2 * i + 1 < divisors_end → entry i x ≡ true → x ≡ least_divisor (2 * i + 1)
unfolding least_divisor first
entry_is zero x h t = eqb-true x 1 t
entry_is (suc i) x h t =
    is_least_divisor (2 * suc i + 1) x (omega arith) (passes (2 * suc i + 1) x (omega arith) h t)

-- ---- the whole table

-- every entry passes at its place, counted from i
abbrev pub all_from : (ℕ → ℕ → Bool) → ℕ → List ℕ → Bool
all_from f i [] = true
all_from f i (x ∷ xs) = both (f i x) (all_from f (suc i) xs)

from : (f : ℕ → ℕ → Bool) (xs : List ℕ) (i : ℕ) → all_from f i xs ≡ true → (k : ℕ) → k < length xs → f (i + k) (get_or xs k zero) ≡ true
from f [] i t k h = absurd (not-suc-le-zero h)
from f (x ∷ xs) i t zero h = ap (λ (m : ℕ). f m x) (add-zero i) ∙ both_left (f i x) (all_from f (suc i) xs) t
from f (x ∷ xs) i t (suc k) h =
    ap (λ (m : ℕ). f m (get_or xs k zero)) (add-suc i k ∙ sym (suc-add i k))
    ∙ from f xs (suc i) (both_right (f i x) (all_from f (suc i) xs) t) k (le_of_suc-le-suc h)

-- a table whose entries pass has the least divisor of each odd number at its place
pub table_rule : (xs : List ℕ) (i : ℕ) → 2 * i + 1 < divisors_end → 2 * length xs ≡ divisors_end → all_from entry zero xs ≡ true → get_or xs i zero ≡ least_divisor (2 * i + 1)
table_rule xs i h e t =
    entry_is i (get_or xs i zero) h (ap (λ (j : ℕ). entry j (get_or xs i zero)) (sym (zero-add i)) ∙ from entry xs zero t i (omega arith))

-- ---- every number

-- 0 stands for itself
pub of_zero : (n : ℕ) → n ≡ zero → zero ≡ least_divisor n
unfolding least_divisor first
of_zero n h = sym (ap least_divisor h)

-- 2 is the least number that can divide, and it does
pub of_even : (n : ℕ) → n ≢ zero → n % 2 ≡ zero → 2 ≡ least_divisor n
of_even n h e =
    is_least_divisor n 2 (omega arith)
    (record { big = omega arith; most = omega arith; divides = e; none = λ (d : ℕ) lo hi z. omega arith })

-- an odd number is 2 i + 1, where i is half of it
pub of_odd : (n x : ℕ) → n % 2 ≢ zero → x ≡ least_divisor (2 * (n / 2) + 1) → x ≡ least_divisor n
of_odd n x h e = let back : 2 * (n / 2) + 1 ≡ n = omega arith in e ∙ ap least_divisor back
