-- The least divisor, the test for a prime, and every number as a product of prime powers with rising primes.
-- Assumes nothing.
use mathlib.Core.Path.{◌≡◌, refl, sym, ap, ap₂, ◌∙◌, subst}
use mathlib.Core.Logic.{◌⊎◌, inl, inr, ◌≢◌}
use mathlib.Core.Bool.{Bool, true, false}
use mathlib.Core.List.{List, [], ◌∷◌}
use Prim.Native.Nat.{ℕ, zero, suc, ◌*◌, ◌-◌, ◌/◌, ◌%◌, ◌^◌, ◌≤◌, ◌<◌}
use native.Mathlib.Nat.{le_refl, mod_self, mod-eq_of_lt, mod-mod_of_dvd, dvd_of_mod-eq-zero, zero-mod, pow-suc, pow-zero, div-one, div_self, one-mul, mul_comm, mul-le-mul_left, mul-le-mul_right, mul-mod_left, pos_of_ne-zero}
use native.Mathlib.Decide.{ℕ_discrete}
use native.Mathlib.Omega.{arith}
use lib.Dec.{leb, eqb}
use borrow.Author.Tests.{eq-eqb, eqb-true, le-leb, lt-leb, leb-true, leb-false}
use Rattle.lists.specs.Choice.{both}
use Rattle.lists.specs.Search.{first}
use Rattle.lists.proofs.Among.{Among, here, there}
use Rattle.lists.proofs.Search.{both_left, both_right, both_true, first_le, first_passes, first_before, lt_or_le, false_true}
use Rattle.residue.specs.Congruence.{Cong}
use Rattle.residue.specs.Units.{Prime}
use Rattle.residue.specs.Valuation.{valuation, cofactor}
use Rattle.residue.specs.Factors.{least_divisor, is_prime, PrimePower, value, least_power, powers_up_to, prime_powers}
use Rattle.residue.proofs.Congruence.{pow_lt, cong_left, cong_right}
use Rattle.residue.proofs.Valuation.{Parts, valuation_more, valuation_stop, valuation_parts, cofactor_of}

-- ---- the least divisor

-- p is the least divisor of m from 2 up
pub record IsLeastDivisor (m p : ℕ) : Type 0 where
  pub big : 1 < p
  pub most : p ≤ m
  pub divides : m % p ≡ zero
  pub none : (d : ℕ) → 1 < d → d < p → m % d ≢ zero

abbrev test : ℕ → ℕ → Bool
test m d = both (leb 2 d) (eqb (m % d) zero)

passes : (m d : ℕ) → 1 < d → m % d ≡ zero → test m d ≡ true
passes m d h z = both_true (le-leb 2 d h) (eq-eqb (m % d) zero z)

pub least_divisor_lem : (m : ℕ) → 1 < m → IsLeastDivisor m (least_divisor m)
unfolding least_divisor
least_divisor_lem m h = go (lt_or_le (first m (test m)) m)
  where
    none : (d : ℕ) → 1 < d → d < first m (test m) → m % d ≢ zero
    none d lo hi z = false_true (sym (first_before m (test m) d hi) ∙ passes m d lo z)

    go : (first m (test m) < m) ⊎ (m ≤ first m (test m)) → IsLeastDivisor m (first m (test m))
    go (inl l) =
        let t = first_passes m (test m) l in
        record {
          big = leb-true 2 (first m (test m)) (both_left (leb 2 (first m (test m))) (eqb (m % first m (test m)) zero) t);
          most = first_le m (test m);
          divides = eqb-true (m % first m (test m)) zero (both_right (leb 2 (first m (test m))) (eqb (m % first m (test m)) zero) t);
          none = none;
        }
    go (inr l) =
        let e : m ≡ first m (test m) = omega (arith, first_le m (test m)) in
        record { big = omega arith; most = first_le m (test m); divides = subst (λ (x : ℕ). m % x ≡ zero) e (mod_self m); none = none }

-- there is only one
pub is_least_divisor : (m p : ℕ) → 1 < m → IsLeastDivisor m p → p ≡ least_divisor m
is_least_divisor m p h x = go (lt_or_le p (least_divisor m)) (lt_or_le (least_divisor m) p)
  where
    y : IsLeastDivisor m (least_divisor m)
    y = least_divisor_lem m h

    go : (p < least_divisor m) ⊎ (least_divisor m ≤ p) → (least_divisor m < p) ⊎ (p ≤ least_divisor m) → p ≡ least_divisor m
    go (inl l) k = absurd (y.none p x.big l x.divides)
    go (inr l) (inl k) = absurd (x.none (least_divisor m) y.big k y.divides)
    go (inr l) (inr k) = omega arith

-- a divisor of a divisor divides
pub divides_trans : (d p m : ℕ) → p % d ≡ zero → m % p ≡ zero → m % d ≡ zero
divides_trans d p m h k =
    sym (mod-mod_of_dvd d m (dvd_of_mod-eq-zero d {n = p} h)) ∙ ap (λ (y : ℕ). y % d) k ∙ zero-mod d

pub least_divisor_prime : (m p : ℕ) → IsLeastDivisor m p → Prime p
least_divisor_prime m p x = record { big = x.big; bare = λ d lo hi z. x.none d lo hi (divides_trans d p m z x.divides) }

-- ---- the test for a prime

prime_divisor : (p : ℕ) → Prime p → least_divisor p ≡ p
prime_divisor p P = sym (is_least_divisor p p P.big (record { big = P.big; most = le_refl p; divides = mod_self p; none = P.bare }))

-- `_` and omega, so that of a test that leaves 2 out this is refused
pub prime_test : (p : ℕ) → Prime p → is_prime p ≡ true
prime_test p P = both_true (le-leb _ p (omega (arith, P.big))) (eq-eqb (least_divisor p) p (prime_divisor p P))

pub test_prime : (p : ℕ) → is_prime p ≡ true → Prime p
test_prime p h =
    subst Prime (eqb-true (least_divisor p) p (both_right (leb 2 p) (eqb (least_divisor p) p) h))
    (least_divisor_prime p (least_divisor p) (least_divisor_lem p (leb-true 2 p (both_left (leb 2 p) (eqb (least_divisor p) p) h))))

-- ---- its power in m

pub below_power : (p n : ℕ) → 1 < p → n < p ^ n
below_power p zero h = omega (arith, pow-zero p)
below_power p (suc n) h =
    let ih : n < p ^ n = below_power p n h in
    let s : p ^ n * 2 ≤ p ^ n * p = mul-le-mul_left (p ^ n) h in
    omega (arith, pow-suc p n)

module _ (m : ℕ) (h : 1 < m) where
  pub least_prime : Prime (least_power m).prime
  unfolding least_power
  least_prime = least_divisor_prime m (least_divisor m) (least_divisor_lem m h)

  pub least_power_divisor : IsLeastDivisor m (least_power m).prime
  unfolding least_power
  least_power_divisor = least_divisor_lem m h

  pub least_parts : Parts m (least_power m).prime m (least_power m).exponent (m / value (least_power m))
  unfolding least_power
  least_parts = valuation_parts m (least_divisor m) m least_prime.big (omega arith) (below_power (least_divisor m) m least_prime.big)

  pub least_exponent : zero < (least_power m).exponent
  unfolding least_power
  least_exponent = pos_of_ne-zero (λ z. least_parts.bare
      (ap (λ (x : ℕ). m / least_divisor m ^ x % least_divisor m) z ∙ ap (λ (x : ℕ). m / x % least_divisor m) (pow-zero (least_divisor m))
      ∙ ap (λ (x : ℕ). x % least_divisor m) (div-one m) ∙ (least_divisor_lem m h).divides))

  pub least_whole : value (least_power m) * (m / value (least_power m)) ≡ m
  least_whole = mul_comm (value (least_power m)) (m / value (least_power m)) ∙ sym least_parts.whole

  pub least_value : 1 < value (least_power m)
  least_value =
      omega (arith, pow_lt (least_power m).prime (least_power m).exponent least_prime.big least_exponent, pow-zero (least_power m).prime)

  pub rest_pos : zero < m / value (least_power m)
  rest_pos = pos_of_ne-zero (λ z. least_parts.bare (ap (λ (x : ℕ). x % (least_power m).prime) z ∙ zero-mod (least_power m).prime))

  pub rest_lt : m / value (least_power m) < m
  rest_lt = omega (arith, rest_pos, least_whole, mul-le-mul_right (m / value (least_power m)) least_value)

  pub value_most : value (least_power m) ≤ m
  value_most = omega (arith, least_whole, mul-le-mul_left (value (least_power m)) rest_pos)

-- the same from a least divisor p, its power in m and their product
module _ (m p u : ℕ) (h : 1 < m) (hp : p ≡ least_divisor m) (hu : u ≡ valuation m p m) where
  is_exponent : u ≡ (least_power m).exponent
  unfolding least_power
  is_exponent = hu ∙ ap (λ (k : ℕ). valuation m k m) hp

  is_value : p ^ u ≡ value (least_power m)
  unfolding least_power
  is_value = ap₂ ◌^◌ hp is_exponent

  pub power_most : p ^ u ≤ m
  power_most = omega (arith, is_value, value_most m h)

  pub is_least_power : (v θ : ℕ) → v ≡ p ^ u → θ ≡ cofactor m p m
      → (p ≡ (least_power m).prime) × (u ≡ (least_power m).exponent) × (v ≡ value (least_power m)) × (θ ≡ m / value (least_power m))
  unfolding least_power
  is_least_power v θ hv hθ =
      (hp, is_exponent, hv ∙ is_value, hθ ∙ cofactor_of m p m (omega arith) ∙ ap (λ (k : ℕ). m / p ^ k) (sym hu) ∙ ap (λ (k : ℕ). m / k) is_value)

-- ---- factorization

-- m is the product of the prime powers, and each prime divides none of the product of those after it
pub data Factored : ℕ → List PrimePower → Type 0 where
  one : Factored 1 []
  more : {rest : ℕ} {f : PrimePower} {fs : List PrimePower} → Prime f.prime → zero < f.exponent → rest % f.prime ≢ zero → zero < rest
      → Factored rest fs → Factored (value f * rest) (f ∷ fs)

factored_upto : (f m : ℕ) → zero < m → m ≤ f → Factored m (powers_up_to f m)
unfolding powers_up_to
factored_upto zero m pos fuel = absurd (omega arith)
factored_upto (suc f) m pos fuel = go (leb m 1) refl (λ r a b. factored_upto f r a b)
  where
    go : (t : Bool) → leb m 1 ≡ t → ((r : ℕ) → zero < r → r ≤ f → Factored r (powers_up_to f r))
        → Factored m (elim t as (λ z. List PrimePower) [ true ↦ [] | false ↦ least_power m ∷ powers_up_to f (m / value (least_power m)) ])
    go true e ih = subst (λ (x : ℕ). Factored x []) (let z : 1 ≡ m = omega (arith, leb-true m 1 e) in z) one
    go false e ih =
        let big : 1 < m = leb-false m 1 e in
        subst (λ (x : ℕ). Factored x (least_power m ∷ powers_up_to f (m / value (least_power m)))) (least_whole m big)
        (more (least_prime m big) (least_exponent m big) (least_parts m big).bare (rest_pos m big)
        (ih (m / value (least_power m)) (rest_pos m big) (omega (arith, rest_lt m big))))

pub factored : (m : ℕ) → zero < m → Factored m (prime_powers m)
unfolding prime_powers
factored m pos = factored_upto m m pos (le_refl m)

-- ---- the list of prime powers, one after the other

-- a bound that is large enough does not matter
powers_enough : (f g m : ℕ) → m ≤ f → m ≤ g → powers_up_to f m ≡ powers_up_to g m
unfolding powers_up_to
powers_enough zero zero m a b = refl
powers_enough zero (suc g) m a b = rw (le-leb m 1 (omega arith), powers_up_to)
powers_enough (suc f) zero m a b = rw (le-leb m 1 (omega arith), powers_up_to)
powers_enough (suc f) (suc g) m a b = go (leb m 1) refl (powers_enough f g (m / value (least_power m)))
  where
    go : (t : Bool) → leb m 1 ≡ t
        → (m / value (least_power m) ≤ f → m / value (least_power m) ≤ g → powers_up_to f (m / value (least_power m)) ≡ powers_up_to g (m / value (least_power m)))
        → ◌≡◌ {A = List PrimePower} (elim t [ true ↦ [] | false ↦ least_power m ∷ powers_up_to f (m / value (least_power m)) ])
        (elim t [ true ↦ [] | false ↦ least_power m ∷ powers_up_to g (m / value (least_power m)) ])
    go true e ih = refl
    go false e ih =
        let less = rest_lt m (leb-false m 1 e) in
        ap (λ (xs : List PrimePower). least_power m ∷ xs) (ih (omega arith) (omega arith))

-- the least prime's power first, then the prime powers of what is left
pub powers_more : (m : ℕ) → 1 < m → prime_powers m ≡ least_power m ∷ prime_powers (m / value (least_power m))
unfolding prime_powers powers_up_to
powers_more zero h = absurd (omega arith)
powers_more (suc n) h =
    let less = rest_lt (suc n) h in
    rw (lt-leb (suc n) 1 h, powers_up_to)
    (ap (λ (xs : List PrimePower). least_power (suc n) ∷ xs)
    (powers_enough n (suc n / value (least_power (suc n))) (suc n / value (least_power (suc n))) (omega arith) (le_refl _)))

pub powers_none : (m : ℕ) → m ≤ 1 → prime_powers m ≡ []
unfolding prime_powers powers_up_to
powers_none zero h = refl
powers_none (suc n) h = rw (le-leb (suc n) 1 h, powers_up_to)

-- ---- the one prime power of a prime

pub power_one : (p : ℕ) → p ^ 1 ≡ p
power_one p = pow-suc p zero ∙ ap (λ (x : ℕ). x * p) (pow-zero p) ∙ one-mul p

abbrev pub itself : ℕ → PrimePower
itself p = record { prime = p; exponent = 1 }

exponent_one : (f p : ℕ) → 1 < p → valuation (suc f) p p ≡ 1
exponent_one f p big =
    valuation_more f p p (mod_self p)
    ∙ ap suc (ap (valuation f p) (div_self (let z : zero < p = omega arith in z))
    ∙ valuation_stop f p 1 (λ z. let w : 1 ≡ zero = sym (mod-eq_of_lt big) ∙ z in omega arith))

pub prime_powers_lem : (p : ℕ) → Prime p → prime_powers p ≡ itself p ∷ []
unfolding least_power
prime_powers_lem p P =
    powers_more p P.big
    ∙ ap (λ (f : PrimePower). f ∷ prime_powers (p / value f)) least
    ∙ ap (λ (x : ℕ). itself p ∷ prime_powers x) (ap (λ (x : ℕ). p / x) (power_one p) ∙ div_self (let z : zero < p = omega (arith, P.big) in z))
    ∙ ap (λ (fs : List PrimePower). itself p ∷ fs) (powers_none 1 (le_refl 1))
  where
    least : least_power p ≡ itself p
    least =
        ap (λ (q : ℕ). record { prime = q; exponent = valuation p q p }) (prime_divisor p P)
        ∙ ap (λ (u : ℕ). record { prime = p; exponent = u })
        (ap (λ (f : ℕ). valuation f p p) (let z : p ≡ suc (p - 1) = omega (arith, P.big) in z) ∙ exponent_one (p - 1) p P.big)

-- ---- a fact at every prime power

pub among_prime : {m : ℕ} {fs : List PrimePower} {f : PrimePower} → Factored m fs → Among f fs → Prime f.prime
among_prime {f = f} one k = elim k [ ]
among_prime (more P e h pos F) here = P
among_prime (more P e h pos F) (there k) = among_prime F k

pub among_exponent : {m : ℕ} {fs : List PrimePower} {f : PrimePower} → Factored m fs → Among f fs → zero < f.exponent
among_exponent {f = f} one k = elim k [ ]
among_exponent (more P e h pos F) here = e
among_exponent (more P e h pos F) (there k) = among_exponent F k

-- a congruence modulo m holds at each of its prime powers
pub among_cong : {m : ℕ} {fs : List PrimePower} {f : PrimePower} {x y : ℕ} → Factored m fs → Among f fs → Cong m x y → Cong (value f) x y
among_cong {f = f} {y = y} one k c = elim k [ ]
among_cong (more {rest = R} {f = f} P e h pos F) here c = cong_left (value f) R c
among_cong (more {rest = R} {f = f} P e h pos F) (there k) c = among_cong F k (cong_right (value f) R c)

-- each prime of the list is above the one before it
pub data Rising : ℕ → List PrimePower → Type 0 where
  end : {p : ℕ} → Rising p []
  next : {p : ℕ} {f : PrimePower} {fs : List PrimePower} → p < f.prime → Rising f.prime fs → Rising p (f ∷ fs)

rising_upto : (f m p : ℕ) → zero < m → m ≤ f → ((d : ℕ) → 1 < d → m % d ≡ zero → p < d) → Rising p (powers_up_to f m)
unfolding powers_up_to
rising_upto zero m p pos fuel above = absurd (omega arith)
rising_upto (suc f) m p pos fuel above = go (leb m 1) refl (λ r a b c. rising_upto f r (least_power m).prime a b c)
  where
    go : (t : Bool) → leb m 1 ≡ t
        → ((r : ℕ) → zero < r → r ≤ f → ((d : ℕ) → 1 < d → r % d ≡ zero → (least_power m).prime < d) → Rising (least_power m).prime (powers_up_to f r))
        → Rising p (elim t as (λ z. List PrimePower) [ true ↦ [] | false ↦ least_power m ∷ powers_up_to f (m / value (least_power m)) ])
    go true e ih = end
    go false e ih =
        next (above (least_power m).prime (least_prime m big).big divides)
        (ih (m / value (least_power m)) (rest_pos m big) (omega (arith, rest_lt m big)) larger)
      where
        big : 1 < m
        big = leb-false m 1 e

        least : IsLeastDivisor m (least_power m).prime
        least = least_power_divisor m big

        divides : m % (least_power m).prime ≡ zero
        divides = least.divides

        rest : ℕ
        rest = m / value (least_power m)

        rest_divides : m % rest ≡ zero
        rest_divides = ap (λ (x : ℕ). x % rest) (sym (least_whole m big)) ∙ mul-mod_left (value (least_power m)) rest

        larger : (d : ℕ) → 1 < d → rest % d ≡ zero → (least_power m).prime < d
        larger d lo z = pick (lt_or_le (least_power m).prime d)
          where
            pick : ((least_power m).prime < d) ⊎ (d ≤ (least_power m).prime) → (least_power m).prime < d
            pick (inl l) = l
            pick (inr l) = same (ℕ_discrete d (least_power m).prime)
              where
                same : Dec (d ≡ (least_power m).prime) → (least_power m).prime < d
                same (yes s) = absurd ((least_parts m big).bare (subst (λ (x : ℕ). rest % x ≡ zero) s z))
                same (no s) = absurd (least.none d lo (omega arith) (divides_trans d rest m z rest_divides))

pub rising : (m : ℕ) → zero < m → Rising 1 (prime_powers m)
unfolding prime_powers
rising m pos = rising_upto m m 1 pos (le_refl m) (λ d h z. h)
