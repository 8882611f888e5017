-- Units: Euclid's division gives an inverse, the inverse is one number, and what a prime does not divide is a unit modulo its powers.
-- Assumes nothing.
use mathlib.Core.Path.{◌≡◌, refl, sym, ap, ◌∙◌, subst}
use mathlib.Core.Logic.{◌⊎◌, inl, inr, ◌≢◌}
use mathlib.Core.Bool.{true}
use Prim.Native.Nat.{ℕ, zero, suc, ◌+◌, ◌*◌, ◌-◌, ◌/◌, ◌%◌, ◌^◌, ◌≤◌, ◌<◌, ◌∣◌}
use native.Mathlib.Nat.{mod-lt, mod-zero, mod-eq_of_lt, mod_self, zero-mod, mod-mod_of_dvd, dvd_of_mod-eq-zero, mod-eq-zero_of_dvd, dvd-mul_right_of_dvd, le_of_dvd, div-add-mod', eq-zero-or-pos, le_refl, mul-le-mul_left, mul-le-mul_right, pow-suc, pow-zero, one-le-pow, pos_of_ne-zero, mul_assoc, mul_comm, one-mul}
use native.Mathlib.Decide.{ℕ_discrete, dec_le}
use native.Mathlib.Omega.{arith}
use lib.Dec.{eqb}
use borrow.Author.Tests.{eq-eqb, eqb-true}
use Rattle.lists.proofs.Search.{first_found}
use Rattle.residue.specs.Congruence.{Cong}
use Rattle.residue.specs.Units.{Coprime, Prime, Bezout, inverse}
use Rattle.residue.proofs.Congruence.{rfl, of_eq, sy, tr, add, mul, modulo, multiple, same_below, Invertible}

-- ---- Euclid's division

-- a common divisor of the smaller pair divides the larger
pub smaller_coprime : (a m : ℕ) → Coprime a m → Coprime (m % a) a
smaller_coprime a m co d x y = co d y (sym (mod-mod_of_dvd d m (dvd_of_mod-eq-zero d {n = a} y)) ∙ x)

pub smaller_pos : (a m : ℕ) → 1 < a → Coprime a m → zero < m % a
smaller_pos a m big co = pick (eq-zero-or-pos (m % a))
  where
    pick : (m % a ≡ zero) ⊎ (zero < m % a) → zero < m % a
    pick (inl z) = absurd (let one : a ≡ 1 = co a (mod_self a) z in omega arith)
    pick (inr z) = z

pub bezout_one : (m : ℕ) → zero < m → Bezout 1 m 1 1
bezout_one m h = record { whole = omega arith; x_most = h; y_most = le_refl 1 }

-- one division: from the smaller pair (m % a, a) to (a, m)
pub bezout_step : (a m x y : ℕ) → Bezout (m % a) a x y → Bezout a m (m - (m / a * x + (m % a - y))) x
bezout_step a m x y b =
    record {
      whole = omega (arith, b.whole, ap (λ (z : ℕ). a * z) back, ap (λ (z : ℕ). z * x) split, ap (λ (z : ℕ). a * z) part);
      x_most = omega arith;
      y_most = b.x_most;
    }
  where
    t : ℕ
    t = m / a

    r : ℕ
    r = m % a

    s : ℕ
    s = t * x + (r - y)

    split : t * a + r ≡ m
    split = div-add-mod' m a

    part : r - y + y ≡ r
    part = omega (arith, b.y_most)

    fits : s ≤ m
    fits = omega (arith, split, mul-le-mul_left t b.x_most)

    back : m - s + s ≡ m
    back = omega (arith, fits)

pub bezout_fits : (a m x y : ℕ) → Bezout (m % a) a x y → m / a * x + (m % a - y) ≤ m
bezout_fits a m x y b = omega (arith, div-add-mod' m a, mul-le-mul_left (m / a) b.x_most)

-- coprime numbers have such x and y
pub bezout : (f a m : ℕ) → a ≤ f → zero < a → zero < m → Coprime a m → (x y : ℕ) × Bezout a m x y
bezout zero a m h pos mpos co = absurd (omega arith)
bezout (suc f) a m h pos mpos co = go (dec_le a 1) (λ l p q c. bezout f (m % a) a l p q c)
  where
    go : Dec (a ≤ 1) → (m % a ≤ f → zero < m % a → zero < a → Coprime (m % a) a → (x y : ℕ) × Bezout (m % a) a x y)
        → (x y : ℕ) × Bezout a m x y
    go (yes l) ih = (1, 1, subst (λ (z : ℕ). Bezout z m 1 1) (let e : 1 ≡ a = omega arith in e) (bezout_one m mpos))
    go (no l) ih =
        let big : 1 < a = omega arith in
        let b = ih (omega (arith, mod-lt m pos)) (smaller_pos a m big co) pos (smaller_coprime a m co) in
        (m - (m / a * b.0 + (m % a - b.1)), b.0, bezout_step a m b.0 b.1 b.2)

pub bezout_inverts : (a m x y : ℕ) → Bezout a m x y → Cong m (a * x) 1
bezout_inverts a m x y b =
    tr (of_eq (let z : a * x ≡ a * x + zero = omega arith in z))
    (tr (add (rfl {a = a * x}) (sy (multiple y)))
    (tr (of_eq (let z : a * x + y * m ≡ 1 + a * m = omega (arith, b.whole) in z))
    (tr (add (rfl {a = 1}) (multiple a)) (of_eq (omega arith)))))

pub coprime_invertible : (a m : ℕ) → zero < a → zero < m → Coprime a m → Invertible m a
coprime_invertible a m pos mpos co =
    let b = bezout a a m (le_refl a) pos mpos co in
    record { inverse = b.0; inverts = bezout_inverts a m b.0 b.1 b.2 }

-- ---- the inverse

one_mod : (d : ℕ) → 1 % d ≡ zero → d ≡ 1
one_mod zero h = absurd (let z : 1 ≡ zero = sym (mod-zero 1) ∙ h in omega arith)
one_mod (suc zero) h = refl
one_mod (suc (suc d)) h = absurd (let z : 1 ≡ zero = sym (mod-eq_of_lt {m = suc (suc d)} (omega arith)) ∙ h in omega arith)

-- an invertible number has no divisor in common with q but 1
pub invertible_coprime : (q t : ℕ) → Invertible q t → Coprime t q
invertible_coprime q t v d x y =
    one_mod d
    (sym (mod-mod_of_dvd d 1 dq) ∙ ap (λ (z : ℕ). z % d) (sym v.inverts.same) ∙ mod-mod_of_dvd d (t * v.inverse) dq
    ∙ mod-eq-zero_of_dvd d (dvd-mul_right_of_dvd d (dvd_of_mod-eq-zero d {n = t} x) v.inverse))
  where
    dq : d ∣ q
    dq = dvd_of_mod-eq-zero d {n = q} y

-- a number coprime to a product is coprime to its factors
pub coprime_left : (x q r : ℕ) → Coprime x (q * r) → Coprime x q
coprime_left x q r co d h k = co d h (mod-eq-zero_of_dvd d (dvd-mul_right_of_dvd d (dvd_of_mod-eq-zero d {n = q} k) r))

pub coprime_right : (x q r : ℕ) → Coprime x (q * r) → Coprime x r
coprime_right x q r co = coprime_left x r q (subst (Coprime x) (mul_comm q r) co)

-- and a product of two that are coprime to q is coprime to q
pub coprime_product : (x y q : ℕ) → zero < x → zero < y → zero < q → Coprime x q → Coprime y q → Coprime (x * y) q
coprime_product x y q hx hy pos cx cy =
    invertible_coprime q (x * y)
    (record {
      inverse = v.inverse * w.inverse;
      inverts =
          tr (of_eq (let z : x * y * (v.inverse * w.inverse) ≡ x * v.inverse * (y * w.inverse) = omega arith in z)) (mul v.inverts w.inverts);
    })
  where
    v : Invertible q x
    v = coprime_invertible x q hx pos cx

    w : Invertible q y
    w = coprime_invertible y q hy pos cy

-- two inverses of one number are congruent
pub inverses_agree : (q t x y : ℕ) → Cong q (t * x) 1 → Cong q (t * y) 1 → Cong q x y
inverses_agree q t x y hx hy =
    tr (of_eq (let z : x ≡ x * 1 = omega arith in z))
    (tr (mul (rfl {a = x}) (sy hy))
    (tr (of_eq (let z : x * (t * y) ≡ t * x * y = omega arith in z))
    (tr (mul hx (rfl {a = y})) (of_eq (omega arith)))))

module _ (q t : ℕ) (pos : zero < q) (v : Invertible q t) where
  found : (inverse q t ≤ v.inverse % q) × (eqb (t * inverse q t % q) (1 % q) ≡ true)
  unfolding inverse
  found =
      first_found q (λ y. eqb (t * y % q) (1 % q)) (v.inverse % q) (mod-lt v.inverse pos)
      (eq-eqb (t * (v.inverse % q) % q) (1 % q) (tr (mul (rfl {a = t}) (modulo v.inverse)) v.inverts).same)

  pub inverse_inverts : Cong q (t * inverse q t) 1
  inverse_inverts = record { same = eqb-true (t * inverse q t % q) (1 % q) found.1 }

  pub inverse_lt : inverse q t < q
  inverse_lt = omega (arith, found.0, mod-lt v.inverse pos)

  -- it is the one number below q that inverts t
  pub is_inverse : (x : ℕ) → x < q → Cong q (t * x) 1 → x ≡ inverse q t
  is_inverse x h e = same_below h inverse_lt (inverses_agree q t x (inverse q t) e inverse_inverts)

-- what Euclid's division finds is the inverse
pub bezout_inverse : (a m x y : ℕ) → zero < a → a < m → Bezout a m x y → x ≡ inverse m a
bezout_inverse a m x y pos lt b =
    is_inverse m a (omega arith) (record { inverse = x; inverts = bezout_inverts a m x y b }) x (below (ℕ_discrete x m)) (bezout_inverts a m x y b)
  where
    none : (k : ℕ) → m * k ≡ 1 → ⊥
    none zero e = omega arith
    none (suc k) e = omega arith

    below : Dec (x ≡ m) → x < m
    below (yes e) = absurd (none y (omega (arith, b.whole, ap (λ (k : ℕ). a * k) e)))
    below (no f) = omega (arith, b.x_most)

-- the inverse hangs on the remainder alone
pub inverse_mod : (q t : ℕ) → zero < q → Invertible q t → inverse q (t % q) ≡ inverse q t
inverse_mod q t pos v =
    is_inverse q t pos v (inverse q (t % q)) (inverse_lt q (t % q) pos w)
    (tr (mul (sy (modulo t)) rfl) (inverse_inverts q (t % q) pos w))
  where
    w : Invertible q (t % q)
    w = record { inverse = v.inverse; inverts = tr (mul (modulo t) rfl) v.inverts }

-- ---- primes

prime_coprime : (p t : ℕ) → Prime p → t % p ≢ zero → Coprime t p
prime_coprime p t P no_t d x y = pick (ℕ_discrete d 1) (ℕ_discrete d p)
  where
    pos : d ≢ zero
    pos z = let w : p ≡ zero = sym (mod-zero p) ∙ ap (λ (k : ℕ). p % k) (sym z) ∙ y in omega (arith, P.big)

    up : d ≤ p
    up = le_of_dvd {m = d} (omega (arith, P.big)) (dvd_of_mod-eq-zero d {n = p} y)

    pick : Dec (d ≡ 1) → Dec (d ≡ p) → d ≡ 1
    pick (yes e) z = e
    pick (no f) (yes e) = absurd (no_t (subst (λ (k : ℕ). t % k ≡ zero) e x))
    pick (no f) (no g) = absurd (P.bare d (omega (arith, pos)) (omega (arith, up)) y)

pub nonzero : (p t : ℕ) → t % p ≢ zero → t ≢ zero
nonzero p t h z = h (ap (λ (x : ℕ). x % p) z ∙ zero-mod p)

-- an inverse modulo p ^ suc f gives one modulo p ^ suc (suc f)
lift_poly : (m s P v q q' : ℕ) → v ≡ 1 + s * q → q ≡ P * suc m → q' ≡ P * suc m * suc m
    → v * (1 + m * (s * q)) ≡ 1 + (s + m * s * s * P) * q'
lift_poly m s P v q q' e₁ e₂ e₃ = rw (e₁, e₂, e₃) (omega arith)

lift : (m f t : ℕ) → zero < m → Invertible (suc m ^ suc f) t → Invertible (suc m ^ suc (suc f)) t
lift m f t big v =
    record {
      inverse = v.inverse * (1 + m * (s * q));
      inverts = tr (of_eq total) (tr (add (rfl {a = 1}) (multiple (s + m * s * s * suc m ^ f))) rfl);
    }
  where
    q : ℕ
    q = suc m ^ suc f

    s : ℕ
    s = t * v.inverse / q

    one_q : 1 < q
    one_q = omega (arith, pow-suc (suc m) f, mul-le-mul_right (suc m) (one-le-pow f (suc m) (omega arith)))

    split : t * v.inverse ≡ 1 + s * q
    split = omega (arith, div-add-mod' (t * v.inverse) q, v.inverts.same ∙ mod-eq_of_lt one_q)

    total : t * (v.inverse * (1 + m * (s * q))) ≡ 1 + (s + m * s * s * suc m ^ f) * suc m ^ suc (suc f)
    total =
        sym (mul_assoc t v.inverse (1 + m * (s * q)))
        ∙ lift_poly m s (suc m ^ f) (t * v.inverse) q (suc m ^ suc (suc f)) split (pow-suc (suc m) f)
        (pow-suc (suc m) (suc f) ∙ ap (λ (x : ℕ). x * suc m) (pow-suc (suc m) f))

unit_power : (m f t : ℕ) → zero < m → Invertible (suc m) t → Invertible (suc m ^ suc f) t
unit_power m zero t h v =
    subst (λ (q : ℕ). Invertible q t) (sym (pow-suc (suc m) zero ∙ ap (λ (x : ℕ). x * suc m) (pow-zero (suc m)) ∙ one-mul (suc m))) v
unit_power m (suc f) t h v = lift m f t h (unit_power m f t h v)

-- a number that p does not divide is a unit modulo p ^ e
pub prime_invertible : (p e t : ℕ) → Prime p → zero < e → t % p ≢ zero → Invertible (p ^ e) t
prime_invertible zero e t P pos h = absurd (omega (arith, P.big))
prime_invertible (suc m) zero t P pos h = absurd (omega arith)
prime_invertible (suc m) (suc f) t P pos h =
    unit_power m f t (omega (arith, P.big))
    (coprime_invertible t (suc m) (pos_of_ne-zero (nonzero (suc m) t h)) (omega arith) (prime_coprime (suc m) t P h))

pub prime_power_coprime : (p e t : ℕ) → Prime p → zero < e → t % p ≢ zero → Coprime t (p ^ e)
prime_power_coprime p e t P pos h = invertible_coprime (p ^ e) t (prime_invertible p e t P pos h)
