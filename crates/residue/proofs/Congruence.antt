-- Laws of congruence. Chains are written with `tr`, `add`, `mul`; nothing is subtracted: `neg q c` stands for minus c.
-- Assumes nothing.
use mathlib.Core.Path.{◌≡◌, refl, sym, ap, ap₂, ◌∙◌}
use Prim.Native.Nat.{ℕ, zero, suc, ◌+◌, ◌*◌, ◌-◌, ◌/◌, ◌%◌, ◌^◌, ◌≤◌, ◌<◌, ◌∣◌}
use native.Mathlib.Nat.{mod-add-div', add-mul-mod_self_right, add-mod, add-mod_right, mod-mod, mod-eq_of_lt, mod-lt, zero-mod, mod_self, mul-mod_left}
use native.Mathlib.Nat.{mod-mod_of_dvd, dvd_of_mod-eq-zero, dvd-mul_right, dvd-mul_left, mul_comm, one-le-pow, pow-suc, pow-le-pow_right, mul-lt-mul_of_pos_left, lt_of_lt_of_le}
use native.Mathlib.Omega.{arith}
use lib.Pow.{pow-add}
use Rattle.residue.specs.Congruence.{Cong, neg}

mul_mod : (q a c : ℕ) → (a * c) % q ≡ (a % q * c) % q
mul_mod q a c =
    ap (λ (x : ℕ). (x * c) % q) (sym (mod-add-div' a q))
    ∙ ap (λ (x : ℕ). x % q) (let h : (a % q + a / q * q) * c ≡ a % q * c + a / q * c * q = omega arith in h)
    ∙ add-mul-mod_self_right (a % q * c) (a / q * c) q

module _ {q : ℕ} where
  pub rfl : {a : ℕ} → Cong q a a
  rfl = record { same = refl }

  pub of_eq : {a b : ℕ} → a ≡ b → Cong q a b
  of_eq h = record { same = ap (λ (x : ℕ). x % q) h }

  pub sy : {a b : ℕ} → Cong q a b → Cong q b a
  sy h = record { same = sym h.same }

  pub tr : {a b c : ℕ} → Cong q a b → Cong q b c → Cong q a c
  tr h k = record { same = h.same ∙ k.same }

  pub add : {a b c d : ℕ} → Cong q a b → Cong q c d → Cong q (a + c) (b + d)
  add {a} {b} {c} {d} h k =
      record { same = add-mod a c q ∙ ap₂ (λ (x y : ℕ). (x + y) % q) h.same k.same ∙ sym (add-mod b d q) }

  mul_l : {a b : ℕ} (c : ℕ) → Cong q a b → Cong q (a * c) (b * c)
  mul_l {a} {b} c h = record { same = mul_mod q a c ∙ ap (λ (x : ℕ). (x * c) % q) h.same ∙ sym (mul_mod q b c) }

  pub mul : {a b c d : ℕ} → Cong q a b → Cong q c d → Cong q (a * c) (b * d)
  mul {a} {b} {c} {d} h k =
      tr (mul_l c h) (tr (of_eq (mul_comm b c)) (tr (mul_l b k) (of_eq (mul_comm d b))))

  pub modulo : (a : ℕ) → Cong q (a % q) a
  modulo a = record { same = mod-mod a q }

  pub multiple : (c : ℕ) → Cong q (c * q) zero
  multiple c = record { same = mul-mod_left c q ∙ sym (zero-mod q) }

  pub self : Cong q q zero
  self = record { same = mod_self q ∙ sym (zero-mod q) }

  -- below q, congruent numbers are equal
  pub same_below : {a b : ℕ} → a < q → b < q → Cong q a b → a ≡ b
  same_below h k c = sym (mod-eq_of_lt h) ∙ c.same ∙ mod-eq_of_lt k

  -- a product with a factor that is 0
  pub zero_l : {a : ℕ} (c : ℕ) → Cong q a zero → Cong q (a * c) zero
  zero_l {a} c h = tr (mul_l c h) (of_eq (let z : zero * c ≡ zero = omega arith in z))

  pub zero_r : {a : ℕ} (c : ℕ) → Cong q a zero → Cong q (c * a) zero
  zero_r {a} c h = tr (of_eq (mul_comm c a)) (zero_l c h)

  -- a sum of two that are 0
  pub zero_add_zero : {a b : ℕ} → Cong q a zero → Cong q b zero → Cong q (a + b) zero
  zero_add_zero h k = tr (add h k) rfl

pub add_neg : {q : ℕ} (c : ℕ) → zero < q → Cong q (c + neg q c) zero
unfolding neg
add_neg {q} c h =
    tr (add (sy (modulo c)) (rfl {a = q - c % q})) (tr (of_eq (let z : c % q + (q - c % q) ≡ q = omega (arith, mod-lt c h) in z)) self)

-- ---- powers of p modulo p ^ e

module _ (p e : ℕ) (big : 1 < p) where
  pub q_pos : zero < p ^ e
  q_pos = one-le-pow e p (omega arith)

  pub pow_lt : {w : ℕ} → w < e → p ^ w < p ^ e
  pow_lt {w} h =
      lt_of_lt_of_le
      (let pos : zero < p ^ w = one-le-pow w p (omega arith) in
      let s : p ^ w * 1 < p ^ w * p = mul-lt-mul_of_pos_left big pos in
      let t : p ^ suc w ≡ p ^ w * p = pow-suc p w in
      let goal : p ^ w < p ^ suc w = omega arith in goal)
      (pow-le-pow_right {n = p} (omega arith) h)

  pub pow_zero_of_le : {w : ℕ} → e ≤ w → Cong (p ^ e) (p ^ w) zero
  pow_zero_of_le {w} h =
      tr (of_eq (ap (λ (x : ℕ). p ^ x) (let s : w ≡ w - e + e = omega arith in s) ∙ pow-add p (w - e) e)) (multiple (p ^ (w - e)))

  pub pow_not_zero : {w : ℕ} → w < e → ¬ Cong (p ^ e) (p ^ w) zero
  pow_not_zero {w} h c =
      let z : p ^ w ≡ zero = same_below (pow_lt h) q_pos c in
      let pos : zero < p ^ w = one-le-pow w p (omega arith) in
      omega arith

-- a unit modulo q: a number with an inverse
pub record Invertible (q t : ℕ) : Type 0 where
  pub inverse : ℕ
  pub inverts : Cong q (t * inverse) 1

pub unit_cancel : {q t x : ℕ} → Invertible q t → Cong q (t * x) zero → Cong q x zero
unit_cancel {q} {t} {x} v h =
    tr (of_eq (let z : x ≡ 1 * x = omega arith in z))
    (tr (mul (sy v.inverts) (rfl {a = x}))
    (tr (of_eq (let z : t * v.inverse * x ≡ v.inverse * (t * x) = omega arith in z)) (zero_r v.inverse h)))

pub cancel : {q x y : ℕ} → zero < q → Cong q (x + y) x → Cong q y zero
cancel {q} {x} {y} pos h =
    tr (of_eq (let w : y ≡ y + zero = omega arith in w))
    (tr (add rfl (sy (add_neg x pos)))
    (tr (of_eq (let w : y + (x + neg q x) ≡ x + y + neg q x = omega arith in w)) (tr (add h rfl) (add_neg x pos))))

-- a summand on both sides
pub cancel_right : {q : ℕ} (x y z : ℕ) → zero < q → Cong q (x + z) (y + z) → Cong q x y
cancel_right {q} x y z pos h = tr (sy (kept x)) (tr (add h (rfl {a = neg q z})) (kept y))
  where
    kept : (u : ℕ) → Cong q (u + z + neg q z) u
    kept u =
        tr (of_eq (let e : u + z + neg q z ≡ u + (z + neg q z) = omega arith in e)) (tr (add (rfl {a = u}) (add_neg z pos)) (of_eq (omega arith)))

-- a congruence modulo a product holds modulo each factor
pub cong_left : (q r : ℕ) {x y : ℕ} → Cong (q * r) x y → Cong q x y
cong_left q r {x} {y} h =
    record { same = sym (mod-mod_of_dvd q x (dvd-mul_right q r)) ∙ ap (λ (z : ℕ). z % q) h.same ∙ mod-mod_of_dvd q y (dvd-mul_right q r) }

pub cong_right : (q r : ℕ) {x y : ℕ} → Cong (q * r) x y → Cong r x y
cong_right q r {x} {y} h =
    record { same = sym (mod-mod_of_dvd r x (dvd-mul_left r q)) ∙ ap (λ (z : ℕ). z % r) h.same ∙ mod-mod_of_dvd r y (dvd-mul_left r q) }

-- and modulo each divisor
pub cong_divisor : (d q : ℕ) {x y : ℕ} → q % d ≡ zero → Cong q x y → Cong d x y
cong_divisor d q {x} {y} z h =
    record { same = sym (mod-mod_of_dvd d x dq) ∙ ap (λ (k : ℕ). k % d) h.same ∙ mod-mod_of_dvd d y dq }
  where
    dq : d ∣ q
    dq = dvd_of_mod-eq-zero d {n = q} z

-- ---- differences of numbers below m, with no division

module _ (x y m : ℕ) (hx : x < m) (hy : y < m) where
  neg_below : neg m y ≡ m - y
  unfolding neg
  neg_below = ap (λ (k : ℕ). m - k) (mod-eq_of_lt hy)

  pub difference : y ≤ x → x - y ≡ (x + neg m y) % m
  difference h =
      sym (ap (λ (k : ℕ). (x + k) % m) neg_below ∙ ap (λ (k : ℕ). k % m) (let e : x + (m - y) ≡ x - y + m = omega arith in e)
      ∙ add-mod_right (x - y) m ∙ mod-eq_of_lt (omega arith))

  pub difference_under : x < y → x + m - y ≡ (x + neg m y) % m
  difference_under h =
      sym (ap (λ (k : ℕ). (x + k) % m) neg_below ∙ ap (λ (k : ℕ). k % m) (let e : x + (m - y) ≡ x + m - y = omega arith in e)
      ∙ mod-eq_of_lt (omega arith))
