-- A remainder modulo q by two products: for x below q^2 the quotient by 2^48 of x times `scale_of q` is the quotient by q.
-- Assumes nothing.
use mathlib.Core.Path.{◌≡◌}
use Prim.Native.Nat.{ℕ, zero, ◌+◌, ◌*◌, ◌/◌, ◌≤◌, ◌<◌}
use native.Mathlib.Nat.{le_of_lt, div-mul-le_self, lt-mul-div-succ, div-lt_iff_lt-mul, le-div_iff_mul-le, div-eq_of_lt-le, mul-le-mul_left, mul-le-mul_right, mul-le-mul}
use native.Mathlib.Omega.{arith}
use Rattle.residue.specs.Reduction.{two48, scale_of}

module _ (x q : ℕ) (pos : zero < q) (small : q < 65536) (low : x < q * q) where
  a_of_lem : ℕ
  a_of_lem = x / q

  c_of : ℕ
  c_of = two48 / q

  from : a_of_lem * q ≤ x
  unfolding a_of_lem
  from = div-mul-le_self x q

  upto : x < (a_of_lem + 1) * q
  unfolding a_of_lem
  upto = omega (arith, lt-mul-div-succ x {b = q} pos)

  c_from : c_of * q ≤ two48
  unfolding c_of
  c_from = div-mul-le_self two48 q

  c_upto : two48 < (c_of + 1) * q
  unfolding c_of
  c_upto = omega (arith, lt-mul-div-succ two48 {b = q} pos)

  few : a_of_lem + 1 ≤ q
  unfolding a_of_lem
  few = omega (arith, (div-lt_iff_lt-mul {k = q} {x = x} {y = q} pos).1 low)

  cube : q * q * q ≤ two48
  cube =
      omega (
        arith,
        mul-le-mul {n₁ = q * q} {m₁ = q} {n₂ = 65535 * 65535} {m₂ = 65535}
            (mul-le-mul {n₁ = q} {m₁ = q} {n₂ = 65535} {m₂ = 65535} (omega arith) (omega arith)) (omega arith),
      )

  square : q * q ≤ c_of
  unfolding c_of
  square = (le-div_iff_mul-le {k = q} {x = q * q} {y = two48} pos).1 cube

  over : a_of_lem * two48 ≤ x * (c_of + 1)
  over = omega (arith, mul-le-mul_right (c_of + 1) from, mul-le-mul_left a_of_lem (le_of_lt c_upto))

  under : x * (c_of + 1) < (a_of_lem + 1) * two48
  under = omega (arith, mul-le-mul_right (c_of + 1) upto, mul-le-mul_left (a_of_lem + 1) c_from, mul-le-mul_right q few, square)

  pub quotient_exact : x * scale_of q / two48 ≡ x / q
  unfolding a_of_lem c_of
  quotient_exact = div-eq_of_lt-le two48 over under

  pub product_fits : x * scale_of q < 18446744073709551616
  unfolding a_of_lem c_of
  product_fits = omega (arith, under, mul-le-mul_right two48 few)

-- an update's sum
pub product_below : (q x f y : ℕ) → x < q → f ≤ q → y < q → x + f * y < q * q
product_below q x f y hx hf hy = omega (arith, mul-le-mul_right y hf, mul-le-mul_left q hy)

-- a product of two numbers below 2^16
pub product_low : (x y : ℕ) → x < 65536 → y < 65536 → x * y ≤ 4294836225
product_low x y h k = mul-le-mul {n₁ = x} {m₁ = y} {n₂ = 65535} {m₂ = 65535} (omega arith) (omega arith)
