-- `residue::reduce` meets its contract: the product's quotient is that of x by q.
-- Assumes nothing.
use mathlib.Core.Path.{◌≡◌, ap, ap₂, ◌∙◌}
use Prim.Native.Nat.{ℕ, ◌*◌, ◌/◌, ◌<◌}
use native.Mathlib.Nat.{div-mul-le_self, div-add-mod', div-le_self}
use native.Mathlib.Omega.{arith}
use Rattle.residue.specs.Reduction.{two48, scale_of}
use Rattle.residue.proofs.Reduction.{quotient_exact, product_fits}
use Rattle.residue.proofs.reduce.Goals as goal

quotient : (x y q m : ℕ) → y ≡ x → (0 < q) × (q < 65536) × (x < q * q) × (m ≡ scale_of q) → y * m / two48 ≡ x / q
quotient x y q m e h = ap₂ (λ (u v : ℕ). u * v / two48) e h.3 ∙ quotient_exact x q h.0 h.1 h.2

pub overflow_mul-t : goal.overflow_mul-t
overflow_mul-t c =
    let a = c.args in
    omega (arith, product_fits a.x a.q c.requires.0 c.requires.1 c.requires.2, ap₂ (λ (u v : ℕ). u * v) c.from.ensures c.requires.3)

pub overflow_cast-result : goal.overflow_cast-result
overflow_cast-result c =
    let a = c.args in
    omega (arith, quotient a.x c.from.result a.q a.m c.from.ensures c.requires, div-le_self a.x a.q)

pub overflow_mul-result : goal.overflow_mul-result
overflow_mul-result c =
    let a = c.args in
    omega (arith, ap (λ (y : ℕ). y * a.q) (quotient a.x c.from.result a.q a.m c.from.ensures c.requires), div-mul-le_self a.x a.q)

pub overflow_sub-result : goal.overflow_sub-result
overflow_sub-result c =
    let a = c.args in
    omega (arith, ap (λ (y : ℕ). y * a.q) (quotient a.x c.from.result a.q a.m c.from.ensures c.requires), div-mul-le_self a.x a.q)

pub returns : goal.returns
returns c =
    let a = c.args in
    omega (arith, ap (λ (y : ℕ). y * a.q) (quotient a.x c.from.result a.q a.m c.from.ensures c.requires), div-add-mod' a.x a.q)
