-- `residue::euclid` meets its contract.
-- Assumes nothing.
use mathlib.Core.Path.{◌≡◌, subst}
use Prim.Native.Nat.{ℕ, ◌<◌, ◌%◌}
use native.Mathlib.Nat.{mod-lt}
use native.Mathlib.Omega.{arith}
use Rattle.residue.specs.Units.{Bezout}
use Rattle.residue.proofs.Units.{smaller_pos, smaller_coprime, bezout_one, bezout_fits, bezout_step}
use Rattle.residue.proofs.+euclid.Goals as goal

pub returns-then-a-le1 : goal.returns-then-a-le1
returns-then-a-le1 t c =
    let a = c.args in
    let e : 1 ≡ a.a = omega arith in
    subst (λ (k : ℕ). Bezout k a.m 1 1) e (bezout_one a.m (omega arith))

pub euclid-c-requires : goal.euclid-c-requires
euclid-c-requires t c =
    let a = c.args in
    let big : 1 < a.a = omega arith in
    let low : a.m % a.a < a.a = mod-lt a.m {m = a.a} (omega arith) in (
      omega (arith, c.requires.0),
      (smaller_pos a.a a.m big c.requires.3, omega arith, omega arith, smaller_coprime a.a a.m c.requires.3),
    )

pub overflow_mul-result : goal.overflow_mul-result
overflow_mul-result t c =
    let a = c.args in
    let i = c.euclid-c in
    omega (arith, bezout_fits a.a a.m i.result.x i.result.y i.ensures)

pub overflow_sub-result : goal.overflow_sub-result
overflow_sub-result t c = c.euclid-c.ensures.y_most

pub overflow_add-result : goal.overflow_add-result
overflow_add-result t c =
    let a = c.args in
    let i = c.euclid-c in
    omega (arith, bezout_fits a.a a.m i.result.x i.result.y i.ensures)

pub overflow_sub-result-2 : goal.overflow_sub-result-2
overflow_sub-result-2 t c =
    let a = c.args in
    let i = c.euclid-c in
    omega (arith, bezout_fits a.a a.m i.result.x i.result.y i.ensures)

pub returns : goal.returns
returns t c =
    let a = c.args in
    let i = c.euclid-c in
    bezout_step a.a a.m i.result.x i.result.y i.ensures
