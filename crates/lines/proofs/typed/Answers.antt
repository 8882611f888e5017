-- `lines::typed` meets its contract.
-- Assumes nothing.
use mathlib.Core.Path.{◌≡◌, sym, ap, ap₂, ◌∙◌, subst}
use mathlib.Core.Bool.{Bool, false}
use Prim.Native.Nat.{suc, ◌-◌, ◌^◌, ◌≤◌, ◌<◌}
use native.Mathlib.Omega.{arith}
use Rattle.lines.specs.Form.{signed, limit}
use Rattle.lines.proofs.Signs.{limit_most, from_zero, from_minus_one, less_is, pos_fits, pos_is}
use Rattle.lines.proofs.typed.Goals as goal

pub returns-then-size-eq0 : goal.returns-then-size-eq0
returns-then-size-eq0 c = sym (ap₂ signed c.if-minus.true c.if-size-eq0.true)

pub overflow_cast-n : goal.overflow_cast-n
overflow_cast-n c =
    let a = c.args in
    pos_fits (a.size - 1) (omega (arith, c.requires, limit_most a.minus))

pub overflow_sub-result : goal.overflow_sub-result
overflow_sub-result c =
    let a = c.args in
    let h : a.size - 1 < 2 ^ 31 = omega (arith, c.requires, limit_most a.minus) in
    search (from_zero (a.size - 1) h, from_minus_one (a.size - 1) h)

pub returns-then-minus : goal.returns-then-minus
returns-then-minus c =
    let a = c.args in
    let e : a.size ≡ suc (a.size - 1) = omega arith in
    less_is (a.size - 1) (omega (arith, c.requires, limit_most a.minus)) ∙ sym (ap₂ signed c.if-minus.true e)

pub overflow_cast-result : goal.overflow_cast-result
overflow_cast-result c =
    let a = c.args in
    let h : a.size ≤ limit false = subst (λ (s : Bool). a.size ≤ limit s) c.if-minus.false c.requires in
    pos_fits a.size (omega arith)

pub returns : goal.returns
returns c =
    let a = c.args in
    let h : a.size ≤ limit false = subst (λ (s : Bool). a.size ≤ limit s) c.if-minus.false c.requires in
    pos_is a.size (omega arith) ∙ sym (ap (λ (s : Bool). signed s a.size) c.if-minus.false)
