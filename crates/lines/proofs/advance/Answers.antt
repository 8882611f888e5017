-- `lines::advance` meets its contract, field by field.
-- Assumes nothing.
use mathlib.Core.Path.{sym, ap, ◌∙◌}
use mathlib.Core.Bool.{Bool}
use Prim.Native.Nat.{zero, ◌+◌, ◌*◌, ◌-◌}
use lib.Dec.{eqb}
use Rattle.lists.specs.Choice.{pick}
use Rattle.lines.proofs.Signs.{same_cursor}
use Rattle.lines.proofs.advance.Goals as goal

pub grown-size-requires : goal.grown-size-requires
grown-size-requires c = (c.requires, sym c.is_digit.ensures ∙ c.if-is_digit.true)

pub returns-then-is_digit : goal.returns-then-is_digit
returns-then-is_digit c =
    let a = c.args in
    let e = sym (sym c.is_digit.ensures ∙ c.if-is_digit.true) in
    same_cursor c.state_after-next.ensures (ap (λ (t : Bool). pick t a.c.minus (eqb a.b 45)) e)
    (c.grown-size.ensures ∙ ap (λ (t : Bool). pick t (10 * a.c.size + (a.b - 48)) zero) e) c.modulus_after-modulus.ensures

pub returns : goal.returns
returns c =
    let a = c.args in
    let e = sym (sym c.is_digit.ensures ∙ c.if-is_digit.false) in
    same_cursor c.state_after-next.ensures (c.is_minus-minus.ensures ∙ ap (λ (t : Bool). pick t a.c.minus (eqb a.b 45)) e)
    (ap (λ (t : Bool). pick t (10 * a.c.size + (a.b - 48)) zero) e) c.modulus_after-modulus.ensures
