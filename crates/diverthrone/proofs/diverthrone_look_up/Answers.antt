-- `diverthrone::diverthrone_look_up` meets its contract: the place of a record that is found is below their number, so that its code fits.
-- Assumes nothing.
use mathlib.Core.Path.{sym, ap, ◌∙◌}
use native.Mathlib.Omega.{arith}
use Rattle.std.specs.Prelude.{Ok}
use Rattle.catalogue.proofs.Laws.{found_below}
use Rattle.diverthrone.proofs.diverthrone_look_up.Goals as goal

pub overflow_add-result : goal.overflow_add-result
overflow_add-result c =
    let v = c.args in
    omega (arith, found_below v.query.now v.catalogue.now v.out.now c.in-Ok-Some.i (sym c.in-Ok-Some.ensures.value ∙ ap Ok c.in-Ok-Some.field-0-is))

pub overflow_mul-result : goal.overflow_mul-result
overflow_mul-result c =
    let v = c.args in
    omega (arith, found_below v.query.now v.catalogue.now v.out.now c.in-Ok-Some.i (sym c.in-Ok-Some.ensures.value ∙ ap Ok c.in-Ok-Some.field-0-is))
