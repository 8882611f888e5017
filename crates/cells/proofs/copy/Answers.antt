-- `cells::copy` meets its contract: out is filled from the front by the bytes of from.
-- Assumes nothing.
use mathlib.Core.Path.{refl, sym, ◌∙◌}
use native.Mathlib.Omega.{arith}
use Rattle.lists.proofs.Table.{filled_none, filled_more, filled_all, tabulate_self}
use Rattle.cells.proofs.copy.Goals as goal

pub loop-i-init : goal.loop-i-init
loop-i-init c = filled_none _ (sym c.requires)

pub bounds-out-i : goal.bounds-out-i
bounds-out-i c = omega (arith, c.loop-i.invariant.size)

pub loop-i-preserved : goal.loop-i-preserved
loop-i-preserved c = filled_more _ c.loop-i.invariant c.loop-i-test.true refl

pub returns : goal.returns
returns c = filled_all c.loop-i.invariant c.loop-i-test.false ∙ sym (tabulate_self 0 _)
