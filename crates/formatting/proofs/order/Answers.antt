-- `formatting::order`: at the places that are looked at every cell is 0.
-- Assumes nothing.
use native.Mathlib.Omega.{arith}
use Rattle.formatting.proofs.Degree.{zero_end, zero_next, zero_found, zero_none}
use Rattle.formatting.proofs.order.Goals as goal

pub loop-i-init : goal.loop-i-init
loop-i-init c = zero_end _

pub loop-i-preserved : goal.loop-i-preserved
loop-i-preserved c = zero_next _ c.loop-i.invariant (omega arith) c.loop-i.auto.i c.cell.ensures.0 c.if-cell-ne0.false

pub returns-then-cell-ne0 : goal.returns-then-cell-ne0
returns-then-cell-ne0 c = zero_found _ c.loop-i.invariant (omega arith) c.loop-i.auto.i c.cell.ensures.0 (omega (arith, c.if-cell-ne0.true))

pub returns : goal.returns
returns c = zero_none _ c.loop-i.invariant c.loop-i-test.false
