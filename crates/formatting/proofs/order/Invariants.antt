-- `formatting::order`: at the places that are looked at every cell is 0.
-- Assumes nothing.
use Rattle.formatting.proofs.Degree.{ZeroFrom}
use Rattle.formatting.proofs.order.Given as goal

abbrev pub invariant-loop-i : goal.invariant-loop-i
invariant-loop-i l = ZeroFrom l.a l.i
