-- `formatting::read_number`: the digits before the index are read.
-- Assumes nothing.
use Rattle.formatting.proofs.Pairs.{Valued}
use Rattle.formatting.proofs.read_number.Given as goal

abbrev pub invariant-loop-b : goal.invariant-loop-b
invariant-loop-b l = Valued l.s l.value l.b-index
