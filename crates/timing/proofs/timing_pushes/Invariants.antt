-- `timing_pushes` meets its contract: after i pushes the others are what is left.
-- Assumes nothing.
use Rattle.column.specs.Rules.{terms_in, each_of}
use Rattle.timing.proofs.Pushing.{Pushing}
use Rattle.timing.proofs.timing_pushes.Given as goal

abbrev pub invariant-loop-i : goal.invariant-loop-i
invariant-loop-i l =
    Pushing l.list (each_of l.initial.s (terms_in l.list)).sequence l.i l.s
