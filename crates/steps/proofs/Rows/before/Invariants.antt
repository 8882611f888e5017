-- `steps::Rows::before` meets its contract: before step k the machine holds the state before step k.
-- Assumes nothing.
use Rattle.steps.specs.State.{State}
use Rattle.steps.proofs.Rows.before.Given as goal

abbrev pub invariant-loop-k : goal.invariant-loop-k
invariant-loop-k l =
    State l.ring l.s l.k l.machine
