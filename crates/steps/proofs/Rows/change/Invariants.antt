-- `steps::Rows::change` meets its contract.
-- Assumes nothing.
use Rattle.steps.specs.Passes.{Changing}
use Rattle.steps.proofs.Rows.change.Given as goal

abbrev pub invariant-loop-i : goal.invariant-loop-i
invariant-loop-i l =
    Changing l.ring l.k l.memory l.seen l.initial.self l.self l.i
