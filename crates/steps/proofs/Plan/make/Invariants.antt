-- `steps::Plan::make` meets its contract.
-- Assumes nothing.
use Rattle.steps.specs.Passes.{Planned}
use Rattle.steps.proofs.Plan.make.Given as goal

abbrev pub invariant-loop-i : goal.invariant-loop-i
invariant-loop-i l =
    Planned l.ring l.k l.rows l.seen l.self l.i
