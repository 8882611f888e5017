-- `steps::combine` meets its contract.
-- Assumes nothing.
use Rattle.steps.specs.Sizes.{max_cells}
use Rattle.steps.proofs.Cells.{Adding}
use Rattle.steps.proofs.combine.Given as goal

abbrev pub invariant-loop-i : goal.invariant-loop-i
invariant-loop-i l =
    Adding max_cells l.ring.q l.f l.s l.initial.x l.y l.x l.i
