-- `steps::Memory::settle` meets its contract.
-- Assumes nothing.
use Rattle.steps.specs.Passes.{Settling}
use Rattle.steps.proofs.Memory.settle.Given as goal

abbrev pub invariant-loop-i : goal.invariant-loop-i
invariant-loop-i l =
    Settling l.ring l.k l.plan l.seen l.initial.self l.initial.length l.self l.length l.i
