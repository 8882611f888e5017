-- `input::each_line`: the lines that are still to come, answered, are those of the start.
-- Assumes nothing.
use Rattle.std.proofs.Common.{◌-◌}
use Rattle.input.proofs.Each.{Pending}
use Rattle.input.proofs.each_line.Given as goal

abbrev pub invariant-loop-line : goal.invariant-loop-line
invariant-loop-line g l =
    goal.F-IsAlwaysCallable g l.answer
    × Pending (goal.F-step g) 18446744073709551615 l.initial.source l.initial.chunk l.fn.answer (18446744073709551615 - l._line) l.source l.chunk l.answer
