-- `input::each_block`: the blocks that are still to come, answered, are those of the start.
-- Assumes nothing.
use Rattle.std.proofs.Common.{◌-◌, length}
use Rattle.input.proofs.Each.{Awaited}
use Rattle.input.proofs.each_block.Given as goal

abbrev pub invariant-loop-block : goal.invariant-loop-block
invariant-loop-block g l =
    goal.F-IsAlwaysCallable g l.answer
    × Awaited (goal.F-step g) (length l.initial.buffer) 18446744073709551615 (g.R.Read.remaining l.initial.reader) l.fn.answer (18446744073709551615 - l._block) (g.R.Read.remaining l.reader) l.answer
