-- `steps::coefficient` meets its contract: the loop adds up the first l + 1 summands, and the others are 0.
-- Assumes nothing.
use mathlib.Core.Path.{◌≡◌}
use Rattle.lists.specs.Table.{at}
use Rattle.lists.specs.Sum.{sum_to}
use Rattle.recurrence.proofs.Series.{summand}
use Rattle.steps.proofs.coefficient.Given as goal

abbrev pub invariant-loop-i : goal.invariant-loop-i
invariant-loop-i l =
    l.sum ≡ sum_to l.i (summand (at l.a) (at l.s) l.k)
