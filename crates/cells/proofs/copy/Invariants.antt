-- `cells::copy` meets its contract: out is filled from the front by the bytes of from.
-- Assumes nothing.
use lib.ListN.{length}
use Rattle.lists.specs.Table.{at}
use Rattle.lists.proofs.Table.{Filled}
use Rattle.cells.proofs.copy.Given as goal

abbrev pub invariant-loop-i : goal.invariant-loop-i
invariant-loop-i l =
    Filled 0 (at l.from) (length l.from) l.i l.out
