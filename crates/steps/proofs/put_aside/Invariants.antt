-- `steps::put_aside` meets its contract: the places below i are the row's.
-- Assumes nothing.
use lib.ListN.{length}
use Rattle.lists.specs.Table.{at}
use Rattle.lists.proofs.Table.{Filled}
use Rattle.steps.proofs.put_aside.Given as goal

abbrev pub invariant-loop-i : goal.invariant-loop-i
invariant-loop-i l = Filled 0 (at l.a) (length l.a) l.i l.aside
