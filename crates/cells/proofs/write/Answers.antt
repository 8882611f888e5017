-- `cells::write` meets its contract: the cells below i hold the numbers below i, and the rest is as it came.
-- Assumes nothing.
use Prim.Native.Nat.{◌<◌}
use native.Mathlib.Omega.{arith}
use lib.ListN.{length}
use Rattle.cells.proofs.Laws.{written_none, written_more, written_all}
use Rattle.cells.proofs.write.Goals as goal

pub loop-i-init : goal.loop-i-init
loop-i-init c = written_none c.requires

pub loop-i-preserved : goal.loop-i-preserved
loop-i-preserved c =
    let h : c.loop-i.i < length c.args.values.now = omega (arith, c.loop-i.invariant.within) in
    written_more c.requires _ c.loop-i.invariant h c.put.ensures

pub returns : goal.returns
returns c = written_all c.requires c.loop-i.invariant c.loop-i-test.false
