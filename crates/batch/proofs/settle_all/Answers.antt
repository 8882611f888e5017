-- `batch::settle_all` meets its contract: the queries below i are settled, the others hold what they held.
-- Assumes nothing.
use native.Mathlib.Omega.{arith}
use Rattle.batch.proofs.Turns.{settling_more}
use Rattle.batch.proofs.settle_all.Goals as goal

pub loop-i-preserved : goal.loop-i-preserved
loop-i-preserved c =
    let s = c.args in
    let l = c.loop-i in
    let o = c.settle-r in
    settling_more s.queries.now _ _ l.invariant (omega arith) o.auto.part o.ensures.value o.ensures.part_after
