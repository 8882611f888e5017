-- `batch::offer_all` meets its contract: the queries below i were offered the record, the others hold what they held.
-- Assumes nothing.
use native.Mathlib.Omega.{arith}
use Rattle.batch.proofs.Turns.{offering_more}
use Rattle.batch.proofs.offer_all.Goals as goal

pub loop-i-preserved : goal.loop-i-preserved
loop-i-preserved c =
    let s = c.args in
    let l = c.loop-i in
    let o = c.offer-r in
    offering_more s.who s.queries.now s.entry.now s.j _ _ l.invariant (omega arith) o.auto.part o.ensures.value o.ensures.part_after
