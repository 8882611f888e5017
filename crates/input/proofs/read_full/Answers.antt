-- `input::read_full` meets its contract.
-- Assumes nothing.
use Rattle.std.proofs.Common.{arith}
use Rattle.input.proofs.Filling.{reads_more}
use Rattle.input.proofs.read_full.Goals as goal

pub loop-done-preserved : goal.loop-done-preserved
loop-done-preserved g c =
    (omega (arith, c.in_ok-n.ensures.bound.0), reads_more _ _ _ _ _ c.in_ok-n.n _ _ _ c.loop-done.invariant.0 c.in_ok-n.ensures.bound.0 (omega arith) c.loop-done.invariant.1 c.in_ok-n.ensures.bytes.0)

pub returns-then-n-eq0-clause-bytes : goal.returns-then-n-eq0-clause-bytes
returns-then-n-eq0-clause-bytes g c =
    reads_more _ _ _ _ _ c.in_ok-n.n _ _ _ c.loop-done.invariant.0 c.in_ok-n.ensures.bound.0 (omega arith) c.loop-done.invariant.1 c.in_ok-n.ensures.bytes.0
