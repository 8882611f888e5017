-- `merge::merged_terms` meets its contract.
-- Assumes nothing.
use native.Mathlib.Omega.{arith}
use Rattle.merge.proofs.Laws.{merging_none, merging_all}
use Rattle.merge.proofs.merged_terms.Goals as goal

pub loop-i-init : goal.loop-i-init
loop-i-init c = merging_none _

pub returns : goal.returns
returns c = merging_all c.loop-i.invariant (omega arith)
