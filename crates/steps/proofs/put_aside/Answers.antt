-- `steps::put_aside` meets its contract: the places below i are the row's.
-- Assumes nothing.
use mathlib.Core.Path.{refl, sym, ◌∙◌}
use native.Mathlib.Omega.{arith}
use Rattle.lists.proofs.Table.{filled_none, filled_more, filled_all, tabulate_self}
use Rattle.steps.proofs.put_aside.Goals as goal

pub loop-i-init : goal.loop-i-init
loop-i-init c = filled_none _ (omega arith)

pub loop-i-preserved : goal.loop-i-preserved
loop-i-preserved c = filled_more _ c.loop-i.invariant (omega arith) refl

pub returns : goal.returns
returns c = filled_all c.loop-i.invariant (omega arith) ∙ sym (tabulate_self 0 _)
