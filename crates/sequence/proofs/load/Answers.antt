-- `sequence::load` meets its contract: below i the terms are cells 2, 3, ..
-- Assumes nothing.
use mathlib.Core.Path.{refl}
use native.Mathlib.Omega.{arith}
use borrow.Author.Rules.{rules}
use Rattle.lists.proofs.Table.{filled_none, filled_more, filled_all}
use Rattle.sequence.specs.Rules.{sequence_of}
use Rattle.sequence.proofs.Laws.{same}
use Rattle.sequence.proofs.load.Goals as goal

pub loop-i-init : goal.loop-i-init
loop-i-init c = (filled_none _ refl, search rules)

pub loop-i-preserved : goal.loop-i-preserved
loop-i-preserved c = (filled_more _ c.loop-i.invariant.0 c.loop-i-test.true c.cell.ensures.0, omega arith)

pub returns : goal.returns
unfolding sequence_of
returns c = same c.cell-modulus.ensures.0 c.cell-count.ensures.0 (filled_all c.loop-i.invariant.0 c.loop-i-test.false)
