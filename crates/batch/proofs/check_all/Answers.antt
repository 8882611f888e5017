-- `batch::check_all` meets its contract: the replies below i are filled.
-- Assumes nothing.
use mathlib.Core.Path.{ap, ◌∙◌}
use native.Mathlib.Omega.{arith}
use Rattle.lists.proofs.Table.{filled_more, filled_all}
use Rattle.batch.specs.Inner.{check_code}
use Rattle.batch.proofs.Parts.{cut_query}
use Rattle.batch.proofs.check_all.Goals as goal

pub loop-i-preserved : goal.loop-i-preserved
loop-i-preserved c =
    let l = c.loop-i in
    let q = c.args.queries.now in
    filled_more _ l.invariant (omega (arith, l.invariant.size)) (c.first_reply.ensures ∙ ap check_code (cut_query q l.i))

pub returns : goal.returns
returns c = filled_all c.loop-i.invariant (omega (arith, c.loop-i.invariant.size))
