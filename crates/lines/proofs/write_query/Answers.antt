-- `lines::write_query` meets its contract: the loop keeps what `Writing` says.
-- Assumes nothing.
use mathlib.Core.Path.{ap, ◌∙◌}
use Prim.Native.Nat.{◌<◌}
use native.Mathlib.Omega.{arith}
use lib.IntN.{pos}
use lib.ListN.{get_or}
use Rattle.residue.specs.Signed.{residue_of}
use Rattle.sequence.specs.Limits.{max_terms}
use Rattle.sequence.proofs.Writing.{writing_start, writing_more, writing_end, writing_size}
use Rattle.lines.proofs.Writing.{read_back}
use Rattle.lines.proofs.write_query.Goals as goal

pub put-requires : goal.put-requires
put-requires c = omega (arith, c.requires.2)

pub loop-j-init : goal.loop-j-init
loop-j-init c =
    writing_start c.args.query.now _ _ c.requires.2 c.put.ensures c.put-2.ensures

pub put-requires-in-loop-j : goal.put-requires-in-loop-j
put-requires-in-loop-j c =
    let l = c.loop-j in
    omega (arith, writing_size l.invariant)

pub loop-j-preserved : goal.loop-j-preserved
loop-j-preserved c =
    let a = c.args in
    let h : c.loop-j.j < max_terms = omega arith in
    writing_more _ _ c.loop-j.invariant h (c.residue_of-r.ensures ∙ ap (residue_of a.m) (read_back (get_or a.terms.now c.loop-j.j (pos 0)) c.residue_of-arg-1.given)) c.put-in-loop-j.ensures

pub returns : goal.returns
returns c = writing_end c.loop-j.invariant c.loop-j-test.false
