-- `enumeration::count_lengths` meets its contract: the cells count the first x sequences.
-- Assumes nothing.
use Prim.Native.Nat.{ℕ, ◌<◌}
use native.Mathlib.Omega.{arith}
use Rattle.enumeration.specs.Rules.{lengths}
use Rattle.enumeration.proofs.Laws.{Legal, counted}
use Rattle.enumeration.proofs.Loops.{tallied_none, tallied_more, tallied_room, tallied_all}
use Rattle.enumeration.proofs.count_lengths.Goals as goal

pub loop-x-init : goal.loop-x-init
loop-x-init c = tallied_none

pub length_of-l-requires : goal.length_of-l-requires
length_of-l-requires c =
    let l : Legal c.args.m c.args.n c.args.k = counted _ _ _ c.requires in
    (l.least, l.most, l.count)

pub bounds-counts-l : goal.bounds-counts-l
bounds-counts-l c = omega (arith, (counted _ _ _ c.requires).few, c.length_of-l.ensures.1)

pub overflow_add-counts : goal.overflow_add-counts
overflow_add-counts c =
    let l : Legal c.args.m c.args.n c.args.k = counted _ _ _ c.requires in
    let room = λ (i : ℕ) (h : i < lengths). tallied_room {l = i} c.loop-x.invariant c.loop-x-test.true l.small h in
    -- n too, so that an edit that takes n for the length fails where it is counted
    omega (arith, room c.length_of-l.result (omega (arith, l.few, c.length_of-l.ensures.1)), room c.args.n l.few)

pub bounds-counts-l-in-loop-x : goal.bounds-counts-l-in-loop-x
bounds-counts-l-in-loop-x c = omega (arith, (counted _ _ _ c.requires).few, c.length_of-l.ensures.1)

pub loop-x-preserved : goal.loop-x-preserved
loop-x-preserved c =
    let l : Legal c.args.m c.args.n c.args.k = counted _ _ _ c.requires in
    let e = c.length_of-l.ensures in
    tallied_more c.loop-x.invariant (omega (arith, l.few, e.1)) e.0

pub returns : goal.returns
returns c =
    let l : Legal c.args.m c.args.n c.args.k = counted _ _ _ c.requires in
    let x = c.loop-x in
    tallied_all x.invariant (omega (arith, c.loop-x-test.false, l.power))
