-- `column::push_each` meets its contract: after i terms, what is left is what single pushes do with the others.
-- Assumes nothing.
use mathlib.Core.Path.{◌≡◌, refl, ◌∙◌}
use Prim.Native.Nat.{◌≤◌, ◌<◌}
use native.Mathlib.Omega.{arith}
use Rattle.sequence.specs.Limits.{max_terms}
use Rattle.column.proofs.Laws.{far_none, far_more, far_full, far_large, far_all}
use Rattle.column.proofs.push_each.Goals as goal

pub loop-i-init : goal.loop-i-init
loop-i-init c = (far_none _ _ c.requires, refl)

pub returns-then-count-eq-MAX_TERMS : goal.returns-then-count-eq-MAX_TERMS
returns-then-count-eq-MAX_TERMS c =
    let l = c.loop-i in
    let full : l.longer.count ≡ max_terms = omega arith in
    c.ended.ensures ∙ far_full _ l.invariant.0 _ (omega arith) (omega arith) full

pub returns-then-s-term : goal.returns-then-s-term
returns-then-s-term c =
    let l = c.loop-i in
    let room : l.longer.count < max_terms = omega (arith, l.invariant.0.sound.count) in
    let large : l.longer.modulus ≤ c.cell-term.result = omega arith in
    c.ended-then-s-term.ensures ∙ far_large _ l.invariant.0 _ _ _ (omega arith) (omega arith) (omega arith) c.cell-term.ensures.0 room large

pub bounds-longer-count : goal.bounds-longer-count
bounds-longer-count c = omega (arith, c.loop-i.invariant.0.sound.count)

pub overflow_add-longer : goal.overflow_add-longer
overflow_add-longer c = omega (arith, c.loop-i.invariant.0.sound.count)

pub loop-i-preserved : goal.loop-i-preserved
loop-i-preserved c =
    let l = c.loop-i in
    let room : l.longer.count < max_terms = omega (arith, l.invariant.0.sound.count) in
    let small : c.cell-term.result < l.longer.modulus = omega arith in
    (far_more _ l.invariant.0 _ (omega arith) c.cell-term.ensures.0 room small, l.invariant.1)

pub returns : goal.returns
returns c = far_all _ c.loop-i.invariant.0 _ (omega arith) c.loop-i-test.false
