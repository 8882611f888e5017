-- `steps::combine` meets its contract.
-- Assumes nothing.
use mathlib.Core.Path.{sym, subst}
use Prim.Native.Nat.{ℕ, ◌<◌, ◌+◌}
use native.Mathlib.Nat.{le_refl}
use native.Mathlib.Omega.{arith}
use Rattle.lists.specs.Table.{at}
use Rattle.residue.proofs.Reduction.{product_below}
use Rattle.steps.specs.Sizes.{max_cells}
use Rattle.steps.proofs.Cells.{add_start, add_next, add_done}
use Rattle.steps.proofs.combine.Goals as goal

pub loop-i-init : goal.loop-i-init
loop-i-init c = add_start max_cells c.args.ring.q c.args.f c.args.s c.args.x.now c.args.y.now c.requires.2

pub reduce-requires : goal.reduce-requires
reduce-requires c =
    let a = c.args in
    let l = c.loop-i in
    let low = subst (λ (v : ℕ). v < a.ring.q) (sym (l.invariant.todo (a.s + l.i) (le_refl (a.s + l.i)))) (c.requires.2 (a.s + l.i) (omega arith)) in
    (a.ring.fit.some, a.ring.fit.small, product_below a.ring.q (at l.x (a.s + l.i)) a.f (at a.y.now l.i) low c.requires.1 (c.requires.3 l.i (omega arith)), a.ring.fit.scaled)

pub loop-i-preserved : goal.loop-i-preserved
loop-i-preserved c =
    let a = c.args in
    let l = c.loop-i in
    add_next max_cells a.ring.q a.f a.s a.x.now a.y.now c.requires.2 l.x l.i _ l.invariant (omega arith) c.reduce.ensures

pub returns : goal.returns
returns c =
    let a = c.args in
    let l = c.loop-i in
    add_done max_cells a.ring.q a.f a.s a.x.now a.y.now c.requires.2 a.n l.i _ c.requires.4 (omega arith) l.invariant
