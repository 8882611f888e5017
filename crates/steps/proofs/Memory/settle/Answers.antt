-- `steps::Memory::settle` meets its contract.
-- Assumes nothing.
use mathlib.Core.Path.{◌≡◌, sym, ap₂, subst, ◌∙◌}
use Prim.Native.Nat.{ℕ, ◌≤◌, ◌<◌, ◌*◌, ◌-◌, ◌%◌, ◌^◌}
use native.Mathlib.Nat.{le_refl, pow-le-pow_right}
use native.Mathlib.Omega.{arith}
use Rattle.lists.specs.Table.{at}
use Rattle.residue.proofs.Units.{inverse_lt, coprime_invertible}
use Rattle.steps.proofs.Model.{base_up, whole_low}
use Rattle.steps.proofs.Passes.{settle_next}
use Rattle.steps.proofs.Memory.settle.Goals as goal

pub power-w-requires : goal.power-w-requires
power-w-requires c =
    let a = c.args in
    let x = a.ring.e - 1 - c.loop-i.i - at a.seen.now.u (a.ring.e - 1 - at a.seen.now.u c.loop-i.i) in
    (base_up a.ring, omega (arith, whole_low a.ring, pow-le-pow_right {n = a.ring.p} (base_up a.ring) {i = x} {j = a.ring.e} (omega arith)))

pub mul-requires : goal.mul-requires
mul-requires c =
    let a = c.args in
    let l = c.loop-i in
    let fit = a.ring.fit in
    let g = c.requires.1 l.i (omega arith) in
    let same : at l.length l.i ≡ at a.length.now l.i = l.invariant.todo_len l.i (le_refl l.i) in
    let x = a.ring.e - 1 - l.i - at a.seen.now.u (a.ring.e - 1 - at a.seen.now.u l.i) in
    let t = at a.seen.now.theta (a.ring.e - 1 - at a.seen.now.u l.i) in
    let up : a.ring.p ^ x ≤ a.ring.p ^ a.ring.e = pow-le-pow_right {n = a.ring.p} (base_up a.ring) {i = x} {j = a.ring.e} (omega arith) in
    let low : c.inverse-v.result < a.ring.q
    = subst (λ (y : ℕ). y < a.ring.q) (sym c.inverse-v.ensures) (inverse_lt a.ring.q t fit.some (coprime_invertible t a.ring.q (g.some_unit (omega arith)) fit.some (g.coprime (omega arith)))) in
    (omega (arith, fit.small), omega (arith, c.power-w.ensures, whole_low a.ring), fit.some, fit.small)

pub loop-i-preserved : goal.loop-i-preserved
loop-i-preserved c =
    let a = c.args in
    let l = c.loop-i in
    let g = c.requires.1 l.i (omega arith) in
    let same : at l.length l.i ≡ at a.length.now l.i = l.invariant.todo_len l.i (le_refl l.i) in
    settle_next a.ring a.k a.plan.now a.seen.now a.self.now a.length.now l.self l.length l.i c.mul.result l.invariant (omega arith) (g.wide (omega arith)) (omega arith)
    (c.mul.ensures ∙ ap₂ (λ (x y : ℕ). x * y % a.ring.q) c.inverse-v.ensures c.power-w.ensures)
