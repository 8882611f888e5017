-- `steps::coefficient` meets its contract: the loop adds up the first l + 1 summands, and the others are 0.
-- Assumes nothing.
use mathlib.Core.Path.{◌≡◌, refl, sym, ap, ap₂, ◌∙◌}
use Prim.Native.Nat.{ℕ, suc, ◌+◌, ◌*◌, ◌-◌, ◌%◌}
use native.Mathlib.Omega.{arith}
use Rattle.lists.specs.Table.{at}
use Rattle.lists.specs.Sum.{sum_to}
use Rattle.lists.proofs.Sum.{sum_to_more}
use Rattle.recurrence.proofs.Series.{summand}
use Rattle.steps.proofs.Cells.{summand_low, sum_low, sum_stop}
use Rattle.steps.proofs.coefficient.Goals as goal

pub loop-i-init : goal.loop-i-init
unfolding sum_to
loop-i-init c = refl

pub overflow_add-sum : goal.overflow_add-sum
overflow_add-sum c =
    let i = c.loop-i.i in
    let f = at c.args.a.now in
    let g = at c.args.s.now in
    let same : c.from.result * c.from-in-loop-i.result ≡ f i * g (c.args.k - i) = ap₂ ◌*◌ c.from.ensures c.from-in-loop-i.ensures in
    omega (arith, same, summand_low f g c.args.k c.requires.3 c.requires.4 c.requires.1 i (omega arith), sum_low f g c.args.k c.requires.3 c.requires.4 c.requires.1 i (omega arith))

pub loop-i-preserved : goal.loop-i-preserved
loop-i-preserved c =
    let l = c.loop-i in
    ap₂ ◌+◌ l.invariant (ap₂ ◌*◌ c.from.ensures c.from-in-loop-i.ensures) ∙ sym (sum_to_more l.i (summand (at c.args.a.now) (at c.args.s.now) c.args.k))

pub returns : goal.returns
returns c =
    let l = c.loop-i in
    let f = at c.args.a.now in
    let g = at c.args.s.now in
    c.remainder.ensures
    ∙ ap (λ (x : ℕ). x % c.args.q)
    (l.invariant ∙ ap (λ (n : ℕ). sum_to n (summand f g c.args.k)) (let e : l.i ≡ suc c.args.l = omega arith in e)
    ∙ sum_stop f g c.args.k c.args.l (omega arith) c.requires.5)
