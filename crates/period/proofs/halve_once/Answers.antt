-- `period::halve_once` meets its contract: equal halves leave the first, others their sum.
-- Assumes nothing.
use mathlib.Core.Path.{◌≡◌, sym, ap, ◌∙◌, subst}
use mathlib.Core.Bool.{true, false}
use Prim.Native.Nat.{ℕ, ◌+◌, ◌%◌, ◌<◌}
use native.Mathlib.Omega.{arith}
use Rattle.lists.specs.Table.{at}
use Rattle.period.specs.Halving.{equal_halves, halving}
use Rattle.period.proofs.Halving.{other_step}
use Rattle.period.proofs.Loops.{power_half, step_equal}
use Rattle.period.proofs.halve_once.Goals as goal

pub equal_halves-requires : goal.equal_halves-requires
equal_halves-requires c = (omega (arith, power_half c.args.w c.requires.0), c.requires.1)

pub returns-then-equal_halves : goal.returns-then-equal_halves
returns-then-equal_halves c =
    let p = power_half c.args.w c.requires.0 in
    let s = c.args.digits.now in (
      omega arith,
      c.requires.1,
      (λ i l. c.requires.2 i (omega (arith, p))),
      step_equal c.args.w s (subst (λ (k : ℕ). equal_halves k s ≡ true) p.0 (sym c.equal_halves.ensures ∙ c.if-equal_halves.true)),
    )

pub add_halves-requires : goal.add_halves-requires
add_halves-requires c =
    let p = power_half c.args.w c.requires.0 in
    (omega (arith, p), c.requires.1, λ i l. c.requires.2 i (omega (arith, p)))

pub returns : goal.returns
returns c =
    let p = power_half c.args.w c.requires.0 in
    let s = c.args.digits.now in
    let t = c.add_halves.new.digits in
    let differ = subst (λ (k : ℕ). equal_halves k s ≡ false) p.0 (sym c.equal_halves.ensures ∙ c.if-equal_halves.false) in
    let sums = subst (λ (k : ℕ). (j : ℕ) → j < k → at t j ≡ (at s j + at s (k + j)) % 2) p.0 c.add_halves.ensures.1 in (
      omega (arith, p),
      c.add_halves.ensures.0,
      (λ i l. omega (arith, sums i l)),
      ap (λ (k : ℕ). k + halving c.args.w t) p.0 ∙ other_step c.args.w s t differ sums,
    )
