-- `synthesis::gather` meets its contract: the prime powers of what is left are split off one by one.
-- Assumes nothing.
use mathlib.Core.Path.{◌≡◌, sym, ap, subst, ◌∙◌}
use Prim.Native.Nat.{ℕ, ◌<◌, ◌*◌}
use native.Mathlib.Omega.{arith}
use Rattle.residue.specs.Units.{Coprime}
use Rattle.residue.specs.Factors.{least_power}
use Rattle.residue.specs.declared.PrimePowers.{PrimePowers}
use Rattle.synthesis.proofs.Gathering.{Gathered, is_power, power_fits, gathered_start, rest_most, product_most, value_apart, gathered_next, last_start, last_next, gathered_prime, gathered_a, gathered_lengths}
use Rattle.synthesis.proofs.Logging.{Logging, logging_start, logging_fits, logging_next, logging_end}
use Rattle.synthesis.proofs.gather.Goals as goal

pub loop-f-init : goal.loop-f-init
loop-f-init c =
    let a = c.args in
    let whole = sym (ap (λ (s : PrimePowers). s.rest) c.into_iter-f-iterator.ensures.into_iter_gives ∙ c.prime_powers-f-items.ensures) in (
      subst (λ (r : ℕ). Gathered a.modulus a.terms.now a.count 1 r a.a.now a.lengths.now) whole
          (gathered_start a.modulus a.terms.now a.count a.a.now a.lengths.now c.requires.0 c.requires.2 c.requires.4 c.requires.5 c.requires.6 c.requires.7),
      subst (λ (r : ℕ). Logging a.modulus a.terms.now a.count 0 r a.log.now a.log.now) whole (logging_start a.modulus a.terms.now a.count a.log.now),
      last_start a.modulus,
    )

pub new-ring-requires : goal.new-ring-requires
new-ring-requires c =
    let s = c.in-Some.ensures.steps.0 in
    power_fits s.big (omega (arith, rest_most c.loop-f.invariant.0 s.big, c.requires.1)) _ _ _ s.prime s.exponent s.power

pub extend-requires : goal.extend-requires
extend-requires c =
    let l = c.loop-f in
    let g = l.invariant.0 in
    let s = c.in-Some.ensures.steps.0 in
    let r = c.new-ring.ensures in (
      c.requires.3,
      c.requires.2,
      g.some,
      omega (arith, product_most g s.big, c.requires.1, ap (λ (y : ℕ). l.big * y) (r.2 ∙ s.power)),
      subst (Coprime l.big) (sym (r.2 ∙ s.power)) (value_apart g s.big),
      g.long_a,
      g.below,
      g.long_lengths,
      omega (arith, logging_fits l.invariant.1 _ s.big (r.1 ∙ s.exponent) c.requires.2 (omega (arith, c.requires.1))),
    )

pub overflow_mul-big : goal.overflow_mul-big
overflow_mul-big c =
    let l = c.loop-f in
    let s = c.in-Some.ensures.steps.0 in
    omega (arith, product_most l.invariant.0 s.big, c.requires.1, ap (λ (y : ℕ). l.big * y) s.power)

pub overflow_mul-first : goal.overflow_mul-first
overflow_mul-first c =
    let s = c.in-Some.ensures.steps.0 in
    omega (arith, logging_fits c.loop-f.invariant.1 _ s.big s.exponent c.requires.2 (omega (arith, c.requires.1)))

pub overflow_add-first : goal.overflow_add-first
overflow_add-first c =
    let s = c.in-Some.ensures.steps.0 in
    omega (arith, logging_fits c.loop-f.invariant.1 _ s.big s.exponent c.requires.2 (omega (arith, c.requires.1)))

pub loop-f-preserved : goal.loop-f-preserved
loop-f-preserved c =
    let l = c.loop-f in
    let s = c.in-Some.ensures.steps.0 in
    let rest = c.in-Some.ensures.steps.1 ∙ s.rest in
    let r = c.new-ring.ensures in
    let same = is_power (least_power l.f-iterator.rest) _ _ (r.0 ∙ s.prime) (r.1 ∙ s.exponent) in
    let x = c.extend.ensures in
    (gathered_next l.invariant.0 s.big _ _ _ same s.power rest c.requires.0 x.0, logging_next l.invariant.1 s.big _ _ _ same s.exponent rest x.1, last_next l.invariant.0 s.big _ _ (omega (arith, s.prime)))

pub shape_of-log : goal.shape_of-log
shape_of-log c = c.loop-f.invariant.1.noted.long

pub returns : goal.returns
returns c =
    let l = c.loop-f in
    let end = c.in-None.ensures.steps in
    (gathered_a l.invariant.0 c.requires.0 end, gathered_lengths l.invariant.0 c.requires.0 end, logging_end l.invariant.1 end, gathered_prime l.invariant.0 c.requires.0 end l.last l.invariant.2)
