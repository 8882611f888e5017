-- `residue::split` meets its contract.
-- Assumes nothing.
use mathlib.Core.Path.{◌∙◌}
use native.Mathlib.Omega.{arith}
use Rattle.residue.proofs.Factors.{least_divisor_lem, power_most, is_least_power}
use Rattle.residue.proofs.split.Goals as goal

pub weigh-w-requires : goal.weigh-w-requires
weigh-w-requires c = omega (arith, c.from-prime.ensures, c.least_divisor.ensures, (least_divisor_lem c.args.m c.requires.0).big)

pub power-requires : goal.power-requires
power-requires c =
    let p = c.from-prime in
    let least = p.ensures ∙ c.least_divisor.ensures in (
      omega (arith, least, (least_divisor_lem c.args.m c.requires.0).big),
      omega (arith, power_most c.args.m p.result c.weigh-w.result.u c.requires.0 least c.weigh-w.ensures.0),
    )

pub returns : goal.returns
returns c =
    let p = c.from-prime in
    let w = c.weigh-w in
    is_least_power c.args.m p.result w.result.u c.requires.0 (p.ensures ∙ c.least_divisor.ensures) w.ensures.0
    c.power.result w.result.theta c.power.ensures w.ensures.1
