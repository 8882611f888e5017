-- `timing_steps` meets its contract: what fits has a ring for the steps, and anything else is left as it was.
-- Assumes nothing.
use mathlib.Core.Path.{sym, ◌∙◌, subst}
use native.Mathlib.Nat.{mul-le-mul}
use native.Mathlib.Omega.{arith}
use Rattle.residue.specs.Factors.{PrimePower, least_power}
use Rattle.steps.specs.Run.{Result}
use Rattle.synthesis.proofs.Gathering.{is_power, power_fits}
use Rattle.timing.proofs.Laws.{Fit, fit, cells_are, lengths_are}
use Rattle.timing.proofs.timing_steps.Goals as goal

pub split-f-requires : goal.split-f-requires
split-f-requires c =
    let f : Fit c.args.m c.args.n c.args.s.now = fit _ _ _ (sym c.fits.ensures ∙ c.if-fits.true) in
    (f.least, f.most)

pub new-ring-requires : goal.new-ring-requires
new-ring-requires c =
    let f : Fit c.args.m c.args.n c.args.s.now = fit _ _ _ (sym c.fits.ensures ∙ c.if-fits.true) in
    let s = c.split-f.ensures in
    power_fits f.least (omega (arith, f.most)) _ _ _ s.0 s.1 s.2

pub run-requires : goal.run-requires
run-requires c =
    let f : Fit c.args.m c.args.n c.args.s.now = fit _ _ _ (sym c.fits.ensures ∙ c.if-fits.true) in
    (f.terms, f.few, omega (arith, mul-le-mul f.few c.new-ring.result.fit.few))

pub returns-then-fits : goal.returns-then-fits
returns-then-fits c =
    let z = c.args in
    let x = c.run in
    let s = c.split-f.ensures in
    let r = c.new-ring.ensures in
    let same = is_power (least_power z.m) _ _ (r.0 ∙ s.0) (r.1 ∙ s.1) in
    let t = subst (λ (y : PrimePower). Result y z.s.now z.n x.new.a x.new.lens) same x.ensures.0 in
    record { value = cc; a_after = cells_are z.m t; lens_after = lengths_are z.m t }
