-- `synthesis::count_rows` meets its contract: the prime powers of what is left are split off one by one.
-- Assumes nothing.
use mathlib.Core.Path.{◌∙◌}
use native.Mathlib.Omega.{arith}
use Rattle.recurrence.proofs.Working.{rows_few}
use Rattle.synthesis.proofs.Logging.{counting_next, counting_fits, counting_end}
use Rattle.synthesis.proofs.count_rows.Goals as goal

pub overflow_add-sum : goal.overflow_add-sum
overflow_add-sum c =
    let s = c.in-Some.ensures.steps.0 in
    omega (arith, counting_fits c.loop-f.invariant _ s.big s.exponent (omega (arith, c.requires.1)))

pub loop-f-preserved : goal.loop-f-preserved
loop-f-preserved c =
    let s = c.in-Some.ensures.steps in
    counting_next c.loop-f.invariant _ _ s.0.big s.0.exponent (s.1 ∙ s.0.rest)

pub returns : goal.returns
returns c =
    let same = counting_end c.loop-f.invariant c.in-None.ensures.steps in
    (same, omega (arith, same, rows_few c.args.modulus (omega (arith, c.requires.0)) (omega (arith, c.requires.1))))
