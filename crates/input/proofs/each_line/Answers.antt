-- `input::each_line`: the lines that are still to come, answered, are those of the start.
-- Assumes nothing.
use Rattle.std.proofs.Common.{ℕ, rules, of_calls, arith}
use Rattle.std.proofs.lemmas.Result.{err_from_is_err_and}
use Rattle.input.proofs.Each.{each_from, each_ended, each_answered, each_stopped, each_failed, each_cut, each_spent}
use Rattle.input.proofs.each_line.Given as given
use Rattle.input.proofs.each_line.Goals as goal

abbrev turns : ℕ
turns = 18446744073709551615

pub loop-line-init : goal.loop-line-init
loop-line-init g c = (search (rules, of_calls), λ r x. x)

pub loop-line-preserved : goal.loop-line-preserved
loop-line-preserved g c = (
  search (rules, of_calls),
  each_answered (given.F-step g) turns _ (omega arith) c.loop-line.invariant.1 (omega arith) c.in_ok-taken.ensures.told c.in-Some.ensures _ c.in_ok-more-in-Some.ensures c.if-not-more.false,
)

pub returns-in_err-taken : goal.returns-in_err-taken
returns-in_err-taken g c =
    let p = err_from_is_err_and c.from_residual.result c.from_residual.ensures.1 in
    each_from (given.F-step g) _ c.new-source.ensures (each_cut (given.F-step g) turns _ (omega arith) c.loop-line.invariant.1 p.0 c.in_err-taken.ensures.failed p.1)

pub returns-in_err-more-in-Some : goal.returns-in_err-more-in-Some
returns-in_err-more-in-Some g c =
    let p = err_from_is_err_and c.from_residual-in_err-more-in-Some.result c.from_residual-in_err-more-in-Some.ensures.1 in
    each_from (given.F-step g) _ c.new-source.ensures
    (each_failed (given.F-step g) turns _ (omega arith) c.loop-line.invariant.1 (omega arith) c.in_ok-taken.ensures.told c.in-Some.ensures _ c.in_err-more-in-Some.ensures (rw (← p.2) p.1))

pub returns-then-not-more : goal.returns-then-not-more
returns-then-not-more g c =
    each_from (given.F-step g) _ c.new-source.ensures
    (each_stopped (given.F-step g) turns _ (omega arith) c.loop-line.invariant.1 (omega arith) c.in_ok-taken.ensures.told c.in-Some.ensures _ c.in_ok-more-in-Some.ensures c.if-not-more.true)

pub returns-in-None : goal.returns-in-None
returns-in-None g c =
    each_from (given.F-step g) _ c.new-source.ensures
    (each_ended (given.F-step g) turns _ (omega arith) c.loop-line.invariant.1 (omega arith) c.in_ok-taken.ensures.told c.in-None.ensures)

pub returns : goal.returns
returns g c =
    each_from (given.F-step g) _ c.new-source.ensures (each_spent (given.F-step g) turns _ c.loop-line.invariant.1 (omega arith))
