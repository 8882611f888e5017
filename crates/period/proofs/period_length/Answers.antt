-- `period::period_length` meets its contract: the refusals in their order, then the halving of what was loaded.
-- Assumes nothing.
use native.Mathlib.Omega.{arith}
use borrow.Author.Rules.{rules}
use Rattle.period.proofs.Laws.{loaded_small, reply_odd, reply_period, period_power, reply_digit, reply_length}
use Rattle.period.proofs.Answers.{period_told}
use Rattle.period.proofs.period_length.Goals as goal

pub returns-then-cells-ne0 : goal.returns-then-cells-ne0
returns-then-cells-ne0 c = period_told c.args.cells.now (reply_odd _ c.if-cells-ne0.true)

pub returns-then-w-ge-PERIODS : goal.returns-then-w-ge-PERIODS
returns-then-w-ge-PERIODS c =
    period_told c.args.cells.now (reply_period _ c.if-cells-ne0.false _ c.exponent-w.ensures c.if-w-ge-PERIODS.true)

pub load-i-requires : goal.load-i-requires
load-i-requires c =
    let p = period_power c.args.cells.now c.if-cells-ne0.false _ c.exponent-w.ensures c.if-w-ge-PERIODS.false in
    (omega arith, p.1, search rules)

pub overflow_cast-result : goal.overflow_cast-result
overflow_cast-result c =
    omega (arith, period_power c.args.cells.now c.if-cells-ne0.false _ c.exponent-w.ensures c.if-w-ge-PERIODS.false)

pub returns-then-i-n : goal.returns-then-i-n
returns-then-i-n c =
    period_told c.args.cells.now
    (reply_digit _ c.if-cells-ne0.false _ c.exponent-w.ensures c.if-w-ge-PERIODS.false _ c.load-i.ensures.0 c.if-i-n.true)

pub halve-requires : goal.halve-requires
halve-requires c =
    let a = c.args in
    let size = (period_power a.cells.now c.if-cells-ne0.false _ c.exponent-w.ensures c.if-w-ge-PERIODS.false).0 in (
      c.if-w-ge-PERIODS.false,
      c.load-i.ensures.1,
      λ j h. loaded_small a.cells.now _ _ c.load-i.ensures.0 c.if-i-n.false j _ (omega (arith, size, h)) (c.load-i.ensures.2 j),
    )

pub returns : goal.returns
returns c =
    let a = c.args in
    period_told a.cells.now
    (reply_length _ c.if-cells-ne0.false _ c.exponent-w.ensures c.if-w-ge-PERIODS.false _ c.load-i.ensures.0 c.if-i-n.false _ c.load-i.ensures.2 _
    c.halve.ensures)
