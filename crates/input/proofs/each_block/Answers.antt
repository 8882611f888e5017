-- `input::each_block`: the blocks that are still to come, answered, are those of the start.
-- Assumes nothing.
use Rattle.std.proofs.Common.{◌≡◌, ℕ, length, rules, of_calls, arith}
use Rattle.std.proofs.lemmas.Result.{err_from_is_err_and}
use Rattle.input.proofs.Each.{block_read, block_more, block_error, block_end, block_broken, blocks_done}
use Rattle.input.proofs.each_block.Given as given
use Rattle.input.proofs.each_block.Goals as goal

abbrev turns : ℕ
turns = 18446744073709551615

pub loop-block-init : goal.loop-block-init
loop-block-init g c = (search (rules, of_calls), λ r after x. x)

pub loop-block-preserved : goal.loop-block-preserved
loop-block-preserved g c =
    let read = c.in_ok-n.ensures in
    let size : length c.read_full.new.buffer ≡ length c.args.buffer.now = omega arith in (
      search (rules, of_calls),
      block_more (given.F-step g) _ turns _ (omega arith) c.loop-block.invariant.1 _ (block_read c.in_ok-n.n _ _ size read.in_bounds.0 c.if-n-eq0.false read.bytes read.ended) c.in_ok-answer.ensures,
    )

pub returns-in_err-n : goal.returns-in_err-n
returns-in_err-n g c =
    let p = err_from_is_err_and c.from_residual.result c.from_residual.ensures.1 in
    let size : length c.read_full.new.buffer ≡ length c.args.buffer.now = omega arith in
    block_broken (given.F-step g) _ turns _ (omega arith) c.loop-block.invariant.1 _ p.0 size c.in_err-n.ensures.failed p.1

pub returns-in_err-answer : goal.returns-in_err-answer
returns-in_err-answer g c =
    let p = err_from_is_err_and c.from_residual-in_err-answer.result c.from_residual-in_err-answer.ensures.1 in
    let read = c.in_ok-n.ensures in
    let size : length c.read_full.new.buffer ≡ length c.args.buffer.now = omega arith in
    block_error (given.F-step g) _ turns _ (omega arith) c.loop-block.invariant.1 _ _ (block_read c.in_ok-n.n _ _ size read.in_bounds.0 c.if-n-eq0.false read.bytes read.ended) c.in_err-answer.ensures (rw (← p.2) p.1)

pub returns-then-n-eq0 : goal.returns-then-n-eq0
returns-then-n-eq0 g c =
    let read = c.in_ok-n.ensures in
    let size : length c.read_full.new.buffer ≡ length c.args.buffer.now = omega arith in
    block_end (given.F-step g) _ turns _ (omega arith) c.loop-block.invariant.1 _ _ size c.if-n-eq0.true read.bytes read.ended

pub returns : goal.returns
returns g c = blocks_done (given.F-step g) _ turns _ c.loop-block.invariant.1 (omega arith)
