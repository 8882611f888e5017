-- `input::next_line` meets its contract. The reads are more than the longest line has bytes: where none are left, it is too long.
-- Assumes nothing.
use mathlib.Core.Logic.{inl, inr}
use mathlib.Core.Path.{refl}
use native.Mathlib.Omega.{arith}
use Rattle.input.proofs.Turns.{kept_none, spent_told, spent_left, turn_told, turn_left, turn_again, turn_failed}
use Rattle.std.proofs.lemmas.Result.{err_from_is_err_and}
use Rattle.input.proofs.next_line.Goals as goal
use Rattle.input.proofs.next_line.Goals.{then-marked-via-then-marked, then-marked-via-else-marked+then-not-now}

pub loop-read-init : goal.loop-read-init
loop-read-init g c = (kept_none _ _ _ _ _ (omega arith) (omega arith), refl)

pub returns-then-marked-clause-told : goal.returns-then-marked-clause-told
returns-then-marked-clause-told g c =
    let p = c.take_piece-marked in
    turn_told p.result c.loop-read.invariant.0 p.ensures.by_index p.ensures.marked_value _ p.ensures.chunk_value c.taken_of.ensures.by_index
    (elim c.then-marked.branch [
      | then-marked-via-then-marked w ↦ inl w.if-marked.true
      | then-marked-via-else-marked+then-not-now w ↦ inr (w.if-marked.false, w.if-not-now.true)
    ])

pub returns-then-marked-clause-chunk_after : goal.returns-then-marked-clause-chunk_after
returns-then-marked-clause-chunk_after g c =
    let p = c.take_piece-marked in
    turn_left p.result c.loop-read.invariant.0 p.ensures.by_index p.ensures.marked_value _ p.ensures.chunk_value

pub loop-read-preserved : goal.loop-read-preserved
loop-read-preserved g c =
    let p = c.take_piece-marked in
    (turn_again p.result c.loop-read.invariant.0 p.ensures.by_index p.ensures.marked_value p.new.self p.ensures.open_value c.if-marked.false c.if-not-now.false c.in_ok-refill.ensures.given (omega arith), c.loop-read.invariant.1)

pub returns-in_err-refill-clause-failed : goal.returns-in_err-refill-clause-failed
returns-in_err-refill-clause-failed g c =
    let p = c.take_piece-marked in
    let cut = turn_failed p.result c.loop-read.invariant.0 p.ensures.by_index p.ensures.marked_value p.new.self p.ensures.open_value c.if-marked.false c.if-not-now.false in
    let e = err_from_is_err_and c.from_residual.result c.from_residual.ensures.1 in
    rw e.1 cut

pub returns-in_err-refill-clause-kept : goal.returns-in_err-refill-clause-kept
returns-in_err-refill-clause-kept g c =
    let e = err_from_is_err_and c.from_residual.result c.from_residual.ensures.1 in
    rw e.1 c.loop-read.invariant.1

pub returns-clause-told : goal.returns-clause-told
returns-clause-told g c = spent_told _ _ _ c.loop-read.invariant.0 (omega arith) (omega arith)

pub returns-clause-chunk_after : goal.returns-clause-chunk_after
returns-clause-chunk_after g c = spent_left _ _ _ c.loop-read.invariant.0 (omega arith)
