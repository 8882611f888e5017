-- `candidate::judge` meets its contract: each reply is the one that its tests pick.
-- Assumes nothing.
use mathlib.Core.Path.{refl}
use borrow.Author.Tests.{lt-ltb, le-ltb}
use Rattle.std.proofs.lemmas.Result.{err_from_is_err_and}
use Rattle.candidate.specs.Rules.{judge_of}
use Rattle.candidate.proofs.judge.Goals as goal

pub returns-in_err-find_flaw : goal.returns-in_err-find_flaw
unfolding judge_of
returns-in_err-find_flaw c =
    let p = err_from_is_err_and c.from_residual.result c.from_residual.ensures.1 in
    rw (p.1, p.2, ← c.find_flaw.ensures, c.in_err-find_flaw.was) refl

pub returns-then-i-n : goal.returns-then-i-n
unfolding judge_of
returns-then-i-n c =
    simp (← c.find_flaw.ensures, c.in_ok-find_flaw.was, ← c.first_difference-i.ensures, lt-ltb _ _ c.if-i-n.true)

pub returns : goal.returns
unfolding judge_of
returns c =
    simp (← c.find_flaw.ensures, c.in_ok-find_flaw.was, ← c.first_difference-i.ensures, le-ltb _ _ c.if-i-n.false)
