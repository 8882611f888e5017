-- `residue::weigh` meets its contract. The loop has divided d by p u times; what is left to divide is e - u.
-- Assumes nothing.
use native.Mathlib.Omega.{arith}
use Rattle.residue.proofs.Valuation.{weighing_zero, weighing_start, weighing_next, weighing_stop, weighing_end}
use Rattle.residue.proofs.weigh.Goals as goal

pub returns-then-d-eq0 : goal.returns-then-d-eq0
returns-then-d-eq0 c =
    let a = c.args in
    weighing_zero a.p a.e a.d (omega arith)

pub loop-u-init : goal.loop-u-init
loop-u-init c = weighing_start c.args.p c.args.e c.args.d

pub returns-then-theta-p-ne0 : goal.returns-then-theta-p-ne0
returns-then-theta-p-ne0 c =
    let a = c.args in
    let l = c.loop-u in
    weighing_stop a.p a.e a.d l.u l.theta (omega arith) l.invariant c.if-theta-p-ne0.true

pub loop-u-preserved : goal.loop-u-preserved
loop-u-preserved c =
    let a = c.args in
    let l = c.loop-u in
    weighing_next a.p a.e a.d l.u l.theta l.invariant (omega arith) c.if-theta-p-ne0.false

pub returns : goal.returns
returns c =
    let a = c.args in
    let l = c.loop-u in
    weighing_end a.p a.e a.d l.u l.theta (omega arith) l.invariant (omega arith)
