-- `sequence::uniqueness_of` meets its contract.
-- Assumes nothing.
use mathlib.Core.Path.{sym}
use Prim.Native.Nat.{◌*◌, ◌≤◌, ◌<◌}
use native.Mathlib.Omega.{arith}
use Rattle.sequence.proofs.OnlyOne.{said_sole, said_several, said_nothing}
use Rattle.sequence.proofs.uniqueness_of.Goals as goal

pub returns-then-l-n : goal.returns-then-l-n
returns-then-l-n c =
    let v = c.args in
    let h : 2 * v.l ≤ v.n = omega arith in
    sym (said_sole _ v.n v.l c.if-prime.true h)

pub returns-then-prime : goal.returns-then-prime
returns-then-prime c =
    let v = c.args in
    let h : v.n < 2 * v.l = omega arith in
    sym (said_several _ v.n v.l c.if-prime.true h)

pub returns : goal.returns
returns c = sym (said_nothing _ _ _ c.if-prime.false)
