-- `period::halve` meets its contract: the length is what has been added and the length of what is left.
-- Assumes nothing.
use Prim.Native.Nat.{suc, ◌-◌}
use native.Mathlib.Omega.{arith}
use Rattle.period.proofs.Loops.{power_small, going_end, going_small}
use Rattle.period.proofs.halve.Goals as goal

pub overflow_add-total : goal.overflow_add-total
overflow_add-total c =
    let l = c.loop-w in
    omega (arith, going_small l.invariant c.requires.0 c.requires.2, c.halve_once-total.ensures.0, power_small (suc (l.w - 1)) (omega (arith, l.invariant.within, c.requires.0)))

pub overflow_add-result : goal.overflow_add-result
overflow_add-result c =
    let l = c.loop-w in
    omega (arith, going_small l.invariant c.requires.0 c.requires.2, going_end l.invariant c.loop-w-test.false)

pub returns : goal.returns
returns c = going_end c.loop-w.invariant c.loop-w-test.false
