-- `enumeration::digits` meets its contract: the digits are read off from the last place to the first.
-- Assumes nothing.
use mathlib.Core.Path.{ap, ◌∙◌}
use Prim.Native.Nat.{ℕ, ◌%◌}
use native.Mathlib.Omega.{arith}
use Rattle.enumeration.proofs.Loops.{parted_none, parted_more, parted_all}
use Rattle.enumeration.proofs.digits.Goals as goal

pub loop-i-init : goal.loop-i-init
loop-i-init c = parted_none

pub loop-i-preserved : goal.loop-i-preserved
loop-i-preserved c = parted_more _ _ c.requires.1 (omega arith) c.loop-i.invariant (c.remainder.ensures ∙ ap (λ (k : ℕ). k % c.args.m) c.from.ensures)

pub returns : goal.returns
returns c = parted_all (omega (arith, c.loop-i-test.false)) c.loop-i.invariant
