-- `timing::add_up` meets its contract: the sum so far is over the places passed, and each adds at most 8 (2^32 - 1).
-- Assumes nothing.
use mathlib.Core.Path.{◌≡◌, refl, ap, ◌∙◌}
use Prim.Native.Nat.{ℕ}
use native.Mathlib.Omega.{arith}
use Rattle.lists.specs.Sum.{sum_to}
use Rattle.lists.specs.Table.{at}
use Rattle.lists.proofs.Sum.{sum_to_more}
use Rattle.steps.specs.declared.StepRecord.{StepRecord}
use Rattle.steps.specs.Log.{unpacked}
use Rattle.timing.specs.Entries.{numbers_of}
use Rattle.timing.proofs.add_up.Goals as goal

pub loop-i-init : goal.loop-i-init
unfolding sum_to
loop-i-init c = (refl, omega arith)

pub loop-i-preserved : goal.loop-i-preserved
loop-i-preserved c =
    let l = c.loop-i in
    let log = c.args.log.now in
    let one : c.total-sum.result ≡ numbers_of (unpacked (at log l.i)) = c.total-sum.ensures.0 ∙ ap (λ (x : StepRecord). numbers_of x) c.entry.ensures in
    (omega (arith, l.invariant.0, one, sum_to_more l.i (λ (j : ℕ). numbers_of (unpacked (at log j)))), omega arith)
