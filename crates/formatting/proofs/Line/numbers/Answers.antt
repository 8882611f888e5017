-- `formatting::Line::numbers`: the first number and those before the index are written.
-- Assumes nothing.
use mathlib.Core.Path.{sym, ap, ◌∙◌}
use mathlib.Core.List.{List}
use Prim.Native.Nat.{ℕ}
use Rattle.lists.specs.Table.{at}
use Rattle.lists.specs.Text.{bytes}
use Rattle.formatting.proofs.Separated.{separated_none, written_first, written_number}
use Rattle.formatting.proofs.Line.numbers.Goals as goal

pub loop-n-init : goal.loop-n-init
loop-n-init c =
    let first = ap (λ (xs : List ℕ). at xs 0) c.in-Some.ensures.cases.0 in
    written_first _ (c.from.ensures ∙ sym first) c.number.ensures.text c.number.ensures.upper_bound

pub loop-n-preserved : goal.loop-n-preserved
unfolding bytes
loop-n-preserved c =
    let more = c.number_after.ensures in
    written_number _ _ _ c.loop-n.invariant c.loop-n-test.true c.from-in-loop-n.ensures more.text more.upper_bound

pub returns-in_default-clause-text : goal.returns-in_default-clause-text
returns-in_default-clause-text c = separated_none _ _ _ c.in_default.ensures.cases
