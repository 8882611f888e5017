-- `lines::keep` meets its contract.
-- Assumes nothing.
use mathlib.Core.Path.{sym, ◌∙◌}
use Rattle.lists.proofs.Choice.{picked, passed}
use Rattle.lines.proofs.keep.Goals as goal

pub returns-then-is_digit : goal.returns-then-is_digit
returns-then-is_digit c =
    let e = sym c.is_digit.ensures ∙ c.if-is_digit.true in
    (sym (picked _ _ e), sym (picked _ _ e))

pub returns : goal.returns
returns c =
    let e = sym c.is_digit.ensures ∙ c.if-is_digit.false in
    (c.end_term.ensures.0 ∙ sym (passed _ _ e), c.end_term.ensures.1 ∙ sym (passed _ _ e))
