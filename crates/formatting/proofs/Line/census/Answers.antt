-- `formatting::Line::census`: the line of what is tallied.
-- Assumes nothing.
use mathlib.Core.Path.{refl, sym, ◌∙◌}
use borrow.Author.Rules.{rules}
use Rattle.formatting.proofs.Tallies.{line_refused, line_made, line_few}
use Rattle.formatting.proofs.Line.census.Goals as goal

pub tallied-requires : goal.tallied-requires
tallied-requires c =
    let v = c.args in
    (search rules, line_few v.m v.n _ refl c.tally.ensures.value c.in-Ok.is, search rules)

pub returns-in-Err-clause-text : goal.returns-in-Err-clause-text
returns-in-Err-clause-text c =
    let v = c.args in
    c.refused.ensures.text ∙ line_refused v.m v.n _ refl (sym c.tally.ensures.value ∙ c.in-Err.is)

pub returns-in-Ok-clause-text : goal.returns-in-Ok-clause-text
returns-in-Ok-clause-text c =
    let v = c.args in
    let told = c.tally.ensures in
    c.tallied.ensures.text ∙ line_made v.m v.n _ refl _ told.cells_after told.value c.in-Ok.is
