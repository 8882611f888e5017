-- `formatting::pair_line`: the answer to what the line says.
-- Assumes nothing.
use mathlib.Core.Path.{sym, ◌∙◌}
use Rattle.formatting.proofs.Pairs.{answer_told}
use Rattle.formatting.proofs.pair_line.Goals as goal

pub returns-in-Some-clause-line_value : goal.returns-in-Some-clause-line_value
returns-in-Some-clause-line_value c =
    c.census.ensures.text ∙ answer_told _ (sym c.read_pair.ensures ∙ c.in-Some.is)

pub returns-in-None-clause-line_value : goal.returns-in-None-clause-line_value
returns-in-None-clause-line_value c =
    c.no_pair_line.ensures.text ∙ answer_told _ (sym c.read_pair.ensures ∙ c.in-None.is)
