-- `formatting::Line::query`: the line of what the catalogue makes.
-- Assumes nothing.
use mathlib.Core.Path.{refl, sym, ◌∙◌}
use Rattle.formatting.proofs.Records.{query_refused, query_made}
use Rattle.formatting.proofs.Line.query.Goals as goal

pub returns-in-Err-clause-text : goal.returns-in-Err-clause-text
returns-in-Err-clause-text c =
    c.refused.ensures.text ∙ query_refused c.args.query.now _ refl (sym c.synthesize.ensures.value ∙ c.in-Err.is)

pub returns-in-Ok-clause-text : goal.returns-in-Ok-clause-text
returns-in-Ok-clause-text c =
    let made = c.synthesize.ensures in
    c.record.ensures.text ∙ query_made c.args.query.now _ refl _ made.out_after made.value c.in-Ok.is
