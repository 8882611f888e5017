-- `formatting::Line::typed`: the line of what is read.
-- Assumes nothing.
use mathlib.Core.Path.{refl, sym, ◌∙◌}
use Rattle.formatting.proofs.Records.{typed_refused, typed_read}
use Rattle.formatting.proofs.Line.typed.Goals as goal

pub returns-in-Err-clause-text : goal.returns-in-Err-clause-text
returns-in-Err-clause-text c =
    c.refused.ensures.text ∙ typed_refused c.args.line.now _ refl (sym c.read_line.ensures.value ∙ c.in-Err.is)

pub returns-in-Ok-clause-text : goal.returns-in-Ok-clause-text
returns-in-Ok-clause-text c =
    let read = c.read_line.ensures in
    c.query.ensures.text ∙ typed_read c.args.line.now _ refl _ read.query_after read.value c.in-Ok.is
