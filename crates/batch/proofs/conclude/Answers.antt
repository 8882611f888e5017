-- `batch::conclude` meets its contract: a record that is made, and zeros in the place of one that failed.
-- Assumes nothing.
use mathlib.Core.Path.{◌∙◌}
use borrow.Author.Tests.{eq-eqb, ne_eqb}
use Rattle.catalogue.proofs.Laws.{is_made}
use Rattle.batch.proofs.Parts.{cleared}
use Rattle.batch.proofs.conclude.Goals as goal

pub returns-then-reply-eq0-clause-part_after : goal.returns-then-reply-eq0-clause-part_after
returns-then-reply-eq0-clause-part_after c = simp (eq-eqb _ _ c.if-reply-eq0.true) (c.write_record.ensures ∙ is_made _ _ c.requires.1)

pub returns-clause-part_after : goal.returns-clause-part_after
returns-clause-part_after c =
    simp (ne_eqb _ _ c.if-reply-eq0.false, ← c.is_good.ensures, c.if-is_good.false) (cleared c.args.part.now _ c.requires.3 c.clear.ensures)
