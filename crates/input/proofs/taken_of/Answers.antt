-- `input::taken_of` meets its contract.
-- Assumes nothing.
use mathlib.Core.Path.{sym, ◌∙◌}
use lib.Seq.{length-take-le}
use Rattle.input.proofs.Replies.{told_ended, told_long, told_longer, told_line, line_fits_lem}
use Rattle.input.proofs.taken_of.Goals as goal

pub returns-then-is_end-clause-by_index : goal.returns-then-is_end-clause-by_index
returns-then-is_end-clause-by_index c = λ xs k h. told_ended _ _ _ xs h (sym c.is_end.ensures ∙ c.if-is_end.true)

pub returns-then-line-held-clause-by_index : goal.returns-then-line-held-clause-by_index
returns-then-line-held-clause-by_index c = λ xs k h. told_long _ _ _ xs h (sym c.is_end.ensures ∙ c.if-is_end.false) k c.if-line-held.true

pub slice_bounds-length_of-end : goal.slice_bounds-length_of-end
slice_bounds-length_of-end c = sym (length-take-le _ _ c.if-line-held.false)

pub returns-then-n-gt-LONGEST-clause-by_index : goal.returns-then-n-gt-LONGEST-clause-by_index
returns-then-n-gt-LONGEST-clause-by_index c =
    λ xs k h. told_longer _ _ _ xs h (sym c.is_end.ensures ∙ c.if-is_end.false) c.if-line-held.false _ c.length_of-n.ensures c.if-n-gt-LONGEST.true

pub returns-clause-by_index : goal.returns-clause-by_index
returns-clause-by_index c =
    λ xs k h. told_line _ _ _ xs h (sym c.is_end.ensures ∙ c.if-is_end.false) c.if-line-held.false _ c.length_of-n.ensures c.if-n-gt-LONGEST.false

pub returns-clause-within : goal.returns-clause-within
returns-clause-within c = line_fits_lem c.args.line.now c.args.held _ c.args.marked c.if-line-held.false c.length_of-n.ensures
