-- `enumeration::tally` meets its contract: each reply is the one that its tests pick.
-- Assumes nothing.
use mathlib.Core.Path.{refl, sym, ap, ◌∙◌}
use Rattle.std.proofs.lemmas.Result.{err_from_is_err_and}
use Rattle.cells.specs.Cell.{bytes_of}
use Rattle.enumeration.specs.Rules.{tally_cells}
use Rattle.enumeration.proofs.Laws.{tally_buffer, tally_counted}
use Rattle.enumeration.proofs.Answers.{tally_told}
use Rattle.enumeration.proofs.tally.Goals as goal

pub returns-then-cells-ne-TALLY_BYTES : goal.returns-then-cells-ne-TALLY_BYTES
returns-then-cells-ne-TALLY_BYTES c =
    let a = c.args in
    tally_told a.m a.n a.cells.now (sym (tally_buffer _ _ _ c.if-cells-ne-TALLY_BYTES.true)) refl

pub returns-in_err-k : goal.returns-in_err-k
returns-in_err-k c =
    let a = c.args in
    let p = err_from_is_err_and c.from_residual.result c.from_residual.ensures.1 in
    rw (p.1, p.2)
    (tally_told a.m a.n a.cells.now
    (sym (tally_counted _ _ _ c.if-cells-ne-TALLY_BYTES.false (sym c.count_sequences.ensures ∙ c.in_err-k.was))) refl)

pub count_lengths-counts-requires : goal.count_lengths-counts-requires
count_lengths-counts-requires c = sym c.count_sequences.ensures ∙ c.in_ok-k.was

pub returns : goal.returns
unfolding tally_cells
returns c =
    let a = c.args in
    tally_told a.m a.n a.cells.now
    (sym (tally_counted _ _ _ c.if-cells-ne-TALLY_BYTES.false (sym c.count_sequences.ensures ∙ c.in_ok-k.was)))
    (c.write.ensures ∙ ap bytes_of c.count_lengths-counts.ensures)
