-- `enumeration::enumerate` meets its contract: each reply is the one that its tests pick.
-- Assumes nothing.
use mathlib.Core.Path.{refl, sym, ◌∙◌}
use Rattle.std.proofs.lemmas.Result.{err_from_is_err_and}
use Rattle.enumeration.proofs.Laws.{enumerate_buffer, enumerate_counted}
use Rattle.enumeration.proofs.Answers.{enumerate_told}
use Rattle.enumeration.proofs.enumerate.Goals as goal

pub returns-then-query-ne-QUERY_BYTES : goal.returns-then-query-ne-QUERY_BYTES
returns-then-query-ne-QUERY_BYTES c =
    let a = c.args in
    enumerate_told a.m a.n a.number a.query.now (sym (enumerate_buffer _ _ _ _ c.if-query-ne-QUERY_BYTES.true)) refl

pub returns-in_err-k : goal.returns-in_err-k
returns-in_err-k c =
    let a = c.args in
    let p = err_from_is_err_and c.from_residual.result c.from_residual.ensures.1 in
    rw (p.1, p.2)
    (enumerate_told a.m a.n a.number a.query.now
    (sym (enumerate_counted _ _ _ _ c.if-query-ne-QUERY_BYTES.false (sym c.count_sequences.ensures ∙ c.in_err-k.was))) refl)

pub write_sequence-requires : goal.write_sequence-requires
write_sequence-requires c =
    (sym c.count_sequences.ensures ∙ c.in_ok-k.was, c.if-query-ne-QUERY_BYTES.false)

pub returns : goal.returns
returns c =
    let a = c.args in
    enumerate_told a.m a.n a.number a.query.now
    (c.write_sequence.ensures.value ∙ sym (enumerate_counted _ _ _ _ c.if-query-ne-QUERY_BYTES.false (sym c.count_sequences.ensures ∙ c.in_ok-k.was)))
    c.write_sequence.ensures.query_after
