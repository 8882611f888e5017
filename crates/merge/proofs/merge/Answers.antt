-- `merge::merge` meets its contract: each reply is the one that its tests pick.
-- Assumes nothing.
use mathlib.Core.Path.{refl}
use borrow.Author.Tests.{eq-eqb, ne_eqb}
use Rattle.merge.specs.Rules.{merge_of}
use Rattle.merge.proofs.Answers.{merge_told}
use Rattle.merge.proofs.merge.Goals as goal

pub returns-then-first-ne-QUERY_BYTES : goal.returns-then-first-ne-QUERY_BYTES
unfolding merge_of
returns-then-first-ne-QUERY_BYTES c =
    let a = c.args in
    merge_told a.first.now a.second.now a.query.now (simp (ne_eqb _ _ c.if-first-ne-QUERY_BYTES.true)) refl

pub returns-then-second-ne-QUERY_BYTES : goal.returns-then-second-ne-QUERY_BYTES
unfolding merge_of
returns-then-second-ne-QUERY_BYTES c =
    let a = c.args in
    merge_told a.first.now a.second.now a.query.now (simp (eq-eqb _ _ c.if-first-ne-QUERY_BYTES.false, ne_eqb _ _ c.if-second-ne-QUERY_BYTES.true)) refl

pub returns-then-query-ne-QUERY_BYTES : goal.returns-then-query-ne-QUERY_BYTES
unfolding merge_of
returns-then-query-ne-QUERY_BYTES c =
    let a = c.args in
    merge_told a.first.now a.second.now a.query.now
    (simp (eq-eqb _ _ c.if-first-ne-QUERY_BYTES.false, eq-eqb _ _ c.if-second-ne-QUERY_BYTES.false, ne_eqb _ _ c.if-query-ne-QUERY_BYTES.true)) refl

pub returns : goal.returns
unfolding merge_of
returns c =
    let a = c.args in
    merge_told a.first.now a.second.now a.query.now
    (simp (eq-eqb _ _ c.if-first-ne-QUERY_BYTES.false, eq-eqb _ _ c.if-second-ne-QUERY_BYTES.false, eq-eqb _ _ c.if-query-ne-QUERY_BYTES.false) c.merge_checked.ensures.value)
    c.merge_checked.ensures.query_after
