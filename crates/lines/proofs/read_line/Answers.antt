-- `lines::read_line` meets its contract: the buffer's length first, then what the line holds.
-- Assumes nothing.
use mathlib.Core.Path.{refl, sym, ap, ◌∙◌}
use mathlib.Core.List.{List}
use Prim.Native.Nat.{ℕ}
use Rattle.std.proofs.lemmas.Result.{err_from_is_err_and}
use borrow.Author.Tests.{eq-eqb, ne_eqb}
use Rattle.lines.specs.Reading.{found_in}
use Rattle.sequence.specs.Report.{filled}
use Rattle.lines.specs.Reply.{reply_of, reply_to, read_of, query_in}
use Rattle.lines.proofs.Answers.{read_told}
use Rattle.lists.proofs.Choice.{picked, passed}
use Rattle.lines.proofs.Writing.{scanned_terms, scanned_refused, length_first, same_query}
use Rattle.lines.proofs.read_line.Goals as goal

pub returns-then-query-ne-QUERY_BYTES : goal.returns-then-query-ne-QUERY_BYTES
unfolding read_of
returns-then-query-ne-QUERY_BYTES c =
    let a = c.args in
    read_told a.line.now a.query.now (sym (passed _ _ (ne_eqb _ _ c.if-query-ne-QUERY_BYTES.true))) refl

pub returns-in_err-modulus : goal.returns-in_err-modulus
unfolding read_of
returns-in_err-modulus c =
    let a = c.args in
    let p = err_from_is_err_and c.from_residual.result c.from_residual.ensures.1 in
    let e = scanned_refused (found_in a.line.now) (sym c.scan.ensures.value ∙ c.in_err-modulus.was) in
    rw (p.1, p.2) (read_told a.line.now a.query.now (sym (picked _ _ (eq-eqb _ _ c.if-query-ne-QUERY_BYTES.false) ∙ e)) refl)

pub fill-requires : goal.fill-requires
fill-requires c =
    let t = scanned_terms (found_in c.args.line.now) _ _ (sym c.scan.ensures.value ∙ c.in_ok-modulus.was) in
    (length_first t.terms _ (c.scan.ensures.kept _ t.terms t.is), c.if-query-ne-QUERY_BYTES.false)

pub returns : goal.returns
unfolding read_of
returns c =
    let a = c.args in
    let f = c.fill in
    let t = scanned_terms (found_in a.line.now) _ _ (sym c.scan.ensures.value ∙ c.in_ok-modulus.was) in
    let array = c.scan.ensures.kept _ t.terms t.is in
    read_told a.line.now a.query.now
    (f.ensures.value ∙ ap (reply_to c.in_ok-modulus.modulus) t.count ∙ sym (picked _ _ (eq-eqb _ _ c.if-query-ne-QUERY_BYTES.false) ∙ ap reply_of t.is))
    (f.ensures.query_after ∙ ap (λ (new : List ℕ). filled f.result new a.query.now) (same_query _ _ t.terms _ t.count array ∙ sym (ap query_in t.is)))
