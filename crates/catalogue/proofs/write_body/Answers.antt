-- `catalogue::write_body` meets its contract: the three calls fill the body, the last through the part from byte 262 on.
-- Assumes nothing.
use mathlib.Core.Path.{sym, ◌∙◌}
use native.Mathlib.Omega.{arith}
use lib.Seq.{length-take-le}
use borrow.Author.Rules.{rules}
use Rattle.sequence.specs.Limits.{query_bytes}
use Rattle.sequence.proofs.Reporting.{long_a, long_b}
use Rattle.catalogue.proofs.Laws.{is_body}
use Rattle.catalogue.proofs.write_body.Goals as goal

pub copy-requires : goal.copy-requires
copy-requires c =
    c.requires.0 ∙ sym (length-take-le query_bytes c.args.out.now (omega (arith, c.requires.2)))

pub write_register-requires : goal.write_register-requires
write_register-requires c =
    let x = c.solve-x in
    (long_a _ _ x.ensures, long_b _ _ x.ensures, search rules)

pub returns : goal.returns
returns c =
    let copied = c.copy in
    let put = c.put in
    let written = c.write_register in
    is_body c.args.out.now _ _ _ _ c.args.s.now c.solve-x.result c.requires.2 c.requires.0 copied.ensures put.ensures written.ensures c.solve-x.ensures
