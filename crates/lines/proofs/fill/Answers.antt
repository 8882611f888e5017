-- `lines::fill` meets its contract: each reply is the one that its tests pick.
-- Assumes nothing.
use mathlib.Core.Path.{refl, sym, ◌∙◌}
use Prim.Native.Nat.{◌<◌}
use native.Mathlib.Omega.{arith}
use borrow.Author.Tests.{lt-ltb, le-ltb}
use Rattle.sequence.proofs.Laws.{inside}
use Rattle.lines.proofs.fill.Goals as goal

pub returns-then-outside : goal.returns-then-outside
returns-then-outside c = record { value = simp (sym c.outside.ensures ∙ c.if-outside.true); query_after = refl }

pub returns-then-n-gt-TERMS : goal.returns-then-n-gt-TERMS
returns-then-n-gt-TERMS c = record { value = simp (sym c.outside.ensures ∙ c.if-outside.false, lt-ltb _ _ c.if-n-gt-TERMS.true); query_after = refl }

pub write_query-requires : goal.write_query-requires
write_query-requires c =
    let h : 0 < c.args.modulus = omega (arith, (inside c.args.modulus (sym c.outside.ensures ∙ c.if-outside.false)).0) in
    (h, c.requires.0, c.requires.1)

pub returns : goal.returns
returns c = record { value = simp (sym c.outside.ensures ∙ c.if-outside.false, le-ltb _ _ c.if-n-gt-TERMS.false); query_after = c.write_query.ensures }
