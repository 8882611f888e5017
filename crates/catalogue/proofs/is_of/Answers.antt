-- `catalogue::is_of` meets its contract: the first 260 bytes of the query are all of it.
-- Assumes nothing.
use mathlib.Core.Path.{ap, ◌∙◌}
use mathlib.Core.List.{List}
use Prim.Native.Nat.{ℕ}
use native.Mathlib.Omega.{arith}
use lib.ListN.{take}
use lib.Seq.{take_all}
use Rattle.cells.specs.Cell.{equal}
use Rattle.sequence.specs.Limits.{query_bytes}
use Rattle.catalogue.specs.Rules.{is_of}
use Rattle.catalogue.proofs.Laws.{word_tells}
use Rattle.catalogue.proofs.is_of.Goals as goal

pub returns-then-word : goal.returns-then-word
returns-then-word c =
    let s = c.args in
    word_tells s.query.now s.entry.now _ _ c.word.ensures c.word-2.ensures c.if-word.true

pub returns : goal.returns
unfolding is_of
returns c =
    c.same.ensures ∙ ap (λ (z : List ℕ). equal z (take query_bytes c.args.entry.now)) (take_all query_bytes c.args.query.now (omega (arith, c.requires.0)))
