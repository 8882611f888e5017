-- `input::Source::take_piece` meets its contract: the part of the chunk between the source's places is what it still has.
-- Assumes nothing.
use mathlib.Core.Path.{refl, sym, ◌∙◌}
use native.Mathlib.Omega.{arith}
use borrow.Author.Tests.{lt-ltb, le-ltb}
use Rattle.input.proofs.Pieces.{mark_found, mark_none, holds_nothing, none_marked, none_left, holds_piece, holds_part, marked_part, left_after, none_after}
use Rattle.input.proofs.Source.take_piece.Goals as goal

pub returns-then-not-has_bytes-clause-by_index : goal.returns-then-not-has_bytes-clause-by_index
returns-then-not-has_bytes-clause-by_index c =
    holds_nothing c.args.self.now c.args.chunk.now _ _ (sym c.has_bytes.ensures ∙ c.if-not-has_bytes.true)

pub returns-then-not-has_bytes-clause-marked_value : goal.returns-then-not-has_bytes-clause-marked_value
returns-then-not-has_bytes-clause-marked_value c =
    none_marked c.args.self.now c.args.chunk.now (sym c.has_bytes.ensures ∙ c.if-not-has_bytes.true)

pub returns-then-not-has_bytes-clause-chunk_value : goal.returns-then-not-has_bytes-clause-chunk_value
returns-then-not-has_bytes-clause-chunk_value c =
    none_left c.args.self.now c.args.chunk.now (sym c.has_bytes.ensures ∙ c.if-not-has_bytes.true)

pub returns-in-Some-clause-by_index : goal.returns-in-Some-clause-by_index
returns-in-Some-clause-by_index c =
    let found = mark_found _ (sym c.first_mark.ensures ∙ c.in-Some.is) in
    λ xs h. holds_piece c.args.self.now c.args.chunk.now (sym c.has_bytes.ensures ∙ c.if-not-has_bytes.false) xs found.0 (c.keep.ensures xs h)

pub returns-in-Some-clause-marked_value : goal.returns-in-Some-clause-marked_value
returns-in-Some-clause-marked_value c =
    let found = mark_found _ (sym c.first_mark.ensures ∙ c.in-Some.is) in
    marked_part c.args.self.now c.args.chunk.now (sym c.has_bytes.ensures ∙ c.if-not-has_bytes.false) _ found.0 (lt-ltb _ _ found.1)

pub returns-in-Some-clause-chunk_value : goal.returns-in-Some-clause-chunk_value
returns-in-Some-clause-chunk_value c =
    let found = mark_found _ (sym c.first_mark.ensures ∙ c.in-Some.is) in
    left_after c.args.self.now c.args.chunk.now (sym c.has_bytes.ensures ∙ c.if-not-has_bytes.false) _ _ found.0 refl refl

pub returns-in-None-clause-by_index : goal.returns-in-None-clause-by_index
returns-in-None-clause-by_index c =
    let none = mark_none _ (sym c.first_mark.ensures ∙ c.in-None.is) in
    λ xs h. holds_part c.args.self.now c.args.chunk.now (sym c.has_bytes.ensures ∙ c.if-not-has_bytes.false) xs none (c.keep-in-None.ensures xs h)

pub returns-in-None-clause-marked_value : goal.returns-in-None-clause-marked_value
returns-in-None-clause-marked_value c =
    let none = mark_none _ (sym c.first_mark.ensures ∙ c.in-None.is) in
    marked_part c.args.self.now c.args.chunk.now (sym c.has_bytes.ensures ∙ c.if-not-has_bytes.false) _ none (le-ltb _ _ (omega arith))

pub returns-in-None-clause-chunk_value : goal.returns-in-None-clause-chunk_value
returns-in-None-clause-chunk_value c =
    let none = mark_none _ (sym c.first_mark.ensures ∙ c.in-None.is) in
    none_after c.args.self.now c.args.chunk.now (sym c.has_bytes.ensures ∙ c.if-not-has_bytes.false) _ _ none (omega arith) (omega arith)
