-- `catalogue::fetch` meets its contract: each reply is the one that its tests pick; a match is in the catalogue.
-- Assumes nothing.
use mathlib.Core.Path.{refl, sym, ◌∙◌}
use borrow.Author.Tests.{eq-eqb, ne_eqb}
use Rattle.catalogue.specs.Rules.{fetch_of}
use Rattle.catalogue.proofs.Laws.{is_made, match_below, is_served}
use Rattle.catalogue.proofs.fetch.Goals as goal

pub returns-then-odd-ne0 : goal.returns-then-odd-ne0
unfolding fetch_of
returns-then-odd-ne0 c = record { value = simp (ne_eqb _ _ c.if-odd-ne0.true); out_after = refl }

pub serve-requires : goal.serve-requires
serve-requires c =
    (c.requires.2, match_below _ _ _ (sym c.find.ensures ∙ c.in-Some.is), c.requires.3)

pub returns : goal.returns
unfolding fetch_of
returns c =
    let v = c.args in record {
      value = simp (eq-eqb _ _ c.if-odd-ne0.false, ← c.find.ensures, c.in-Some.is, ← c.requires.1) c.serve.ensures.value;
      out_after = is_served v.s.now v.query.now v.catalogue.now v.who v.out.now c.in-Some.i c.serve.ensures.value c.serve.ensures.out_after;
    }

pub returns-in_default : goal.returns-in_default
unfolding fetch_of
returns-in_default c =
    record { value = simp (eq-eqb _ _ c.if-odd-ne0.false, ← c.find.ensures, c.in_default.is); out_after = c.write_record.ensures ∙ is_made _ _ c.requires.1 }
