-- `catalogue::write_record` meets its contract: the body is filled, then the number.
-- Assumes nothing.
use mathlib.Core.Path.{ap₂, ◌∙◌}
use mathlib.Core.List.{List, ◌++◌}
use Prim.Native.Nat.{ℕ}
use borrow.Rule.Slice.PartMut.{put_mid, post_of}
use Rattle.catalogue.specs.Rules.{body_bytes, no_number, layout}
use Rattle.catalogue.proofs.Places.{layout_long}
use Rattle.catalogue.proofs.Laws.{is_record}
use Rattle.catalogue.proofs.write_record.Goals as goal

pub returns : goal.returns
returns c =
    let v = c.args in
    let filled = c.write_body in
    let hidden = c.hide in
    ap₂ (λ (b n : List ℕ). put_mid body_bytes 2 (b ++ post_of 0 body_bytes v.out.now) n) filled.ensures hidden.ensures
    ∙ is_record v.out.now (layout v.query.now v.s.now) no_number c.requires.2 (layout_long v.query.now v.s.now c.requires.0)
