-- `catalogue::show` meets its contract: the body is copied, the number as who asks sees it.
-- Assumes nothing.
use mathlib.Core.Path.{ap₂, ◌∙◌}
use mathlib.Core.List.{List, ◌++◌}
use Prim.Native.Nat.{ℕ}
use native.Mathlib.Omega.{arith}
use lib.Seq.{length-take-le}
use borrow.Rule.Slice.PartMut.{put_mid, post_of}
use Rattle.catalogue.specs.Rules.{body_bytes, body}
use Rattle.catalogue.proofs.Laws.{is_record, is_seen}
use Rattle.catalogue.proofs.show.Goals as goal

pub returns : goal.returns
returns c =
    let v = c.args in
    let copied = c.copy in
    let shown = c.show_number in
    ap₂ (λ (b n : List ℕ). put_mid body_bytes 2 (b ++ post_of 0 body_bytes v.out.now) n) copied.ensures shown.ensures
    ∙ is_record v.out.now (body v.entry.now) _ c.requires.1 (length-take-le body_bytes v.entry.now (omega (arith, c.requires.0)))
    ∙ is_seen v.who v.entry.now c.requires.0
