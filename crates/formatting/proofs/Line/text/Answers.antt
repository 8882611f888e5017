-- `formatting::Line::text`: behind the text there are the zeros that were there.
-- Assumes nothing.
use mathlib.Core.Path.{◌∙◌}
use borrow.Rule.Slice.PartMut.{same_len_mid}
use Rattle.formatting.proofs.Room.{room, rest_kept}
use Rattle.formatting.proofs.Line.text.Goals as goal

pub invariant_of-self : goal.invariant_of-self
invariant_of-self c =
    let l = c.self.inside in
    let i = c.self.invariant in
    let v = c.args in
    let copied = c.copy_from_slice in
    let fits = room l.end l.buffer v.s.now i.0 i.1 c.self.view_is c.requires in
    (fits, same_len_mid l.end _ l.buffer _ copied.ensures.len ∙ i.1, rest_kept l.end l.buffer v.s.now i.0 i.1 fits copied.new.self copied.ensures.after i.2)
