-- `lines::residue_of` meets its contract: the remainder of 0 is 0.
-- Assumes nothing.
use mathlib.Core.Path.{◌≡◌, sym, ap, ◌∙◌}
use native.Mathlib.Nat.{zero-mod}
use lib.IntN.{pos}
use mir.Syntax.{w32}
use mir.Val.{to_z}
use mir.Facts.{to_z-of_z}
use Rattle.residue.specs.Signed.{residue_of}
use Rattle.lines.proofs.residue_of.Goals as goal

pub returns-then-t-eq0 : goal.returns-then-t-eq0
returns-then-t-eq0 c =
    let a = c.args in
    let e : a.t ≡ pos 0 = sym (to_z-of_z c.ranges.t) ∙ ap (to_z w32) c.if-t-eq0.true in
    sym (ap (residue_of a.m) e ∙ zero-mod a.m)

pub returns : goal.returns
returns c = c.of_signed.ensures ∙ ap (residue_of c.args.m) (to_z-of_z c.ranges.t)
