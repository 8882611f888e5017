-- `catalogue::show_number` meets its contract: the number goes to 1 and to no other.
-- Assumes nothing.
use mathlib.Core.Path.{◌≡◌}
use native.Mathlib.Omega.{arith}
use borrow.Author.Tests.{eq-eqb, ne_eqb}
use Rattle.catalogue.specs.Rules.{editor}
use Rattle.catalogue.proofs.show_number.Goals as goal

pub returns-then-who-eq-EDITOR : goal.returns-then-who-eq-EDITOR
returns-then-who-eq-EDITOR c =
    let who = c.args.who in
    let one : who ≡ editor = omega (arith, c.if-who-eq-EDITOR.true) in
    simp (eq-eqb who editor one) c.copy.ensures

pub returns : goal.returns
returns c = simp (ne_eqb _ _ c.if-who-eq-EDITOR.false) c.hide.ensures
