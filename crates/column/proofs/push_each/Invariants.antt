-- `column::push_each` meets its contract: after i terms, what is left is what single pushes do with the others.
-- Assumes nothing.
use mathlib.Core.Path.{◌≡◌}
use Rattle.column.specs.Rules.{terms_in, each_of}
use Rattle.column.proofs.Laws.{SoFar}
use Rattle.column.proofs.push_each.Given as goal

abbrev pub invariant-loop-i : goal.invariant-loop-i
invariant-loop-i l =
    SoFar l.list (each_of l.s (terms_in l.list)) l.i l.longer × (l.longer.modulus ≡ l.s.modulus)
