-- `candidate::first_difference` meets its contract: every place below j agrees, and the products below i of place j are summed.
-- Assumes nothing.
use mathlib.Core.Path.{◌≡◌}
use mathlib.Core.Bool.{not, false}
use Prim.Native.Nat.{ℕ, ◌+◌, ◌-◌, ◌%◌, ◌≤◌, ◌<◌}
use lib.Dec.{eqb}
use Rattle.lists.specs.Table.{at}
use Rattle.recurrence.specs.Polynomial.{conv}
use Rattle.sequence.specs.Limits.{max_terms}
use Rattle.candidate.specs.Rules.{a_cells, b_cells}
use Rattle.candidate.proofs.Laws.{Summed, places}
use Rattle.candidate.proofs.first_difference.Given as goal

abbrev pub invariant-loop-i : goal.invariant-loop-i
invariant-loop-i l =
    Summed (places l.terms (a_cells l.a) l.j) l.i l.sum × (l.i ≤ l.j + 1)

abbrev pub decreases-loop-i : goal.decreases-loop-i
decreases-loop-i l =
    l.j + 1 - l.i

abbrev pub invariant-places : goal.invariant-places
invariant-places l =
    (k : ℕ) → k < l.j → not (eqb (conv (at l.terms) (at (a_cells l.a)) k % l.m) (at (b_cells l.b) k)) ≡ false

abbrev pub decreases-places : goal.decreases-places
decreases-places l =
    max_terms - l.j
