-- `sequence::load` meets its contract: below i the terms are cells 2, 3, ..
-- Assumes nothing.
use Prim.Native.Nat.{ℕ, ◌+◌, ◌≤◌}
use Rattle.lists.proofs.Table.{Filled}
use Rattle.cells.specs.Cell.{cell_at}
use Rattle.sequence.specs.Limits.{max_terms}
use Rattle.sequence.proofs.load.Given as goal

abbrev pub invariant-loop-i : goal.invariant-loop-i
invariant-loop-i l =
    (Filled 0 (λ (j : ℕ). cell_at l.query (2 + j)) max_terms l.i l.terms) × (l.i ≤ max_terms)
