-- `merge::merged_terms` meets its contract: the terms below i are merged, and the others are zero.
-- Assumes nothing.
use Prim.Native.Nat.{ℕ, ◌*◌}
use Rattle.lists.specs.Table.{at}
use Rattle.residue.specs.Remainders.{joined, two}
use Rattle.merge.proofs.Laws.{Merging}
use Rattle.merge.proofs.merged_terms.Given as goal

abbrev pub invariant-loop-i : goal.invariant-loop-i
invariant-loop-i l =
    Merging (λ (i : ℕ). joined l.m.multiple (two (l.m.mu * l.m.g) (at l.xs i) (l.m.nu * l.m.g) (at l.ys i))) l.i l.terms
