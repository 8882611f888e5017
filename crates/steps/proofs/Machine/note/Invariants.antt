-- `steps::Machine::note` meets its contract: after i turns the words of i rows are noted.
-- Assumes nothing.
use Prim.Native.Nat.{ℕ}
use Rattle.steps.specs.Log.{packed, Noted, described_of}
use Rattle.steps.proofs.Machine.note.Given as goal

abbrev pub invariant-loop-i : goal.invariant-loop-i
invariant-loop-i l =
    Noted l.place l.i (λ (j : ℕ). packed (described_of l.ring l.self.rows l.self.seen l.k j)) l.initial.log l.log
