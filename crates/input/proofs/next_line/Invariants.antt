-- The buffer holds the line so far, and each read but the last made it longer. The caller's source stands as it was.
-- Assumes nothing.
use mathlib.Core.Path.{◌≡◌}
use Prim.Native.Nat.{◌-◌}
use Rattle.input.proofs.Turns.{Kept}
use Rattle.input.proofs.next_line.Given as goal

abbrev pub invariant-loop-read : goal.invariant-loop-read
invariant-loop-read g l =
    Kept 18446744073709551615 l.initial.source l.initial.chunk l.now l.chunk l.line l.held (18446744073709551615 - l._read)
    × (l.source ≡ l.initial.source)
