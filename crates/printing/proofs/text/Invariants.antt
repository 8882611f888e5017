-- The writer has taken all of the text but the rest.
-- Assumes nothing.
use Rattle.std.proofs.Common.{◌≡◌, ◌≤◌, ◌-◌, length, take, drop}
use Rattle.std.specs.Io.KnownBytes.{Appends}
use Rattle.printing.proofs.text.Given as goal

abbrev pub invariant-loop-rest : goal.invariant-loop-rest
invariant-loop-rest g l =
    (length l.rest ≤ length l.s)
    × (l.rest ≡ drop (length l.s - length l.rest) l.s)
    × Appends (g.W.Write.contents l.initial.out) (g.W.Write.contents l.out) (take (length l.s - length l.rest) l.s)

abbrev pub decreases-loop-rest : goal.decreases-loop-rest
decreases-loop-rest g l = length l.rest
