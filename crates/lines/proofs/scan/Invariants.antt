-- `lines::scan` meets its contract: the loop keeps what `Scanning` says.
-- Assumes nothing.
use Rattle.lines.proofs.Scanning.{Scanning}
use Rattle.lines.proofs.scan.Given as goal

abbrev pub invariant-loop-i : goal.invariant-loop-i
invariant-loop-i l =
    Scanning l.line l.c l.n l.i l.terms
