-- `guarantees::drive` meets its contract.
-- Assumes nothing.
use mathlib.Core.Path.{◌≡◌}
use lib.ListN.{length}
use Rattle.sequence.specs.Rules.{open_of}
use Rattle.guarantees.specs.Coded.{state_of}
use Rattle.guarantees.proofs.Driving.{Reached}
use Rattle.guarantees.proofs.drive.Given as goal

abbrev pub invariant-loop-code : goal.invariant-loop-code
invariant-loop-code l =
    Reached l.list (state_of (open_of l.modulus).sequence l.initial.a l.initial.b l.initial.cells) l.codes l.code-index (state_of l.s l.a l.b l.cells) × (length l.a ≡ length l.initial.a) × (length l.b ≡ length l.initial.b) × (length l.cells ≡ length l.initial.cells)
