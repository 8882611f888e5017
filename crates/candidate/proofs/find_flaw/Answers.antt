-- `candidate::find_flaw` meets its contract: it makes the three tests of a candidate.
-- Assumes nothing.
use native.Mathlib.Omega.{arith}
use Rattle.cells.proofs.Laws.{at_cells}
use Rattle.sequence.specs.Limits.{max_cells}
use Rattle.candidate.specs.Rules.{flaw_of}
use Rattle.candidate.proofs.find_flaw.Goals as goal

pub returns : goal.returns
unfolding flaw_of
returns c = rw (at_cells _ max_cells 0 (omega arith), ← c.cell-lead.ensures.0, ← c.fits-coefficient.ensures) c.first_flaw.ensures
