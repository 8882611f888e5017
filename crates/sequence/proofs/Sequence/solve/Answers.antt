-- `sequence::solve` meets its contract.
-- Assumes nothing.
use Rattle.sequence.proofs.Reporting.{small_terms}
use native.Mathlib.Omega.{arith}
use Rattle.sequence.proofs.Sequence.solve.Goals as goal

pub synthesize-requires : goal.synthesize-requires
synthesize-requires c =
    let g = c.requires in
    (g.least, omega (arith, g.most), g.count, small_terms _ g)
