-- The measure of `residue::common_divisor` is a, which the remainder falls below at each call.
-- Assumes nothing.
use Rattle.residue.proofs.+common_divisor.Given as goal

abbrev pub decreases-common_divisor : goal.decreases-common_divisor
decreases-common_divisor l = l.a
