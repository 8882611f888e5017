-- The measure of `residue::euclid` is a, which the remainder falls below at each call.
-- Assumes nothing.
use Rattle.residue.proofs.+euclid.Given as goal

abbrev pub decreases-euclid : goal.decreases-euclid
decreases-euclid l = l.a
