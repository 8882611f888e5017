-- `residue::inverse` meets its contract.
-- Assumes nothing.
use Rattle.residue.proofs.Units.{bezout_inverse}
use Rattle.residue.proofs.inverse.Goals as goal

pub returns : goal.returns
returns c =
    let r = c.euclid-c.result in
    bezout_inverse c.args.x c.args.q r.x r.y c.requires.0 c.requires.1 c.euclid-c.ensures
