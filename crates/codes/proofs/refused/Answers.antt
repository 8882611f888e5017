-- `refused` meets its contract: the number, and 256 times the place.
-- Assumes nothing.
use Rattle.codes.proofs.Laws.{placed_code, plain_code}
use Rattle.codes.proofs.refused.Goals as goal

pub returns-in-Some : goal.returns-in-Some
returns-in-Some c =
    placed_code c.args.r c.number-n.ensures.0 c.place.ensures c.in-Some.is c.told.ensures.0

pub returns-in-None : goal.returns-in-None
returns-in-None c =
    plain_code c.args.r c.number-n.ensures.0 c.place.ensures c.in-None.is
