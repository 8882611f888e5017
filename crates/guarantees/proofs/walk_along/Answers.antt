-- `guarantees::walk_along` meets its contract: what the walk holds is the first match, or none.
-- Assumes nothing.
use Rattle.guarantees.proofs.Batches.{walked}
use Rattle.guarantees.proofs.walk_along.Goals as goal

pub returns : goal.returns
returns c =
    let s = c.args in
    walked s.who s.queries.now s.catalogue.now s.n _ _ c.walk_first.ensures
