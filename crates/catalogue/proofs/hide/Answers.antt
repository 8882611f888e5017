-- `catalogue::hide` meets its contract: both bytes are 0.
-- Assumes nothing.
use Rattle.catalogue.proofs.Laws.{is_hidden}
use Rattle.catalogue.proofs.hide.Goals as goal

pub returns : goal.returns
returns c = is_hidden c.args.number.now c.requires
