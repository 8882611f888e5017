-- `steps::Rows::before` meets its contract: before step k the machine holds the state before step k.
-- Assumes nothing.
use Rattle.steps.proofs.Rows.before.Goals as goal

pub loop-k-init : goal.loop-k-init
loop-k-init c = c.start.ensures c.args.s.now
