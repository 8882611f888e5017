-- `batch::tally` meets its contract: the replies below the index are counted.
-- Assumes nothing.
use mathlib.Core.Path.{◌≡◌}
use lib.ListN.{take}
use Rattle.batch.specs.Inner.{tally_of}
use Rattle.batch.proofs.tally.Given as goal

abbrev pub invariant-loop-reply : goal.invariant-loop-reply
invariant-loop-reply l =
    l.batch ≡ tally_of (take l.reply-index l.replies)
