-- `synthesis::count_rows` meets its contract: the prime powers of what is left are split off one by one.
-- Assumes nothing.
use Rattle.synthesis.proofs.Logging.{Counting}
use Rattle.synthesis.proofs.count_rows.Given as goal

abbrev pub invariant-loop-f : goal.invariant-loop-f
invariant-loop-f l =
    Counting l.modulus l.sum l.f-iterator.rest
