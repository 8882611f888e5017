-- `synthesis::gather` meets its contract: the prime powers of what is left are split off one by one.
-- Assumes nothing.
use Rattle.synthesis.proofs.Gathering.{Gathered, Last}
use Rattle.synthesis.proofs.Logging.{Logging}
use Rattle.synthesis.proofs.gather.Given as goal

abbrev pub invariant-loop-f : goal.invariant-loop-f
invariant-loop-f l =
    Gathered l.modulus l.terms l.count l.big l.f-iterator.rest l.a l.lengths × Logging l.modulus l.terms l.count l.first l.f-iterator.rest l.initial.log l.log × Last l.modulus l.big l.last
