-- `residue::weigh` meets its contract. The loop has divided d by p u times; what is left to divide is e - u.
-- Assumes nothing.
use Rattle.residue.proofs.Valuation.{Weighing}
use Rattle.residue.proofs.weigh.Given as goal

abbrev pub invariant-loop-u : goal.invariant-loop-u
invariant-loop-u l =
    Weighing l.p l.e l.d l.u l.theta
