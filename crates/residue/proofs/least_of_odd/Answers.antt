-- `residue::least_of_odd` meets its contract: antt computes the test of all entries of the table.
-- Assumes nothing.
use mathlib.Core.Path.{refl}
use Rattle.residue.specs.declared.table.TheConstants.{LEAST}
use Rattle.residue.proofs.Divisors.{table_rule}
use Rattle.residue.proofs.least_of_odd.Goals as goal

pub returns : goal.returns
returns c = table_rule LEAST c.args.i c.requires refl refl
