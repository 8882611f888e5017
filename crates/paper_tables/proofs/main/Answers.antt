-- `paper_tables::main` meets its contract: the ring and the terms are those of `Nine`.
-- Assumes nothing.
use mathlib.Core.Path.{refl}
use native.Mathlib.Omega.{arith}
use Rattle.paper_tables.proofs.Nine.{three, low}
use Rattle.paper_tables.proofs.main.Goals as goal

pub new-ring-requires : goal.new-ring-requires
new-ring-requires c = (three, omega arith, refl, omega arith)

pub table_1-requires : goal.table_1-requires
table_1-requires c = rw c.copy_from_slice.ensures.after (λ i h. low i)

pub table_2-requires : goal.table_2-requires
table_2-requires c = rw c.copy_from_slice.ensures.after (λ i h. low i)
