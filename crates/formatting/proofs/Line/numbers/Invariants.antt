-- `formatting::Line::numbers`: the first number and those before the index are written.
-- Assumes nothing.
use mathlib.Core.List.{◌∷◌}
use lib.ListN.{take}
use Rattle.lists.specs.Table.{at}
use Rattle.lists.specs.Text.{bytes}
use Rattle.formatting.proofs.Separated.{Written}
use Rattle.formatting.proofs.Line.numbers.Given as goal

abbrev pub invariant-loop-n : goal.invariant-loop-n
invariant-loop-n l = Written (bytes " ") l.fn.self (at l.fn.numbers 0 ∷ take l.n-index l.rest) l.self
