-- `synthesis::start_cells` meets its contract: at the start each cell is 0.
-- Assumes nothing.
use Prim.Native.Nat.{zero}
use native.Mathlib.Omega.{arith}
use lib.ListN.{length-replicate}
use Rattle.steps.specs.Sizes.{max_terms}
use Rattle.steps.proofs.Passes.{line_blank}
use Rattle.synthesis.proofs.start_cells.Goals as goal

pub loop-i-init : goal.loop-i-init
loop-i-init c = record { long = length-replicate max_terms zero; below = λ j h. absurd (omega arith); above = λ j h. line_blank max_terms j }
