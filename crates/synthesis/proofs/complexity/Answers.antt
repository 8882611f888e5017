-- `synthesis::complexity` meets its contract: the length of all terms is the last of those that are gathered.
-- Assumes nothing.
use Prim.Native.Nat.{zero}
use native.Mathlib.Omega.{arith}
use lib.ListN.{length-replicate}
use Rattle.steps.specs.Sizes.{max_cells}
use Rattle.steps.proofs.Passes.{line_blank}
use Rattle.synthesis.proofs.Gathering.{complexity_is, length_most}
use Rattle.synthesis.proofs.complexity.Goals as goal

pub gather-requires : goal.gather-requires
gather-requires c =
    (c.requires.0, c.requires.1, omega arith, c.requires.3, length-replicate max_cells zero, λ i h. omega (arith, line_blank max_cells i), length-replicate max_cells zero, λ i h. omega (arith, line_blank max_cells i))

pub returns : goal.returns
returns c =
    let a = c.args in
    let g = c.gather.ensures in (
      complexity_is a.modulus a.terms.now a.count _ _ c.requires.0 c.requires.2 g.0 g.1,
      length_most a.modulus a.terms.now a.count _ _ c.requires.0 c.requires.2 g.0 g.1,
    )
