-- `synthesis::trace` meets its contract.
-- Assumes nothing.
use mathlib.Core.Path.{ap, ◌∙◌}
use Prim.Native.Nat.{zero}
use native.Mathlib.Omega.{arith}
use lib.ListN.{length, length-replicate}
use Rattle.recurrence.specs.Working.{sheet_of}
use Rattle.steps.specs.Sizes.{max_cells}
use Rattle.steps.specs.Log.{words}
use Rattle.steps.proofs.Passes.{line_blank}
use Rattle.steps.proofs.Log.{overlaid_long}
use Rattle.synthesis.proofs.Gathering.{a_below, length_most, synthesis_is}
use Rattle.synthesis.proofs.trace.Goals as goal

pub gather-prime-requires : goal.gather-prime-requires
gather-prime-requires c =
    (c.requires.0, c.requires.1, omega arith, c.requires.3, length-replicate max_cells zero, λ i h. omega (arith, line_blank max_cells i), length-replicate max_cells zero, λ i h. omega (arith, line_blank max_cells i))

pub overflow_cast-length : goal.overflow_cast-length
overflow_cast-length c =
    let a = c.args in
    let g = c.gather-prime.ensures in
    omega (arith, length_most a.modulus a.terms.now a.count _ _ c.requires.0 c.requires.2 g.0 g.1)

pub start_cells-b-requires : goal.start_cells-b-requires
start_cells-b-requires c =
    let a = c.args in
    let g = c.gather-prime.ensures in
    (omega (arith, length_most a.modulus a.terms.now a.count _ _ c.requires.0 c.requires.2 g.0 g.1), omega arith, λ i h. omega (arith, a_below a.modulus a.terms.now a.count _ _ c.requires.0 c.requires.2 g.0 g.1 i h), c.requires.3)

pub shape_of-log : goal.shape_of-log
shape_of-log c =
    let a = c.args in
    ap length c.gather-prime.ensures.2 ∙ overlaid_long (words (sheet_of a.modulus a.terms.now a.count)) a.log.now

pub returns : goal.returns
returns c =
    let a = c.args in
    let g = c.gather-prime.ensures in
    (synthesis_is a.modulus a.terms.now a.count _ _ c.requires.0 c.requires.2 g.0 g.1 _ _ c.start_cells-b.ensures g.3, g.2)
