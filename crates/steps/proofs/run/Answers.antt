-- `steps::run` meets its contract: before step k the machine holds the state before step k, and the log the records of the steps before it.
-- Assumes nothing.
use mathlib.Core.Path.{◌≡◌, refl, sym, ◌∙◌}
use Prim.Native.Nat.{zero, ◌≤◌, ◌<◌, ◌+◌, ◌*◌}
use native.Mathlib.Numerals.{add-one}
use native.Mathlib.Omega.{arith}
use lib.ListN.{length-set, length-replicate, replicate}
use lib.Seq.{get_or-set_other}
use Rattle.steps.specs.Sizes.{max_cells, max_terms}
use Rattle.steps.specs.Log.{power_of}
use Rattle.steps.proofs.Passes.{state_at, line_blank}
use Rattle.steps.proofs.Model.{len_low, lens_first, lens_next}
use Rattle.steps.proofs.Log.{noted_none, noted_at, noted_step}
use Rattle.steps.proofs.run.Goals as goal

pub loop-k-init : goal.loop-k-init
loop-k-init c =
    let a = c.args in (
      c.start.ensures a.s.now,
      length-replicate max_cells zero,
      lens_first a.ring a.s.now (replicate max_cells zero) (line_blank max_cells zero),
      λ j h. line_blank max_cells j,
      noted_at a.first _ a.log.now a.log.now (let none : zero ≡ zero * a.ring.e = omega arith in none) (noted_none a.first _ a.log.now),
    )

pub overflow_cast-lens : goal.overflow_cast-lens
overflow_cast-lens c =
    let a = c.args in
    omega (arith, len_low a.ring a.s.now _ _ c.step.ensures.0.rows zero a.ring.fit.pos)

pub loop-k-preserved : goal.loop-k-preserved
loop-k-preserved c =
    let a = c.args in
    let l = c.loop-k in
    let test : l.k < a.n = c.loop-k-test.true in
    let most : a.n ≤ max_terms = c.requires.1 in
    let v = c.step.ensures in (
      state_at (sym (add-one l.k)) v.0,
      length-set l.lens (l.k + 1) _ ∙ l.invariant.1,
      lens_next a.ring a.s.now l.lens l.k _ l.invariant.1 (omega arith) l.invariant.2 (v.0.rows.sizes zero a.ring.fit.pos),
      λ j h. get_or-set_other l.lens (l.k + 1) j _ zero (λ e. omega arith) ∙ l.invariant.3 j (omega arith),
      noted_step (power_of a.ring) a.s.now a.n l.k a.first _ a.log.now l.log _ test refl l.invariant.4 v.1,
    )
