-- `steps::Seen::look` meets its contract.
-- Assumes nothing.
use mathlib.Core.Path.{◌≡◌, ap, ◌∙◌}
use Prim.Native.Nat.{ℕ, zero}
use native.Mathlib.Omega.{arith}
use lib.ListN.{length-set}
use Rattle.lists.proofs.Table.{each_next}
use Rattle.residue.specs.Valuation.{valuation, cofactor}
use Rattle.recurrence.specs.Steps.{u_at, θ-at}
use Rattle.steps.proofs.Model.{len_low, row_low, row_clear, d_code}
use Rattle.steps.proofs.Seen.look.Goals as goal

pub coefficient-d-requires : goal.coefficient-d-requires
coefficient-d-requires c =
    let a = c.args in
    let i = c.loop-i.i in
    let r = a.ring in (
      len_low r a.s.now a.k a.rows.now c.requires.2 i (omega arith),
      c.requires.1,
      r.fit.some,
      λ j h. omega (arith, row_low r a.s.now a.k a.rows.now c.requires.2 i (omega arith) j h, r.fit.small),
      c.requires.0,
      row_clear r a.s.now a.k a.rows.now c.requires.2 c.requires.1 i (omega arith),
    )

pub loop-i-preserved : goal.loop-i-preserved
loop-i-preserved c =
    let a = c.args in
    let l = c.loop-i in
    let r = a.ring in
    let same = c.coefficient-d.ensures ∙ d_code r a.s.now a.k a.rows.now c.requires.2 c.requires.1 l.i (omega arith) in (
      length-set l.self.u l.i _ ∙ l.invariant.0,
      length-set l.self.theta l.i _ ∙ l.invariant.1,
      each_next zero (λ (j : ℕ) (y : ℕ). y ≡ u_at r.p r.e a.s.now j a.k) l.self.u l.i _ l.invariant.2 (omega (arith, l.invariant.0))
          (c.weigh-w.ensures.0 ∙ ap (valuation r.e r.p) same),
      each_next zero (λ (j : ℕ) (y : ℕ). y ≡ θ-at r.p r.e a.s.now j a.k) l.self.theta l.i _ l.invariant.3 (omega (arith, l.invariant.1))
          (c.weigh-w.ensures.1 ∙ ap (cofactor r.e r.p) same),
    )
