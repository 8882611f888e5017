-- `synthesis::join_cells` meets its contract.
-- Assumes nothing.
use mathlib.Core.Path.{sym, subst}
use Prim.Native.Nat.{ℕ, ◌<◌}
use native.Mathlib.Nat.{le_refl}
use native.Mathlib.Omega.{arith}
use Rattle.lists.specs.Table.{at}
use Rattle.synthesis.proofs.Joining.{joint_joined, joint_same, glue_next}
use Rattle.synthesis.proofs.join_cells.Goals as goal
use Rattle.synthesis.proofs.join_cells.Goals.{then-z-row, else-z-row}

pub loop-i-preserved : goal.loop-i-preserved
loop-i-preserved c =
    let a = c.args in
    let l = c.loop-i in
    let g = l.invariant in
    let low : at l.a l.i < a.big = subst (λ (y : ℕ). y < a.big) (sym (g.todo l.i (le_refl l.i))) (c.requires.5 l.i (omega arith)) in
    elim c.if-z-row.branch [
      | then-z-row w ↦ glue_next g _ _ w.a-is (omega arith) (joint_joined _ _ _ _ _ c.requires.1 low (c.requires.6 l.i (omega arith)) c.requires.4 w.join.ensures)
      | else-z-row w ↦ glue_next g _ _ w.a-is (omega arith) (joint_same _ _ _ _ low (c.requires.6 l.i (omega arith)) w.if-z-row.false)
    ]
