-- `steps::ring::Ring::new` meets its contract.
-- Assumes nothing.
use mathlib.Core.Path.{sym, subst}
use Prim.Native.Nat.{ℕ, zero, ◌<◌}
use Rattle.residue.proofs.Congruence.{q_pos}
use Rattle.steps.proofs.Model.{few_rows}
use Rattle.steps.proofs.ring.Ring.new.Goals as goal

pub scale-requires : goal.scale-requires
scale-requires c =
    let a = c.args in
    (subst (λ (x : ℕ). zero < x) (sym c.requires.2) (q_pos a.p a.e c.requires.0.big), c.requires.3)

pub invariant_of-result : goal.invariant_of-result
invariant_of-result c =
    let a = c.args in
    record {
      fit = record {
        prime = c.requires.0;
        pos = c.requires.1;
        few = few_rows a.p a.e a.q c.requires.0.big c.requires.2 c.requires.3;
        whole = c.requires.2;
        some = subst (λ (x : ℕ). zero < x) (sym c.requires.2) (q_pos a.p a.e c.requires.0.big);
        small = c.requires.3;
        scaled = c.scale.ensures;
      };
    }
