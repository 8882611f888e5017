-- `residue::joiner` meets its contract: the inverse hangs on the remainder alone, and modulo 1 it is 0.
-- Assumes nothing.
use mathlib.Core.Path.{◌∙◌}
use native.Mathlib.Nat.{mod-lt}
use native.Mathlib.Omega.{arith}
use Rattle.residue.specs.Units.{Coprime}
use Rattle.residue.proofs.Units.{smaller_pos, smaller_coprime, coprime_invertible, inverse_mod, inverse_lt}
use Rattle.residue.proofs.Remainders.{factor_right}
use Rattle.residue.proofs.joiner.Goals as goal

pub inverse-requires : goal.inverse-requires
inverse-requires c =
    let a = c.args in
    let co : Coprime a.q a.big = λ d x y. c.requires.3 d y x in (
      smaller_pos a.q a.big (omega arith) co,
      mod-lt a.big (omega arith),
      omega (arith, factor_right a.big a.q c.requires.0),
      smaller_coprime a.q a.big co,
    )

pub returns-then-q-le1 : goal.returns-then-q-le1
returns-then-q-le1 c =
    let a = c.args in
    omega (arith, inverse_lt a.q a.big c.requires.1 (coprime_invertible a.big a.q c.requires.0 c.requires.1 c.requires.3))

pub returns : goal.returns
returns c =
    let a = c.args in
    c.inverse.ensures ∙ inverse_mod a.q a.big (omega arith) (coprime_invertible a.big a.q c.requires.0 (omega arith) c.requires.3)
