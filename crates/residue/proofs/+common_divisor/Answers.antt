-- `residue::common_divisor` meets its contract.
-- Assumes nothing.
use mathlib.Core.Path.{◌∙◌}
use native.Mathlib.Nat.{mod-lt}
use native.Mathlib.Omega.{arith}
use Rattle.residue.proofs.Common.{euclid_end, euclid_step}
use Rattle.residue.proofs.+common_divisor.Goals as goal

pub returns-then-r-eq0 : goal.returns-then-r-eq0
returns-then-r-eq0 t c = euclid_end c.args.a c.args.b c.requires c.if-r-eq0.true

pub common_divisor-requires : goal.common_divisor-requires
common_divisor-requires t c =
    let a = c.args in
    (omega (arith, c.requires, mod-lt a.b {m = a.a} c.requires), omega arith)

pub returns : goal.returns
returns t c = c.common_divisor.ensures ∙ euclid_step c.args.a c.args.b c.requires (omega arith)
