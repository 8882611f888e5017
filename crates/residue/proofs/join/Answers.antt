-- `residue::join` meets its contract.
-- Assumes nothing.
use Prim.Native.Nat.{◌<◌}
use native.Mathlib.Nat.{mod-lt}
use native.Mathlib.Omega.{arith}
use Rattle.residue.proofs.Remainders.{factor_right, rest_below, joiner_lt, join_lt, join_is}
use Rattle.residue.proofs.join.Goals as goal

pub sub-d-requires : goal.sub-d-requires
sub-d-requires c =
    let a = c.args in
    let low : a.q < 65536 = omega (arith, factor_right a.big a.q (omega arith)) in
    let rest = mod-lt a.z {m = a.q} (omega arith) in
    (omega arith, omega arith, omega arith)

pub mul-s-requires : goal.mul-s-requires
mul-s-requires c =
    let a = c.args in
    let low : a.q < 65536 = omega (arith, factor_right a.big a.q (omega arith)) in
    let d = rest_below c.sub-d.result _ a.q (omega arith) c.sub-d.ensures in
    let unit = joiner_lt a.big a.q a.z a.x c.requires.0 c.requires.1 c.requires.3 in
    (omega arith, omega (arith, c.requires.4), omega arith, omega arith)

pub overflow_mul-result : goal.overflow_mul-result
overflow_mul-result c =
    let a = c.args in
    let s = rest_below c.mul-s.result _ a.q (omega arith) c.mul-s.ensures in
    omega (arith, join_lt a.big a.q a.z c.mul-s.result c.requires.0 s)

pub overflow_add-result : goal.overflow_add-result
overflow_add-result c =
    let a = c.args in
    let s = rest_below c.mul-s.result _ a.q (omega arith) c.mul-s.ensures in
    omega (arith, join_lt a.big a.q a.z c.mul-s.result c.requires.0 s)

pub returns : goal.returns
returns c =
    let a = c.args in
    join_is a.big a.q a.z a.x c.requires.0 c.requires.1 c.requires.3 c.sub-d.result c.mul-s.result a.i
    c.sub-d.ensures c.mul-s.ensures c.requires.4
