-- `residue::meet` meets its contract.
-- Assumes nothing.
use mathlib.Core.Path.{ap, ◌∙◌}
use Prim.Native.Nat.{ℕ, ◌+◌, ◌*◌, ◌%◌}
use native.Mathlib.Omega.{arith}
use Rattle.residue.proofs.Common.{factors_pos, quotients_small, met_joined, met_lt, met_parts}
use Rattle.residue.proofs.meet.Goals as goal

pub nonzero_div-x : goal.nonzero_div-x
nonzero_div-x c =
    let a = c.args in
    omega (arith, (factors_pos a.mu a.nu a.g a.x a.y c.requires.0 c.requires.1).2)

pub nonzero_div-y : goal.nonzero_div-y
nonzero_div-y c =
    let a = c.args in
    omega (arith, (factors_pos a.mu a.nu a.g a.x a.y c.requires.0 c.requires.1).2)

pub join-z-requires : goal.join-z-requires
join-z-requires c =
    let a = c.args in
    let p = factors_pos a.mu a.nu a.g a.x a.y c.requires.0 c.requires.1 in
    let q = quotients_small a.mu a.nu a.g p.0 p.1 p.2 c.requires.4 a.x a.y c.requires.0 c.requires.1 in
    (q.0, q.1, met_parts a.mu a.nu a.g p.2 c.requires.3, c.requires.4, c.requires.5)

pub overflow_mul-result : goal.overflow_mul-result
overflow_mul-result c =
    let a = c.args in
    let p = factors_pos a.mu a.nu a.g a.x a.y c.requires.0 c.requires.1 in
    omega (
      arith,
      ap (λ (w : ℕ). w * a.g) c.join-z.ensures,
      met_lt a.mu a.nu a.g p.0 p.1 p.2 c.requires.4 a.x a.y c.requires.0 c.requires.1,
      c.requires.3,
    )

pub nonzero_rem-result : goal.nonzero_rem-result
nonzero_rem-result c =
    let a = c.args in
    omega (arith, (factors_pos a.mu a.nu a.g a.x a.y c.requires.0 c.requires.1).2)

pub overflow_add-result : goal.overflow_add-result
overflow_add-result c =
    let a = c.args in
    let p = factors_pos a.mu a.nu a.g a.x a.y c.requires.0 c.requires.1 in
    omega (
      arith,
      ap (λ (w : ℕ). w * a.g) c.join-z.ensures,
      met_lt a.mu a.nu a.g p.0 p.1 p.2 c.requires.4 a.x a.y c.requires.0 c.requires.1,
      c.requires.3,
    )

pub returns : goal.returns
returns c =
    let a = c.args in
    let p = factors_pos a.mu a.nu a.g a.x a.y c.requires.0 c.requires.1 in
    ap (λ (w : ℕ). w * a.g + a.x % a.g) c.join-z.ensures
    ∙ met_joined a.mu a.nu a.g p.0 p.1 p.2 c.requires.4 a.x a.y c.requires.0 c.requires.1 c.requires.2
