-- 6, 3, 1, 5, 6 modulo 9 are fit for the steps.
-- Assumes nothing.
use mathlib.Core.Path.{◌≡◌, refl, sym, ap, ◌∙◌}
use mathlib.Core.List.{List, ◌∷◌}
use Prim.Native.Nat.{ℕ, zero, suc, ◌%◌, ◌<◌}
use native.Mathlib.Omega.{arith}
use lib.ListN.{replicate}
use Rattle.lists.specs.Table.{at}
use Rattle.residue.specs.Units.{Prime}
use Rattle.steps.proofs.Passes.{line_blank}

pub three : Prime 3
three =
    record {
      big = omega arith;
      bare = λ d a b z.
          let two : d ≡ 2 = omega arith in
          let one : ◌≡◌ {A = ℕ} 1 zero = sym (ap (λ (x : ℕ). 3 % x) two) ∙ z in
          omega arith;
    }

-- the terms, in 128 cells
abbrev terms : List ℕ
terms = 6 ∷ 3 ∷ 1 ∷ 5 ∷ 6 ∷ replicate 123 zero

pub low : (i : ℕ) → at terms i < 65536
low zero = omega arith
low (suc zero) = omega arith
low (suc (suc zero)) = omega arith
low (suc (suc (suc zero))) = omega arith
low (suc (suc (suc (suc zero)))) = omega arith
low (suc (suc (suc (suc (suc i))))) = omega (arith, line_blank 123 i)
