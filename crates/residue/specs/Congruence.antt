-- Numbers modulo q.
-- Assumes nothing.
use Rattle.std.specs.Prelude.{◌≡◌, ℕ, ◌-◌, ◌%◌}

-- x and y are congruent modulo q: they leave the same remainder
pub record Cong (q x y : ℕ) : Type 0 where
  pub same : x % q ≡ y % q

-- a number that is minus c modulo q
unfoldable pub neg : ℕ → ℕ → ℕ
neg q c = q - c % q
