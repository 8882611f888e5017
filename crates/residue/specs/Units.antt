-- Units modulo q and their inverses.
-- Assumes nothing.
use Rattle.std.specs.Prelude.{◌≡◌, ◌≢◌, ℕ, zero, ◌+◌, ◌*◌, ◌%◌, ◌≤◌, ◌<◌, eqb}
use Rattle.lists.specs.Search.{first}

-- no number but 1 divides both
abbrev pub Coprime : ℕ → ℕ → Type 0
Coprime x q = (d : ℕ) → x % d ≡ zero → q % d ≡ zero → d ≡ 1

-- p is above 1 and no number between 1 and p divides it
pub record Prime (p : ℕ) : Type 0 where
  pub big : 1 < p
  pub bare : (d : ℕ) → 1 < d → d < p → p % d ≢ zero

-- the inverse of x modulo q: the first y below q with x y congruent to 1; q where there is none
unfoldable pub inverse : ℕ → ℕ → ℕ
inverse q x = first q (λ y. eqb (x * y % q) (1 % q))

-- What Euclid's division finds for coprime a and m: a x + m y = 1 + a m, so that x inverts a modulo m and y inverts m modulo a.
pub record Bezout (a m x y : ℕ) : Type 0 where
  pub whole : a * x + m * y ≡ 1 + a * m
  pub x_most : x ≤ m
  pub y_most : y ≤ a
