-- What `run` is handed and what it gives.
-- Assumes nothing.
use Rattle.std.specs.Prelude.{◌≡◌, List, ℕ, zero, ◌≤◌, ◌<◌, length}
use Rattle.lists.specs.Table.{at}
use Rattle.residue.specs.Factors.{PrimePower}
use Rattle.recurrence.specs.Polynomial.{Pair, len}
use Rattle.recurrence.specs.Steps.{row_at}
use Rattle.steps.specs.Sizes.{max_cells}

-- the first n cells are below c
abbrev pub Below : ℕ → ℕ → List ℕ → Type 0
Below n c x = (i : ℕ) → i < n → at x i < c

-- row 0 after k steps
abbrev pub first_row : PrimePower → List ℕ → ℕ → Pair
first_row f S k = row_at f.prime f.exponent S zero k

-- a of row 0 after n steps in every cell; its length after each number of steps up to n, and zeros past n
pub record Result (f : PrimePower) (S : List ℕ) (n : ℕ) (a lens : List ℕ) : Type 0 where
  pub long_a : length a ≡ max_cells
  pub long_lens : length lens ≡ max_cells
  pub cells_a : (i : ℕ) → i < max_cells → at a i ≡ at (first_row f S n).a i
  pub sizes : (k : ℕ) → k ≤ n → at lens k ≡ len (first_row f S k)
  pub others : (k : ℕ) → n < k → at lens k ≡ zero
