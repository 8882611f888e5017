-- Running a register, and testing one against terms. A candidate is a length l with coefficients a and b.
-- Assumes nothing.
use Rattle.std.specs.Prelude.{not, List, [], ◌∷◌, ◌++◌, ℕ, zero, suc, ◌+◌, ◌*◌, ◌-◌, ◌%◌, min, eqb}
use Rattle.lists.specs.Table.{at}
use Rattle.lists.specs.Search.{first}
use Rattle.lists.specs.Sum.{sum_to}
use Rattle.residue.specs.Congruence.{neg}
use Rattle.recurrence.specs.Polynomial.{conv}

module _ (m l : ℕ) (a b : List ℕ) where
  -- cell j from the cells before it: b_j less the sum of a_i times cell j-i, i from 1 to the smaller of l and j
  unfoldable pub cell : List ℕ → ℕ → ℕ
  cell cells j = (at b j + neg m (sum_to (min l j) (λ i. at a (suc i) * at cells (j - suc i)))) % m

  -- the first c cells
  unfoldable pub generated : ℕ → List ℕ
  generated zero = []
  generated (suc c) = let cells = generated c in cells ++ (cell cells c ∷ [])

-- the first of n places where the product S × a and b differ modulo m; n where they agree
unfoldable pub first_difference : ℕ → List ℕ → List ℕ → List ℕ → ℕ → ℕ
first_difference m S a b n = first n (λ j. not (eqb (conv (at S) (at a) j % m) (at b j)))
