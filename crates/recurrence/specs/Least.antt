-- The least length of a linear recurrence for the first k terms, in the words of the scope.
-- Assumes nothing.
use Rattle.std.specs.Prelude.{◌≡◌, List, ℕ, suc, ◌*◌, ◌-◌, ◌≤◌, ◌<◌, length}
use Rattle.lists.specs.Table.{at}
use Rattle.lists.specs.Sum.{sum_to}
use Rattle.residue.specs.Congruence.{Cong}

-- the sum of c_i times S_(j-i), i from 1 to l, for the list c_1, .., c_l
abbrev pub combination : List ℕ → (ℕ → ℕ) → ℕ → ℕ
combination cs S j = sum_to (length cs) (λ i. at cs i * S (j - suc i))

-- the coefficients give the first k terms: for every j from l to k-1, S_j is modulo m that sum
abbrev pub Gives : ℕ → (ℕ → ℕ) → ℕ → List ℕ → Type 0
Gives m S k cs = (j : ℕ) → length cs ≤ j → j < k → Cong m (S j) (combination cs S j)

-- l is the least length: some l coefficients below m give the first k terms, and no fewer numbers do
pub record Least (m : ℕ) (S : ℕ → ℕ) (k l : ℕ) : Type 0 where
  pub some : List ℕ
  pub many : length some ≡ l
  pub small : (i : ℕ) → i < l → at some i < m
  pub gives : Gives m S k some
  pub least : (cs : List ℕ) → Gives m S k cs → l ≤ length cs
