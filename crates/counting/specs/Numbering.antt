-- Lists of n numbers below m, counted from 0 in dictionary order.
-- Assumes nothing.
use Rattle.std.specs.Prelude.{◌≡◌, Bool, List, [], ◌∷◌, ◌++◌, ℕ, zero, suc, ◌/◌, ◌%◌, ◌^◌, ◌<◌, length}
use Rattle.lists.specs.Choice.{pick}
use Rattle.lists.specs.Table.{at}
use Rattle.lists.specs.Sum.{sum_to}

-- the list with number x: the last n digits of x to the base m, the highest first
unfoldable pub list_at : ℕ → ℕ → ℕ → List ℕ
list_at m zero x = []
list_at m (suc n) x = list_at m n (x / m) ++ (x % m ∷ [])

-- a list of n numbers below m
pub record ListOf (m n : ℕ) (ts : List ℕ) : Type 0 where
  pub size : length ts ≡ n
  pub below : (i : ℕ) → i < n → at ts i < m

-- of two lists of the same length the first comes before the other in the dictionary: where they first differ it has the smaller number
pub record Before (ts us : List ℕ) : Type 0 where
  pub place : ℕ
  pub same : (i : ℕ) → i < place → at ts i ≡ at us i
  pub less : at ts place < at us place

-- x is the one number of the list among those below m^n
pub record NumberOf (m n : ℕ) (ts : List ℕ) (x : ℕ) : Type 0 where
  pub below : x < m ^ n
  pub is : list_at m n x ≡ ts
  pub only : (y : ℕ) → y < m ^ n → list_at m n y ≡ ts → y ≡ x

-- how many numbers below n pass the test
unfoldable pub count_below : ℕ → (ℕ → Bool) → ℕ
count_below n test = sum_to n (λ x. pick (test x) 1 0)
