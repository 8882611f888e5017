-- What joining one more prime power does to the cells and the lengths.
-- Assumes nothing.
use Rattle.std.specs.Prelude.{◌≡◌, List, ℕ, zero, ◌*◌, ◌%◌, ◌≤◌, ◌<◌, max, length}
use Rattle.lists.specs.Table.{at}
use Rattle.residue.specs.Congruence.{Cong}
use Rattle.residue.specs.Factors.{PrimePower, value}
use Rattle.recurrence.specs.Polynomial.{conv, len}
use Rattle.steps.specs.Sizes.{max_cells, max_terms}
use Rattle.steps.specs.Run.{first_row}

-- z is the number below q r that is x modulo q and y modulo r
pub record Joint (q r x y z : ℕ) : Type 0 where
  pub below : z < q * r
  pub left : Cong q z x
  pub right : Cong r z y

-- in every cell
pub record Glued (q r : ℕ) (xs ys zs : List ℕ) : Type 0 where
  pub long : length zs ≡ max_cells
  pub cells : (i : ℕ) → i < max_cells → Joint q r (at xs i) (at ys i) (at zs i)

-- the larger of two, in every cell
pub record Raised (xs ys zs : List ℕ) : Type 0 where
  pub long : length zs ≡ max_cells
  pub cells : (i : ℕ) → i < max_cells → at zs i ≡ max (at xs i) (at ys i)

-- a, known modulo big, is known modulo big q from row 0 at the prime power, and the lengths from its lengths
pub record Extended (f : PrimePower) (S : List ℕ) (n big : ℕ) (a lengths a' lengths' : List ℕ) : Type 0 where
  pub long_a : length a' ≡ max_cells
  pub long_lengths : length lengths' ≡ max_cells
  pub cells : (i : ℕ) → i < max_cells → Joint big (value f) (at a i) (at (first_row f S n).a i) (at a' i)
  pub sizes : (k : ℕ) → k ≤ n → at lengths' k ≡ max (at lengths k) (len (first_row f S k))
  pub others : (k : ℕ) → n < k → k < max_cells → at lengths' k ≡ at lengths k

-- b of the register with this a, of length l
pub record Starts (S a : List ℕ) (l m : ℕ) (b : List ℕ) : Type 0 where
  pub long : length b ≡ max_terms
  pub below : (i : ℕ) → i < l → at b i ≡ conv (at S) (at a) i % m
  pub above : (i : ℕ) → l ≤ i → at b i ≡ zero
