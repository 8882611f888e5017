-- The register modulo m: the steps at each prime power of m, joined by Chinese remainders (Reeds and Sloane, section 3).
-- Assumes nothing.
use Rattle.std.specs.Prelude.{List, map, ℕ, zero, suc}
use Rattle.lists.specs.Table.{at, tabulate, largest}
use Rattle.residue.specs.Factors.{PrimePower, value, prime_powers}
use Rattle.residue.specs.Remainders.{joined}
use Rattle.recurrence.specs.Polynomial.{Pair, len}
use Rattle.recurrence.specs.Steps.{row_at}

-- a register: a = a_0, .., a_l, b = b_0, .., b_(l-1), and its length l
pub record Register : Type 0 where
  pub length : ℕ
  pub a : List ℕ
  pub b : List ℕ

abbrev pub pair_of : Register → Pair
pair_of x = record { a = x.a; b = x.b }

-- a pair with the modulus that it is for
pub record Part : Type 0 where
  pub modulus : ℕ
  pub pair : Pair

-- ---- the register modulo m with these parts

-- its length: the largest of theirs
abbrev pub length_from : List Part → ℕ
length_from parts = largest (map (λ t. len t.pair) parts)

-- the one number modulo m that has the right remainder at each part
abbrev pub coefficient_from : ℕ → List Part → (Pair → List ℕ) → ℕ → ℕ
coefficient_from m parts side i = joined m (map (λ t. record { modulus = t.modulus; rest = at (side t.pair) i }) parts)

abbrev pub register_from : ℕ → List Part → Register
register_from m parts =
    record {
      length = length_from parts;
      a = tabulate (suc (length_from parts)) (coefficient_from m parts (λ w. w.a));
      b = tabulate (length_from parts) (coefficient_from m parts (λ w. w.b));
    }

module _ (m : ℕ) (S : List ℕ) (n : ℕ) where
  -- row 0 after n steps at a prime power
  unfoldable pub part : PrimePower → Part
  part f = record { modulus = value f; pair = row_at f.prime f.exponent S zero n }

  unfoldable pub parts : List Part
  parts = map part (prime_powers m)

  -- the linear complexity of the first n terms
  unfoldable pub complexity : ℕ
  complexity = length_from parts

  unfoldable pub register : Register
  register = register_from m parts
