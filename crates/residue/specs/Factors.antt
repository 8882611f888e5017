-- The least divisor, the test for a prime, and the prime powers of a number.
-- Assumes nothing.
use Rattle.std.specs.Prelude.{Bool, true, false, List, [], ◌∷◌, ℕ, zero, suc, ◌/◌, ◌%◌, ◌^◌, leb, eqb}
use Rattle.lists.specs.Choice.{both}
use Rattle.lists.specs.Search.{first}
use Rattle.residue.specs.Valuation.{valuation}

-- the least divisor of n from 2 up, which is its least prime; 0 and 1 stand for themselves
unfoldable pub least_divisor : ℕ → ℕ
least_divisor n = first n (λ d. both (leb 2 d) (eqb (n % d) zero))

-- n is prime: from 2 up, the number that is its own least divisor
abbrev pub is_prime : ℕ → Bool
is_prime n = both (leb 2 n) (eqb (least_divisor n) n)

-- the numbers whose least divisors are at hand stop before this one
abbrev pub divisors_end : ℕ
divisors_end = 4096

pub record PrimePower : Type 0 where
  pub prime : ℕ
  pub exponent : ℕ

-- the number p^e itself
abbrev pub value : PrimePower → ℕ
value f = f.prime ^ f.exponent

-- the least prime of m with its exponent in m
unfoldable pub least_power : ℕ → PrimePower
least_power m = let p = least_divisor m in record { prime = p; exponent = valuation m p m }

-- the prime powers of m, the least prime first, at most f of them
unfoldable pub powers_up_to : ℕ → ℕ → List PrimePower
powers_up_to zero m = []
powers_up_to (suc f) m = elim (leb m 1) [ true ↦ [] | false ↦ least_power m ∷ powers_up_to f (m / value (least_power m)) ]

-- the prime powers of m, primes rising; m has fewer than m of them
unfoldable pub prime_powers : ℕ → List PrimePower
prime_powers m = powers_up_to m m
