-- One step of the split of a number into its prime powers.
-- Assumes nothing.
use Rattle.std.specs.Prelude.{◌≡◌, ℕ, ◌/◌, ◌≤◌, ◌<◌, Option, MatchOption}
use Rattle.residue.specs.Factors.{least_power, value}
use Rattle.residue.specs.declared.Factor.{Factor}

-- f is the power of the least prime of m, and what is left of m
pub record IsSplit (m : ℕ) (f : Factor) : Type 0 where
  pub big : 1 < m
  pub prime : f.prime ≡ (least_power m).prime
  pub exponent : f.exponent ≡ (least_power m).exponent
  pub power : f.value ≡ value (least_power m)
  pub rest : f.rest ≡ m / value (least_power m)

-- nothing is left but 1, or one factor comes and its rest is left
abbrev pub SplitsOff : ℕ → Option Factor → ℕ → Type 0
SplitsOff m r rest = MatchOption r (m ≤ 1) (λ f. IsSplit m f × (rest ≡ f.rest))
