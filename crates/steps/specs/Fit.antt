-- What is true of every ring of the steps.
-- Assumes nothing.
use Rattle.std.specs.Prelude.{◌≡◌, ℕ, zero, ◌^◌, ◌≤◌, ◌<◌}
use Rattle.residue.specs.Units.{Prime}
use Rattle.residue.specs.Reduction.{scale_of}
use Rattle.steps.specs.Sizes.{max_rows}

-- q = p^e, with its scale, is small enough for 15 rows and products of 32 bits
pub record Fit (p e q scale : ℕ) : Type 0 where
  pub prime : Prime p
  pub pos : zero < e
  pub few : e ≤ max_rows
  pub whole : q ≡ p ^ e
  pub some : zero < q
  pub small : q < 65536
  pub scaled : scale ≡ scale_of q
