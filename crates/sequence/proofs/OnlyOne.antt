-- Whether a register is the only one: when each of the three is said, and that they differ.
-- Assumes nothing.
use mathlib.Core.Path.{◌≡◌, refl, ap}
use mathlib.Core.Bool.{Bool, true, false}
use Prim.Native.Nat.{ℕ, ◌*◌, ◌≤◌, ◌<◌}
use native.Mathlib.Omega.{arith}
use borrow.Author.Tests.{le-leb, lt-leb}
use Rattle.sequence.specs.declared.Uniqueness.{Uniqueness}
use Rattle.sequence.specs.declared.Uniqueness.TheVariants.{Sole, Several, NotTold}
use Rattle.sequence.specs.Answers.{uniqueness}
use Rattle.sequence.specs.Report.{uniqueness_by}

module _ (prime : Bool) (n l : ℕ) where
  pub said_sole : prime ≡ true → 2 * l ≤ n → uniqueness_by prime n l ≡ Sole
  unfolding uniqueness_by
  said_sole e h = rw (e, le-leb (2 * l) n h) refl

  pub said_several : prime ≡ true → n < 2 * l → uniqueness_by prime n l ≡ Several
  unfolding uniqueness_by
  said_several e h = rw (e, lt-leb (2 * l) n h) refl

  pub said_nothing : prime ≡ false → uniqueness_by prime n l ≡ NotTold
  unfolding uniqueness_by
  said_nothing e = rw e refl

-- two that have different values
pub said_apart : {A : Type 0} (v w : Uniqueness) → uniqueness v < uniqueness w → v ≡ w → A
said_apart v w h e = absurd (omega (arith, ap uniqueness e))
