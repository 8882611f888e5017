-- Laws of numerals: the fewest digits that hold a number are its numeral.
-- Assumes nothing.
use mathlib.Core.Path.{◌≡◌, ap}
use mathlib.Core.Bool.{false}
use Prim.Native.Nat.{ℕ, zero, suc, ◌-◌, ◌^◌, ◌≤◌, ◌<◌}
use native.Mathlib.Nat.{pow-le-pow_right}
use native.Mathlib.Omega.{arith}
use lib.Dec.{ltb}
use borrow.Author.Tests.{lt-ltb, le-ltb}
use Rattle.io.specs.Digits.{last_digits, IsDigitCount}
use Rattle.lists.proofs.Search.{is_first}
use Rattle.residue.proofs.Factors.{below_power}
use Rattle.formatting.specs.Text.{numeral}

pub fewest : (n k : ℕ) → IsDigitCount 10 1 n k → last_digits 10 k n ≡ numeral n
unfolding numeral
fewest n zero f = absurd (omega (arith, f.0))
fewest n (suc j) f = ap (λ (i : ℕ). last_digits 10 (suc i) n) (is_first n (λ i. ltb n (10 ^ suc i)) j (most j f) before (λ h. lt-ltb n (10 ^ suc j) f.1))
  where
    most : (j : ℕ) → IsDigitCount 10 1 n (suc j) → j ≤ n
    most zero f = omega arith
    most (suc j) f =
        let e : suc (suc j) - 1 ≡ suc j = omega arith in
        omega (arith, f.2 (omega arith), ap (λ (x : ℕ). 10 ^ x) e, below_power 10 (suc j) (omega arith))

    before : (i : ℕ) → i < j → ltb n (10 ^ suc i) ≡ false
    before i h =
        let e : suc j - 1 ≡ j = omega arith in
        le-ltb n (10 ^ suc i) (omega (arith, f.2 (omega arith), ap (λ (x : ℕ). 10 ^ x) e, pow-le-pow_right {n = 10} (omega arith) h))
