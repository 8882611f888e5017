-- A typed term as a signed number of 32 bits, cursors by their fields, and the rows of the automaton's table.
-- Assumes nothing.
use mathlib.Core.Path.{◌≡◌, refl, sym, ap, ◌∙◌, subst}
use mathlib.Core.Bool.{Bool, true, false}
use Prim.Native.Nat.{ℕ, zero, suc, ◌+◌, ◌^◌, ◌≤◌, ◌<◌}
use native.Mathlib.Omega.{arith}
use lib.IntN.{ℤ, pos, negsuc, neg_ℤ, ◌-ℤ◌, +ℤ_idl}
use mir.Syntax.{w32}
use mir.Val.{SFits, to_z, of_z}
use mir.Facts.{to_z-of_z, to_z_pos}
use Rattle.lines.specs.declared.State.{State}
use Rattle.lines.specs.declared.Cursor.{Cursor}
use Rattle.lines.specs.Form.{signed, limit}
use Rattle.lines.specs.Reading.{state_after}

pub limit_most : (s : Bool) → limit s ≤ limit true
limit_most true = omega arith
limit_most false = omega arith

pub pos_is : (n : ℕ) → n < 2 ^ 31 → to_z w32 n ≡ pos n
pos_is n h = to_z_pos w32 h

minus_one_less : (n : ℕ) → negsuc 0 -ℤ pos n ≡ negsuc n
minus_one_less zero = refl
minus_one_less (suc n) =
    let e : 0 + n ≡ n = omega arith in
    ap (λ (k : ℕ). negsuc (suc k)) e

neg_fits : (n : ℕ) → n < 2 ^ 31 → SFits w32 (neg_ℤ (pos n))
neg_fits zero h = record { sfits = omega arith }
neg_fits (suc n) h = record { sfits = omega arith }

-- 0 and -1 less n, as the machine finds them, fit. (0 is what an edit that must fail asks for, so that it fails at the value.)
pub from_zero : (n : ℕ) → n < 2 ^ 31 → SFits w32 (pos 0 -ℤ to_z w32 n)
from_zero n h = subst (SFits w32) (sym (ap (λ (z : ℤ). pos 0 -ℤ z) (pos_is n h) ∙ +ℤ_idl (neg_ℤ (pos n)))) (neg_fits n h)

pub from_minus_one : (n : ℕ) → n < 2 ^ 31 → SFits w32 (negsuc 0 -ℤ to_z w32 n)
from_minus_one n h = subst (SFits w32) (sym (ap (λ (z : ℤ). negsuc 0 -ℤ z) (pos_is n h) ∙ minus_one_less n)) (record { sfits = h })

-- -1 less n is -(n + 1)
pub less_is : (n : ℕ) → n < 2 ^ 31 → to_z w32 (of_z w32 (negsuc 0 -ℤ to_z w32 n)) ≡ negsuc n
less_is n h = to_z-of_z (from_minus_one n h) ∙ ap (λ (z : ℤ). negsuc 0 -ℤ z) (pos_is n h) ∙ minus_one_less n

pub pos_fits : (n : ℕ) → n < 2 ^ 31 → SFits w32 (pos n)
pos_fits n h = record { sfits = omega arith }

-- a term within its limit fits 32 bits
pub signed_fits : (s : Bool) (n : ℕ) → n ≤ limit s → SFits w32 (signed s n)
signed_fits false n h = record { sfits = omega arith }
signed_fits true zero h = record { sfits = omega arith }
signed_fits true (suc n) h = record { sfits = omega arith }

-- and is read back from its bits
pub signed_back : (s : Bool) (n : ℕ) → n ≤ limit s → {z : ℤ} → z ≡ signed s n → to_z w32 (of_z w32 z) ≡ signed s n
signed_back s n h e = ap (λ (z : ℤ). to_z w32 (of_z w32 z)) e ∙ to_z-of_z (signed_fits s n h)

-- cursors are equal by their fields
pub same_cursor : {p p' : State} {s s' : Bool} {v v' m m' : ℕ} → p ≡ p' → s ≡ s' → v ≡ v' → m ≡ m'
    → ◌≡◌ {A = Cursor} (record { state = p; minus = s; size = v; modulus = m }) (record { state = p'; minus = s'; size = v'; modulus = m' })
same_cursor a b c d = λ i. record { state = a i; minus = b i; size = c i; modulus = d i }

-- the state after a byte in the row of q is that in the row of p, where p is q
pub in_row : {p q r : State} (b : ℕ) → p ≡ q → r ≡ state_after q b → r ≡ state_after p b
in_row b e h = h ∙ sym (ap (λ (p : State). state_after p b) e)
