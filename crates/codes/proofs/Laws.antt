-- Laws of answers as one number.
-- Assumes nothing.
use mathlib.Core.Path.{◌≡◌, refl, sym, ap, ap₂, ◌∙◌}
use mathlib.Core.List.{List, [], ◌∷◌}
use Prim.Native.Nat.{ℕ, zero, suc, ◌+◌, ◌*◌, ◌%◌, ◌<◌, min}
use native.Mathlib.Omega.{arith}
use Rattle.std.specs.Prelude.{Option, Some, None}
use Rattle.sequence.specs.declared.Refusal.{Refusal}
use Rattle.sequence.specs.declared.Refusal.TheVariants as R
use Rattle.sequence.specs.Answers.{granted, refusal, placed}
use Rattle.codes.specs.Codes.{last_place, value_by, code_of, length_code_of, digits, counts_code_of}

-- a value without a refusal
pub valued : (v : ℕ) → 256 * (1 + v) ≡ code_of (granted (v ∷ []))
valued v = omega arith

-- a length
pub length_valued : (l : ℕ) → 256 * l ≡ length_code_of (granted (l ∷ []))
length_valued l = omega arith

-- with a refusal, whose number is not 0, the value is the place, however a value without one is told
told_same : (told told' : ℕ → ℕ) (r : Refusal) (vs : List ℕ) → value_by told (refusal r).number vs ≡ value_by told' (refusal r).number vs
told_same told told' r [] = refl
told_same told told' R.Modulus (v ∷ vs) = refl
told_same told told' R.Count (v ∷ vs) = refl
told_same told told' (R.Term i) (v ∷ vs) = refl
told_same told told' R.Padding (v ∷ vs) = refl
told_same told told' R.Buffer (v ∷ vs) = refl
told_same told told' R.CandidateCoefficient (v ∷ vs) = refl
told_same told told' R.Sequence (v ∷ vs) = refl
told_same told told' R.Full (v ∷ vs) = refl
told_same told told' R.Catalogue (v ∷ vs) = refl
told_same told told' R.Record (v ∷ vs) = refl
told_same told told' R.CandidateLength (v ∷ vs) = refl
told_same told told' R.CandidateLead (v ∷ vs) = refl
told_same told told' (R.LineForm i) (v ∷ vs) = refl
told_same told told' (R.LineRange i) (v ∷ vs) = refl
told_same told told' R.CountsDiffer (v ∷ vs) = refl
told_same told told' R.MultipleAbove (v ∷ vs) = refl
told_same told told' (R.TermsDisagree i) (v ∷ vs) = refl
told_same told told' R.Period (v ∷ vs) = refl
told_same told told' R.Census (v ∷ vs) = refl
told_same told told' R.Batch (v ∷ vs) = refl

at_place : (r : Refusal) (i : ℕ) → value_by suc (refusal r).number (i ∷ []) ≡ min i last_place
at_place r i = told_same suc (λ v. min v last_place) r (i ∷ []) ∙ go (refusal r).number
  where
    go : (n : ℕ) → value_by (λ v. min v last_place) n (i ∷ []) ≡ min i last_place
    go zero = refl
    go (suc n) = refl

-- so a refusal is the same number for C from every call
pub length_refused : (r : Refusal) → length_code_of (refusal r) ≡ code_of (refusal r)
length_refused r = ap (λ (v : ℕ). (refusal r).number + 256 * v) (told_same (λ l. l) suc r (refusal r).values)

pub placed_code : (r : Refusal) {n i t : ℕ} {p : (Option ℕ)} → n ≡ (refusal r).number → placed p ≡ (refusal r).values → p ≡ Some i → t ≡ min i last_place → n + 256 * t ≡ code_of (refusal r)
placed_code r {n} {i} e h k l =
    ap₂ (λ (x y : ℕ). x + 256 * y) e (l ∙ sym (at_place r i) ∙ ap (value_by suc (refusal r).number) (ap placed (sym k) ∙ h))

-- and one without a place is its number
pub plain_code : (r : Refusal) {n : ℕ} {p : (Option ℕ)} → n ≡ (refusal r).number → placed p ≡ (refusal r).values → p ≡ None → n ≡ code_of (refusal r)
plain_code r {n} e h k =
    (let z : n ≡ n + 256 * 0 = omega arith in z)
    ∙ ap₂ (λ (x : ℕ) (vs : List ℕ). x + 256 * value_by suc x vs) e (ap placed (sym k) ∙ h)

-- the number of a refusal is neither 0 nor above a byte
number_small : (r : Refusal) → (0 < (refusal r).number) × ((refusal r).number < 256)
number_small R.Modulus = (omega arith, omega arith)
number_small R.Count = (omega arith, omega arith)
number_small (R.Term i) = (omega arith, omega arith)
number_small R.Padding = (omega arith, omega arith)
number_small R.Buffer = (omega arith, omega arith)
number_small R.CandidateCoefficient = (omega arith, omega arith)
number_small R.Sequence = (omega arith, omega arith)
number_small R.Full = (omega arith, omega arith)
number_small R.Catalogue = (omega arith, omega arith)
number_small R.Record = (omega arith, omega arith)
number_small R.CandidateLength = (omega arith, omega arith)
number_small R.CandidateLead = (omega arith, omega arith)
number_small (R.LineForm i) = (omega arith, omega arith)
number_small (R.LineRange i) = (omega arith, omega arith)
number_small R.CountsDiffer = (omega arith, omega arith)
number_small R.MultipleAbove = (omega arith, omega arith)
number_small (R.TermsDisagree i) = (omega arith, omega arith)
number_small R.Period = (omega arith, omega arith)
number_small R.Census = (omega arith, omega arith)
number_small R.Batch = (omega arith, omega arith)

-- so a refusal is told from an answer that is not refused by the lowest byte
code_number : (r : Refusal) → code_of (refusal r) % 256 ≡ (refusal r).number
code_number r = omega (arith, (number_small r).1)

pub code_refused : (r : Refusal) → code_of (refusal r) % 256 ≡ 0 → ⊥
code_refused r h = omega (arith, code_number r, (number_small r).0)

-- three counts, and a refusal without a place where counts are told
pub counts_valued : (x y z : ℕ) → 256 * x + 65536 * y + 16777216 * z ≡ counts_code_of (granted (x ∷ y ∷ z ∷ []))
counts_valued x y z = omega arith

pub counts_refused : (r : Refusal) → (refusal r).values ≡ [] → code_of (refusal r) ≡ counts_code_of (refusal r)
counts_refused r h =
    ap (λ (vs : List ℕ). (refusal r).number + 256 * value_by suc (refusal r).number vs) h ∙ ap (λ (vs : List ℕ). (refusal r).number + 256 * digits vs) (sym h)
