-- What the functions inside keep of a reading: the number of terms, and the first 128 of them.
-- Assumes nothing.
use Rattle.std.specs.Prelude.{◌≡◌, List, ℕ, ◌+◌, ℤ, pos, length, set, get_or, Result, Ok, Err}
use Rattle.lists.specs.Choice.{pick}
use Rattle.lists.specs.Table.{tabulate}
use Rattle.sequence.specs.Limits.{max_terms}
use Rattle.sequence.specs.declared.Refusal.{Refusal}
use Rattle.sequence.specs.declared.Refusal.TheVariants as R
use Rattle.lines.specs.declared.Cursor.{Cursor}
use Rattle.lines.specs.Form.{signed}
use Rattle.lines.specs.Reading.{in_term, Found, broken, past, read}

-- what is found, with the number of terms for the terms: the refusal, or the modulus and that number
abbrev pub scanned_of : Found → Result (ℕ × ℕ) Refusal
scanned_of (broken i) = Err (R.LineForm i)
scanned_of (past i) = Err (R.LineRange i)
scanned_of (read m ts) = Ok (m, length ts)

-- the first 128 terms, zero past the last
abbrev pub first_terms : List ℤ → List ℤ
first_terms ts = tabulate max_terms (λ j. get_or ts j (pos 0))

-- an array that holds those of what is found, where terms are
abbrev pub Kept : Found → List ℤ → Type 0
Kept f xs = (m : ℕ) (ts : List ℤ) → f ≡ read m ts → xs ≡ first_terms ts

-- their number and an array of them, after a term that ends at the cursor
abbrev pub count_ended : Cursor → ℕ → ℕ
count_ended c n = pick (in_term c.state) (n + 1) n

abbrev pub array_ended : Cursor → ℕ → List ℤ → List ℤ
array_ended c n xs = pick (in_term c.state) (set xs n (signed c.minus c.size)) xs
