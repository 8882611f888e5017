-- What is replied to one period of a binary sequence that is lent as cells.
-- Assumes nothing.
use Rattle.std.specs.Prelude.{not, List, [], ◌∷◌, ℕ, zero, ◌/◌, ◌%◌, ◌^◌, eqb, ltb, length, Ok, Err, Result}
use Rattle.lists.specs.Choice.{pick}
use Rattle.lists.specs.Search.{first}
use Rattle.cells.specs.Cell.{cells_from}
use Rattle.sequence.specs.declared.Refusal.{Refusal}
use Rattle.sequence.specs.declared.Refusal.TheVariants as R
use Rattle.sequence.specs.Answers.{Answer, granted, refused, refused_at, refusal, first_of}
use Rattle.sequence.specs.Rules.{first_large}
use Rattle.period.specs.Halving.{halving}

-- the periods are 1, 2, 4, .., 64: 2^w for w below 7
abbrev pub periods : ℕ
periods = 7

abbrev pub max_period : ℕ
max_period = 64

-- w where n is 2^w, one of the seven; 7 where it is none of them
unfoldable pub exponent : ℕ → ℕ
exponent n = first periods (λ w. eqb n (2 ^ w))

-- the digits of the period: all cells that are lent
abbrev pub digits_in : List ℕ → List ℕ
digits_in cells = cells_from cells 0 (length cells / 2)

-- what the call answers: the length
abbrev pub Measured : Type 0
Measured = Result ℕ Refusal

-- of a period of n digits: 3 with the first place of a digit above 1, else the length
abbrev pub measured : List ℕ → ℕ → Measured
measured digits n =
    pick (ltb (first_large 2 digits n) n) (Err (R.Term (first_large 2 digits n))) (Ok (halving (exponent n) digits))

-- 5 for an odd number of bytes and 32 where the period is none of the seven come before it
unfoldable pub period_length_of : List ℕ → Measured
period_length_of cells =
    let n = length cells / 2 in
    pick (eqb (length cells % 2) zero) (pick (ltb (exponent n) periods) (measured (digits_in cells) n) (Err R.Period)) (Err R.Buffer)

-- the same by number
abbrev pub measured_answer : Measured → Answer
measured_answer (Ok l) = granted (l ∷ [])
measured_answer (Err r) = refusal r

unfoldable pub period_length_answer : List ℕ → Answer
period_length_answer cells =
    let n = length cells / 2 in
    let i = first_large 2 (digits_in cells) n in
    first_of
    ((not (eqb (length cells % 2) zero), refused 5)
    ∷ (not (ltb (exponent n) periods), refused 32)
    ∷ (ltb i n, refused_at 3 i)
    ∷ [])
    (granted (halving (exponent n) (digits_in cells) ∷ []))
