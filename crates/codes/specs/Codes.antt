-- An answer as one number, for C and in the replies of a batch: the refusal's number and 256 times a value.
-- Assumes nothing.
use Rattle.std.specs.Prelude.{List, [], ◌∷◌, ℕ, zero, suc, ◌+◌, ◌*◌, min}
use Rattle.sequence.specs.Answers.{Answer}

-- the last place that fits 64 bits beside a refusal's number, 2^56 - 1; one past it, in a line of more bytes, is told as that
abbrev pub last_place : ℕ
last_place = 72057594037927935

-- With a refusal the value is the place itself, up to the last that fits; without one it is what `told` makes of the value. 0 where there is none.
abbrev pub value_by : (ℕ → ℕ) → ℕ → List ℕ → ℕ
value_by told n [] = 0
value_by told zero (v ∷ vs) = told v
value_by told (suc n) (v ∷ vs) = min v last_place

abbrev pub code_by : (ℕ → ℕ) → Answer → ℕ
code_by told x = x.number + 256 * value_by told x.number x.values

-- where an answer that is not refused may have no value, which 0 says, a value v is 1 + v
abbrev pub code_of : Answer → ℕ
code_of x = code_by suc x

-- where it always has one, a length, that is told as it is
abbrev pub length_code_of : Answer → ℕ
length_code_of x = code_by (λ l. l) x

-- where it has several, counts below 256, they are the digits of one number to the base 256, the first one the lowest
abbrev pub digits : List ℕ → ℕ
digits [] = 0
digits (v ∷ vs) = v + 256 * digits vs

abbrev pub counts_code_of : Answer → ℕ
counts_code_of x = x.number + 256 * digits x.values
