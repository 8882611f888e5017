-- Periods with the answers to them: all of 1, 2 and 4 digits with the lengths that the steps give for two periods, longer ones, each refusal, and their order.
-- Assumes nothing.
use Rattle.std.specs.Prelude.{◌≡◌, List, [], ◌∷◌, ◌++◌, ℕ, suc, ◌+◌, ◌*◌, ◌^◌, replicate}
use Rattle.lists.specs.Table.{tabulate}
use Rattle.cells.specs.Cell.{bytes_of}
use Rattle.counting.specs.Numbering.{list_at}
use Rattle.recurrence.specs.Register.{complexity}
use Rattle.sequence.specs.Answers.{Answer, granted, refused, refused_at}
use Rattle.sequence.specs.Rules.{query_of}
use Rattle.catalogue.specs.Rules.{record_bytes}
use Rattle.period.specs.Halving.{halving}
use Rattle.period.specs.Rules.{period_length_answer}
use Rattle.codes.specs.Codes.{length_code_of}
use Rattle.guarantees.specs.Cases.{zeros}
use Rattle.guarantees.specs.Claims.{length_made}

-- the answer to some digits, lent as cells, and its code for C
abbrev pub answer_to : List ℕ → Answer
answer_to digits = period_length_answer (bytes_of digits)

abbrev pub code_to : List ℕ → ℕ
code_to digits = length_code_of (answer_to digits)

-- the lengths of all periods of 2^w digits, in dictionary order: by halving, and by the steps for two periods
unfoldable pub halved : ℕ → List ℕ
halved w = tabulate (2 ^ 2 ^ w) (λ x. halving w (list_at 2 (2 ^ w) x))

unfoldable pub stepped : ℕ → List ℕ
stepped w = tabulate (2 ^ 2 ^ w) (λ x. complexity 2 (list_at 2 (2 ^ w) x ++ list_at 2 (2 ^ w) x) (2 ^ suc w))

pub record PeriodRows : Type 0 where
  pub of_one : halved 0 ≡ 0 ∷ 1 ∷ []
  pub of_two : halved 1 ≡ 0 ∷ 2 ∷ 2 ∷ 1 ∷ []
  pub of_four : halved 2 ≡ 0 ∷ 4 ∷ 4 ∷ 3 ∷ 4 ∷ 2 ∷ 3 ∷ 4 ∷ 4 ∷ 3 ∷ 2 ∷ 4 ∷ 3 ∷ 4 ∷ 4 ∷ 1 ∷ []
  pub one_steps : stepped 0 ≡ halved 0
  pub two_steps : stepped 1 ≡ halved 1
  pub four_steps : stepped 2 ≡ halved 2
  -- one period is not enough: 0, 1, 0, 0 alone has length 2, two of it 4
  pub one_period : complexity 2 (0 ∷ 1 ∷ 0 ∷ 0 ∷ []) 4 ≡ 2
  -- answers: a period of eight digits, and the record of two of it; the largest period with its largest, its least length, and lengths between them
  pub eight : answer_to (1 ∷ 0 ∷ 0 ∷ 1 ∷ 1 ∷ 0 ∷ 1 ∷ 0 ∷ []) ≡ granted (7 ∷ [])
  pub eight_made : length_made (query_of 2 (1 ∷ 0 ∷ 0 ∷ 1 ∷ 1 ∷ 0 ∷ 1 ∷ 0 ∷ 1 ∷ 0 ∷ 0 ∷ 1 ∷ 1 ∷ 0 ∷ 1 ∷ 0 ∷ [])) (zeros record_bytes) ≡ 7
  pub one : answer_to (1 ∷ []) ≡ granted (1 ∷ [])
  pub none : answer_to (0 ∷ []) ≡ granted (0 ∷ [])
  pub last_alone : answer_to (replicate 63 0 ++ (1 ∷ [])) ≡ granted (64 ∷ [])
  pub zeros_64 : answer_to (replicate 64 0) ≡ granted (0 ∷ [])
  pub ones_64 : answer_to (replicate 64 1) ≡ granted (1 ∷ [])
  pub halves_64 : answer_to (replicate 32 1 ++ replicate 32 0) ≡ granted (33 ∷ [])
  -- for C
  pub zero_code : code_to (0 ∷ []) ≡ 0
  pub length_code : code_to (1 ∷ 0 ∷ 0 ∷ 1 ∷ 1 ∷ 0 ∷ 1 ∷ 0 ∷ []) ≡ 256 * 7
  pub period_code : code_to (0 ∷ 0 ∷ 0 ∷ []) ≡ 32
  pub digit_code_0 : code_to (2 ∷ 0 ∷ []) ≡ 3
  pub digit_code_1 : code_to (1 ∷ 2 ∷ 0 ∷ 3 ∷ []) ≡ 3 + 256 * 1
  -- each refusal
  pub refused_5 : period_length_answer (1 ∷ []) ≡ refused 5
  pub refused_32_none : answer_to [] ≡ refused 32
  pub refused_32_three : answer_to (0 ∷ 1 ∷ 1 ∷ []) ≡ refused 32
  pub refused_32_63 : answer_to (replicate 63 0) ≡ refused 32
  pub refused_32_65 : answer_to (replicate 65 0) ≡ refused 32
  pub refused_32_128 : answer_to (replicate 128 0) ≡ refused 32
  pub refused_3 : answer_to (1 ∷ 2 ∷ 0 ∷ 3 ∷ []) ≡ refused_at 3 1
  pub refused_3_last : answer_to (replicate 63 1 ++ (2 ∷ [])) ≡ refused_at 3 63
  -- a digit is both bytes of its cell
  pub refused_3_high : answer_to (1 ∷ 256 ∷ []) ≡ refused_at 3 1
  -- where two apply, the first in the order is given: the two in a row's name
  pub order_5_32 : period_length_answer (0 ∷ 0 ∷ 0 ∷ 0 ∷ 0 ∷ 0 ∷ 0 ∷ []) ≡ refused 5
  pub order_5_3 : period_length_answer (2 ∷ 0 ∷ 2 ∷ []) ≡ refused 5
  pub order_32_3 : answer_to (2 ∷ 2 ∷ 2 ∷ []) ≡ refused 32
  pub order_32_3_128 : answer_to (replicate 128 2) ≡ refused 32
