-- What the entry points for the benchmark reply and write.
-- Assumes nothing.
use Rattle.std.specs.Prelude.{Bool, not, List, [], ◌∷◌, ℕ, zero, ◌+◌, ◌*◌, ltb, leb, Ok, Err}
use Rattle.lists.specs.Choice.{pick, both}
use Rattle.lists.specs.Search.{all}
use Rattle.lists.specs.Table.{at, tabulate}
use Rattle.residue.specs.Factors.{least_power}
use Rattle.recurrence.specs.Polynomial.{Pair, len}
use Rattle.recurrence.specs.Steps.{row_at}
use Rattle.steps.specs.Sizes.{max_terms, max_cells}
use Rattle.steps.specs.declared.StepRecord.{StepRecord}
use Rattle.sequence.specs.declared.Sequence.{Sequence}
use Rattle.sequence.specs.Answers.{uniqueness, Reported}
use Rattle.sequence.specs.Rules.{outside}
use Rattle.sequence.specs.Trace.{records_of}

-- ---- the steps alone

-- every one of the 128 terms is below 65,536
unfoldable pub low : List ℕ → Bool
low S = all max_terms (λ i. ltb (at S i) 65536)

-- the modulus is within the limits, there are at most 128 terms, and every term is low
unfoldable pub fits : ℕ → ℕ → List ℕ → Bool
fits m n S = both (not (outside m)) (both (leb n max_terms) (low S))

-- row 0 after k steps at the prime power of the least prime of m
abbrev pub row_of : ℕ → List ℕ → ℕ → Pair
row_of m S k = row_at (least_power m).prime (least_power m).exponent S zero k

-- its a after n steps
unfoldable pub row_cells : ℕ → List ℕ → ℕ → List ℕ
row_cells m S n = tabulate max_cells (at (row_of m S n).a)

-- its length after 0, 1, .., n steps; past n, 0
unfoldable pub row_lengths : ℕ → List ℕ → ℕ → List ℕ
row_lengths m S n = tabulate max_cells (λ k. pick (leb k n) (len (row_of m S k)) zero)

-- ---- the register

-- the sequence that is handed in
abbrev pub given : ℕ → ℕ → List ℕ → Sequence
given m n S = record { modulus = m; count = n; terms = S }

-- the length that is replied, and 2^32 times `uniqueness`; a refusal is 129, which no length is
abbrev pub replied_by : Reported → ℕ
replied_by (Ok x) = x.length + 4294967296 * uniqueness x.uniqueness
replied_by (Err r) = max_cells

-- ---- the working

-- the eight numbers of a record, added up
abbrev pub numbers_of : StepRecord → ℕ
numbers_of x = x.power + x.k + x.row + x.length + x.u + x.theta + x.g + x.case

-- the numbers of all records of a list
unfoldable pub all_numbers : List StepRecord → ℕ
all_numbers [] = zero
all_numbers (x ∷ xs) = numbers_of x + all_numbers xs

-- the sum that is replied: over the records of the sequence's sheet; of a refusal, 0
abbrev pub sum_of : Reported → Sequence → ℕ
sum_of (Ok x) s = all_numbers (records_of s)
sum_of (Err r) s = zero
