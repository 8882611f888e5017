-- The claims about one period of a binary sequence: when each refusal is given, and that the length told is the desk's for two whole periods and for any
-- more terms.
-- Assumes nothing.
use Rattle.std.specs.Prelude.{◌≡◌, List, ℕ, zero, ◌*◌, ◌%◌, ◌^◌, ◌≤◌, ◌<◌, length, replicate, Ok, Err}
use Rattle.lists.specs.Table.{at}
use Rattle.cells.specs.Cell.{cell_at, cells_from}
use Rattle.recurrence.specs.Least.{Least}
use Rattle.sequence.specs.declared.Refusal.{Refusal}
use Rattle.sequence.specs.declared.Refusal.TheVariants as R
use Rattle.sequence.specs.declared.Uniqueness.TheVariants.{Sole}
use Rattle.sequence.specs.Limits.{max_terms, a_bytes, b_bytes, profile_bytes}
use Rattle.sequence.specs.Answers.{refusal, of_length}
use Rattle.sequence.specs.Rules.{open_of, check_of, query_of}
use Rattle.sequence.specs.Report.{report_of}
use Rattle.catalogue.specs.Rules.{record_bytes}
use Rattle.period.specs.Halving.{halving}
use Rattle.period.specs.Rules.{measured_answer, period_length_of, period_length_answer, Measured}
use Rattle.codes.specs.Codes.{code_of, length_code_of}
use Rattle.guarantees.specs.Calls.{Call, push_all, after_all, taken}
use Rattle.guarantees.specs.Claims.{terms_of, profile_cell, length_made}

-- ---- when each refusal is given

-- n cells are lent, and n is one of 1, 2, 4, 8, 16, 32, 64: 2^w
pub record IsPeriod (cells : List ℕ) (n w : ℕ) : Type 0 where
  pub size : length cells ≡ 2 * n
  pub power : n ≡ 2 ^ w
  pub below : w < 7

-- the first n cells are 0 or 1
abbrev pub Digits : List ℕ → ℕ → Type 0
Digits cells n = (j : ℕ) → j < n → cell_at cells j < 2

-- The reason of a reply: for each reply the condition under which it is given.
pub data Reason (cells : List ℕ) (r : Measured) : Type 0 where
  -- 5: an odd number of bytes
  odd : (length cells % 2 ≡ zero → ⊥) → r ≡ Err R.Buffer → Reason cells r
  -- 32: any number of cells but the seven
  other : (n : ℕ) → length cells ≡ 2 * n → ((w : ℕ) → IsPeriod cells n w → ⊥) → r ≡ Err R.Period → Reason cells r
  -- 3: at the first place of a digit above 1
  digit : (n w i : ℕ) → IsPeriod cells n w → i < n → 2 ≤ cell_at cells i → Digits cells i → r ≡ Err (R.Term i) → Reason cells r
  -- else the length by halving
  told : (n w : ℕ) → IsPeriod cells n w → Digits cells n → r ≡ Ok (halving w (cells_from cells 0 n)) → Reason cells r

-- ---- the length that is told

-- the terms ts repeat the n cells, two whole periods of them or more
pub record Repeats (cells : List ℕ) (n : ℕ) (ts : List ℕ) : Type 0 where
  pub twice : 2 * n ≤ length ts
  pub each : (j : ℕ) → j < length ts → at ts j ≡ cell_at cells (j % n)

-- q whole periods taken: n cells lent q times as a column
pub record WholePeriods (cells : List ℕ) (n q : ℕ) : Type 0 where
  pub size : length (taken 2 (replicate q (push_all cells))) ≡ q * n
  pub repeats : Repeats cells n (taken 2 (replicate q (push_all cells)))

-- the query that is written by hand for terms modulo 2: it meets no refusal, and has these terms
pub record WrittenQuery (ts : List ℕ) : Type 0 where
  pub passes : check_of (query_of 2 ts) ≡ Ok tt
  pub modulus : cell_at (query_of 2 ts) 0 ≡ 2
  pub terms : terms_of (query_of 2 ts) ≡ ts

-- l is the length that the desk gives modulo 2 for such terms
pub record DeskLength (cells : List ℕ) (n l : ℕ) : Type 0 where
  -- it is at most the period
  pub short : l ≤ n
  -- it is the least length for the first k of them, for every k from two periods on
  pub least : (ts : List ℕ) (k : ℕ) → Repeats cells n ts → 2 * n ≤ k → k ≤ length ts → Least 2 (at ts) k l
  -- after every list of calls that takes such terms the register replies it, and that it is the only one
  pub reported :
      (calls : List Call) (a b : List ℕ) → Repeats cells n (taken 2 calls) → length a ≡ a_bytes → length b ≡ b_bytes
      → report_of (after_all (open_of 2).sequence calls) a b ≡ of_length l Sole
  -- and the profile shows it from two periods on, so at the end
  pub profiled :
      (calls : List Call) (lent : List ℕ) (k : ℕ) → Repeats cells n (taken 2 calls) → length lent ≡ profile_bytes → 2 * n ≤ k → k ≤ length (taken 2 calls)
      → profile_cell 2 calls lent k ≡ l
  -- and so does the record that is made of a query with such terms
  pub made :
      (query out : List ℕ) → check_of query ≡ Ok tt → cell_at query 0 ≡ 2 → Repeats cells n (terms_of query) → length out ≡ record_bytes → length_made query out ≡ l
  -- there are such calls, for every number of whole periods from two on that fits; two always do
  pub whole : (q : ℕ) → 2 ≤ q → q * n ≤ max_terms → WholePeriods cells n q
  pub two : WholePeriods cells n 2
  -- and such queries, for as many terms as fit
  pub written : (ts : List ℕ) → Repeats cells n ts → length ts ≤ max_terms → WrittenQuery ts

pub record Measures (cells : List ℕ) : Type 0 where
  -- what is replied has its reason, and what has a reason is replied
  pub reason : Reason cells (period_length_of cells)
  pub exactly : (r : Measured) → Reason cells r → period_length_of cells ≡ r
  -- every period of digits is told a length, and that is the desk's
  pub legal : (n w : ℕ) → IsPeriod cells n w → Digits cells n → (l : ℕ) × ((period_length_of cells ≡ Ok l) × DeskLength cells n l)
  -- by number it is the answer that the call promises, and C gets the length itself, or the refusal as from every other call
  pub by_number : measured_answer (period_length_of cells) ≡ period_length_answer cells
  pub length_code : (l : ℕ) → period_length_of cells ≡ Ok l → length_code_of (period_length_answer cells) ≡ 256 * l
  pub refused_code : (r : Refusal) → period_length_of cells ≡ Err r → length_code_of (period_length_answer cells) ≡ code_of (refusal r)

-- for any cells
unfoldable pub BinaryPeriods : Type 0
BinaryPeriods = (cells : List ℕ) → Measures cells
