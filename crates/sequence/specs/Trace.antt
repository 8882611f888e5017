-- What tracing a sequence replies and writes: its register, and the sheet of its working.
-- Assumes nothing.
use Rattle.std.specs.Prelude.{not, List, [], ◌∷◌, ◌++◌, map, ℕ, ◌*◌, leb, eqb, length, drop, Result, Ok, Err}
use Rattle.lists.specs.Choice.{pick}
use Rattle.residue.specs.Factors.{prime_powers}
use Rattle.recurrence.specs.Working.{sheet_of, rows_over}
use Rattle.steps.specs.declared.StepRecord.{StepRecord}
use Rattle.steps.specs.Log.{step_record, words}
use Rattle.sequence.specs.declared.Sequence.{Sequence}
use Rattle.sequence.specs.declared.Refusal.{Refusal}
use Rattle.sequence.specs.declared.Refusal.TheVariants as R
use Rattle.sequence.specs.declared.Worked.{Worked}
use Rattle.sequence.specs.Limits.{a_bytes, b_bytes}
use Rattle.sequence.specs.Answers.{Answer, refused, first_of, Reported}
use Rattle.sequence.specs.Rules.{fault_of, is_sound}
use Rattle.sequence.specs.Report.{register_told, register_answer}

-- the records of a sequence's sheet, and their number: the count times the sum of the exponents
abbrev pub records_of : Sequence → List StepRecord
records_of s = map step_record (sheet_of s.modulus s.terms s.count)

abbrev pub sheet_size : Sequence → ℕ
sheet_size s = s.count * rows_over (prime_powers s.modulus)

-- 5 (a, b), 21, 5 (a sheet of n records, which are too few), in this order; else what a register replies
unfoldable pub trace_of : Sequence → List ℕ → List ℕ → ℕ → Reported
trace_of s a b n =
    pick (eqb (length a) a_bytes)
    (pick (eqb (length b) b_bytes)
    (pick (is_sound (fault_of s))
    (pick (leb (sheet_size s) n) (register_told s) (Err R.Buffer))
    (Err R.Sequence))
    (Err R.Buffer))
    (Err R.Buffer)

abbrev pub trace_answer : Sequence → List ℕ → List ℕ → ℕ → Answer
trace_answer s a b n =
    first_of
    ((not (eqb (length a) a_bytes), refused 5)
    ∷ (not (eqb (length b) b_bytes), refused 5)
    ∷ (not (is_sound (fault_of s)), refused 21)
    ∷ (not (leb (sheet_size s) n), refused 5)
    ∷ [])
    (register_answer s)

-- a sheet at exit: the records, and those past the last as lent; or all as lent
abbrev pub sheet_filled : {A B : Type 0} → Result B Refusal → List A → List A → List A
sheet_filled (Ok x) records lent = records ++ drop (length records) lent
sheet_filled (Err r) records lent = lent

-- ---- `work`, the function under it: the log's words, one for each record, and their number

abbrev pub words_of : Sequence → List ℕ
words_of s = words (sheet_of s.modulus s.terms s.count)

abbrev pub worked : Reported → Sequence → Result Worked Refusal
worked (Ok x) s = Ok (record { report = x; count = sheet_size s })
worked (Err r) s = Err r

abbrev pub work_of : Sequence → List ℕ → List ℕ → ℕ → Result Worked Refusal
work_of s a b n = worked (trace_of s a b n) s
