-- Answers in the paper's numbers: a definition gives the number and the values of each case of an answer.
-- Assumes nothing.
use Rattle.std.specs.Prelude.{Bool, List, [], ◌∷◌, ℕ, Option, Some, None, Result, Ok, Err}
use Rattle.lists.specs.Choice.{pick}
use Rattle.sequence.specs.declared.Refusal.{Refusal}
use Rattle.sequence.specs.declared.Refusal.TheVariants as R
use Rattle.sequence.specs.declared.Report.{Report}
use Rattle.sequence.specs.declared.Uniqueness.{Uniqueness}
use Rattle.sequence.specs.declared.Uniqueness.TheVariants as U

-- what a call answers that gives nothing else, and what one that reports a register does
abbrev pub Outcome : Type 0
Outcome = Result (Unit {0}) Refusal

abbrev pub Reported : Type 0
Reported = Result Report Refusal

-- a report: the length, and whether the register is the only one
abbrev pub of_length : ℕ → Uniqueness → Reported
of_length l w = Ok (record { length = l; uniqueness = w })

-- what comes after an outcome: the same refusal, or x
abbrev pub and_then : {A : Type 0} → Outcome → Result A Refusal → Result A Refusal
and_then (Ok _) x = x
and_then (Err r) x = Err r

-- the number of the refusal, 0 where the call is not refused, and the values that go with it
pub record Answer : Type 0 where
  pub number : ℕ
  pub values : List ℕ

abbrev pub granted : List ℕ → Answer
granted vs = record { number = 0; values = vs }

abbrev pub refused : ℕ → Answer
refused n = record { number = n; values = [] }

-- one that carries a place, counted from 0
abbrev pub refused_at : ℕ → ℕ → Answer
refused_at n i = record { number = n; values = i ∷ [] }

-- each refusal by its number in the paper, and the place that it carries
abbrev pub refusal : Refusal → Answer
refusal R.Modulus = refused 1
refusal R.Count = refused 2
refusal (R.Term i) = refused_at 3 i
refusal R.Padding = refused 4
refusal R.Buffer = refused 5
refusal R.CandidateCoefficient = refused 6
refusal R.Sequence = refused 21
refusal R.Full = refused 22
refusal R.Catalogue = refused 23
refusal R.Record = refused 24
refusal R.CandidateLength = refused 25
refusal R.CandidateLead = refused 26
refusal (R.LineForm i) = refused_at 27 i
refusal (R.LineRange i) = refused_at 28 i
refusal R.CountsDiffer = refused 29
refusal R.MultipleAbove = refused 30
refusal (R.TermsDisagree i) = refused_at 31 i
refusal R.Period = refused 32
refusal R.Census = refused 33
refusal R.Batch = refused 34

-- a place as a value
abbrev pub placed : Option ℕ → List ℕ
placed (Some i) = i ∷ []
placed None = []

abbrev pub outcome_answer : Outcome → Answer
outcome_answer (Ok _) = granted []
outcome_answer (Err r) = refusal r

-- whether a register is the only one, as a value
abbrev pub uniqueness : Uniqueness → ℕ
uniqueness U.NotTold = 0
uniqueness U.Sole = 1
uniqueness U.Several = 2

-- a register's reply: its length, and that
abbrev pub reported_answer : Reported → Answer
reported_answer (Ok x) = granted (x.length ∷ uniqueness x.uniqueness ∷ [])
reported_answer (Err r) = refusal r

-- Refusals in their order: the answer beside the first test that holds, and the last one where none does.
unfoldable pub first_of : List (Bool × Answer) → Answer → Answer
first_of [] x = x
first_of (c ∷ cs) x = pick c.0 c.1 (first_of cs x)
