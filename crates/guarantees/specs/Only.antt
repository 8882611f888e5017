-- The claim about the word beside the length: whether the register that is reported is the only one as short.
-- Assumes nothing.
use Rattle.std.specs.Prelude.{◌≡◌, ◌⊎◌, List, [], ◌∷◌, ℕ, suc, ◌*◌, ◌-◌, ◌^◌, ◌≤◌, ◌<◌, length}
use Rattle.lists.specs.Table.{at, tabulate}
use Rattle.cells.specs.Cell.{cell_at}
use Rattle.residue.specs.Units.{Prime}
use Rattle.residue.specs.Factors.{prime_powers}
use Rattle.recurrence.specs.Least.{Least}
use Rattle.recurrence.specs.Working.{rows_over}
use Rattle.counting.specs.Numbering.{ListOf}
use Rattle.counting.specs.Solutions.{Solves, solutions, CountsLists, NoSecond, Second}
use Rattle.steps.specs.declared.StepRecord.{StepRecord}
use Rattle.sequence.specs.declared.Uniqueness.{Uniqueness}
use Rattle.sequence.specs.declared.Uniqueness.TheVariants.{Sole, Several, NotTold}
use Rattle.sequence.specs.Limits.{max_modulus, a_bytes, b_bytes}
use Rattle.sequence.specs.Rules.{open_of}
use Rattle.sequence.specs.Report.{report_of, a_buffer, filled}
use Rattle.sequence.specs.Trace.{trace_of}
use Rattle.guarantees.specs.Calls.{Call, after_all, taken}
use Rattle.guarantees.specs.Cases.{reply}
use Rattle.sequence.specs.Answers.{Reported, of_length}

-- What the word says for a prime m, where l is the least length of the n terms ts, and the list c of l numbers below m generates them (`Says`).
pub record ToldOf (m : ℕ) (ts : List ℕ) (l : ℕ) (c : List ℕ) (word : Uniqueness) : Type 0 where
  -- sole is said exactly when no second list of l numbers below m generates the terms, several exactly when one does
  pub sole_none : word ≡ Sole → NoSecond m ts (length ts) c
  pub none_sole : NoSecond m ts (length ts) c → word ≡ Sole
  pub several_second : word ≡ Several → Second m ts (length ts) c
  pub second_several : Second m ts (length ts) c → word ≡ Several
  -- sole is said exactly when 2l ≤ n, several exactly when not
  pub sole_short : word ≡ Sole → 2 * l ≤ length ts
  pub short_sole : 2 * l ≤ length ts → word ≡ Sole
  pub several_long : word ≡ Several → length ts < 2 * l
  pub long_several : length ts < 2 * l → word ≡ Several
  -- one list generates the terms then, and otherwise m to the power 2l - n do
  pub one : 2 * l ≤ length ts → solutions m ts (length ts) l ≡ 1
  pub many : length ts < 2 * l → solutions m ts (length ts) l ≡ m ^ (2 * l - length ts)

-- a_1, .., a_l as they stand in the buffer a
abbrev pub list_in : ℕ → List ℕ → List ℕ
list_in l a = tabulate l (λ i. cell_at a (suc i))

-- What a register of the terms ts modulo m says: r is its reply, and a the lent buffer at exit.
pub record Says (m : ℕ) (ts : List ℕ) (r : Reported) (a : List ℕ) : Type 0 where
  pub l : ℕ
  pub word : Uniqueness
  pub reported : r ≡ of_length l word
  pub least : Least m (at ts) (length ts) l
  -- the list that is written has l numbers below m and generates the terms
  pub list_of : ListOf m l (list_in l a)
  pub solves : Solves m ts (length ts) (list_in l a)
  -- what is counted below are such lists
  pub counts : CountsLists m ts (length ts) l
  -- the word is not told exactly where m is not prime
  pub untold_other : word ≡ NotTold → Prime m → ⊥
  pub other_untold : (Prime m → ⊥) → word ≡ NotTold
  pub told : Prime m → ToldOf m ts l (list_in l a) word

-- After a list of calls, of the terms taken: a register, and a trace whose sheet has room.
pub record SaysAfter (m : ℕ) (calls : List Call) (a b : List ℕ) : Type 0 where
  pub register :
      let s = after_all (open_of m).sequence calls in
      Says m (taken m calls) (report_of s a b) (filled (report_of s a b) (a_buffer s) a)
  pub trace :
      (lent : List StepRecord) → length (taken m calls) * rows_over (prime_powers m) ≤ length lent
      → let s = after_all (open_of m).sequence calls in
      Says m (taken m calls) (trace_of s a b (length lent)) (filled (trace_of s a b (length lent)) (a_buffer s) a)

-- For every modulus within the limits, after every list of calls.
unfoldable pub TheOnlyOne : Type 0
TheOnlyOne =
    (m : ℕ) → 2 ≤ m → m ≤ max_modulus → (calls : List Call) (a b : List ℕ) → length a ≡ a_bytes → length b ≡ b_bytes → SaysAfter m calls a b

-- ---- rows

-- c is 0, 3 or 6
abbrev pub OneOf036 : ℕ → Type 0
OneOf036 c = (c ≡ 0) ⊎ ((c ≡ 3) ⊎ (c ≡ 6))

-- how many lists of l numbers below m generate the terms
abbrev pub lists_for : ℕ → List ℕ → ℕ → ℕ
lists_for m ts l = solutions m ts (length ts) l

-- the reply alone
abbrev pub answered : ℕ → List ℕ → Reported
answered m ts = (reply m ts 0).answer

pub record OnlyRows : Type 0 where
  -- 02's example: three lists, those of 0, 3 and 6 and no other, and not told
  pub nine : reply 9 (3 ∷ 0 ∷ []) 1 ≡ record { answer = of_length 1 NotTold; a = 1 ∷ 0 ∷ []; b = 3 ∷ [] }
  pub nine_three : lists_for 9 (3 ∷ 0 ∷ []) 1 ≡ 3
  pub nine_which : (c : ℕ) → c < 9 → Solves 9 (3 ∷ 0 ∷ []) 2 (c ∷ []) → OneOf036 c
  pub which_nine : (c : ℕ) → OneOf036 c → Solves 9 (3 ∷ 0 ∷ []) 2 (c ∷ [])
  -- not told where there is only one
  pub six : answered 6 (1 ∷ 0 ∷ []) ≡ of_length 1 NotTold
  pub six_one : lists_for 6 (1 ∷ 0 ∷ []) 1 ≡ 1
  -- no terms, and no length
  pub none : answered 2 [] ≡ of_length 0 Sole
  pub zeros : answered 5 (0 ∷ 0 ∷ 0 ∷ []) ≡ of_length 0 Sole
  -- 2l = n, 2l = n + 1, and l = n
  pub even : answered 7 (1 ∷ 1 ∷ 2 ∷ 3 ∷ []) ≡ of_length 2 Sole
  pub even_one : lists_for 7 (1 ∷ 1 ∷ 2 ∷ 3 ∷ []) 2 ≡ 1
  pub odd : answered 5 (1 ∷ 1 ∷ 2 ∷ []) ≡ of_length 2 Several
  pub odd_five : lists_for 5 (1 ∷ 1 ∷ 2 ∷ []) 2 ≡ 5
  pub two : answered 2 (1 ∷ 1 ∷ []) ≡ of_length 1 Sole
  pub two_whole : answered 2 (0 ∷ 0 ∷ 1 ∷ []) ≡ of_length 3 Several
  pub two_eight : lists_for 2 (0 ∷ 0 ∷ 1 ∷ []) 3 ≡ 8
  -- the largest modulus
  pub largest : answered 4095 (1 ∷ []) ≡ of_length 1 NotTold
