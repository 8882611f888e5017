-- Laws of a trace: how many records it stores, that they are the sheet's, and its answer.
-- Assumes nothing.
use mathlib.Core.Path.{◌≡◌, refl, sym, ap, ap₂, ◌∙◌}
use mathlib.Core.Bool.{Bool, true, false, not}
use mathlib.Core.List.{List, [], ◌∷◌, ◌++◌, append_assoc}
use Prim.Native.Nat.{ℕ, zero, suc, ◌≤◌, ◌<◌}
use native.Mathlib.Nat.{mul-le-mul}
use native.Mathlib.Omega.{arith}
use lib.Dec.{leb, eqb}
use lib.ListN.{length, set, drop, get_or-append, replicate, length-map, length-append, length-drop, length-replicate}
use lib.Seq.{drop-cons, set_at}
use borrow.Author.Tests.{leb-true}
use Rattle.std.specs.Prelude.{Result, Ok, Err}
use Rattle.lists.specs.Choice.{pick}
use Rattle.lists.specs.Table.{at, tabulate}
use Rattle.lists.proofs.Table.{length_tabulate, tabulate_eq, tabulate_last, map_tabulate}
use Rattle.lists.proofs.Search.{false_true}
use Rattle.recurrence.specs.Working.{sheet_of}
use Rattle.recurrence.proofs.Working.{length_sheet, rows_few}
use Rattle.steps.specs.Sizes.{log_words}
use Rattle.steps.specs.declared.StepRecord.{StepRecord}
use Rattle.steps.specs.Log.{step_record, packed, unpacked, overlaid}
use Rattle.steps.proofs.Log.{overlaid_all}
use Rattle.synthesis.proofs.Logging.{read_sheet}
use Rattle.sequence.specs.declared.Sequence.{Sequence}
use Rattle.sequence.specs.declared.Refusal.{Refusal}
use Rattle.sequence.specs.declared.Refusal.TheVariants as R
use Rattle.sequence.specs.declared.Report.{Report}
use Rattle.sequence.specs.declared.Worked.{Worked}
use Rattle.sequence.specs.Limits.{a_bytes, b_bytes}
use Rattle.sequence.specs.Answers.{refused, reported_answer, first_of, Reported}
use Rattle.sequence.specs.Rules.{fault_of, is_sound, IsSound}
use Rattle.sequence.specs.Report.{register_told, register_answer, a_buffer, b_buffer, filled}
use Rattle.sequence.specs.Trace.{records_of, sheet_size, trace_of, trace_answer, sheet_filled, words_of, worked, work_of}
use Rattle.sequence.proofs.Laws.{sound_of, same_refusal}

-- ---- the log before anything is written to it

unfoldable pub zeros : List ℕ
zeros = replicate log_words zero

pub zeros_long : length zeros ≡ log_words
unfolding zeros
zeros_long = length-replicate log_words zero

-- ---- the reply

-- a trace that is not refused is of a sound sequence, and the sheet has room
pub traced : (s : Sequence) (a b : List ℕ) (n : ℕ) (r : Report) → trace_of s a b n ≡ Ok r → IsSound s × (sheet_size s ≤ n)
unfolding trace_of
traced s a b n r h = go (eqb (length a) a_bytes) (eqb (length b) b_bytes) (is_sound (fault_of s)) (leb (sheet_size s) n) refl refl h
  where
    is_length : Reported → Bool
    is_length (Ok x) = true
    is_length (Err r) = false

    go :
        (x y z w : Bool) → is_sound (fault_of s) ≡ z → leb (sheet_size s) n ≡ w
        → pick x (pick y (pick z (pick w (register_told s) (Err R.Buffer)) (Err R.Sequence)) (Err R.Buffer)) (Err R.Buffer) ≡ Ok r
        → IsSound s × (sheet_size s ≤ n)
    go false y z w f g h = false_true (ap is_length h)
    go true false z w f g h = false_true (ap is_length h)
    go true true false w f g h = false_true (ap is_length h)
    go true true true false f g h = false_true (ap is_length h)
    go true true true true f g h = (sound_of s f, leb-true _ _ g)

-- the answer beside the reply
pub trace_told : (s : Sequence) (a b : List ℕ) (n : ℕ) {r : Reported} → r ≡ trace_of s a b n → reported_answer r ≡ trace_answer s a b n
unfolding trace_of first_of
trace_told s a b n e = ap reported_answer e ∙ go (eqb (length a) a_bytes) (eqb (length b) b_bytes) (is_sound (fault_of s)) (leb (sheet_size s) n)
  where
    go :
        (x y z w : Bool)
        → reported_answer (pick x (pick y (pick z (pick w (register_told s) (Err R.Buffer)) (Err R.Sequence)) (Err R.Buffer)) (Err R.Buffer))
        ≡ pick (not x) (refused 5) (pick (not y) (refused 5) (pick (not z) (refused 21) (pick (not w) (refused 5) (register_answer s))))
    go false y z w = refl
    go true false z w = refl
    go true true false w = refl
    go true true true false = refl
    go true true true true = refl

-- ---- the sheet while it is filled

-- the record at place i of a log
abbrev pub entry_of : List ℕ → ℕ → StepRecord
entry_of log i = unpacked (at log i)

-- with i records written
abbrev pub filling_of : List ℕ → List StepRecord → ℕ → List StepRecord
filling_of log lent i = tabulate i (entry_of log) ++ drop i lent

module _ (log : List ℕ) (lent : List StepRecord) where
  pub filling_none : filling_of log lent zero ≡ lent
  unfolding tabulate
  filling_none = refl

  pub filling_long : (i : ℕ) → i ≤ length lent → length (filling_of log lent i) ≡ length lent
  filling_long i h =
      omega (arith, length-append (tabulate i (entry_of log)) (drop i lent), length_tabulate i (entry_of log), length-drop i lent)

  pub filling_more : (i : ℕ) → i < length lent → set (filling_of log lent i) i (entry_of log i) ≡ filling_of log lent (suc i)
  filling_more i h =
      ap (λ (l : List StepRecord). set (tabulate i (entry_of log) ++ l) i (entry_of log i)) (drop-cons lent i (entry_of log i) h)
      ∙ set_at (tabulate i (entry_of log)) _ (drop (suc i) lent) (entry_of log i) i (length_tabulate i (entry_of log))
      ∙ sym (append_assoc (tabulate i (entry_of log)) (entry_of log i ∷ []) (drop (suc i) lent))
      ∙ ap (λ (l : List StepRecord). l ++ drop (suc i) lent) (sym (tabulate_last i (entry_of log)))

-- ---- what `work` found, and the sheet in the end

-- the records of 128 steps of 15 rows
pub size_most : (s : Sequence) → IsSound s → sheet_size s ≤ log_words
size_most s h = mul-le-mul h.count (rows_few s.modulus (omega (arith, h.least)) (omega (arith, h.most)))

words_long : (s : Sequence) → length (words_of s) ≡ sheet_size s
words_long s = length-map (sheet_of s.modulus s.terms s.count) (λ x. packed (step_record x)) ∙ length_sheet s.modulus s.terms s.count

-- all words of a sound sequence are in the log: unpacked, they are its records
filled_sound : (s : Sequence) → IsSound s → (lent : List StepRecord) (behind : List ℕ)
    → filling_of (words_of s ++ behind) lent (sheet_size s) ≡ records_of s ++ drop (length (records_of s)) lent
filled_sound s h lent behind = ap₂ (λ (xs : List StepRecord) (k : ℕ). xs ++ drop k lent) (sym same) (sym long)
  where
    long : length (records_of s) ≡ sheet_size s
    long = length-map (sheet_of s.modulus s.terms s.count) step_record ∙ length_sheet s.modulus s.terms s.count

    same : records_of s ≡ tabulate (sheet_size s) (entry_of (words_of s ++ behind))
    same =
        sym (read_sheet s.modulus s.terms s.count (omega (arith, h.least)) (omega (arith, h.most)) h.count)
        ∙ map_tabulate unpacked zero (words_of s)
        ∙ tabulate_eq (length (words_of s)) _ (entry_of (words_of s ++ behind)) (λ i k. ap unpacked (sym (get_or-append (words_of s) behind zero i k)))
        ∙ ap (λ (k : ℕ). tabulate k (entry_of (words_of s ++ behind))) (words_long s)

-- ---- what `work` gives

-- what `work` promises of its reply and of what it is lent
abbrev pub Promised : Sequence → List ℕ → List ℕ → ℕ → List ℕ → Result Worked Refusal → List ℕ → List ℕ → List ℕ → Type 0
Promised s a b n log r a' b' log' =
    (r ≡ work_of s a b n) × (a' ≡ filled r (a_buffer s) a) × (b' ≡ filled r (b_buffer s) b) × (log' ≡ sheet_filled r (words_of s) log)

-- where it is refused, all is as lent
pub work_refused : (s : Sequence) (a b : List ℕ) (n : ℕ) (log : List ℕ) {x : Refusal} → trace_of s a b n ≡ Err x → Promised s a b n log (Err x) a b log
work_refused s a b n log h = (ap (λ (r : Reported). worked r s) (sym h), refl, refl, refl)

pub work_done : (s : Sequence) (a b : List ℕ) (n : ℕ) (x : Report) (k : ℕ) → trace_of s a b n ≡ Ok x → k ≡ sheet_size s
    → Ok (record { report = x; count = k }) ≡ work_of s a b n
work_done s a b n x k h e =
    ap (λ (c : ℕ). Ok (record { report = x; count = c })) e ∙ ap (λ (r : Reported). worked r s) (sym h)

-- the log has places for all words
pub log_filled : (s : Sequence) (log : List ℕ) → IsSound s → length log ≡ log_words → overlaid (words_of s) log ≡ words_of s ++ drop (length (words_of s)) log
log_filled s log h long = overlaid_all (words_of s) log (omega (arith, words_long s, size_most s h, long))

-- what it tells where it is refused, and where it is not
pub work_told : (s : Sequence) (a b : List ℕ) (n : ℕ) {x : Refusal} → Err x ≡ work_of s a b n → trace_of s a b n ≡ Err x
work_told s a b n {x} e = go (trace_of s a b n) refl e
  where
    go : (r : Reported) → trace_of s a b n ≡ r → Err x ≡ worked r s → trace_of s a b n ≡ Err x
    go (Ok y) h k = let z : ◌≡◌ {A = Bool} false true = cc in false_true z
    go (Err y) h k = h ∙ ap Err (same_refusal (sym k))

module _ (s : Sequence) (a b : List ℕ) (n : ℕ) (y : Worked) (e : Ok y ≡ work_of s a b n) where
  told_both : (trace_of s a b n ≡ Ok y.report) × (y.count ≡ sheet_size s)
  told_both = go (trace_of s a b n) refl e
    where
      go : (r : Reported) → trace_of s a b n ≡ r → Ok y ≡ worked r s → (trace_of s a b n ≡ Ok y.report) × (y.count ≡ sheet_size s)
      go (Ok x) h k =
          let q : y ≡ record { report = x; count = sheet_size s } = cc in
          (h ∙ ap (λ (w : Worked). Ok w.report) (sym q), ap (λ (w : Worked). w.count) q)
      go (Err x) h k = let z : ◌≡◌ {A = Bool} false true = cc in false_true z

  pub reply_told : trace_of s a b n ≡ Ok y.report
  reply_told = told_both.0

  pub count_told : y.count ≡ sheet_size s
  count_told = told_both.1

  -- they fit the sheet, and the log
  pub count_fits : (y.count ≤ n) × (y.count ≤ log_words)
  count_fits = let t = traced s a b n y.report reply_told in (omega (arith, count_told, t.1), omega (arith, count_told, size_most s t.0))

  -- with all of them stored it is as promised
  pub filling_all : (log : List ℕ) → log ≡ words_of s ++ drop (length (words_of s)) zeros → (lent : List StepRecord)
      → filling_of log lent y.count ≡ records_of s ++ drop (length (records_of s)) lent
  filling_all log w lent =
      ap₂ (λ (z : List ℕ) (k : ℕ). filling_of z lent k) w count_told
      ∙ filled_sound s (traced s a b n y.report reply_told).0 lent (drop (length (words_of s)) zeros)
