-- The claims about every list of calls, about the working, about records made and served, and about testing and running.
-- Assumes nothing.
use Rattle.std.specs.Prelude.{◌≡◌, ◌⊎◌, List, ◌++◌, map, ℕ, zero, ◌+◌, ◌*◌, ◌%◌, ◌≤◌, ◌<◌, length, take, drop, Some, None, Ok, Err}
use Rattle.lists.specs.Table.{at, tabulate}
use Rattle.cells.specs.Cell.{cell_at, bytes_of}
use Rattle.residue.specs.Factors.{prime_powers}
use Rattle.recurrence.specs.Polynomial.{Generates}
use Rattle.recurrence.specs.Least.{Least}
use Rattle.recurrence.specs.Register as T
use Rattle.recurrence.specs.Register.{pair_of}
use Rattle.recurrence.specs.Working.{sheet_of, rows_over, replay}
use Rattle.steps.specs.declared.StepRecord.{StepRecord}
use Rattle.steps.specs.Log.{step_record, step_of}
use Rattle.sequence.specs.declared.Sequence.{Sequence}
use Rattle.sequence.specs.declared.Refusal.TheVariants.{Buffer}
use Rattle.sequence.specs.Limits.{max_modulus, max_terms, max_cells, a_bytes, b_bytes, profile_bytes}
use Rattle.sequence.specs.Rules.{open_of, sequence_of, check_of}
use Rattle.sequence.specs.Report.{length_told, report_of, a_buffer, b_buffer, profile_of, profile_buffer, filled}
use Rattle.sequence.specs.Trace.{records_of, trace_of, sheet_filled}
use Rattle.candidate.specs.Rules.{a_cells, b_cells, flaw_of, verify_of, generate_of, generated_in}
use Rattle.catalogue.specs.Rules.{record_bytes, body, a_place, b_place, length_cell, record_of, synthesize_of, record_at, records, look_up_of, editor, served_in}
use Rattle.guarantees.specs.Calls.{Call, push, after_all, taken}
use Rattle.sequence.specs.Answers.{Outcome, Reported}

-- What a register and a profile of the terms ts modulo m must show: r and o are their replies, and a, b and cells the lent buffers at exit.
pub record Shows (m : ℕ) (ts : List ℕ) (r : Reported) (o : Outcome) (a b cells : List ℕ) : Type 0 where
  -- neither is refused
  pub reported : r ≡ length_told m (length ts) (T.register m ts (length ts)).length
  pub profiled : o ≡ Ok tt
  -- the register written is the one that the steps, joined by remainders, give for the terms
  pub a_as_cells : a ≡ bytes_of (tabulate max_cells (at (T.register m ts (length ts)).a))
  pub b_as_cells : b ≡ bytes_of (tabulate max_terms (at (T.register m ts (length ts)).b))
  -- cell k of the profile is the least length for the first k terms, and zero past the last
  pub least : (k : ℕ) → k ≤ length ts → Least m (at ts) k (cell_at cells k)
  pub zeros : (k : ℕ) → length ts < k → k ≤ max_terms → cell_at cells k ≡ zero
  -- the register's length is the profile's last cell
  pub last : (T.register m ts (length ts)).length ≡ cell_at cells (length ts)
  -- it starts with 1 and generates every term
  pub one : cell_at a 0 ≡ 1
  pub generates : Generates m ts (length ts) (pair_of (T.register m ts (length ts)))

-- cell k of the profile of the sequence after some calls, lent a buffer
abbrev pub profile_cell : ℕ → List Call → List ℕ → ℕ → ℕ
profile_cell m calls cells k =
    let s = after_all (open_of m).sequence calls in
    cell_at (filled (profile_of s cells) (profile_buffer s) cells) k

-- the register and the profile of a sequence show them, lent buffers a, b and cells
abbrev pub ShownBy : ℕ → List ℕ → Sequence → List ℕ → List ℕ → List ℕ → Type 0
ShownBy m ts s a b cells =
    Shows m ts (report_of s a b) (profile_of s cells)
    (filled (report_of s a b) (a_buffer s) a) (filled (report_of s a b) (b_buffer s) b) (filled (profile_of s cells) (profile_buffer s) cells)

-- Demand 3: for every modulus within the limits opening is not refused, and after every list of calls the register and the profile
-- show the terms taken.
pub record EveryList (m : ℕ) : Type 0 where
  pub opened : (open_of m).outcome ≡ Ok tt
  pub shows :
      (calls : List Call) (a b cells : List ℕ) → length a ≡ a_bytes → length b ≡ b_bytes → length cells ≡ profile_bytes
      → ShownBy m (taken m calls) (after_all (open_of m).sequence calls) a b cells

unfoldable pub Demand3 : Type 0
Demand3 = (m : ℕ) → 2 ≤ m → m ≤ max_modulus → EveryList m

-- ---- the working

-- What a trace of the terms ts modulo m must show: r is its reply, a, b and sheet what was lent to it, at exit; the sheet was `lent`.
pub record Works (m : ℕ) (ts : List ℕ) (r : Reported) (a b : List ℕ) (lent sheet : List StepRecord) : Type 0 where
  -- it is not refused, and the register is the one that a register of the same terms shows
  pub reported : r ≡ length_told m (length ts) (T.register m ts (length ts)).length
  pub a_as_cells : a ≡ bytes_of (tabulate max_cells (at (T.register m ts (length ts)).a))
  pub b_as_cells : b ≡ bytes_of (tabulate max_terms (at (T.register m ts (length ts)).b))
  -- the sheet holds the working of the terms, and past its last record what was lent
  pub records : sheet ≡ map step_record (sheet_of m ts (length ts)) ++ drop (length ts * rows_over (prime_powers m)) lent
  pub number : length (sheet_of m ts (length ts)) ≡ length ts * rows_over (prime_powers m)
  -- applying the cases that stand in the sheet, in order, gives that register
  pub replays : replay m (length ts) (map step_of sheet) ≡ T.register m ts (length ts)

-- the trace of a sequence shows it
abbrev pub WorkedBy : ℕ → List ℕ → Sequence → List ℕ → List ℕ → List StepRecord → Type 0
WorkedBy m ts s a b lent =
    let r = trace_of s a b (length lent) in
    Works m ts r (filled r (a_buffer s) a) (filled r (b_buffer s) b) lent (sheet_filled r (records_of s) lent)

-- a trace that is refused by 5, and leaves all that was lent as it was
pub record TooShort (s : Sequence) (a b : List ℕ) (lent : List StepRecord) : Type 0 where
  pub refused : trace_of s a b (length lent) ≡ Err Buffer
  pub a_lent : filled (trace_of s a b (length lent)) (a_buffer s) a ≡ a
  pub b_lent : filled (trace_of s a b (length lent)) (b_buffer s) b ≡ b
  pub sheet_lent : sheet_filled (trace_of s a b (length lent)) (records_of s) lent ≡ lent

-- A trace of the sequence s of terms ts: one whose sheet has n records for each row shows the working, one whose sheet has fewer is refused.
pub record EveryTrace (m : ℕ) (ts : List ℕ) (s : Sequence) (a b : List ℕ) (lent : List StepRecord) : Type 0 where
  pub works : length ts * rows_over (prime_powers m) ≤ length lent → WorkedBy m ts s a b lent
  pub short : length lent < length ts * rows_over (prime_powers m) → TooShort s a b lent

-- For every modulus within the limits, after every list of calls, of the terms taken.
unfoldable pub TheWorking : Type 0
TheWorking =
    (m : ℕ) → 2 ≤ m → m ≤ max_modulus → (calls : List Call) (a b : List ℕ) (lent : List StepRecord) → length a ≡ a_bytes → length b ≡ b_bytes
    → EveryTrace m (taken m calls) (after_all (open_of m).sequence calls) a b lent

-- ---- records made and served

-- a record that was made by this software: but for its accession number, what a making that is not refused writes for some query
pub record MadeRecord (entry : List ℕ) : Type 0 where
  pub query : List ℕ
  pub out : List ℕ
  pub made : synthesize_of query out ≡ Ok tt
  pub same : body entry ≡ body (filled (synthesize_of query out) (record_of query) out)

-- a catalogue of such records, end to end; the empty one is such
pub record MadeCatalogue (catalogue : List ℕ) : Type 0 where
  pub whole : length catalogue % record_bytes ≡ zero
  pub each : (i : ℕ) → i < records catalogue → MadeRecord (record_at catalogue i)

-- the terms of a query
abbrev pub terms_of : List ℕ → List ℕ
terms_of query = take (cell_at query 1) (sequence_of query).terms

-- the length in the record that is made of a query, lent a buffer
abbrev pub length_made : List ℕ → List ℕ → ℕ
length_made query out = cell_at (filled (synthesize_of query out) (record_of query) out) length_cell

-- the length and the cells in a record are those that the register gives after the calls, lent buffers a and b
pub record AgreesWith (m : ℕ) (calls : List Call) (a b entry : List ℕ) : Type 0 where
  pub length_same : report_of (after_all (open_of m).sequence calls) a b ≡ length_told m (length (taken m calls)) (cell_at entry length_cell)
  pub a_same :
      filled (report_of (after_all (open_of m).sequence calls) a b) (a_buffer (after_all (open_of m).sequence calls)) a ≡ take a_bytes (drop a_place entry)
  pub b_same :
      filled (report_of (after_all (open_of m).sequence calls) a b) (b_buffer (after_all (open_of m).sequence calls)) b ≡ take b_bytes (drop b_place entry)

-- For a query that meets no refusal of its own and a catalogue made by this software, whoever asks: making and serving are not refused,
-- and the record made, the record served and the register after any calls that take the query's terms are the same.
pub record Same (query catalogue : List ℕ) (who : ℕ) (out : List ℕ) : Type 0 where
  -- there are such calls: pushing the terms one by one
  pub pushed : taken (cell_at query 0) (map push (terms_of query)) ≡ terms_of query
  pub made : synthesize_of query out ≡ Ok tt
  pub served : ((i : ℕ) × (look_up_of query catalogue out ≡ Ok (Some i))) ⊎ (look_up_of query catalogue out ≡ Ok None)
  pub record_made :
      (calls : List Call) (a b : List ℕ) → taken (cell_at query 0) calls ≡ terms_of query → length a ≡ a_bytes → length b ≡ b_bytes
      → AgreesWith (cell_at query 0) calls a b (filled (synthesize_of query out) (record_of query) out)
  pub record_served :
      (calls : List Call) (a b : List ℕ) → taken (cell_at query 0) calls ≡ terms_of query → length a ≡ a_bytes → length b ≡ b_bytes
      → AgreesWith (cell_at query 0) calls a b (served_in who (look_up_of query catalogue out) query catalogue out)
  -- the record served is the record made, but for its accession number; to a visitor in every byte
  pub body_served : body (served_in who (look_up_of query catalogue out) query catalogue out) ≡ body (filled (synthesize_of query out) (record_of query) out)
  pub visitor_served :
      (who ≡ editor → ⊥) → served_in who (look_up_of query catalogue out) query catalogue out ≡ filled (synthesize_of query out) (record_of query) out

unfoldable pub MadeServedReported : Type 0
MadeServedReported =
    (query catalogue : List ℕ) (who : ℕ) (out : List ℕ) → check_of query ≡ Ok tt → MadeCatalogue catalogue → length out ≡ record_bytes
    → Same query catalogue who out

-- ---- testing and running

-- what stands in the cells after running a candidate modulo the query's modulus
abbrev pub ran_in : List ℕ → List ℕ → List ℕ → ℕ → List ℕ → List ℕ
ran_in query a b l cells = generated_in (generate_of (cell_at query 0) a b l cells) (cell_at query 0) a b l cells

-- the cells run are the query's terms below place j, and at j another number
pub record DiffersAt (query ran : List ℕ) (j : ℕ) : Type 0 where
  pub within : j < cell_at query 1
  pub below : (i : ℕ) → i < j → cell_at ran i ≡ cell_at query (2 + i)
  pub other : cell_at ran j ≡ cell_at query (2 + j) → ⊥

-- A candidate tested against a query, and run for as many cells as the query has terms.
pub record Tested (query a b : List ℕ) (l : ℕ) (cells : List ℕ) : Type 0 where
  -- running is not refused
  pub ran : generate_of (cell_at query 0) a b l cells ≡ Ok tt
  -- testing says yes exactly when running writes the query's terms
  pub yes_runs : verify_of query a b l ≡ Ok None → ran_in query a b l cells ≡ bytes_of (terms_of query)
  pub runs_yes : ran_in query a b l cells ≡ bytes_of (terms_of query) → verify_of query a b l ≡ Ok None
  -- which are the bytes in the query itself; a list that holds more than bytes is no query that a call can be handed
  pub own_bytes : ((i : ℕ) → at query i < 256) → bytes_of (terms_of query) ≡ take (2 * cell_at query 1) (drop 4 query)
  -- it says no with place j exactly when j is the first place where they differ
  pub no_differs : (j : ℕ) → verify_of query a b l ≡ Ok (Some j) → DiffersAt query (ran_in query a b l cells) j
  pub differs_no : (j : ℕ) → DiffersAt query (ran_in query a b l cells) j → verify_of query a b l ≡ Ok (Some j)

-- For a query that meets no refusal of its own and a candidate without a flaw, of any length that one may have.
unfoldable pub TestedByRunning : Type 0
TestedByRunning =
    (query a b : List ℕ) (l : ℕ) (cells : List ℕ) → check_of query ≡ Ok tt → length a ≡ a_bytes → length b ≡ b_bytes
    → flaw_of (cell_at query 0) l (a_cells a) (b_cells b) ≡ Ok tt → length cells ≡ 2 * cell_at query 1 → Tested query a b l cells
