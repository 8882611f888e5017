-- The claims about batches: when each refusal is given, that each query gets what it gets alone, what the walk holds after the first j records, what is
-- counted, that visitors learn nothing, and that the records are those made and reported.
-- Assumes nothing.
use Rattle.std.specs.Prelude.{◌≡◌, true, false, List, ℕ, ◌+◌, ◌*◌, ◌/◌, ◌%◌, ◌≤◌, ◌<◌, length, replicate, Ok, Err}
use Rattle.lists.specs.Sum.{sum_to}
use Rattle.lists.specs.Table.{at}
use Rattle.cells.specs.Cell.{cell_at}
use Rattle.sequence.specs.declared.Refusal.{Refusal}
use Rattle.sequence.specs.declared.Refusal.TheVariants as R
use Rattle.sequence.specs.Limits.{query_bytes, a_bytes, b_bytes}
use Rattle.sequence.specs.Answers.{refusal, Outcome}
use Rattle.sequence.specs.Rules.{check_of}
use Rattle.sequence.specs.Report.{filled}
use Rattle.catalogue.specs.Rules.{record_bytes, body, record_of, synthesize_of, record_at, is_of, look_up_of, look_up_answer, editor, seen_by}
use Rattle.codes.specs.Codes.{code_of, counts_code_of}
use Rattle.batch.specs.declared.Batch.{Batch}
use Rattle.batch.specs.Rules.{max_queries, query_at, queries_in, is_found, is_made, is_refused, look_up_batch_of, batch_answer, look_up_batch_answer, parts_in, replies_in, outcome_of}
use Rattle.batch.specs.Walk.{Holding}
use Rattle.guarantees.specs.Calls.{Call, taken}
use Rattle.guarantees.specs.Claims.{terms_of, MadeCatalogue, AgreesWith}
use Rattle.guarantees.specs.Visitors.{SameButNumbers, served_from}

-- the records and the replies after the call, lent buffers for both
abbrev pub records_after : (who : ℕ) (queries catalogue out replies : List ℕ) → List ℕ
records_after who queries catalogue out replies = parts_in who (look_up_batch_of queries catalogue out replies) queries catalogue out

abbrev pub replies_after : (queries catalogue out replies : List ℕ) → List ℕ
replies_after queries catalogue out replies = replies_in (look_up_batch_of queries catalogue out replies) queries catalogue replies

-- ---- when each refusal is given

-- whole queries, 778 bytes for each, and one number for each
pub record Fitting (queries out replies : List ℕ) : Type 0 where
  pub queries_whole : length queries % query_bytes ≡ 0
  pub records_each : length out ≡ queries_in queries * record_bytes
  pub replies_each : length replies ≡ queries_in queries

-- The reason of the outcome of the whole call: for each outcome the condition under which it is given.
pub data BatchReason (queries catalogue out replies : List ℕ) (o : Outcome) : Type 0 where
  -- 5
  buffer : (Fitting queries out replies → ⊥) → o ≡ Err R.Buffer → BatchReason queries catalogue out replies o
  -- 34
  many : Fitting queries out replies → max_queries < queries_in queries → o ≡ Err R.Batch → BatchReason queries catalogue out replies o
  -- 23
  uneven :
      Fitting queries out replies → queries_in queries ≤ max_queries → (length catalogue % record_bytes ≡ 0 → ⊥) → o ≡ Err R.Catalogue
      → BatchReason queries catalogue out replies o
  done :
      Fitting queries out replies → queries_in queries ≤ max_queries → length catalogue % record_bytes ≡ 0 → o ≡ Ok tt → BatchReason queries catalogue out replies o

pub record EveryOutcome (queries catalogue out replies : List ℕ) : Type 0 where
  -- what is replied has its reason, and what has a reason is replied
  pub reason : BatchReason queries catalogue out replies (outcome_of (look_up_batch_of queries catalogue out replies))
  pub exactly : (o : Outcome) → BatchReason queries catalogue out replies o → outcome_of (look_up_batch_of queries catalogue out replies) ≡ o
  -- by number it is the answer that the calls promise, for C too
  pub by_number : batch_answer (look_up_batch_of queries catalogue out replies) ≡ look_up_batch_answer queries catalogue out replies
  -- where the whole call is refused, the records and the replies are as lent
  pub records_kept : (who : ℕ) (r : Refusal) → outcome_of (look_up_batch_of queries catalogue out replies) ≡ Err r → records_after who queries catalogue out replies ≡ out
  pub replies_kept : (r : Refusal) → outcome_of (look_up_batch_of queries catalogue out replies) ≡ Err r → replies_after queries catalogue out replies ≡ replies
  -- and there are no counts
  pub none_counted :
      (r : Refusal) → outcome_of (look_up_batch_of queries catalogue out replies) ≡ Err r
      → look_up_batch_of queries catalogue out replies ≡ Err r

-- ---- each query

-- What query i of a batch has in the end, held against looking it up alone with any record lent.
pub record Alone (who : ℕ) (queries catalogue out replies : List ℕ) (i : ℕ) (lent : List ℕ) : Type 0 where
  -- the number that C gets from looking up: made, found with its place, or a refusal with its place
  pub reply : at (replies_after queries catalogue out replies) i ≡ code_of (look_up_answer (query_at queries i) catalogue lent)
  -- the bytes that looking up writes for the same asker; after a refusal zeros
  pub served :
      ((r : Refusal) → look_up_of (query_at queries i) catalogue lent ≡ Err r → ⊥)
      → record_at (records_after who queries catalogue out replies) i ≡ served_from who (query_at queries i) catalogue lent
  pub zeros :
      (r : Refusal) → look_up_of (query_at queries i) catalogue lent ≡ Err r → record_at (records_after who queries catalogue out replies) i ≡ replicate record_bytes 0
  -- it is a whole query, so that it is never refused by 5
  pub size : length (query_at queries i) ≡ query_bytes

pub record EveryQuery (who : ℕ) (queries catalogue out replies : List ℕ) : Type 0 where
  pub alone : (i : ℕ) → i < queries_in queries → (lent : List ℕ) → length lent ≡ record_bytes → Alone who queries catalogue out replies i lent
  -- there are no other records and replies
  pub records_size : length (records_after who queries catalogue out replies) ≡ queries_in queries * record_bytes
  pub replies_size : length (replies_after queries catalogue out replies) ≡ queries_in queries

-- ---- the walk

-- k is the first of the first j records that is of the query
pub record FirstMatch (query catalogue : List ℕ) (j k : ℕ) : Type 0 where
  pub within : k < j
  pub matches : is_of query (record_at catalogue k) ≡ true
  pub before : (i : ℕ) → i < k → is_of query (record_at catalogue i) ≡ false

-- What stands in a query's part and reply when the walk has passed the first j records.
pub record HeldFor (who : ℕ) (query catalogue : List ℕ) (j : ℕ) (part : List ℕ) (reply : ℕ) : Type 0 where
  -- for one that passes its own checks the first match among them, exactly where there is one, and in its part that record as who asks sees it
  pub match_is : check_of query ≡ Ok tt → (k : ℕ) → reply ≡ 256 * (1 + k) → FirstMatch query catalogue j k
  pub is_match : check_of query ≡ Ok tt → (k : ℕ) → FirstMatch query catalogue j k → (reply ≡ 256 * (1 + k)) × (part ≡ seen_by who (record_at catalogue k))
  -- and none exactly where there is none
  pub none_is : check_of query ≡ Ok tt → reply ≡ 0 → (k : ℕ) → k < j → is_of query (record_at catalogue k) ≡ false
  pub is_none :
      check_of query ≡ Ok tt → ((k : ℕ) → k < j → is_of query (record_at catalogue k) ≡ false) → (reply ≡ 0) × (part ≡ replicate record_bytes 0)
  -- for any other its refusal
  pub refused : (r : Refusal) → check_of query ≡ Err r → (reply ≡ code_of (refusal r)) × (part ≡ replicate record_bytes 0)

-- So for every query of a batch. `walk_along` has this of running code, for every j.
abbrev pub Walked : (who : ℕ) (queries catalogue : List ℕ) (j : ℕ) (out replies : List ℕ) → Type 0
Walked who queries catalogue j out replies =
    (i : ℕ) → i < queries_in queries → HeldFor who (query_at queries i) catalogue j (record_at out i) (at replies i)

-- ---- the counts

-- Each query is counted once, by what it gets alone with any record lent; 24 is a refusal.
pub record Counted (queries catalogue out replies lent : List ℕ) : Type 0 where
  pub counts : Batch
  pub replied : look_up_batch_of queries catalogue out replies ≡ Ok counts
  pub found : counts.found ≡ sum_to (queries_in queries) (λ i. is_found (look_up_of (query_at queries i) catalogue lent))
  pub made : counts.made ≡ sum_to (queries_in queries) (λ i. is_made (look_up_of (query_at queries i) catalogue lent))
  pub refused : counts.refused ≡ sum_to (queries_in queries) (λ i. is_refused (look_up_of (query_at queries i) catalogue lent))
  pub all : counts.found + counts.made + counts.refused ≡ queries_in queries
  -- and so C reads them off the value, a byte each
  pub found_byte : counts_code_of (look_up_batch_answer queries catalogue out replies) / 256 % 256 ≡ counts.found
  pub made_byte : counts_code_of (look_up_batch_answer queries catalogue out replies) / 65536 % 256 ≡ counts.made
  pub refused_byte : counts_code_of (look_up_batch_answer queries catalogue out replies) / 16777216 ≡ counts.refused
  pub no_refusal : counts_code_of (look_up_batch_answer queries catalogue out replies) % 256 ≡ 0

-- ---- what holds of looking up

-- A batch looked up in two catalogues that differ at most in accession numbers.
pub record BatchAlike (queries c c' out replies : List ℕ) : Type 0 where
  -- the counts, the outcome and each query's reply are the same whoever asks, and so is the number that C gets
  pub reply : look_up_batch_of queries c out replies ≡ look_up_batch_of queries c' out replies
  pub code : counts_code_of (look_up_batch_answer queries c out replies) ≡ counts_code_of (look_up_batch_answer queries c' out replies)
  pub each : replies_after queries c out replies ≡ replies_after queries c' out replies
  -- and for a visitor every byte of the records
  pub visitor : (who : ℕ) → (who ≡ editor → ⊥) → records_after who queries c out replies ≡ records_after who queries c' out replies

-- The record of query i, from a catalogue made by this software: the one that is made of the query alone, with any record lent, but for its accession number,
-- to a visitor in every byte; and the register reported after any calls that take the query's terms.
pub record BatchSame (who : ℕ) (queries catalogue out replies : List ℕ) (i : ℕ) (lent : List ℕ) : Type 0 where
  pub not_refused : at (replies_after queries catalogue out replies) i % 256 ≡ 0
  pub reported :
      (calls : List Call) (a b : List ℕ) → taken (cell_at (query_at queries i) 0) calls ≡ terms_of (query_at queries i) → length a ≡ a_bytes → length b ≡ b_bytes
      → AgreesWith (cell_at (query_at queries i) 0) calls a b (record_at (records_after who queries catalogue out replies) i)
  pub body_made :
      body (record_at (records_after who queries catalogue out replies) i) ≡ body (filled (synthesize_of (query_at queries i) lent) (record_of (query_at queries i)) lent)
  pub visitor_made :
      (who ≡ editor → ⊥)
      → record_at (records_after who queries catalogue out replies) i ≡ filled (synthesize_of (query_at queries i) lent) (record_of (query_at queries i)) lent

-- For every batch, catalogue and buffers, and whoever asks; of each query and of the counts where the whole call is not refused.
pub record Batches (queries catalogue out replies : List ℕ) : Type 0 where
  pub outcomes : EveryOutcome queries catalogue out replies
  pub queries_alone : (who : ℕ) → outcome_of (look_up_batch_of queries catalogue out replies) ≡ Ok tt → EveryQuery who queries catalogue out replies
  pub walked : (who j : ℕ) (held told : List ℕ) → Holding who queries catalogue j held told → Walked who queries catalogue j held told
  pub counted :
      outcome_of (look_up_batch_of queries catalogue out replies) ≡ Ok tt → (lent : List ℕ) → length lent ≡ record_bytes → Counted queries catalogue out replies lent
  pub alike : (c' : List ℕ) → SameButNumbers catalogue c' → BatchAlike queries catalogue c' out replies
  pub same :
      (who : ℕ) → outcome_of (look_up_batch_of queries catalogue out replies) ≡ Ok tt → MadeCatalogue catalogue
      → (i : ℕ) → i < queries_in queries → check_of (query_at queries i) ≡ Ok tt → (lent : List ℕ) → length lent ≡ record_bytes
      → BatchSame who queries catalogue out replies i lent

unfoldable pub TheBatches : Type 0
TheBatches = (queries catalogue out replies : List ℕ) → Batches queries catalogue out replies
