-- What the functions inside do at each record and after the last, for their contracts. No claim speaks of it.
-- Assumes nothing.
use Rattle.std.specs.Prelude.{◌≡◌, Bool, not, List, ℕ, ◌+◌, ◌*◌, ◌%◌, ◌<◌, eqb, length, count_by, Ok, Err}
use Rattle.lists.specs.Choice.{pick, both}
use Rattle.lists.specs.Table.{at}
use Rattle.sequence.specs.declared.Sequence.{Sequence}
use Rattle.sequence.specs.declared.Refusal.TheVariants as R
use Rattle.sequence.specs.Answers.{outcome_answer, refusal, Outcome}
use Rattle.sequence.specs.Rules.{sequence_of, check_of}
use Rattle.catalogue.specs.Word.{word_of}
use Rattle.catalogue.specs.Rules.{record_of, record_at, is_of, passes, seen_by}
use Rattle.codes.specs.Codes.{code_of}
use Rattle.batch.specs.declared.Batch.{Batch}
use Rattle.batch.specs.Rules.{query_at, queries_in, zero_record, alone_of, part_of, reply_code}
use Rattle.batch.specs.Walk.{Standing}

-- in the end each query has what it gets alone
abbrev pub Answered : (who : ℕ) (queries catalogue out replies : List ℕ) → Type 0
Answered who queries catalogue =
    Standing (queries_in queries)
    (λ i. part_of who (query_at queries i) catalogue)
    (λ i. reply_code (alone_of (query_at queries i) catalogue))

-- the reply to a query before the walk: its refusal, or 0, which says that it looks
abbrev pub check_code : List ℕ → ℕ
check_code query = code_of (outcome_answer (check_of query))

-- ---- at record j

-- a query takes a record that is offered if it still looks and the record is its own
abbrev pub takes : (query entry : List ℕ) (reply : ℕ) → Bool
takes query entry reply = both (eqb reply 0) (is_of query entry)

abbrev pub offered_part : (who : ℕ) (query entry part : List ℕ) (reply : ℕ) → List ℕ
offered_part who query entry part reply = pick (takes query entry reply) (seen_by who entry) part

abbrev pub offered_code : (query entry : List ℕ) (j reply : ℕ) → ℕ
offered_code query entry j reply = pick (takes query entry reply) (256 * (1 + j)) reply

-- record j was offered to every query
abbrev pub Offered : (who : ℕ) (queries entry : List ℕ) (j : ℕ) (out replies out' replies' : List ℕ) → Type 0
Offered who queries entry j out replies =
    Standing (queries_in queries)
    (λ i. offered_part who (query_at queries i) entry (record_at out i) (at replies i))
    (λ i. offered_code (query_at queries i) entry j (at replies i))

-- A record that no query can take is passed by. Of 4,099 slots those are marked in which the first four terms of a query fall, as one number. (A prime by
-- which machines divide in few steps; 16 marks in so many let four of a thousand other records through to the full test.)
abbrev pub slots : ℕ
slots = 4099

abbrev pub slot_of : List ℕ → ℕ
slot_of entry = word_of entry % slots

-- the first n queries are marked
pub record Marked (queries marks : List ℕ) (n : ℕ) : Type 0 where
  pub places : length marks ≡ slots
  pub marked : (i : ℕ) → i < n → at marks (slot_of (query_at queries i)) ≡ 1

-- ---- after the last record

-- A query that passed its checks: the record is made if it met none; the one that it met is tested in its part, and gives way to zeros with 24.
abbrev pub tested_part : (query : List ℕ) (s : Sequence) (part : List ℕ) (reply : ℕ) → List ℕ
tested_part query s part reply = pick (eqb reply 0) (record_of query) (pick (passes s part) part zero_record)

abbrev pub tested_code : (s : Sequence) (part : List ℕ) (reply : ℕ) → ℕ
tested_code s part reply = pick (eqb reply 0) 0 (pick (passes s part) reply (code_of (refusal R.Record)))

-- one that did not keeps its zeros and its refusal
abbrev pub settled_part : (checks : Outcome) (query part : List ℕ) (reply : ℕ) → List ℕ
settled_part (Ok _) query part reply = tested_part query (sequence_of query) part reply
settled_part (Err r) query part reply = part

abbrev pub settled_code : (checks : Outcome) (query part : List ℕ) (reply : ℕ) → ℕ
settled_code (Ok _) query part reply = tested_code (sequence_of query) part reply
settled_code (Err r) query part reply = reply

abbrev pub Settled : (queries out replies out' replies' : List ℕ) → Type 0
Settled queries out replies =
    Standing (queries_in queries)
    (λ i. settled_part (check_of (query_at queries i)) (query_at queries i) (record_at out i) (at replies i))
    (λ i. settled_code (check_of (query_at queries i)) (query_at queries i) (record_at out i) (at replies i))

-- ---- counting the replies

-- what a reply says that is one number
abbrev pub says_found : ℕ → Bool
says_found reply = both (not (eqb reply 0)) (eqb (reply % 256) 0)

abbrev pub says_made : ℕ → Bool
says_made reply = eqb reply 0

abbrev pub says_refused : ℕ → Bool
says_refused reply = not (eqb (reply % 256) 0)

-- how many of the replies say so
abbrev pub tally_of : List ℕ → Batch
tally_of replies = record { found = count_by says_found replies; made = count_by says_made replies; refused = count_by says_refused replies }
