-- A batch (the paper's bundle): queries that are looked up in one walk along a catalogue. What the call replies, and every lent buffer at exit.
-- Assumes nothing.
use Rattle.std.specs.Prelude.{Bool, not, List, [], ◌∷◌, ◌++◌, ℕ, zero, suc, ◌*◌, ◌/◌, ◌%◌, ltb, eqb, length, take, drop, replicate, Some, None, Ok, Err, Result}
use Rattle.lists.specs.Choice.{pick, both}
use Rattle.lists.specs.Sum.{sum_to}
use Rattle.lists.specs.Table.{tabulate}
use Rattle.sequence.specs.declared.Refusal.{Refusal}
use Rattle.sequence.specs.declared.Refusal.TheVariants as R
use Rattle.sequence.specs.Limits.{query_bytes}
use Rattle.sequence.specs.Answers.{Answer, granted, refused, refusal, first_of, Outcome}
use Rattle.sequence.specs.Report.{filled}
use Rattle.catalogue.specs.Rules.{record_bytes, looked_up_answer, look_up_of, served_in, LookedUp}
use Rattle.codes.specs.Codes.{code_of}
use Rattle.batch.specs.declared.Batch.{Batch}

-- no batch holds more queries
abbrev pub max_queries : ℕ
max_queries = 16

-- query i of a batch, and how many it holds
abbrev pub query_at : List ℕ → ℕ → List ℕ
query_at queries i = take query_bytes (drop (i * query_bytes) queries)

abbrev pub queries_in : List ℕ → ℕ
queries_in queries = length queries / query_bytes

-- ---- each query

-- the part of a query that is refused
unfoldable pub zero_record : List ℕ
zero_record = replicate record_bytes 0

-- what a query gets alone, looked up with a record of zeros lent: the reply, and the part, which a refusal leaves zero
unfoldable pub alone_of : List ℕ → List ℕ → LookedUp
alone_of query catalogue = look_up_of query catalogue zero_record

unfoldable pub part_of : ℕ → List ℕ → List ℕ → List ℕ
part_of who query catalogue = served_in who (alone_of query catalogue) query catalogue zero_record

-- a reply as one number, the one that C gets from looking up
abbrev pub reply_code : LookedUp → ℕ
reply_code t = code_of (looked_up_answer t)

-- ---- how many were found, made and refused

abbrev pub is_found : LookedUp → ℕ
is_found (Ok (Some i)) = 1
is_found (Ok None) = 0
is_found (Err r) = 0

abbrev pub is_made : LookedUp → ℕ
is_made (Ok (Some i)) = 0
is_made (Ok None) = 1
is_made (Err r) = 0

abbrev pub is_refused : LookedUp → ℕ
is_refused (Ok (Some i)) = 0
is_refused (Ok None) = 0
is_refused (Err r) = 1

-- how many queries get a reply of a kind
unfoldable pub count_kind : (LookedUp → ℕ) → List ℕ → List ℕ → ℕ
count_kind kind queries catalogue = sum_to (queries_in queries) (λ i. kind (alone_of (query_at queries i) catalogue))

-- ---- the whole call

-- the lengths fit: whole queries, 778 bytes for each, and a reply for each
abbrev pub lengths_fit : ℕ → ℕ → ℕ → Bool
lengths_fit queries out replies =
    both (eqb (queries % query_bytes) 0) (both (eqb out (queries / query_bytes * record_bytes)) (eqb replies (queries / query_bytes)))

-- 5, 34, 23, in this order, by what is wrong
abbrev pub refused_by : (misfit many uneven : Bool) → Outcome
refused_by misfit many uneven = pick misfit (Err R.Buffer) (pick many (Err R.Batch) (pick uneven (Err R.Catalogue) (Ok tt)))

unfoldable pub refused_whole : (queries catalogue out replies : ℕ) → Outcome
refused_whole queries catalogue out replies =
    refused_by (not (lengths_fit queries out replies)) (ltb max_queries (queries / query_bytes)) (not (eqb (catalogue % record_bytes) 0))

-- the counts, or the refusal
abbrev pub reply_by : Outcome → (found made refused : ℕ) → Result Batch Refusal
reply_by (Ok _) found made refused = Ok (record { found = found; made = made; refused = refused })
reply_by (Err r) found made refused = Err r

-- a reply without the counts
abbrev pub outcome_of : Result Batch Refusal → Outcome
outcome_of (Ok b) = Ok tt
outcome_of (Err r) = Err r

unfoldable pub look_up_batch_of : (queries catalogue out replies : List ℕ) → Result Batch Refusal
look_up_batch_of queries catalogue out replies =
    reply_by (refused_whole (length queries) (length catalogue) (length out) (length replies)) (count_kind is_found queries catalogue)
    (count_kind is_made queries catalogue)
    (count_kind is_refused queries catalogue)

-- the reply by number: the three counts as values
abbrev pub batch_answer : Result Batch Refusal → Answer
batch_answer (Ok b) = granted (b.found ∷ b.made ∷ b.refused ∷ [])
batch_answer (Err r) = refusal r

unfoldable pub look_up_batch_answer : (queries catalogue out replies : List ℕ) → Answer
look_up_batch_answer queries catalogue out replies =
    first_of
    ((not (lengths_fit (length queries) (length out) (length replies)), refused 5)
    ∷ (ltb max_queries (queries_in queries), refused 34)
    ∷ (not (eqb (length catalogue % record_bytes) 0), refused 23)
    ∷ [])
    (granted (count_kind is_found queries catalogue ∷ count_kind is_made queries catalogue ∷ count_kind is_refused queries catalogue ∷ []))

-- f 0, f 1, .., f (n - 1), end to end
unfoldable pub end_to_end : ℕ → (ℕ → List ℕ) → List ℕ
end_to_end zero f = []
end_to_end (suc n) f = f zero ++ end_to_end n (λ i. f (suc i))

-- the records at exit, and the replies: each is what its query gets alone; where the whole call is refused, as lent
abbrev pub parts_in : ℕ → Result Batch Refusal → (queries catalogue out : List ℕ) → List ℕ
parts_in who b queries catalogue out = filled b (end_to_end (queries_in queries) (λ i. part_of who (query_at queries i) catalogue)) out

abbrev pub replies_in : Result Batch Refusal → (queries catalogue replies : List ℕ) → List ℕ
replies_in b queries catalogue replies =
    filled b (tabulate (queries_in queries) (λ i. reply_code (alone_of (query_at queries i) catalogue))) replies
