-- Records and catalogues (the paper's shelf): the record made of a query, and what looking one up replies.
-- Assumes nothing.
use Rattle.std.specs.Prelude.{Bool, true, false, not, List, [], ◌∷◌, ◌++◌, ℕ, ◌*◌, ◌/◌, ◌%◌, ltb, eqb, length, take, drop, Option, Some, None, Ok, Err, Result, is_none}
use Rattle.lists.specs.Choice.{pick, both}
use Rattle.lists.specs.Search.{first}
use Rattle.cells.specs.Cell.{cell_at, bytes_of, equal}
use Rattle.sequence.specs.declared.Sequence.{Sequence}
use Rattle.sequence.specs.declared.Refusal.{Refusal}
use Rattle.sequence.specs.declared.Refusal.TheVariants as R
use Rattle.sequence.specs.Limits.{query_bytes, a_bytes, b_bytes}
use Rattle.sequence.specs.Answers.{Answer, granted, refused, refusal, first_of, Outcome, and_then}
use Rattle.sequence.specs.Rules.{sequence_of, check_of, query_refusals}
use Rattle.sequence.specs.Report.{register_of, a_buffer, b_buffer}
use Rattle.candidate.specs.Rules.{a_cells, b_cells, judge_of, Verdict}

-- a record: the query at 0, the length at 260, a at 262, b at 520, the accession number at 776; what stands before the number is its body
abbrev pub record_bytes : ℕ
record_bytes = 778

abbrev pub body_bytes : ℕ
body_bytes = 776

abbrev pub a_place : ℕ
a_place = 262

abbrev pub b_place : ℕ
b_place = 520

-- the length stands in this cell
abbrev pub length_cell : ℕ
length_cell = 130

abbrev pub body : List ℕ → List ℕ
body entry = take body_bytes entry

-- the accession number of a record just made
abbrev pub no_number : List ℕ
no_number = 0 ∷ 0 ∷ []

-- the body of the record of a sequence, behind the bytes of its query
unfoldable pub layout : List ℕ → Sequence → List ℕ
layout query s = query ++ (bytes_of ((register_of s).length ∷ []) ++ (a_buffer s ++ b_buffer s))

unfoldable pub record_of : List ℕ → List ℕ
record_of query = layout query (sequence_of query) ++ no_number

-- 5 (query, record), 1, 2, 3, 4, in this order
unfoldable pub synthesize_of : List ℕ → List ℕ → Outcome
synthesize_of query out = pick (eqb (length out) record_bytes) (check_of query) (Err R.Buffer)

unfoldable pub synthesize_answer : List ℕ → List ℕ → Answer
synthesize_answer query out = first_of ((not (eqb (length out) record_bytes), refused 5) ∷ query_refusals query) (granted [])

-- ---- looking up

-- the number of the record found, or none where one is made
abbrev pub LookedUp : Type 0
LookedUp = Result (Option ℕ) Refusal

-- a record found has its place as value, one made has none
abbrev pub looked_up_answer : LookedUp → Answer
looked_up_answer (Ok None) = granted []
looked_up_answer (Ok (Some i)) = granted (i ∷ [])
looked_up_answer (Err r) = refusal r

-- record i of a catalogue
abbrev pub record_at : List ℕ → ℕ → List ℕ
record_at catalogue i = take record_bytes (drop (i * record_bytes) catalogue)

abbrev pub records : List ℕ → ℕ
records catalogue = length catalogue / record_bytes

-- a record is of the query whose bytes are its first 260
unfoldable pub is_of : List ℕ → List ℕ → Bool
is_of query entry = equal query (take query_bytes entry)

-- the first of n records that is of the query; n where none is
unfoldable pub first_match : List ℕ → List ℕ → ℕ → ℕ
first_match query catalogue n = first n (λ i. is_of query (record_at catalogue i))

abbrev pub match_of : ℕ → ℕ → Option ℕ
match_of n i = pick (ltb i n) (Some i) None

abbrev pub is_yes : Verdict → Bool
is_yes (Ok place) = is_none place
is_yes (Err r) = false

-- the register in a record is a well-formed candidate that passes the test against the query's sequence
unfoldable pub passes : Sequence → List ℕ → Bool
passes s entry = is_yes (judge_of s (a_cells (take a_bytes (drop a_place entry))) (b_cells (take b_bytes (drop b_place entry))) (cell_at entry length_cell))

-- the first match alone decides: 24, or it is served
abbrev pub serve_of : Sequence → List ℕ → Option ℕ → LookedUp
serve_of s catalogue (Some i) = pick (passes s (record_at catalogue i)) (Ok (Some i)) (Err R.Record)
serve_of s catalogue None = Ok None

-- for a query that passed its checks: 23, 24, or found, or made
unfoldable pub fetch_of : List ℕ → List ℕ → LookedUp
fetch_of query catalogue =
    pick (eqb (length catalogue % record_bytes) 0)
    (serve_of (sequence_of query) catalogue (match_of (records catalogue) (first_match query catalogue (records catalogue))))
    (Err R.Catalogue)

-- 5 (query, record), 1, 2, 3, 4, 23, 24, in this order
unfoldable pub look_up_of : List ℕ → List ℕ → List ℕ → LookedUp
look_up_of query catalogue out = pick (eqb (length out) record_bytes) (and_then (check_of query) (fetch_of query catalogue)) (Err R.Buffer)

unfoldable pub look_up_answer : List ℕ → List ℕ → List ℕ → Answer
look_up_answer query catalogue out =
    let n = records catalogue in
    let i = first_match query catalogue n in
    first_of
    ((not (eqb (length out) record_bytes), refused 5)
    ∷ (query_refusals query
    ++ ((not (eqb (length catalogue % record_bytes) 0), refused 23)
    ∷ (both (ltb i n) (not (passes (sequence_of query) (record_at catalogue i))), refused 24)
    ∷ [])))
    (pick (ltb i n) (granted (i ∷ [])) (granted []))

-- who asks: this number is an editor, any other a visitor
abbrev pub editor : ℕ
editor = 1

-- a record as who asks sees it: an editor as it stands, a visitor with 0 for its number
abbrev pub seen_by : ℕ → List ℕ → List ℕ
seen_by who entry = pick (eqb who editor) entry (body entry ++ no_number)

-- the record at exit: the one found, as who asks sees it, the one made, or as lent
abbrev pub served_in : ℕ → LookedUp → List ℕ → List ℕ → List ℕ → List ℕ
served_in who (Ok (Some i)) query catalogue out = seen_by who (record_at catalogue i)
served_in who (Ok None) query catalogue out = record_of query
served_in who (Err r) query catalogue out = out
