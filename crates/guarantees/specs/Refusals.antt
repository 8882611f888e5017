-- The claims about the places that refusals carry, and about 3, 25, 6, 26 and 24: a query's first wrong term, and what is wrong with a candidate.
-- Assumes nothing.
use Rattle.std.specs.Prelude.{◌≡◌, ◌⊎◌, List, ℕ, zero, suc, ◌+◌, ◌*◌, ◌/◌, ◌%◌, ◌^◌, ◌≤◌, ◌<◌, length, take, drop, None, Ok, Err}
use Rattle.lists.specs.Table.{at}
use Rattle.cells.specs.Cell.{cell_at}
use Rattle.sequence.specs.declared.Sequence.{Sequence}
use Rattle.sequence.specs.declared.Refusal.{Refusal}
use Rattle.sequence.specs.declared.Refusal.TheVariants as R
use Rattle.sequence.specs.Limits.{max_modulus, max_terms, query_bytes, a_bytes, b_bytes}
use Rattle.sequence.specs.Answers.{refused, refused_at, refusal}
use Rattle.sequence.specs.Rules.{IsSound, open_of, push_of, check_of}
use Rattle.candidate.specs.Rules.{a_cells, b_cells, Fits, IsFine, verify_of, generate_of, Verdict}
use Rattle.catalogue.specs.Rules.{record_bytes, a_place, b_place, length_cell, records, record_at, first_match, synthesize_of, look_up_of}
use Rattle.codes.specs.Codes.{last_place, code_of}
use Rattle.guarantees.specs.Calls.{Call, after_all, taken}

-- ---- the place that a refusal carries

-- 3, 27, 28 and 31 carry one place, and no other refusal carries any
pub record PlacesCarried : Type 0 where
  pub term : (i : ℕ) → refusal (R.Term i) ≡ refused_at 3 i
  pub form : (i : ℕ) → refusal (R.LineForm i) ≡ refused_at 27 i
  pub range : (i : ℕ) → refusal (R.LineRange i) ≡ refused_at 28 i
  pub disagree : (i : ℕ) → refusal (R.TermsDisagree i) ≡ refused_at 31 i
  pub plain : (r : Refusal) → ((refusal r).number ≡ 3 → ⊥) → ((refusal r).number ≡ 27 → ⊥) → ((refusal r).number ≡ 28 → ⊥) → ((refusal r).number ≡ 31 → ⊥)
      → refusal r ≡ refused (refusal r).number
  -- it is the value that C gets, up to the last that fits there, 2^56 - 1; past it that one
  pub last : last_place + 1 ≡ 2 ^ 56
  pub placed_code : (n i : ℕ) → i ≤ last_place → code_of (refused_at (suc n) i) ≡ suc n + 256 * i
  pub last_code : (n i : ℕ) → last_place ≤ i → code_of (refused_at (suc n) i) ≡ suc n + 256 * last_place
  pub plain_code : (n : ℕ) → code_of (refused n) ≡ n

-- ---- where a query is wrong

-- none of the query's own 5, 1, 2 applies
pub record Readable (query : List ℕ) : Type 0 where
  pub size : length query ≡ query_bytes
  pub least : 2 ≤ cell_at query 0
  pub most : cell_at query 0 ≤ max_modulus
  pub count : cell_at query 1 ≤ max_terms

-- place i is among the query's terms, and its term is not below the modulus
pub record WrongAt (query : List ℕ) (i : ℕ) : Type 0 where
  pub within : i < cell_at query 1
  pub large : cell_at query 0 ≤ cell_at query (2 + i)

-- it is the first such place: each term before it is below the modulus
pub record FirstWrong (query : List ℕ) (i : ℕ) : Type 0 where
  pub wrong : WrongAt query i
  pub before : (j : ℕ) → j < i → cell_at query (2 + j) < cell_at query 0

-- none of the query's own refusals applies: its terms are below the modulus, and what is past them is zero
pub record Clean (query : List ℕ) : Type 0 where
  pub readable : Readable query
  pub below : (i : ℕ) → i < cell_at query 1 → cell_at query (2 + i) < cell_at query 0
  pub zeros : (i : ℕ) → cell_at query 1 ≤ i → i < max_terms → cell_at query (2 + i) ≡ zero

-- The reply to a query, where `refused` makes one of a refusal and `lent` says that the other buffers have their lengths: none of 5.
pub record Placed {A : Type 0} (refused : Refusal → A) (reply : A) (lent : Type 0) (query : List ℕ) : Type 0 where
  -- it is 3 at place i exactly when none of 5, 1, 2 applies and i is the first wrong place
  pub told_first : (i : ℕ) → reply ≡ refused (R.Term i) → lent × Readable query × FirstWrong query i
  pub first_told : (i : ℕ) → lent → Readable query → FirstWrong query i → reply ≡ refused (R.Term i)
  -- and it is 3 whenever none of them applies and some term is wrong
  pub wrong_told : (j : ℕ) → lent → Readable query → WrongAt query j → (i : ℕ) × (reply ≡ refused (R.Term i))

-- a push of t to the sequence s, which is sound and has n terms modulo m: 3 at place n exactly when there is room and t is not below m
pub record PushPlaced (m n : ℕ) (s : Sequence) (t : ℕ) : Type 0 where
  pub told_large : (i : ℕ) → (push_of s t).outcome ≡ Err (R.Term i) → (n < max_terms) × (m ≤ t) × (i ≡ n)
  pub large_told : n < max_terms → m ≤ t → (push_of s t).outcome ≡ Err (R.Term n)

-- every call that replies 3, but for a column, of which Columns says it, a merger, of which Merging does, and a period, of which Periods does; and a query that is clean passes its checks, which is what the claims about records and about testing ask
pub record EveryPlace : Type 0 where
  pub passed_clean : (query : List ℕ) → check_of query ≡ Ok tt → Clean query
  pub clean_passed : (query : List ℕ) → Clean query → check_of query ≡ Ok tt
  -- the check itself, which every call that is handed a query passes on
  pub checked : (query : List ℕ) → Placed Err (check_of query) (Unit {0}) query
  pub synthesized : (query out : List ℕ) → Placed Err (synthesize_of query out) (length out ≡ record_bytes) query
  pub looked_up : (query catalogue out : List ℕ) → Placed Err (look_up_of query catalogue out) (length out ≡ record_bytes) query
  pub verified : (query a b : List ℕ) (l : ℕ) → Placed Err (verify_of query a b l) ((length a ≡ a_bytes) × (length b ≡ b_bytes)) query
  -- a push to a sound sequence; one to another never gets 3
  pub pushed : (s : Sequence) (t : ℕ) → IsSound s → PushPlaced s.modulus s.count s t
  pub pushed_sound : (s : Sequence) (t i : ℕ) → (push_of s t).outcome ≡ Err (R.Term i) → IsSound s
  -- after every list of calls the place is the number of terms taken
  pub pushed_after :
      (m : ℕ) → 2 ≤ m → m ≤ max_modulus → (calls : List Call) (t : ℕ) → PushPlaced m (length (taken m calls)) (after_all (open_of m).sequence calls) t

-- ---- what is wrong with a candidate

-- one of the three refusals
abbrev pub OneOfThree : {A : Type 0} → (Refusal → A) → A → Type 0
OneOfThree refused reply = (reply ≡ refused R.CandidateLength) ⊎ ((reply ≡ refused R.CandidateCoefficient) ⊎ (reply ≡ refused R.CandidateLead))

-- The reply to a candidate of length l modulo m, where `refused` makes one of a refusal and `reached` says that no refusal before 25 applies.
pub record Flawed {A : Type 0} (refused : Refusal → A) (reply : A) (reached : Type 0) (m l : ℕ) (a b : List ℕ) : Type 0 where
  -- 25 exactly when the length is above 128
  pub told_long : reply ≡ refused R.CandidateLength → reached × (max_terms < l)
  pub long_told : reached → max_terms < l → reply ≡ refused R.CandidateLength
  -- 6 exactly when it is not, and a coefficient is not below m or not zero past its end
  pub told_coefficient : reply ≡ refused R.CandidateCoefficient → reached × (l ≤ max_terms) × (Fits m l a b → ⊥)
  pub coefficient_told : reached → l ≤ max_terms → (Fits m l a b → ⊥) → reply ≡ refused R.CandidateCoefficient
  -- 26 exactly when neither is so and a_0 is not 1
  pub told_lead : reply ≡ refused R.CandidateLead → reached × (l ≤ max_terms) × Fits m l a b × (at a 0 ≡ 1 → ⊥)
  pub lead_told : reached → l ≤ max_terms → Fits m l a b → (at a 0 ≡ 1 → ⊥) → reply ≡ refused R.CandidateLead
  -- one of the three exactly when the candidate is malformed: when 6 was given before there were three
  pub told_malformed : OneOfThree refused reply → reached × (IsFine m l a b → ⊥)
  pub malformed_told : reached → (IsFine m l a b → ⊥) → OneOfThree refused reply

-- no refusal of a run before 25 applies
pub record Runs (m : ℕ) (a b cells : List ℕ) : Type 0 where
  pub a_size : length a ≡ a_bytes
  pub b_size : length b ≡ b_bytes
  pub even : length cells % 2 ≡ zero
  pub least : 2 ≤ m
  pub most : m ≤ max_modulus
  pub count : length cells / 2 ≤ max_terms

-- looking up meets record i: no refusal before 24 applies, and record i is the first with this query
pub record MeetsAt (query catalogue out : List ℕ) (i : ℕ) : Type 0 where
  pub out_size : length out ≡ record_bytes
  pub clean : Clean query
  pub whole : length catalogue % record_bytes ≡ zero
  pub match : first_match query catalogue (records catalogue) ≡ i
  pub within : i < records catalogue

-- what testing the register in record i against the query replies
abbrev pub test_at : List ℕ → List ℕ → ℕ → Verdict
test_at query catalogue i =
    let entry = record_at catalogue i in
    verify_of query (take a_bytes (drop a_place entry)) (take b_bytes (drop b_place entry)) (cell_at entry length_cell)

pub record EveryFlaw : Type 0 where
  -- the calls that are handed a candidate
  pub verified :
      (query a b : List ℕ) (l : ℕ)
      → Flawed Err (verify_of query a b l) ((length a ≡ a_bytes) × (length b ≡ b_bytes) × Clean query) (cell_at query 0) l (a_cells a) (b_cells b)
  pub generated : (m : ℕ) (a b : List ℕ) (l : ℕ) (cells : List ℕ) → Flawed Err (generate_of m a b l cells) (Runs m a b cells) m l (a_cells a) (b_cells b)
  -- looking up gives 24 exactly when it meets a record whose test does not say yes
  pub told_24 :
      (query catalogue out : List ℕ) → look_up_of query catalogue out ≡ Err R.Record
      → (i : ℕ) × (MeetsAt query catalogue out i × (test_at query catalogue i ≡ Ok None → ⊥))
  pub is_24 :
      (query catalogue out : List ℕ) (i : ℕ) → MeetsAt query catalogue out i → (test_at query catalogue i ≡ Ok None → ⊥)
      → look_up_of query catalogue out ≡ Err R.Record
  -- so 24 covers all three, and none of them is passed on
  pub covered :
      (query catalogue out : List ℕ) (i : ℕ) → MeetsAt query catalogue out i → OneOfThree Err (test_at query catalogue i)
      → look_up_of query catalogue out ≡ Err R.Record
  pub never : (query catalogue out : List ℕ) → OneOfThree Err (look_up_of query catalogue out) → ⊥
