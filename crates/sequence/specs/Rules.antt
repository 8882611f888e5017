-- What a sequence is (the paper's reading), what is wrong with one, and what opening one and pushing a term reply.
-- Assumes nothing.
use Rattle.std.specs.Prelude.{◌≡◌, Bool, true, false, not, List, [], ◌∷◌, ℕ, zero, ◌+◌, ◌≤◌, ◌<◌, ltb, leb, eqb, length, set, replicate, Result, Ok, Err}
use Rattle.lists.specs.Choice.{pick}
use Rattle.lists.specs.Table.{at, tabulate}
use Rattle.lists.specs.Search.{first, all}
use Rattle.cells.specs.Cell.{cell_at, cells_from, bytes_of}
use Rattle.sequence.specs.declared.Sequence.{Sequence}
use Rattle.sequence.specs.declared.Refusal.{Refusal}
use Rattle.sequence.specs.declared.Refusal.TheVariants as R
use Rattle.sequence.specs.declared.Opened.{Opened}
use Rattle.sequence.specs.declared.Checked.{Checked}
use Rattle.sequence.specs.Limits.{max_modulus, max_terms, query_bytes}
use Rattle.sequence.specs.Answers.{Answer, granted, refused, refused_at, first_of, Outcome, and_then}

-- ---- what is wrong with a sequence

abbrev pub outside : ℕ → Bool
outside m = pick (ltb m 2) true (ltb max_modulus m)

-- the first of n places whose term is not below m; n where there is none
abbrev pub first_large : ℕ → List ℕ → ℕ → ℕ
first_large m terms n = first n (λ i. leb m (at terms i))

-- each of the first n numbers from place k on is zero
abbrev pub zero_from : ℕ → ℕ → List ℕ → Bool
zero_from k n xs = all n (λ i. pick (ltb i k) true (eqb (at xs i) zero))

-- the first thing wrong, as the refusal of a query that writes the sequence down: 1, 2, 3 with the first such place, 4, in this order
unfoldable pub fault_of : Sequence → Outcome
fault_of s =
    pick (outside s.modulus) (Err R.Modulus)
    (pick (ltb max_terms s.count) (Err R.Count)
    (pick (ltb (first_large s.modulus s.terms s.count) s.count) (Err (R.Term (first_large s.modulus s.terms s.count)))
    (pick (zero_from s.count max_terms s.terms) (Ok tt) (Err R.Padding))))

abbrev pub is_sound : Outcome → Bool
is_sound (Ok _) = true
is_sound (Err r) = false

-- ---- opening, pushing

-- a sequence without terms
abbrev pub fresh : ℕ → Sequence
fresh m = record { modulus = m; count = 0; terms = replicate max_terms 0 }

-- 1 for a modulus outside the limits, and a sequence of zeros
unfoldable pub open_of : ℕ → Opened
open_of m = pick (outside m) (record { sequence = fresh 0; outcome = Err R.Modulus }) (record { sequence = fresh m; outcome = Ok tt })

-- the same by number; so below for each call
abbrev pub open_answer : ℕ → Answer
open_answer m = first_of ((outside m, refused 1) ∷ []) (granted [])

-- the sequence after a push, and its reply
pub record Pushed : Type 0 where
  pub sequence : Sequence
  pub outcome : Outcome

-- the sequence with one term more
abbrev pub longer : Sequence → ℕ → Sequence
longer s t = record { modulus = s.modulus; count = s.count + 1; terms = set s.terms s.count t }

-- 21, 22, 3 with the count, in this order, and the sequence as it came
unfoldable pub push_of : Sequence → ℕ → Pushed
push_of s t =
    pick (is_sound (fault_of s))
    (pick (eqb s.count max_terms) (record { sequence = s; outcome = Err R.Full })
    (pick (leb s.modulus t) (record { sequence = s; outcome = Err (R.Term s.count) }) (record { sequence = longer s t; outcome = Ok tt })))
    (record { sequence = s; outcome = Err R.Sequence })

abbrev pub push_answer : Sequence → ℕ → Answer
push_answer s t =
    first_of
    ((not (is_sound (fault_of s)), refused 21)
    ∷ (eqb s.count max_terms, refused 22)
    ∷ (leb s.modulus t, refused_at 3 s.count)
    ∷ [])
    (granted [])

-- ---- queries

-- the query of these terms
abbrev pub query_of : ℕ → List ℕ → List ℕ
query_of m ts = bytes_of (m ∷ length ts ∷ tabulate max_terms (at ts))

-- the sequence that a query writes down: modulus, count, terms
unfoldable pub sequence_of : List ℕ → Sequence
sequence_of query = record { modulus = cell_at query 0; count = cell_at query 1; terms = cells_from query 2 max_terms }

-- the first refusal of a query among 5, 1, 2, 3, 4
unfoldable pub check_of : List ℕ → Outcome
check_of query = pick (eqb (length query) query_bytes) (fault_of (sequence_of query)) (Err R.Buffer)

-- the sequence of a query that has no refusal, or the refusal
unfoldable pub accepted_of : List ℕ → Result Sequence Refusal
accepted_of query = and_then (check_of query) (Ok (sequence_of query))

-- the sequence that any query writes down; one of another length writes none down: zeros
abbrev pub loaded_of : List ℕ → Sequence
loaded_of query = pick (eqb (length query) query_bytes) (sequence_of query) (fresh 0)

-- the sequence of a query with its refusal
unfoldable pub checked_of : List ℕ → Checked
checked_of query = record { sequence = loaded_of query; outcome = check_of query }

-- the refusals of a query by number, for the calls that are handed one
abbrev pub query_refusals : List ℕ → List (Bool × Answer)
query_refusals query =
    let s = sequence_of query in
    let i = first_large s.modulus s.terms s.count in
    (not (eqb (length query) query_bytes), refused 5)
    ∷ (outside s.modulus, refused 1)
    ∷ (ltb max_terms s.count, refused 2)
    ∷ (ltb i s.count, refused_at 3 i)
    ∷ (not (zero_from s.count max_terms s.terms), refused 4)
    ∷ []

-- a sequence within the limits
pub record IsSound (s : Sequence) : Type 0 where
  pub least : 2 ≤ s.modulus
  pub most : s.modulus ≤ max_modulus
  pub count : s.count ≤ max_terms
  pub below : (j : ℕ) → j < s.count → at s.terms j < s.modulus
  pub zeros : (j : ℕ) → s.count ≤ j → j < max_terms → at s.terms j ≡ zero
