-- The claims about two queries that are merged: when each refusal is given, what stands in the merged query, and the least lengths that the calls show
-- for the three.
-- Assumes nothing.
use Rattle.std.specs.Prelude.{◌≡◌, ◌⊎◌, List, ℕ, zero, ◌+◌, ◌%◌, ◌≤◌, ◌<◌, max, length, Ok, Err}
use Rattle.lists.specs.Table.{at}
use Rattle.cells.specs.Cell.{cell_at}
use Rattle.recurrence.specs.Least.{Least}
use Rattle.sequence.specs.declared.Refusal.{Refusal}
use Rattle.sequence.specs.declared.Refusal.TheVariants as R
use Rattle.sequence.specs.Limits.{max_modulus, query_bytes, profile_bytes}
use Rattle.sequence.specs.Answers.{outcome_answer, Outcome}
use Rattle.sequence.specs.Rules.{check_of}
use Rattle.catalogue.specs.Rules.{record_bytes}
use Rattle.merge.specs.Rules.{merge_of, merge_answer, merged_in}
use Rattle.guarantees.specs.Calls.{Call, taken}
use Rattle.guarantees.specs.Claims.{terms_of, profile_cell, length_made}
use Rattle.guarantees.specs.Refusals.{Readable, FirstWrong, Clean}

-- ---- the words of the request

-- g is the greatest common divisor of a and b, m their least common multiple
pub record GreatestDivisor (a b g : ℕ) : Type 0 where
  pub left : a % g ≡ zero
  pub right : b % g ≡ zero
  pub most : (d : ℕ) → a % d ≡ zero → b % d ≡ zero → d ≤ g

pub record LeastMultiple (a b m : ℕ) : Type 0 where
  pub positive : zero < m
  pub left : m % a ≡ zero
  pub right : m % b ≡ zero
  pub least : (c : ℕ) → zero < c → c % a ≡ zero → c % b ≡ zero → m ≤ c

-- v leaves the terms of both queries at place i
pub record LeavesBoth (x y : List ℕ) (i v : ℕ) : Type 0 where
  pub first : v % cell_at x 0 ≡ cell_at x (2 + i)
  pub second : v % cell_at y 0 ≡ cell_at y (2 + i)

-- the terms at place i agree modulo g
abbrev pub AgreeAt : List ℕ → List ℕ → ℕ → ℕ → Type 0
AgreeAt x y g i = cell_at x (2 + i) % g ≡ cell_at y (2 + i) % g

-- ---- when each refusal is given

-- neither 5 nor a refusal of their own keeps the queries from being held against each other
pub record Comparable (x y query : List ℕ) : Type 0 where
  pub first : Clean x
  pub second : Clean y
  pub buffer : length query ≡ query_bytes

-- The reason of a reply: for each reply the condition under which it is given.
pub data Reason (x y query : List ℕ) (o : Outcome) : Type 0 where
  -- 5: one of the three buffers has another length
  first_buffer : (length x ≡ query_bytes → ⊥) → o ≡ Err R.Buffer → Reason x y query o
  second_buffer : (length y ≡ query_bytes → ⊥) → o ≡ Err R.Buffer → Reason x y query o
  query_buffer : (length query ≡ query_bytes → ⊥) → o ≡ Err R.Buffer → Reason x y query o
  -- 1, 2, 3 or 4: what the first query's own check refuses, then the second's where the first is clean
  first_own : (r : Refusal) → length x ≡ query_bytes → length y ≡ query_bytes → length query ≡ query_bytes → check_of x ≡ Err r → o ≡ Err r → Reason x y query o
  second_own : (r : Refusal) → Clean x → length y ≡ query_bytes → length query ≡ query_bytes → check_of y ≡ Err r → o ≡ Err r → Reason x y query o
  -- 29, 30, 31
  counts : Comparable x y query → (cell_at x 1 ≡ cell_at y 1 → ⊥) → o ≡ Err R.CountsDiffer → Reason x y query o
  multiple : (m : ℕ) → Comparable x y query → cell_at x 1 ≡ cell_at y 1 → LeastMultiple (cell_at x 0) (cell_at y 0) m → max_modulus < m → o ≡ Err R.MultipleAbove → Reason x y query o
  terms :
      (m g i : ℕ) → Comparable x y query → cell_at x 1 ≡ cell_at y 1 → LeastMultiple (cell_at x 0) (cell_at y 0) m → m ≤ max_modulus → GreatestDivisor (cell_at x 0) (cell_at y 0) g
      → i < cell_at x 1 → (AgreeAt x y g i → ⊥) → ((j : ℕ) → j < i → AgreeAt x y g j) → o ≡ Err (R.TermsDisagree i) → Reason x y query o
  done :
      (m g : ℕ) → Comparable x y query → cell_at x 1 ≡ cell_at y 1 → LeastMultiple (cell_at x 0) (cell_at y 0) m → m ≤ max_modulus → GreatestDivisor (cell_at x 0) (cell_at y 0) g
      → ((j : ℕ) → j < cell_at x 1 → AgreeAt x y g j) → o ≡ Ok tt → Reason x y query o

-- ---- the merged query

-- some calls take the terms of a query
abbrev pub Takes : List Call → List ℕ → Type 0
Takes calls query = taken (cell_at query 0) calls ≡ terms_of query

-- What a merger of the queries x and y leaves in the buffer z.
pub record IsMerged (x y z : List ℕ) : Type 0 where
  -- it meets no refusal of its own; its modulus is the least common multiple, its count theirs
  pub passes : check_of z ≡ Ok tt
  pub clean : Clean z
  pub modulus : LeastMultiple (cell_at x 0) (cell_at y 0) (cell_at z 0)
  pub first_count : cell_at z 1 ≡ cell_at x 1
  pub second_count : cell_at z 1 ≡ cell_at y 1
  -- each of its terms is the one number below its modulus that leaves both
  pub leaves : (i : ℕ) → i < cell_at z 1 → LeavesBoth x y i (cell_at z (2 + i))
  pub only : (i v : ℕ) → i < cell_at z 1 → v < cell_at z 0 → LeavesBoth x y i v → v ≡ cell_at z (2 + i)
  -- for every k the least length is the larger of the two
  pub least :
      (k l l' : ℕ) → k ≤ cell_at z 1 → Least (cell_at x 0) (at (terms_of x)) k l → Least (cell_at y 0) (at (terms_of y)) k l'
      → Least (cell_at z 0) (at (terms_of z)) k (max l l')
  -- so each cell of its profile is the larger of theirs, after any calls that take the terms of the three
  pub profiles :
      (calls_x calls_y calls_z : List Call) (cells_x cells_y cells_z : List ℕ) → Takes calls_x x → Takes calls_y y → Takes calls_z z → length cells_x ≡ profile_bytes
      → length cells_y ≡ profile_bytes → length cells_z ≡ profile_bytes → (k : ℕ) → k ≤ cell_at z 1
      → profile_cell (cell_at z 0) calls_z cells_z k ≡ max (profile_cell (cell_at x 0) calls_x cells_x k) (profile_cell (cell_at y 0) calls_y cells_y k)
  -- and so is the length in its record
  pub lengths :
      (out_x out_y out_z : List ℕ) → length out_x ≡ record_bytes → length out_y ≡ record_bytes → length out_z ≡ record_bytes
      → length_made z out_z ≡ max (length_made x out_x) (length_made y out_y)

-- the query buffer after the call
abbrev pub merged_exit : List ℕ → List ℕ → List ℕ → List ℕ
merged_exit x y query = merged_in (merge_of x y query) x y query

pub record Merges (x y query : List ℕ) : Type 0 where
  -- what is replied has its reason, and what has a reason is replied
  pub reason : Reason x y query (merge_of x y query)
  pub exactly : (o : Outcome) → Reason x y query o → merge_of x y query ≡ o
  -- 3 has the first wrong place of the first query, or, where that is clean, of the second; and back
  pub wrong_term : (i : ℕ) → merge_of x y query ≡ Err (R.Term i) → (Readable x × FirstWrong x i) ⊎ (Clean x × Readable y × FirstWrong y i)
  pub first_wrong : (i : ℕ) → Readable x → FirstWrong x i → length y ≡ query_bytes → length query ≡ query_bytes → merge_of x y query ≡ Err (R.Term i)
  pub second_wrong : (i : ℕ) → Clean x → Readable y → FirstWrong y i → length query ≡ query_bytes → merge_of x y query ≡ Err (R.Term i)
  -- 31 is given exactly where no number leaves both terms, at the first such place
  pub apart_none : (i : ℕ) → merge_of x y query ≡ Err (R.TermsDisagree i) → (v : ℕ) → LeavesBoth x y i v → ⊥
  pub apart_first : (i : ℕ) → merge_of x y query ≡ Err (R.TermsDisagree i) → (j : ℕ) → j < i → (v : ℕ) × LeavesBoth x y j v
  pub none_apart :
      (m i : ℕ) → Comparable x y query → cell_at x 1 ≡ cell_at y 1 → LeastMultiple (cell_at x 0) (cell_at y 0) m → m ≤ max_modulus → i < cell_at x 1
      → ((v : ℕ) → LeavesBoth x y i v → ⊥) → ((j : ℕ) → j < i → (v : ℕ) × LeavesBoth x y j v) → merge_of x y query ≡ Err (R.TermsDisagree i)
  -- by number it is the answer that the calls promise, for C too
  pub by_number : outcome_answer (merge_of x y query) ≡ merge_answer x y query
  -- on a refusal the buffer is as lent; otherwise it holds the merged query
  pub kept : (merge_of x y query ≡ Ok tt → ⊥) → merged_exit x y query ≡ query
  pub merged : merge_of x y query ≡ Ok tt → IsMerged x y (merged_exit x y query)

-- for any three buffers
unfoldable pub TwoQueries : Type 0
TwoQueries = (x y query : List ℕ) → Merges x y query
