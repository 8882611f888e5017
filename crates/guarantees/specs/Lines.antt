-- The claims about typed lines: when each refusal is given, and where; and that a line that is read becomes the query written by hand.
-- Assumes nothing.
use Rattle.std.specs.Prelude.{◌≡◌, List, ℕ, zero, ◌+◌, ◌≤◌, ◌<◌, pos, length, get_or, Ok, Err}
use Rattle.lists.specs.Table.{at}
use Rattle.residue.specs.Signed.{Stands}
use Rattle.cells.specs.Cell.{cell_at}
use Rattle.sequence.specs.declared.Refusal.TheVariants as R
use Rattle.sequence.specs.Limits.{max_modulus, max_terms, query_bytes}
use Rattle.sequence.specs.Answers.{outcome_answer, Outcome}
use Rattle.sequence.specs.Rules.{query_of, check_of}
use Rattle.sequence.specs.Report.{filled}
use Rattle.lines.specs.Form.{Line, text, modulus_of, values_of, InRange, BrokenAt, PastAt}
use Rattle.lines.specs.Reading.{found_in}
use Rattle.lines.specs.Reply.{read_of, read_answer, query_in}

-- the bytes are line l, and every number of it is within its range
pub record Says (bytes : List ℕ) (l : Line) : Type 0 where
  pub spelt : text l ≡ bytes
  pub fits : InRange l

-- a modulus within the limits
pub record Inside (m : ℕ) : Type 0 where
  pub least : 2 ≤ m
  pub most : m ≤ max_modulus

-- The query that a person writes by hand for what line l says: for each typed term the number from 0 to m - 1 that is congruent to it.
pub record ByHand (l : Line) (query : List ℕ) : Type 0 where
  pub residues : List ℕ
  pub size : length residues ≡ length (values_of l)
  pub stands : (j : ℕ) → j < length (values_of l) → Stands (modulus_of l) (at residues j) (get_or (values_of l) j (pos 0))
  pub written : query ≡ query_of (modulus_of l) residues

-- The same by its cells: the modulus, the count, the terms' remainders, zeros past the count. It meets no refusal of its own.
pub record ByCells (l : Line) (query : List ℕ) : Type 0 where
  pub modulus : cell_at query 0 ≡ modulus_of l
  pub count : cell_at query 1 ≡ length (values_of l)
  pub terms : (j : ℕ) → j < length (values_of l) → Stands (modulus_of l) (cell_at query (2 + j)) (get_or (values_of l) j (pos 0))
  pub zeros : (j : ℕ) → length (values_of l) ≤ j → j < max_terms → cell_at query (2 + j) ≡ zero
  pub checked : check_of query ≡ Ok tt

-- the query buffer after the call
abbrev pub exit_of : List ℕ → List ℕ → List ℕ
exit_of line query = filled (read_of line query) (query_in (found_in line)) query

-- The reason of a reply to a line that is lent a query buffer: for each reply the condition under which it is given.
pub data Reason (line query : List ℕ) (o : Outcome) : Type 0 where
  buffer : (length query ≡ query_bytes → ⊥) → o ≡ Err R.Buffer → Reason line query o
  form : (i : ℕ) → length query ≡ query_bytes → BrokenAt line i → o ≡ Err (R.LineForm i) → Reason line query o
  range : (i : ℕ) → length query ≡ query_bytes → PastAt line i → o ≡ Err (R.LineRange i) → Reason line query o
  modulus : (l : Line) → length query ≡ query_bytes → Says line l → (Inside (modulus_of l) → ⊥) → o ≡ Err R.Modulus → Reason line query o
  count : (l : Line) → length query ≡ query_bytes → Says line l → Inside (modulus_of l) → max_terms < length (values_of l) → o ≡ Err R.Count → Reason line query o
  done : (l : Line) → length query ≡ query_bytes → Says line l → Inside (modulus_of l) → length (values_of l) ≤ max_terms → o ≡ Ok tt → Reason line query o

pub record ReadsLine (line query : List ℕ) : Type 0 where
  -- what is replied has its reason, so that nothing but these six is replied
  pub reason : Reason line query (read_of line query)
  -- and what has a reason is replied: 5 for a buffer of another length
  pub is_buffer : (length query ≡ query_bytes → ⊥) → read_of line query ≡ Err R.Buffer
  -- 27 and 28 where the form is broken or a number passes its range
  pub is_form : (i : ℕ) → length query ≡ query_bytes → BrokenAt line i → read_of line query ≡ Err (R.LineForm i)
  pub is_range : (i : ℕ) → length query ≡ query_bytes → PastAt line i → read_of line query ≡ Err (R.LineRange i)
  -- of a line of the form with its numbers in range 1, then 2, and nothing else is refused
  pub is_modulus : (l : Line) → length query ≡ query_bytes → Says line l → (Inside (modulus_of l) → ⊥) → read_of line query ≡ Err R.Modulus
  pub is_count : (l : Line) → length query ≡ query_bytes → Says line l → Inside (modulus_of l) → max_terms < length (values_of l) → read_of line query ≡ Err R.Count
  pub is_done : (l : Line) → length query ≡ query_bytes → Says line l → Inside (modulus_of l) → length (values_of l) ≤ max_terms → read_of line query ≡ Ok tt
  -- by number it is the answer that the calls promise, for C too
  pub by_number : outcome_answer (read_of line query) ≡ read_answer line query
  -- a line that is read becomes the query written by hand; a refusal leaves the buffer as lent
  pub by_hand : read_of line query ≡ Ok tt → (l : Line) → Says line l → ByHand l (exit_of line query) × ByCells l (exit_of line query)
  pub kept : (read_of line query ≡ Ok tt → ⊥) → exit_of line query ≡ query

pub record TypedLines : Type 0 where
  pub every_line : (line query : List ℕ) → ReadsLine line query
  -- bytes say one thing only, and there is one query by hand for it
  pub one_meaning : (line : List ℕ) (l l' : Line) → Says line l → Says line l' → (modulus_of l ≡ modulus_of l') × (values_of l ≡ values_of l')
  pub one_query : (l : Line) (q q' : List ℕ) → Inside (modulus_of l) → ByHand l q → ByHand l q' → q ≡ q'
