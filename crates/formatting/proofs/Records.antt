-- Laws of the line of a query: what stands in its record is what its sequence and its register are.
-- Assumes nothing.
use mathlib.Core.Path.{◌≡◌, sym, ap, ap₂, ◌∙◌}
use mathlib.Core.List.{List}
use Prim.Native.Nat.{ℕ, ◌+◌, ◌*◌, ◌<◌}
use native.Mathlib.Omega.{arith}
use lib.ListN.{length, take, drop}
use lib.Seq.{get_or-take}
use borrow.Author.Tests.{eq-eqb}
use Rattle.std.specs.Prelude.{Ok, Err}
use Rattle.lists.specs.Table.{at}
use Rattle.lists.proofs.Table.{at_tabulate_all}
use Rattle.cells.specs.Cell.{cell_at}
use Rattle.cells.proofs.Laws.{cells_back}
use Rattle.recurrence.proofs.Register.{Right, register_right}
use Rattle.sequence.specs.declared.Sequence.{Sequence}
use Rattle.sequence.specs.declared.Refusal.{Refusal}
use Rattle.sequence.specs.Limits.{query_bytes, a_bytes, max_cells}
use Rattle.sequence.specs.Rules.{sequence_of, check_of, IsSound}
use Rattle.sequence.specs.Report.{register_of, a_buffer, filled}
use Rattle.sequence.proofs.Laws.{check_done}
use Rattle.lines.specs.Reading.{found_in}
use Rattle.lines.specs.Reply.{reply_of, read_of, query_in}
use Rattle.candidate.specs.Rules.{a_cells}
use Rattle.catalogue.specs.Rules.{record_bytes, body, a_place, length_cell, layout, record_of, synthesize_of}
use Rattle.catalogue.proofs.Refusals.{synthesize_query}
use Rattle.catalogue.proofs.Places.{entry_query, entry_a, entry_length_cell, made_body}
use Rattle.formatting.specs.Listing.{register_line, record_line, refusal_line, line_of, query_line, answer_line, typed_line}
use Rattle.formatting.proofs.Wording.{line_same}
use Rattle.sequence.specs.Answers.{Outcome}

module _ (s : Sequence) (sound : IsSound s) where
  right : Right s.modulus s.terms s.count (register_of s)
  right = register_right s.modulus sound.least s.terms s.count

  -- the coefficients are read back from the cells of a
  pub a_back : (i : ℕ) → at (a_cells (a_buffer s)) i ≡ at (register_of s).a i
  a_back i =
      ap (λ (xs : List ℕ). at xs i) (cells_back max_cells (at (register_of s).a) (λ j h. omega (arith, right.small_a j, sound.most)))
      ∙ at_tabulate_all max_cells (at (register_of s).a) (λ j h. right.past_a j (omega (arith, right.short, sound.count))) i

-- the record begins with the query
head_cell : (entry query : List ℕ) (i : ℕ) → take query_bytes entry ≡ query → 2 * i + 1 < query_bytes → cell_at entry i ≡ cell_at query i
head_cell entry query i e h = sym (ap (λ (x : List ℕ). cell_at x i) (sym e)
    ∙ ap₂ (λ (x y : ℕ). x + 256 * y) (get_or-take query_bytes entry (2 * i) 0 (omega arith)) (get_or-take query_bytes entry (2 * i + 1) 0 h))

-- a record with the body of the one made of a query, whatever its accession number
module _ (query : List ℕ) (fine : check_of query ≡ Ok tt) (entry : List ℕ) (same : body entry ≡ layout query (sequence_of query)) where
  size : length query ≡ query_bytes
  size = (check_done query fine).0

  -- the line has what the register's cells of the record show
  pub line_shown : register_line (cell_at query 0) (cell_at query 1) (cell_at entry length_cell) (a_cells (take a_bytes (drop a_place entry))) ≡ query_line query
  unfolding query_line sequence_of
  line_shown =
      ap (λ (l : ℕ). register_line (cell_at query 0) (cell_at query 1) l (a_cells (take a_bytes (drop a_place entry))))
      (entry_length_cell query (sequence_of query) size entry same (omega (arith, (right (sequence_of query) sound).short, sound.count)))
      ∙ line_same (cell_at query 0) (cell_at query 1) _ _ _
      (λ i. ap (λ (x : List ℕ). at (a_cells x) i) (entry_a query (sequence_of query) size entry same) ∙ a_back (sequence_of query) sound i)
      ∙ sym (ap (λ (o : Outcome). line_of o (sequence_of query)) fine)
    where
      sound : IsSound (sequence_of query)
      sound = (check_done query fine).1

  pub line_made : record_line entry ≡ query_line query
  line_made =
      ap₂ (λ (m n : ℕ). register_line m n (cell_at entry length_cell) (a_cells (take a_bytes (drop a_place entry))))
      (head_cell entry query 0 front (omega arith)) (head_cell entry query 1 front (omega arith))
      ∙ line_shown
    where
      front : take query_bytes entry ≡ query
      front = entry_query query (sequence_of query) size entry same

module _ (query out : List ℕ) (size : length out ≡ record_bytes) where
  pub query_refused : {r : Refusal} → synthesize_of query out ≡ Err r → refusal_line r ≡ query_line query
  unfolding query_line
  query_refused h = sym (ap (λ (o : Outcome). line_of o (sequence_of query)) (sym (synthesize_query query out size) ∙ h))

  pub query_made : (entry : List ℕ) {o : Outcome} → entry ≡ filled o (record_of query) out → o ≡ synthesize_of query out → o ≡ Ok tt → record_line entry ≡ query_line query
  query_made entry {o} e f d =
      line_made query fine entry (ap body (e ∙ ap (λ (x : Outcome). filled x (record_of query) out) d) ∙ made_body query (check_done query fine).0)
    where
      fine : check_of query ≡ Ok tt
      fine = sym (synthesize_query query out size) ∙ sym f ∙ d

-- ---- a typed line, read into a query buffer

module _ (line lent : List ℕ) (size : length lent ≡ query_bytes) where
  replied : read_of line lent ≡ reply_of (found_in line)
  unfolding read_of
  replied = rw (eq-eqb (length lent) query_bytes size)

  pub typed_refused : {r : Refusal} → read_of line lent ≡ Err r → refusal_line r ≡ typed_line line
  unfolding typed_line
  typed_refused h = sym (ap (λ (o : Outcome). answer_line o (found_in line)) (sym replied ∙ h))

  pub typed_read : (query : List ℕ) {o : Outcome} → query ≡ filled o (query_in (found_in line)) lent → o ≡ read_of line lent → o ≡ Ok tt → query_line query ≡ typed_line line
  unfolding typed_line
  typed_read query {o} e f d =
      ap query_line (e ∙ ap (λ (x : Outcome). filled x (query_in (found_in line)) lent) d)
      ∙ sym (ap (λ (x : Outcome). answer_line x (found_in line)) (sym replied ∙ sym f ∙ d))
