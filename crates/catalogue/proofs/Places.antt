-- Where things stand in a record, whatever its accession number.
-- Assumes nothing.
use mathlib.Core.Path.{◌≡◌, refl, sym, ap, ◌∙◌}
use mathlib.Core.Bool.{Bool, true, false}
use mathlib.Core.List.{List, [], ◌∷◌, ◌++◌, append_assoc}
use Prim.Native.Nat.{ℕ, ◌+◌, ◌*◌, ◌<◌}
use native.Mathlib.Omega.{arith}
use lib.Dec.{eqb}
use lib.ListN.{length, take, drop, length-drop, length-append, get_or-append}
use lib.Seq.{take_at, drop_at, drop-drop, take_all, length-take-le, get_or-append-add}
use Rattle.std.specs.Prelude.{Some, None, Ok, Err}
use Rattle.lists.specs.Choice.{pick}
use Rattle.lists.specs.Table.{at, tabulate}
use Rattle.lists.proofs.Table.{length_tabulate}
use Rattle.cells.specs.Cell.{cell_at, bytes_of}
use Rattle.cells.proofs.Laws.{length_bytes_of, cell_at_bytes_of}
use Rattle.sequence.specs.declared.Sequence.{Sequence}
use Rattle.sequence.specs.Limits.{query_bytes, a_bytes, b_bytes, max_cells, max_terms}
use Rattle.sequence.specs.Rules.{sequence_of}
use Rattle.sequence.specs.Report.{register_of, a_buffer, b_buffer}
use Rattle.catalogue.specs.Rules.{record_bytes, body_bytes, body, no_number, a_place, b_place, length_cell, layout, record_of, record_at, records, look_up_of, editor, seen_by, served_in, LookedUp}
use Rattle.catalogue.proofs.Body.{part_same, cell_same}
use Rattle.catalogue.proofs.Laws.{found_below}

length_a : (s : Sequence) → length (a_buffer s) ≡ a_bytes
length_a s =
    length_bytes_of (tabulate max_cells (at (register_of s).a)) ∙ ap (λ (n : ℕ). 2 * n) (length_tabulate max_cells (at (register_of s).a))

length_b : (s : Sequence) → length (b_buffer s) ≡ b_bytes
length_b s =
    length_bytes_of (tabulate max_terms (at (register_of s).b)) ∙ ap (λ (n : ℕ). 2 * n) (length_tabulate max_terms (at (register_of s).b))

module _ (query : List ℕ) (s : Sequence) (size : length query ≡ query_bytes) where
  l : List ℕ
  l = bytes_of ((register_of s).length ∷ [])

  two : length l ≡ 2
  unfolding l
  two = length_bytes_of ((register_of s).length ∷ [])

  head : List ℕ
  head = query ++ l

  head_long : length head ≡ a_place
  unfolding head
  head_long = omega (arith, length-append query l, two, size)

  grouped : layout query s ≡ head ++ (a_buffer s ++ b_buffer s)
  unfolding head layout l
  grouped = sym (append_assoc query l (a_buffer s ++ b_buffer s))

  pub layout_long : length (layout query s) ≡ body_bytes
  layout_long = ap length grouped ∙ omega (arith, length-append head (a_buffer s ++ b_buffer s), length-append (a_buffer s) (b_buffer s), head_long, length_a s, length_b s)

  layout_query : take query_bytes (layout query s) ≡ query
  unfolding layout
  layout_query = take_at query _ query_bytes size

  layout_a : take a_bytes (drop a_place (layout query s)) ≡ a_buffer s
  layout_a =
      ap (λ (x : List ℕ). take a_bytes (drop a_place x)) grouped
      ∙ ap (take a_bytes) (drop_at head (a_buffer s ++ b_buffer s) a_place head_long) ∙ take_at (a_buffer s) (b_buffer s) a_bytes (length_a s)

  layout_b : take b_bytes (drop b_place (layout query s)) ≡ b_buffer s
  layout_b =
      ap (λ (x : List ℕ). take b_bytes (drop b_place x)) grouped
      ∙ ap (take b_bytes) (sym (drop-drop a_bytes a_place (head ++ (a_buffer s ++ b_buffer s))) ∙ ap (drop a_bytes) (drop_at head (a_buffer s ++ b_buffer s) a_place head_long)
      ∙ drop_at (a_buffer s) (b_buffer s) a_bytes (length_a s))
      ∙ take_all b_bytes (b_buffer s) (omega (arith, length_b s))

  layout_length_cell : (register_of s).length < 65536 → cell_at (layout query s) length_cell ≡ (register_of s).length
  unfolding layout l
  layout_length_cell small =
      omega (arith, here 0 (omega arith), here 1 (omega arith), cell_at_bytes_of ((register_of s).length ∷ []) 0 small)
    where
      here : (j : ℕ) → j < 2 → at (layout query s) (query_bytes + j) ≡ at l j
      here j h =
          ap (λ (n : ℕ). at (layout query s) (n + j)) (sym size)
          ∙ get_or-append-add query (l ++ (a_buffer s ++ b_buffer s)) j 0
          ∙ get_or-append l (a_buffer s ++ b_buffer s) 0 j (omega (arith, two))

  -- of any record with this body
  module _ (entry : List ℕ) (same : body entry ≡ layout query s) where
    bodies : body entry ≡ body (layout query s)
    bodies = same ∙ sym (take_all body_bytes (layout query s) (omega (arith, layout_long)))

    pub entry_query : take query_bytes entry ≡ query
    entry_query = part_same 0 query_bytes entry (layout query s) (omega arith) bodies ∙ layout_query

    pub entry_a : take a_bytes (drop a_place entry) ≡ a_buffer s
    entry_a = part_same a_place a_bytes entry (layout query s) (omega arith) bodies ∙ layout_a

    pub entry_b : take b_bytes (drop b_place entry) ≡ b_buffer s
    entry_b = part_same b_place b_bytes entry (layout query s) (omega arith) bodies ∙ layout_b

    pub entry_length_cell : (register_of s).length < 65536 → cell_at entry length_cell ≡ (register_of s).length
    entry_length_cell small = cell_same length_cell entry (layout query s) (omega arith) bodies ∙ layout_length_cell small

-- the body and the number of the record made of a query
pub made_body : (query : List ℕ) → length query ≡ query_bytes → body (record_of query) ≡ layout query (sequence_of query)
unfolding record_of
made_body query size = take_at (layout query (sequence_of query)) no_number body_bytes (layout_long query (sequence_of query) size)

pub made_number : (query : List ℕ) → length query ≡ query_bytes → drop body_bytes (record_of query) ≡ no_number
unfolding record_of
made_number query size = drop_at (layout query (sequence_of query)) no_number body_bytes (layout_long query (sequence_of query) size)

-- ---- sizes

pub record_size : (catalogue : List ℕ) (i : ℕ) → i < records catalogue → length (record_at catalogue i) ≡ record_bytes
record_size catalogue i h = length-take-le record_bytes (drop (i * record_bytes) catalogue) (omega (arith, length-drop (i * record_bytes) catalogue))

made_size : (query : List ℕ) → length query ≡ query_bytes → length (record_of query) ≡ record_bytes
unfolding record_of
made_size query h = omega (arith, length-append (layout query (sequence_of query)) no_number, layout_long query (sequence_of query) h)

seen_size : (who : ℕ) (entry : List ℕ) → length entry ≡ record_bytes → length (seen_by who entry) ≡ record_bytes
seen_size who entry h = go (eqb who editor)
  where
    go : (b : Bool) → length (pick b entry (body entry ++ no_number)) ≡ record_bytes
    go true = h
    go false = omega (arith, length-append (body entry) no_number, length-take-le body_bytes entry (omega (arith, h)))

-- what stands in the lent record at exit is as long as a record, whatever is replied
pub served_size :
    (who : ℕ) (query catalogue out : List ℕ) → length query ≡ query_bytes → length out ≡ record_bytes
    → length (served_in who (look_up_of query catalogue out) query catalogue out) ≡ record_bytes
served_size who query catalogue out hq ho = go (look_up_of query catalogue out) refl
  where
    go : (t : LookedUp) → look_up_of query catalogue out ≡ t → length (served_in who t query catalogue out) ≡ record_bytes
    go (Ok (Some i)) e = seen_size who (record_at catalogue i) (record_size catalogue i (found_below query catalogue out i e))
    go (Ok None) e = made_size query hq
    go (Err r) e = ho
