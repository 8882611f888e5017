-- Testing a candidate says yes exactly when running it gives the query's terms, and no with the first place where it gives another.
-- Assumes nothing.
use mathlib.Core.Path.{◌≡◌, sym, ap, ap₂, ◌∙◌}
use mathlib.Core.Logic.{◌⊎◌, inl, inr}
use mathlib.Core.List.{List}
use Prim.Native.Nat.{ℕ, ◌+◌, ◌*◌, ◌/◌, ◌≤◌, ◌<◌}
use native.Mathlib.Omega.{arith}
use lib.ListN.{length, take, drop, length-drop}
use lib.Seq.{ext_get_or, length-take-le, get_or-take, get_or-drop}
use Rattle.std.specs.Prelude.{Some, None, Ok}
use Rattle.lists.specs.Table.{at}
use Rattle.lists.proofs.Table.{length_tabulate, at_past, is_tabulate}
use Rattle.lists.proofs.Search.{lt_or_le}
use Rattle.cells.specs.Cell.{cell_at, cells_from, bytes_of}
use Rattle.cells.proofs.Laws.{cell_at_bytes_of, bytes_of_cells}
use Rattle.recurrence.specs.Running.{generated}
use Rattle.recurrence.proofs.Running.{generated_length, generated_at, cell_lt}
use Rattle.sequence.specs.Limits.{max_terms, max_cells, a_bytes, b_bytes}
use Rattle.sequence.specs.Rules.{sequence_of, check_of, IsSound}
use Rattle.sequence.proofs.Laws.{check_done, term_cell}
use Rattle.candidate.specs.Rules.{a_cells, b_cells, flaw_of, judge_of, verify_of, generate_of, generated_in}
use Rattle.candidate.proofs.Testing.{verify_judges, generate_done, yes_gives, gives_yes, no_differs, differs_no}
use Rattle.guarantees.specs.Claims.{terms_of, ran_in, DiffersAt, TestedByRunning}
use Rattle.guarantees.proofs.Records.{size, least, most, terms_long}
use Rattle.sequence.specs.Answers.{Outcome}

-- ---- the terms of a query that passes its checks

module _ (query : List ℕ) (passed : check_of query ≡ Ok tt) where
  sound : IsSound (sequence_of query)
  sound = (check_done query passed).1

  few : cell_at query 1 ≤ max_terms
  unfolding sequence_of
  few = sound.count

  count : length (terms_of query) ≡ cell_at query 1
  unfolding sequence_of
  count = terms_long query passed

  -- a term is a cell of the query
  term_at : (i : ℕ) → i < cell_at query 1 → at (sequence_of query).terms i ≡ cell_at query (2 + i)
  term_at i h = term_cell query i (omega (arith, h, few))

  terms_at : (i : ℕ) → i < cell_at query 1 → at (terms_of query) i ≡ cell_at query (2 + i)
  terms_at i h = get_or-take (cell_at query 1) (sequence_of query).terms i 0 h ∙ term_at i h

  term_small : (i : ℕ) → i < cell_at query 1 → cell_at query (2 + i) < 65536
  unfolding sequence_of
  term_small i h = omega (arith, sound.below i h, most query passed, term_at i h)

  -- in a query of bytes the terms stand as they are written
  own_bytes : ((i : ℕ) → at query i < 256) → bytes_of (terms_of query) ≡ take (2 * cell_at query 1) (drop 4 query)
  own_bytes bytes = ap bytes_of same ∙ bytes_of_cells part (cell_at query 1) long small
    where
      part : List ℕ
      part = take (2 * cell_at query 1) (drop 4 query)

      long : length part ≡ 2 * cell_at query 1
      long = length-take-le (2 * cell_at query 1) (drop 4 query) (omega (arith, few, size query passed, length-drop 4 query))

      part_at : (i : ℕ) → i < 2 * cell_at query 1 → at part i ≡ at query (4 + i)
      part_at i h = get_or-take (2 * cell_at query 1) (drop 4 query) i 0 h ∙ get_or-drop 4 query i 0

      small : (i : ℕ) → at part i < 256
      small i = go (lt_or_le i (2 * cell_at query 1))
        where
          go : (i < 2 * cell_at query 1) ⊎ (2 * cell_at query 1 ≤ i) → at part i < 256
          go (inl h) = omega (arith, part_at i h, bytes (4 + i))
          go (inr h) = omega (arith, at_past part i (omega (arith, long)))

      same : terms_of query ≡ cells_from part 0 (cell_at query 1)
      same =
          is_tabulate (cell_at query 1) (λ i. cell_at part (0 + i)) 0 (terms_of query) count
          (λ i h.
          let low : 4 + 2 * (0 + i) ≡ 2 * (2 + i) = omega arith in
          let high : 4 + (2 * (0 + i) + 1) ≡ 2 * (2 + i) + 1 = omega arith in
          terms_at i h
          ∙ sym (ap₂ (λ (x y : ℕ). x + 256 * y) (part_at (2 * (0 + i)) (omega arith) ∙ ap (at query) low) (part_at (2 * (0 + i) + 1) (omega arith) ∙ ap (at query) high)))

-- ---- the cells run

module _ (query a b : List ℕ) (l : ℕ) (cells : List ℕ) (passed : check_of query ≡ Ok tt) (ha : length a ≡ a_bytes) (hb : length b ≡ b_bytes)
    (good : flaw_of (cell_at query 0) l (a_cells a) (b_cells b) ≡ Ok tt) (long : length cells ≡ 2 * cell_at query 1) where
  -- as numbers
  gives : List ℕ
  gives = generated (cell_at query 0) l (a_cells a) (b_cells b) (cell_at query 1)

  done : generate_of (cell_at query 0) a b l cells ≡ Ok tt
  done = generate_done (cell_at query 0) a b l cells (cell_at query 1) (least query passed) (most query passed) ha hb good long (few query passed)

  ran : ran_in query a b l cells ≡ bytes_of gives
  unfolding gives
  ran =
      ap (λ (o : Outcome). generated_in o (cell_at query 0) a b l cells) done
      ∙ ap (λ (n : ℕ). bytes_of (generated (cell_at query 0) l (a_cells a) (b_cells b) n)) (let e : length cells / 2 ≡ cell_at query 1 = omega arith in e)

  gives_long : length gives ≡ cell_at query 1
  unfolding gives
  gives_long = generated_length (cell_at query 0) l (a_cells a) (b_cells b) (cell_at query 1)

  gives_small : (i : ℕ) → i < cell_at query 1 → at gives i < 65536
  unfolding gives
  gives_small i h =
      rw (generated_at (cell_at query 0) l (a_cells a) (b_cells b) (cell_at query 1) i h)
      (omega (arith, least query passed, most query passed, cell_lt (cell_at query 0) l (a_cells a) (b_cells b) (omega (arith, least query passed)) (generated (cell_at query 0) l (a_cells a) (b_cells b) i) i))

  ran_at : (i : ℕ) → i < cell_at query 1 → cell_at (ran_in query a b l cells) i ≡ at gives i
  ran_at i h = ap (λ (s : List ℕ). cell_at s i) ran ∙ cell_at_bytes_of gives i (gives_small i h)

  -- ---- the verdict

  verified : verify_of query a b l ≡ judge_of (sequence_of query) (a_cells a) (b_cells b) l
  verified = verify_judges query a b l passed ha hb

  -- running gives a term where the cell run is the query's
  gives_cell : (i : ℕ) → i < cell_at query 1 → at (sequence_of query).terms i ≡ at gives i → cell_at (ran_in query a b l cells) i ≡ cell_at query (2 + i)
  gives_cell i h e = ran_at i h ∙ sym e ∙ term_at query passed i h

  cell_gives : (i : ℕ) → i < cell_at query 1 → cell_at (ran_in query a b l cells) i ≡ cell_at query (2 + i) → at (sequence_of query).terms i ≡ at gives i
  cell_gives i h e = term_at query passed i h ∙ sym e ∙ ran_at i h

  yes_runs : verify_of query a b l ≡ Ok None → ran_in query a b l cells ≡ bytes_of (terms_of query)
  unfolding gives sequence_of
  yes_runs h =
      ran
      ∙ ap bytes_of (ext_get_or 0 gives (terms_of query) (gives_long ∙ sym (count query passed))
      (λ i k. let n : i < cell_at query 1 = omega (arith, gives_long) in
      sym (terms_at query passed i n ∙ sym (term_at query passed i n) ∙ yes_gives (sequence_of query) (a_cells a) (b_cells b) l (sound query passed) (length_tabulate max_cells _) (length_tabulate max_terms _) good (sym verified ∙ h) i n)))

  runs_yes : ran_in query a b l cells ≡ bytes_of (terms_of query) → verify_of query a b l ≡ Ok None
  unfolding gives sequence_of
  runs_yes h =
      verified
      ∙ gives_yes (sequence_of query) (a_cells a) (b_cells b) l (sound query passed) (length_tabulate max_cells _) (length_tabulate max_terms _) good
      (λ i n. cell_gives i n (ap (λ (s : List ℕ). cell_at s i) h ∙ cell_at_bytes_of (terms_of query) i (omega (arith, terms_at query passed i n, term_small query passed i n)) ∙ terms_at query passed i n))

  no_runs : (j : ℕ) → verify_of query a b l ≡ Ok (Some j) → DiffersAt query (ran_in query a b l cells) j
  unfolding gives sequence_of
  no_runs j h =
      let r = no_differs (sequence_of query) (a_cells a) (b_cells b) l (sound query passed) (length_tabulate max_cells _) (length_tabulate max_terms _) good j (sym verified ∙ h) in
      let n : j < cell_at query 1 = r.0 in
      record {
        within = n;
        below = λ i k. gives_cell i (omega arith) (r.1 i k);
        other = λ e. r.2 (cell_gives j n e);
      }

  runs_no : (j : ℕ) → DiffersAt query (ran_in query a b l cells) j → verify_of query a b l ≡ Ok (Some j)
  unfolding gives sequence_of
  runs_no j d =
      verified
      ∙ differs_no (sequence_of query) (a_cells a) (b_cells b) l (sound query passed) (length_tabulate max_cells _) (length_tabulate max_terms _) good j d.within
      (λ i k. cell_gives i (omega (arith, d.within)) (d.below i k)) (λ e. d.other (gives_cell j d.within e))

pub tested_by_running : TestedByRunning
unfolding TestedByRunning
tested_by_running query a b l cells passed ha hb good long =
    record {
      ran = done query a b l cells passed ha hb good long;
      yes_runs = yes_runs query a b l cells passed ha hb good long;
      runs_yes = runs_yes query a b l cells passed ha hb good long;
      own_bytes = own_bytes query passed;
      no_differs = no_runs query a b l cells passed ha hb good long;
      differs_no = runs_no query a b l cells passed ha hb good long;
    }
