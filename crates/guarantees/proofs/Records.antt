-- The record made of a query, the record served for it and the register after calls that take its terms are the same.
-- Assumes nothing.
use mathlib.Core.Path.{◌≡◌, refl, sym, ap, ap₂, ◌∙◌, subst, fun_ext}
use mathlib.Core.Logic.{◌⊎◌, inl, inr}
use mathlib.Core.List.{List, [], ◌++◌, map}
use mathlib.Core.Bool.{Bool, true, false}
use Prim.Native.Nat.{ℕ, ◌+◌, ◌*◌, ◌-◌, ◌%◌, ◌≤◌, ◌<◌}
use native.Mathlib.Nat.{mod-eq_of_lt, le_refl, not-suc-le-zero}
use native.Mathlib.Omega.{arith}
use lib.Dec.{eqb}
use lib.ListN.{length, take, drop, replicate, length-append, length-drop, length-replicate, get_or-replicate}
use lib.Seq.{ext_get_or, length-take-le, get_or-take, get_or-append-add}
use borrow.Author.Tests.{eq-eqb, ne_eqb, lt-ltb, le-ltb}
use Rattle.std.specs.Prelude.{Some, None, Ok, Err}
use Rattle.lists.specs.Choice.{pick}
use Rattle.lists.specs.Table.{at, tabulate}
use Rattle.lists.proofs.Table.{length_tabulate, at_tabulate_all}
use Rattle.lists.proofs.Search.{first_passes, lt_or_le}
use Rattle.cells.specs.Cell.{cell_at}
use Rattle.cells.proofs.Laws.{cells_back, equal_eq}
use Rattle.recurrence.specs.Polynomial.{conv}
use Rattle.recurrence.specs.Register.{Register, register}
use Rattle.recurrence.specs.Running.{first_difference}
use Rattle.recurrence.proofs.Register.{Right, register_right}
use Rattle.sequence.specs.declared.Sequence.{Sequence}
use Rattle.sequence.specs.declared.Refusal.TheVariants as R
use Rattle.sequence.specs.Limits.{max_modulus, query_bytes, a_bytes, b_bytes, max_cells, max_terms}
use Rattle.sequence.specs.Rules.{open_of, sequence_of, check_of, IsSound}
use Rattle.sequence.specs.Report.{length_told, register_of, a_buffer, b_buffer, report_of, filled}
use Rattle.sequence.proofs.Laws.{check_done}
use Rattle.candidate.specs.Rules.{a_cells, b_cells, IsFine, judge_of}
use Rattle.candidate.proofs.Laws.{of_fine, no_difference}
use Rattle.catalogue.specs.Rules.{record_bytes, body, no_number, layout, record_of, synthesize_of, record_at, is_of, records, first_match, match_of, passes, serve_of, fetch_of, look_up_of, editor, seen_by, served_in, LookedUp}
use Rattle.catalogue.proofs.Refusals.{synthesize_query}
use Rattle.catalogue.proofs.Places.{entry_query, entry_a, entry_b, entry_length_cell, made_body}
use Rattle.catalogue.proofs.Visitors.{body_seen}
use Rattle.guarantees.specs.Calls.{Call, push, after_all, taken}
use Rattle.guarantees.specs.Claims.{MadeRecord, MadeCatalogue, terms_of, AgreesWith, MadeServedReported}
use Rattle.guarantees.proofs.State.{holding, padded, padded_at, Good, state, all_pushed}
use Rattle.guarantees.proofs.Demand.{reported, same_register}
use Rattle.sequence.specs.Answers.{Outcome, Reported}

module _ (query : List ℕ) (fine : check_of query ≡ Ok tt) where
  s : Sequence
  s = sequence_of query

  pub size : length query ≡ query_bytes
  size = (check_done query fine).0

  sound : IsSound s
  unfolding s
  sound = (check_done query fine).1

  right : Right (sequence_of query).modulus (sequence_of query).terms (sequence_of query).count (register_of (sequence_of query))
  unfolding s
  right = register_right (sequence_of query).modulus sound.least (sequence_of query).terms (sequence_of query).count

  -- ---- the query's sequence is the one that holds its terms

  long : length (sequence_of query).terms ≡ max_terms
  unfolding sequence_of
  long = length_tabulate max_terms _

  pub terms_long : length (terms_of query) ≡ (sequence_of query).count
  unfolding s sequence_of
  terms_long = length-take-le (cell_at query 1) _ (omega (arith, long, sound.count))

  terms_padded : padded (terms_of query) ≡ (sequence_of query).terms
  unfolding s sequence_of
  terms_padded =
      ext_get_or 0 (padded (terms_of query)) (sequence_of query).terms
      (omega (arith, length-append (terms_of query) (replicate (max_terms - length (terms_of query)) 0), length-replicate {A = ℕ} (max_terms - length (terms_of query)) 0, terms_long, long, sound.count))
      (λ i h. go i h (lt_or_le i (length (terms_of query))))
    where
      total : length (padded (terms_of query)) ≡ max_terms
      total = omega (arith, length-append (terms_of query) (replicate (max_terms - length (terms_of query)) 0), length-replicate {A = ℕ} (max_terms - length (terms_of query)) 0, terms_long, sound.count)

      go : (i : ℕ) → i < length (padded (terms_of query)) → (i < length (terms_of query)) ⊎ (length (terms_of query) ≤ i)
          → at (padded (terms_of query)) i ≡ at (sequence_of query).terms i
      go i h (inl k) = padded_at (terms_of query) i k ∙ get_or-take (cell_at query 1) _ i 0 (omega (arith, terms_long))
      go i h (inr k) =
          let d : ℕ = i - length (terms_of query) in
          let e : length (terms_of query) + d ≡ i = omega arith in
          subst (λ (z : ℕ). at (padded (terms_of query)) z ≡ 0) e
          (get_or-append-add (terms_of query) (replicate (max_terms - length (terms_of query)) 0) d 0 ∙ get_or-replicate (max_terms - length (terms_of query)) d 0 0 (omega (arith, total)))
          ∙ sym (sound.zeros i (omega (arith, terms_long)) (omega (arith, total)))

  pub held : holding (cell_at query 0) (terms_of query) ≡ sequence_of query
  unfolding sequence_of
  held = λ i. record { modulus = cell_at query 0; count = terms_long i; terms = terms_padded i }

  good : Good (cell_at query 0) (terms_of query)
  unfolding s sequence_of
  good =
      record {
        size = omega (arith, terms_long, sound.count);
        below = λ j h. subst (λ (z : ℕ). z < cell_at query 0) (sym (get_or-take (cell_at query 1) _ j 0 (omega (arith, terms_long)))) (sound.below j (omega (arith, terms_long)));
      }

  pub least : 2 ≤ cell_at query 0
  unfolding s sequence_of
  least = sound.least

  pub most : cell_at query 0 ≤ max_modulus
  unfolding s sequence_of
  most = sound.most

  short : (register_of (sequence_of query)).length ≤ max_terms
  unfolding s
  short = omega (arith, right.short, sound.count)

  small : (register_of (sequence_of query)).length < 65536
  small = omega (arith, short)

  pub terms_pushed : taken (cell_at query 0) (map push (terms_of query)) ≡ terms_of query
  terms_pushed = all_pushed (cell_at query 0) least most (terms_of query) good

  -- ---- a record with the body of the query's record agrees with the register

  pub agrees : (entry : List ℕ) → body entry ≡ layout query (sequence_of query) → (calls : List Call) (a b : List ℕ) → taken (cell_at query 0) calls ≡ terms_of query
      → length a ≡ a_bytes → length b ≡ b_bytes → AgreesWith (cell_at query 0) calls a b entry
  agrees entry same calls a b h ha hb =
      record {
        length_same = answer ∙ ap (length_told (cell_at query 0) (length (taken (cell_at query 0) calls))) (sym (entry_length_cell query (sequence_of query) size entry same small));
        a_same =
            ap₂ (λ (r : Reported) (t : Sequence). filled r (a_buffer t) a) answer reached ∙ sym (entry_a query (sequence_of query) size entry same);
        b_same =
            ap₂ (λ (r : Reported) (t : Sequence). filled r (b_buffer t) b) answer reached ∙ sym (entry_b query (sequence_of query) size entry same);
      }
    where
      reached : after_all (open_of (cell_at query 0)).sequence calls ≡ sequence_of query
      reached = state (cell_at query 0) least most calls ∙ ap (holding (cell_at query 0)) h ∙ held

      answer : report_of (after_all (open_of (cell_at query 0)).sequence calls) a b ≡ length_told (cell_at query 0) (length (taken (cell_at query 0) calls)) (register_of (sequence_of query)).length
      answer =
          ap (λ (t : Sequence). report_of t a b) (reached ∙ sym held)
          ∙ reported (cell_at query 0) least most (terms_of query) good a b ha hb
          ∙ ap₂ (λ (ts : List ℕ) (l : ℕ). length_told (cell_at query 0) (length ts) l) (sym h) (sym same_length ∙ ap (λ (t : Sequence). (register_of t).length) held)
        where
          same_length : (register_of (holding (cell_at query 0) (terms_of query))).length ≡ (register (cell_at query 0) (terms_of query) (length (terms_of query))).length
          same_length = ap (λ (y : Register). y.length) (same_register (cell_at query 0) least most (terms_of query) good)

  -- ---- and passes its own test

  a_back : a_cells (a_buffer (sequence_of query)) ≡ tabulate max_cells (at (register_of (sequence_of query)).a)
  unfolding s
  a_back = cells_back max_cells (at (register_of (sequence_of query)).a) (λ i h. omega (arith, right.small_a i, sound.most))

  b_back : b_cells (b_buffer (sequence_of query)) ≡ tabulate max_terms (at (register_of (sequence_of query)).b)
  unfolding s
  b_back = cells_back max_terms (at (register_of (sequence_of query)).b) (λ i h. omega (arith, right.small_b i, sound.most))

  -- cutting at 129 and 128 cells loses nothing
  a_all : (i : ℕ) → at (tabulate max_cells (at (register_of (sequence_of query)).a)) i ≡ at (register_of (sequence_of query)).a i
  a_all = at_tabulate_all max_cells _ (λ i h. right.past_a i (omega (arith, short)))

  b_all : (i : ℕ) → at (tabulate max_terms (at (register_of (sequence_of query)).b)) i ≡ at (register_of (sequence_of query)).b i
  b_all = at_tabulate_all max_terms _ (λ i h. right.past_b i (omega (arith, short)))

  fine_candidate : IsFine (sequence_of query).modulus (register_of (sequence_of query)).length
      (tabulate max_cells (at (register_of (sequence_of query)).a)) (tabulate max_terms (at (register_of (sequence_of query)).b))
  fine_candidate =
      record {
        short = short;
        coefficients = record {
          below_a = λ i h. subst (λ (z : ℕ). z < (sequence_of query).modulus) (sym (a_all i)) (right.small_a i);
          below_b = λ i h. subst (λ (z : ℕ). z < (sequence_of query).modulus) (sym (b_all i)) (right.small_b i);
          past_a = λ i h k. a_all i ∙ right.past_a i h;
          past_b = λ i h k. b_all i ∙ right.past_b i h;
        };
        lead = a_all 0 ∙ right.one;
      }

  agree : first_difference (sequence_of query).modulus (sequence_of query).terms (tabulate max_cells (at (register_of (sequence_of query)).a))
      (tabulate max_terms (at (register_of (sequence_of query)).b)) (sequence_of query).count ≡ (sequence_of query).count
  agree =
      no_difference (sequence_of query).modulus (sequence_of query).terms _ _ (sequence_of query).count
      (λ j h. ap (λ (f : ℕ → ℕ). conv (at (sequence_of query).terms) f j % (sequence_of query).modulus) (fun_ext a_all)
      ∙ (right.generates j h).same ∙ mod-eq_of_lt (right.small_b j) ∙ sym (b_all j))

  judged : judge_of (sequence_of query) (a_cells (a_buffer (sequence_of query))) (b_cells (b_buffer (sequence_of query))) (register_of (sequence_of query)).length ≡ Ok None
  unfolding judge_of
  judged =
      ap₂ (λ (a b : List ℕ). judge_of (sequence_of query) a b (register_of (sequence_of query)).length) a_back b_back
      ∙ rw (of_fine _ _ _ _ fine_candidate, agree, le-ltb (sequence_of query).count (sequence_of query).count (le_refl _))

  pub record_passes : (entry : List ℕ) → body entry ≡ layout query (sequence_of query) → passes (sequence_of query) entry ≡ true
  unfolding passes
  record_passes entry same =
      rw (
        entry_a query (sequence_of query) size entry same,
        entry_b query (sequence_of query) size entry same,
        entry_length_cell query (sequence_of query) size entry same small,
        judged,
      )

-- ---- making

pub making : (query out : List ℕ) → check_of query ≡ Ok tt → length out ≡ record_bytes → synthesize_of query out ≡ Ok tt
making query out fine h = synthesize_query query out h ∙ fine

pub making_checked : (query out : List ℕ) → synthesize_of query out ≡ Ok tt → check_of query ≡ Ok tt
unfolding synthesize_of
making_checked query out h = go (eqb (length out) record_bytes) h
  where
    go : (t : Bool) → pick t (check_of query) (Err R.Buffer) ≡ Ok tt → check_of query ≡ Ok tt
    go true h = h
    go false h = let z : ◌≡◌ {A = ℕ} 0 1 = cc in absurd (omega arith)

pub made_record : (query out : List ℕ) → check_of query ≡ Ok tt → length out ≡ record_bytes → filled (synthesize_of query out) (record_of query) out ≡ record_of query
made_record query out fine h = ap (λ (t : Outcome). filled t (record_of query) out) (making query out fine h)

-- a made record with this query in front has the body of the record of this query
made_same : (query entry : List ℕ) → MadeRecord entry → take query_bytes entry ≡ query → body entry ≡ layout query (sequence_of query)
made_same query entry made h = is ∙ ap (λ (q : List ℕ). layout q (sequence_of q)) same
  where
    long : length made.query ≡ query_bytes
    long = size made.query (making_checked made.query made.out made.made)

    is : body entry ≡ layout made.query (sequence_of made.query)
    is = made.same ∙ ap (λ (o : Outcome). body (filled o (record_of made.query) made.out)) made.made ∙ made_body made.query long

    same : made.query ≡ query
    same = sym (entry_query made.query (sequence_of made.query) long entry is) ∙ h

-- the empty catalogue is one that was made
pub empty_made : MadeCatalogue []
empty_made = record { whole = refl; each = λ i h. absurd (not-suc-le-zero h) }

-- ---- serving

module _ (query catalogue : List ℕ) (who : ℕ) (out : List ℕ) (fine : check_of query ≡ Ok tt) (made : MadeCatalogue catalogue) (long : length out ≡ record_bytes) where
  looked : look_up_of query catalogue out ≡ serve_of (sequence_of query) catalogue (match_of (records catalogue) (first_match query catalogue (records catalogue)))
  unfolding look_up_of fetch_of
  looked = rw (eq-eqb (length out) record_bytes long, fine, eq-eqb (length catalogue % record_bytes) 0 made.whole)

  found_body : first_match query catalogue (records catalogue) < records catalogue
      → body (record_at catalogue (first_match query catalogue (records catalogue))) ≡ layout query (sequence_of query)
  unfolding first_match is_of
  found_body h = made_same query (record_at catalogue j) (made.each j h) key
    where
      j : ℕ
      j = first_match query catalogue (records catalogue)

      key : take query_bytes (record_at catalogue j) ≡ query
      key = sym (equal_eq query (take query_bytes (record_at catalogue j)) (first_passes (records catalogue) (λ k. is_of query (record_at catalogue k)) h))

  -- the record found as who asks sees it
  found_seen : first_match query catalogue (records catalogue) < records catalogue
      → body (seen_by who (record_at catalogue (first_match query catalogue (records catalogue)))) ≡ layout query (sequence_of query)
  found_seen h = body_seen who (record_at catalogue j) (omega (arith, length-take-le record_bytes (drop (j * record_bytes) catalogue) (omega (arith, length-drop (j * record_bytes) catalogue)))) ∙ found_body h
    where
      j : ℕ
      j = first_match query catalogue (records catalogue)

  visitor_seen : (who ≡ editor → ⊥) → first_match query catalogue (records catalogue) < records catalogue
      → seen_by who (record_at catalogue (first_match query catalogue (records catalogue))) ≡ record_of query
  unfolding record_of
  visitor_seen v h = rw (ne_eqb who editor v) (ap (λ (b : List ℕ). b ++ no_number) (found_body h))

  -- the reply, and the record served: its body, and for a visitor all of it
  pub outcome : (((j : ℕ) × (look_up_of query catalogue out ≡ Ok (Some j))) ⊎ (look_up_of query catalogue out ≡ Ok None))
      × (body (served_in who (look_up_of query catalogue out) query catalogue out) ≡ layout query (sequence_of query))
      × ((who ≡ editor → ⊥) → served_in who (look_up_of query catalogue out) query catalogue out ≡ record_of query)
  outcome = go (lt_or_le j (records catalogue))
    where
      j : ℕ
      j = first_match query catalogue (records catalogue)

      go : (j < records catalogue) ⊎ (records catalogue ≤ j)
          → (((j : ℕ) × (look_up_of query catalogue out ≡ Ok (Some j))) ⊎ (look_up_of query catalogue out ≡ Ok None))
          × (body (served_in who (look_up_of query catalogue out) query catalogue out) ≡ layout query (sequence_of query))
          × ((who ≡ editor → ⊥) → served_in who (look_up_of query catalogue out) query catalogue out ≡ record_of query)
      go (inl h) = (
        inl (j, at_j),
        ap (λ (t : LookedUp). body (served_in who t query catalogue out)) at_j ∙ found_seen h,
        λ v. ap (λ (t : LookedUp). served_in who t query catalogue out) at_j ∙ visitor_seen v h,
      )
        where
          at_j : look_up_of query catalogue out ≡ Ok (Some j)
          at_j = looked ∙ rw (lt-ltb j (records catalogue) h, record_passes query fine (record_at catalogue j) (found_body h))
      go (inr h) = (
        inr none,
        ap (λ (t : LookedUp). body (served_in who t query catalogue out)) none ∙ made_body query (size query fine),
        λ v. ap (λ (t : LookedUp). served_in who t query catalogue out) none,
      )
        where
          none : look_up_of query catalogue out ≡ Ok None
          none = looked ∙ rw (le-ltb j (records catalogue) h)

pub same : MadeServedReported
unfolding MadeServedReported
same query catalogue who out fine made long =
    record {
      pushed = terms_pushed query fine;
      made = making query out fine long;
      served = o.0;
      record_made = agrees query fine (filled (synthesize_of query out) (record_of query) out) written_body;
      record_served = agrees query fine (served_in who (look_up_of query catalogue out) query catalogue out) o.1;
      body_served = o.1 ∙ sym written_body;
      visitor_served = λ v. o.2 v ∙ sym (made_record query out fine long);
    }
  where
    o : (((j : ℕ) × (look_up_of query catalogue out ≡ Ok (Some j))) ⊎ (look_up_of query catalogue out ≡ Ok None))
        × (body (served_in who (look_up_of query catalogue out) query catalogue out) ≡ layout query (sequence_of query))
        × ((who ≡ editor → ⊥) → served_in who (look_up_of query catalogue out) query catalogue out ≡ record_of query)
    o = outcome query catalogue who out fine made long

    written_body : body (filled (synthesize_of query out) (record_of query) out) ≡ layout query (sequence_of query)
    written_body = ap body (made_record query out fine long) ∙ made_body query (size query fine)
