-- The claims about the order, the start and the listing's lines, for every list of calls.
-- Assumes nothing.
use mathlib.Core.Path.{◌≡◌, sym, ap, ap₂, ◌∙◌, subst}
use mathlib.Core.List.{List}
use Prim.Native.Nat.{ℕ, zero, suc, ◌≤◌}
use native.Mathlib.Omega.{arith}
use lib.ListN.{length}
use Rattle.std.specs.Prelude.{Err, Ok}
use Rattle.lists.specs.Table.{at}
use Rattle.lists.proofs.Table.{at_tabulate_all}
use Rattle.cells.specs.Cell.{cell_at}
use Rattle.recurrence.specs.Polynomial.{degree}
use Rattle.recurrence.specs.Register as T
use Rattle.recurrence.proofs.Polynomial.{degree_past}
use Rattle.recurrence.proofs.Register.{Right, register_right}
use Rattle.recurrence.proofs.Start.{order_last, order_within, start_holds, start_first}
use Rattle.sequence.specs.declared.Sequence.{Sequence}
use Rattle.sequence.specs.Limits.{max_modulus, a_bytes, b_bytes}
use Rattle.sequence.specs.Rules.{open_of, sequence_of}
use Rattle.sequence.specs.Report.{a_buffer, report_of, filled}
use Rattle.candidate.specs.Rules.{a_cells}
use Rattle.catalogue.specs.Rules.{body, length_cell, layout, record_of, look_up_of, served_in}
use Rattle.catalogue.proofs.Places.{made_body}
use Rattle.formatting.specs.Listing.{register_line, record_line, query_line, reported_line}
use Rattle.formatting.proofs.Records.{a_back, line_shown, line_made}
use Rattle.formatting.proofs.Reading.{numeral_some, numeral_digits, numeral_value, numeral_front}
use Rattle.guarantees.specs.Calls.{after_all, taken}
use Rattle.guarantees.specs.Claims.{terms_of, AgreesWith}
use Rattle.guarantees.specs.Listing.{Ordered, a_after, EveryOrder, TheListing, Numerals}
use Rattle.guarantees.proofs.State.{holding, holding_sound, Good, state, good}
use Rattle.guarantees.proofs.Demand.{reported, same_register}
use Rattle.guarantees.proofs.Records.{size, held, least, most, agrees, made_record, outcome}
use Rattle.sequence.specs.Answers.{Reported, of_length}

module _ (m : ℕ) (low : 2 ≤ m) (high : m ≤ max_modulus) (ts : List ℕ) (g : Good m ts) (a b : List ℕ) (ha : length a ≡ a_bytes) (hb : length b ≡ b_bytes) where
  abbrev x : T.Register
  x = T.register m ts (length ts)

  abbrev shown : List ℕ
  shown = a_cells (a_after (holding m ts) a b)

  right : Right m ts (length ts) x
  right = register_right m low ts (length ts)

  -- the cells of a are the register's coefficients
  same : (i : ℕ) → at shown i ≡ at x.a i
  same i =
      ap (λ (r : Reported). at (a_cells (filled r (a_buffer (holding m ts)) a)) i) (reported m low high ts g a b ha hb)
      ∙ a_back (holding m ts) (holding_sound m low high ts g) i
      ∙ ap (λ (y : T.Register). at y.a i) (same_register m low high ts g)

  ordered : Ordered m ts (report_of (holding m ts) a b) (a_after (holding m ts) a b)
  ordered =
      record {
        start = x.length;
        reported = reported m low high ts g a b ha hb;
        means = record {
          one = same 0 ∙ right.one;
          last = order_last m low ts (length ts) x right shown same;
          past = degree_past shown;
          whole = at_tabulate_all (suc (degree shown)) (at shown) (λ i h. degree_past shown i (omega arith));
          least = right.least;
          within = order_within m low ts (length ts) x right shown same;
          holds = start_holds m low ts (length ts) x right shown same;
          first = start_first m low ts (length ts) x right shown same;
        };
      }

pub every_order : EveryOrder
unfolding EveryOrder
every_order m low high calls a b ha hb =
    subst (λ (s : Sequence). Ordered m (taken m calls) (report_of s a b) (a_after s a b)) (sym (state m low high calls))
    (ordered m low high (taken m calls) (good m low high calls) a b ha hb)

told : Reported → ℕ
told (Ok x) = x.length
told (Err r) = zero

pub the_listing : TheListing
unfolding TheListing EveryOrder told sequence_of
the_listing query catalogue who out fine made long calls a b h ha hb =
    record {
      ordered = o;
      line = shows;
      reported =
          shows
          ∙ sym (ap₂ (λ (t : Sequence) (r : Reported). reported_line t r (a_after s a b)) reached o.reported);
      made = sym (ap record_line (made_record query out fine long) ∙ line_made query fine (record_of query) own);
      served = sym (line_made query fine (served_in who (look_up_of query catalogue out) query catalogue out) (outcome query catalogue who out fine made long).1);
    }
  where
    s : Sequence
    s = after_all (open_of (cell_at query 0)).sequence calls

    o : Ordered (cell_at query 0) (terms_of query) (report_of s a b) (a_after s a b)
    o = subst (λ (ts : List ℕ). Ordered (cell_at query 0) ts (report_of s a b) (a_after s a b)) h (every_order (cell_at query 0) (least query fine) (most query fine) calls a b ha hb)

    own : body (record_of query) ≡ layout query (sequence_of query)
    own = made_body query (size query fine)

    agree : AgreesWith (cell_at query 0) calls a b (record_of query)
    agree = agrees query fine (record_of query) own calls a b h ha hb

    same_start : cell_at (record_of query) length_cell ≡ o.start
    same_start = ap told (sym agree.length_same ∙ o.reported)

    shows : query_line query ≡ register_line (cell_at query 0) (cell_at query 1) o.start (a_cells (a_after s a b))
    shows =
        sym (line_shown query fine (record_of query) own)
        ∙ ap₂ (λ (l : ℕ) (y : List ℕ). register_line (cell_at query 0) (cell_at query 1) l (a_cells y)) same_start (sym agree.a_same)

    reached : s ≡ sequence_of query
    reached = state (cell_at query 0) (least query fine) (most query fine) calls ∙ ap (holding (cell_at query 0)) h ∙ held query fine

pub numerals : Numerals
unfolding Numerals
numerals n = record { some = numeral_some n; digits = numeral_digits n; value = numeral_value n; front = numeral_front n }
