-- The reason of each reply to a number and to a tally, the numbers of all sequences, and that the cells count the least lengths that the calls show.
-- Assumes nothing.
use mathlib.Core.Path.{◌≡◌, refl, sym, ap, ◌∙◌, subst}
use mathlib.Core.Logic.{◌⊎◌, inl, inr}
use mathlib.Core.Bool.{false}
use mathlib.Core.List.{List}
use Prim.Native.Nat.{ℕ, zero, suc, ◌^◌, ◌≤◌, ◌<◌}
use native.Mathlib.Decide.{ℕ_discrete}
use native.Mathlib.Omega.{arith}
use lib.Dec.{eqb}
use lib.ListN.{length}
use Rattle.std.specs.Prelude.{Option, Some, None, Ok, Err}
use Rattle.lists.specs.Choice.{pick}
use Rattle.lists.specs.Sum.{sum_to}
use Rattle.lists.specs.Table.{at}
use Rattle.lists.proofs.Search.{false_true, lt_or_le}
use Rattle.lists.proofs.Sum.{sum_to_eq, sum_to_cut}
use Rattle.cells.specs.Cell.{cell_at}
use Rattle.cells.proofs.Laws.{cell_of}
use Rattle.recurrence.specs.Least.{Least}
use Rattle.recurrence.specs.Register.{complexity}
use Rattle.recurrence.proofs.Length.{least_unique}
use Rattle.recurrence.proofs.Register.{complexity_is_least}
use Rattle.counting.specs.Numbering.{list_at, ListOf, Before, count_below}
use Rattle.counting.specs.Lengths.{with_length}
use Rattle.counting.proofs.Counts.{count_le}
use Rattle.counting.proofs.Numbering.{list_at_length, list_at_below, list_at_of, number, numbered, in_order}
use Rattle.counting.proofs.Lengths.{lengths_past, lengths_whole, lengths_none, lengths_prime}
use Rattle.sequence.specs.declared.Refusal.{Refusal}
use Rattle.sequence.specs.declared.Refusal.TheVariants as R
use Rattle.sequence.specs.Limits.{max_terms, query_bytes, profile_bytes}
use Rattle.sequence.specs.Rules.{query_of, check_of}
use Rattle.sequence.specs.Report.{filled}
use Rattle.sequence.proofs.Query.{query_modulus, query_count, query_passes}
use Rattle.catalogue.specs.Rules.{record_bytes}
use Rattle.enumeration.specs.Rules.{lengths, tally_bytes, enumerate_of, query_numbered, tally_of, tally_cells}
use Rattle.enumeration.proofs.Laws as L
use Rattle.enumeration.proofs.Answers.{enumerate_told, tally_told}
use Rattle.formatting.specs.Census.{pair_in, answer_of, no_pair_line, pair_line, is_pair}
use Rattle.formatting.proofs.Tallies.{line_refused, line_made}
use Rattle.formatting.proofs.Pairs.{pair_printed, pair_answered}
use Rattle.guarantees.specs.Calls.{Call, taken}
use Rattle.guarantees.specs.Claims.{terms_of, profile_cell, length_made}
use Rattle.guarantees.specs.Census as S
use Rattle.guarantees.specs.Census.{query_after, cells_after, count_of, Countable, Uncounted, NumberReason, TallyReason, EveryReply, Numbered, Tally, PrintedLines, Census, TheCensus}
use Rattle.guarantees.proofs.Lines.{inside_not, outside_is}
use Rattle.guarantees.proofs.Shown.{cell_least, made_least, query_terms}
use Rattle.sequence.specs.Answers.{Outcome}

-- ---- the reason of each reply

kept : (o : Outcome) (new old : List ℕ) → (o ≡ Ok tt → ⊥) → filled o new old ≡ old
kept (Ok _) new old h = absurd (h refl)
kept (Err r) new old h = refl

module _ (m n : ℕ) where
  legal : Countable m n → L.Legal m n (m ^ n)
  legal c = L.legal m n c.modulus.least c.modulus.most c.power

  counts_all : Countable m n → L.CountedAs m n (m ^ n)
  counts_all c = L.counted_fits m n (legal c)

  uncounted : {r : Refusal} → Uncounted m n r → L.RefusedBy m n r
  uncounted (S.modulus h e) = subst (L.RefusedBy m n) (sym e) (L.counted_modulus m n (outside_is m h))
  uncounted (S.count i h e) = subst (L.RefusedBy m n) (sym e) (L.counted_count m n i.least i.most h)
  uncounted (S.power i c h e) = subst (L.RefusedBy m n) (sym e) (L.counted_many m n i.least i.most c h)

  -- they are counted, or there is a reason why not
  why : Countable m n ⊎ ((r : Refusal) × Uncounted m n r)
  why = go (L.counting m n)
    where
      go : L.Count m n → Countable m n ⊎ ((r : Refusal) × Uncounted m n r)
      go (L.modulus e h) = inr (R.Modulus, S.modulus (λ i. false_true (sym (inside_not m i) ∙ e)) refl)
      go (L.count a b c h) = inr (R.Count, S.count (record { least = a; most = b }) c refl)
      go (L.many a b c d h) = inr (R.Census, S.power (record { least = a; most = b }) c d refl)
      go (L.fits l h) = inl (record { modulus = record { least = l.least; most = l.most }; count = l.count; power = l.small })

  module _ (x : ℕ) (query : List ℕ) where
    number_exactly : (o : Outcome) → NumberReason m n x query o → enumerate_of m n x query ≡ o
    number_exactly o (S.buffer f e) = L.enumerate_buffer m n x query f ∙ sym e
    number_exactly o (S.uncounted r h u e) = L.enumerate_refused m n x query h (uncounted u) ∙ sym e
    number_exactly o (S.large h c k e) = L.enumerate_large m n x query h (counts_all c) k ∙ sym e
    number_exactly o (S.done h c k e) = L.enumerate_done m n x query h (counts_all c) k ∙ sym e

    number_reason : NumberReason m n x query (enumerate_of m n x query)
    number_reason = go (ℕ_discrete (length query) query_bytes) why (lt_or_le x (m ^ n))
      where
        go : Dec (length query ≡ query_bytes) → Countable m n ⊎ ((r : Refusal) × Uncounted m n r) → (x < m ^ n) ⊎ (m ^ n ≤ x)
            → NumberReason m n x query (enumerate_of m n x query)
        go (no f) w k = S.buffer f (L.enumerate_buffer m n x query f)
        go (yes h) (inr (r, u)) k = S.uncounted r h u (L.enumerate_refused m n x query h (uncounted u))
        go (yes h) (inl c) (inl k) = S.done h c k (L.enumerate_done m n x query h (counts_all c) k)
        go (yes h) (inl c) (inr k) = S.large h c k (L.enumerate_large m n x query h (counts_all c) k)

  module _ (cells : List ℕ) where
    tally_exactly : (o : Outcome) → TallyReason m n cells o → tally_of m n cells ≡ o
    tally_exactly o (S.buffer f e) = L.tally_buffer m n cells f ∙ sym e
    tally_exactly o (S.uncounted r h u e) = L.tally_refused m n cells h (uncounted u) ∙ sym e
    tally_exactly o (S.done h c e) = L.tally_done m n cells h (counts_all c) ∙ sym e

    tally_reason : TallyReason m n cells (tally_of m n cells)
    tally_reason = go (ℕ_discrete (length cells) tally_bytes) why
      where
        go : Dec (length cells ≡ tally_bytes) → Countable m n ⊎ ((r : Refusal) × Uncounted m n r) → TallyReason m n cells (tally_of m n cells)
        go (no f) w = S.buffer f (L.tally_buffer m n cells f)
        go (yes h) (inr (r, u)) = S.uncounted r h u (L.tally_refused m n cells h (uncounted u))
        go (yes h) (inl c) = S.done h c (L.tally_done m n cells h (counts_all c))

  replies : (x : ℕ) (query cells : List ℕ) → EveryReply m n x query cells
  replies x query cells =
      record {
        number_reason = number_reason x query;
        number_exactly = number_exactly x query;
        tally_reason = tally_reason cells;
        tally_exactly = tally_exactly cells;
        number_by_number = (enumerate_told m n x query {r = enumerate_of m n x query} {A = Unit {0}} refl tt).result_value;
        tally_by_number = (tally_told m n cells {r = tally_of m n cells} {A = Unit {0}} refl tt).result_value;
        query_kept = kept (enumerate_of m n x query) (query_numbered m n x) query;
        cells_kept = kept (tally_of m n cells) (tally_cells m n) cells;
      }

-- ---- the numbers

module _ (m n : ℕ) (c : Countable m n) (query : List ℕ) (sized : length query ≡ query_bytes) where
  abbrev after : ℕ → List ℕ
  after x = query_after m n x query

  pos : zero < m
  pos = omega (arith, c.modulus.least)

  few : (x : ℕ) → length (list_at m n x) ≤ max_terms
  few x = omega (arith, list_at_length m n x, c.count)

  below : (x j : ℕ) → j < length (list_at m n x) → at (list_at m n x) j < m
  below x j h = list_at_below m pos n x j

  -- the buffer is the query of the list with number x
  is_query : (x : ℕ) → x < m ^ n → after x ≡ query_of m (list_at m n x)
  unfolding query_numbered
  is_query x h = ap (λ (o : Outcome). filled o (query_numbered m n x) query) (L.enumerate_done m n x query sized (counts_all m n c) h)

  is_list : (x : ℕ) → x < m ^ n → terms_of (after x) ≡ list_at m n x
  is_list x h = ap terms_of (is_query x h) ∙ query_terms m (list_at m n x) c.modulus.least c.modulus.most (few x) (below x)

  passes : (x : ℕ) → x < m ^ n → check_of (after x) ≡ Ok tt
  passes x h = ap check_of (is_query x h) ∙ query_passes m (list_at m n x) c.modulus.least c.modulus.most (few x) (below x)

  modulus_is : (x : ℕ) → x < m ^ n → cell_at (after x) 0 ≡ m
  modulus_is x h =
      ap (λ (q : List ℕ). cell_at q 0) (is_query x h) ∙ query_modulus m (list_at m n x) c.modulus.least c.modulus.most (few x) (below x)

  count_is : (x : ℕ) → x < m ^ n → cell_at (after x) 1 ≡ n
  count_is x h =
      ap (λ (q : List ℕ). cell_at q 1) (is_query x h) ∙ query_count m (list_at m n x) c.modulus.least c.modulus.most (few x) (below x)
      ∙ list_at_length m n x

  some : (ts : List ℕ) → ListOf m n ts → (x : ℕ) × ((x < m ^ n) × (terms_of (after x) ≡ ts))
  some ts l =
      let w = numbered m pos n ts l in
      (number m n (at ts), (w.below, is_list (number m n (at ts)) w.below ∙ w.is))

  only : (x y : ℕ) → x < m ^ n → y < m ^ n → terms_of (after x) ≡ terms_of (after y) → x ≡ y
  only x y hx hy e =
      let w = numbered m pos n (list_at m n y) (list_at_of m pos n y) in
      w.only x hx (sym (is_list x hx) ∙ e ∙ is_list y hy) ∙ sym (w.only y hy refl)

  numbers : Numbered m n query
  numbers =
      record {
        passes = passes;
        by_hand = λ x h. is_query x h ∙ ap (query_of m) (sym (is_list x h));
        terms = λ x h. subst (ListOf m n) (sym (is_list x h)) (list_at_of m pos n x);
        some = some;
        only = only;
        ordered = λ x y h k.
            subst (λ (ts : List ℕ). Before ts (terms_of (after y))) (sym (is_list x (omega arith)))
            (subst (Before (list_at m n x)) (sym (is_list y k)) (in_order m pos n x y h k));
      }

  -- ---- the tally

  module _ (cells : List ℕ) (room : length cells ≡ tally_bytes) where
    abbrev cell : ℕ → ℕ
    cell l = cell_at (cells_after m n cells) l

    legally : L.Legal m n (m ^ n)
    legally = legal m n c

    counted : (l : ℕ) → l < lengths → cell l ≡ with_length m n l
    unfolding tally_cells with_length
    counted l h =
        ap (λ (o : Outcome). cell_at (filled o (tally_cells m n) cells) l) (L.tally_done m n cells room (counts_all m n c))
        ∙ cell_of lengths (with_length m n) l h (omega (arith, count_le (m ^ n) (λ x. eqb (complexity m (list_at m n x) n) l), c.power))

    counts : (length_at : ℕ → ℕ) → ((x : ℕ) → x < m ^ n → Least m (at (terms_of (after x))) n (length_at x)) → (l : ℕ) → l < lengths → cell l ≡ count_of m n length_at l
    unfolding with_length count_below
    counts length_at is l h =
        counted l h
        ∙ sum_to_eq (m ^ n) _ (λ x. pick (eqb (length_at x) l) 1 0) (λ x k. ap (λ (z : ℕ). pick (eqb z l) 1 0) (same x k))
      where
        same : (x : ℕ) → x < m ^ n → complexity m (list_at m n x) n ≡ length_at x
        same x k =
            least_unique m (at (list_at m n x)) n (complexity m (list_at m n x) n) (length_at x) (complexity_is_least m c.modulus.least (list_at m n x) n)
            (subst (λ (ts : List ℕ). Least m (at ts) n (length_at x)) (is_list x k) (is x k))

    recorded : (out : List ℕ) → length out ≡ record_bytes → (x : ℕ) → x < m ^ n → Least m (at (terms_of (after x))) n (length_made (after x) out)
    recorded out h x k =
        subst (λ (z : ℕ). Least m (at (terms_of (after x))) z (length_made (after x) out)) (count_is x k)
        (subst (λ (z : ℕ). Least z (at (terms_of (after x))) (cell_at (after x) 1) (length_made (after x) out)) (modulus_is x k)
        (made_least (after x) (passes x k) out h))

    profiled :
        (calls : ℕ → List Call) (lent : List ℕ) → ((x : ℕ) → x < m ^ n → taken m (calls x) ≡ terms_of (after x)) → length lent ≡ profile_bytes
        → (x : ℕ) → x < m ^ n → Least m (at (terms_of (after x))) n (profile_cell m (calls x) lent n)
    profiled calls lent takes size x k = at_modulus (cell_at (after x) 0) (modulus_is x k) (cell_least (after x) (passes x k) (calls x))
      where
        at_modulus :
            (z : ℕ) → z ≡ m
            → (taken z (calls x) ≡ terms_of (after x) → (lent : List ℕ) → length lent ≡ profile_bytes → (i : ℕ) → i ≤ cell_at (after x) 1 → Least z (at (terms_of (after x))) i (profile_cell z (calls x) lent i))
            → Least m (at (terms_of (after x))) n (profile_cell m (calls x) lent n)
        at_modulus z e f =
            subst (λ (w : ℕ). taken w (calls x) ≡ terms_of (after x) → (lent : List ℕ) → length lent ≡ profile_bytes → (i : ℕ) → i ≤ cell_at (after x) 1
            → Least w (at (terms_of (after x))) i (profile_cell w (calls x) lent i)) e f (takes x k) lent size n (omega (arith, count_is x k))

    whole : sum_to lengths cell ≡ m ^ n
    whole =
        sum_to_eq lengths cell (with_length m n) counted
        ∙ sum_to_cut lengths (suc n) (with_length m n) legally.few (λ l a b. lengths_past m c.modulus.least n l (omega arith))
        ∙ lengths_whole m c.modulus.least n

    pub tallied : Tally m n query cells
    tallied =
        record {
          counts = counts;
          records = λ out h. counts (λ x. length_made (after x) out) (recorded out h);
          profiles = λ calls lent t h. counts (λ x. profile_cell m (calls x) lent n) (profiled calls lent t h);
          short = legally.few;
          past = λ l a b. counted l b ∙ lengths_past m c.modulus.least n l a;
          whole = whole;
          none = counted 0 (omega arith) ∙ lengths_none m c.modulus.least n;
          prime = λ P l a b. counted l (omega (arith, legally.few)) ∙ lengths_prime m P n l a b;
        }

-- ---- the program's lines

no_pair : (p : Option (ℕ × ℕ)) → is_pair p ≡ false → answer_of p ≡ no_pair_line
no_pair (Some (m, n)) h = false_true (sym h)
no_pair None h = refl

lines : (m n : ℕ) (cells : List ℕ) → length cells ≡ tally_bytes → PrintedLines m n cells
unfolding pair_line
lines m n cells h =
    record {
      answered = pair_answered m n;
      going = λ a b. ap is_pair (pair_printed m n a b);
      refused = λ r e. sym (line_refused m n cells h e);
      tallied = λ e. sym (line_made m n cells h (cells_after m n cells) {o = tally_of m n cells} refl refl e);
      other = λ line e. no_pair (pair_in line) e;
    }

pub census : TheCensus
unfolding TheCensus
census m n query cells =
    record {
      replies = λ x. replies m n x query cells;
      numbers = λ c h. numbers m n c query h;
      tally = λ c h k. tallied m n c query h cells k;
      lines = lines m n cells;
    }
