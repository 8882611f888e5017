-- The reason of each reply to two queries, what the merged query is, and the least lengths that the calls show for the three.
-- Assumes nothing.
use mathlib.Core.Path.{◌≡◌, refl, sym, ap, ap₂, ◌∙◌, subst}
use mathlib.Core.Bool.{Bool, true, false}
use mathlib.Core.Logic.{◌⊎◌, inl, inr}
use mathlib.Core.List.{List}
use Prim.Native.Nat.{ℕ, zero, ◌+◌, ◌%◌, ◌≤◌, ◌<◌, max}
use native.Mathlib.Nat.{le_antisymm}
use native.Mathlib.Omega.{arith}
use lib.Dec.{eqb}
use lib.ListN.{length}
use borrow.Author.Tests.{eq-eqb, ne_eqb, eqb-true}
use Rattle.std.specs.Prelude.{Ok, Err}
use Rattle.lists.specs.Choice.{pick}
use Rattle.lists.specs.Table.{at}
use Rattle.lists.proofs.Search.{false_true}
use Rattle.cells.specs.Cell.{cell_at}
use Rattle.residue.specs.Common.{common_divisor, common_multiple}
use Rattle.residue.proofs.Common.{greatest, multiple_pos, multiple_left, multiple_right, multiple_least}
use Rattle.recurrence.specs.Least.{Least}
use Rattle.recurrence.specs.Register.{complexity}
use Rattle.recurrence.proofs.Length.{least_unique}
use Rattle.sequence.specs.declared.Sequence.{Sequence}
use Rattle.sequence.specs.declared.Refusal.{Refusal}
use Rattle.sequence.specs.declared.Refusal.TheVariants as R
use Rattle.sequence.specs.Limits.{max_modulus, query_bytes, profile_bytes}
use Rattle.sequence.specs.Rules.{IsSound, sequence_of, check_of}
use Rattle.sequence.specs.Answers.{refusal, Outcome, and_then}
use Rattle.sequence.proofs.Laws.{term_cell, check_done, check_small, same_number, refused_done}
use Rattle.catalogue.specs.Rules.{record_bytes}
use Rattle.merge.specs.Rules.{merged_term, merged_query, compared_of, past_buffers, merge_of, merged_in}
use Rattle.merge.proofs.Laws as L
use Rattle.merge.proofs.Laws.{Mergeable, ApartAt, Comparison, comparing, counts_told, multiple_told, terms_told, merges_told, mergeable}
use Rattle.merge.proofs.Merger.{both_agree, term_both, term_only, merged_modulus, merged_count, merged_term_lem, merged_passes, merged_complexity}
use Rattle.merge.proofs.Answers.{merge_told}
use Rattle.guarantees.specs.Calls.{Call}
use Rattle.guarantees.specs.Claims.{terms_of, profile_cell, length_made}
use Rattle.guarantees.specs.Refusals.{Readable, FirstWrong, Clean}
use Rattle.guarantees.specs.Merging as M
use Rattle.guarantees.specs.Merging.{GreatestDivisor, LeastMultiple, LeavesBoth, Comparable, Reason, first_buffer, second_buffer, query_buffer, first_own, second_own, Takes, IsMerged, merged_exit, TwoQueries}
use Rattle.guarantees.proofs.Records.{least}
use Rattle.guarantees.proofs.Shown.{least_is, is_least, cell_least, made_least}
use Rattle.guarantees.proofs.Refusals.{passed_clean, clean_passed, every_place}

-- ---- two queries that are held against each other

module _ (x y : List ℕ) (fx : check_of x ≡ Ok tt) (fy : check_of y ≡ Ok tt) where
  abbrev s : Sequence
  s = sequence_of x

  abbrev t : Sequence
  t = sequence_of y

  S : IsSound s
  S = (check_done x fx).1

  U : IsSound t
  U = (check_done y fy).1

  apos : zero < cell_at x 0
  apos = omega (arith, least x fx)

  bpos : zero < cell_at y 0
  bpos = omega (arith, least y fy)

  pub divisor : GreatestDivisor (cell_at x 0) (cell_at y 0) (common_divisor (cell_at x 0) (cell_at y 0))
  divisor = let G = greatest (cell_at x 0) (cell_at y 0) apos in record { left = G.left; right = G.right; most = G.most }

  divisor_one : (g : ℕ) → GreatestDivisor (cell_at x 0) (cell_at y 0) g → g ≡ common_divisor (cell_at x 0) (cell_at y 0)
  divisor_one g h = le_antisymm (divisor.most g h.left h.right) (h.most (common_divisor (cell_at x 0) (cell_at y 0)) divisor.left divisor.right)

  pub multiple : LeastMultiple (cell_at x 0) (cell_at y 0) (common_multiple (cell_at x 0) (cell_at y 0))
  multiple =
      record {
        positive = multiple_pos (cell_at x 0) (cell_at y 0) apos bpos;
        left = multiple_left (cell_at x 0) (cell_at y 0) apos bpos;
        right = multiple_right (cell_at x 0) (cell_at y 0) apos bpos;
        least = multiple_least (cell_at x 0) (cell_at y 0) apos bpos;
      }

  multiple_one : (k : ℕ) → LeastMultiple (cell_at x 0) (cell_at y 0) k → k ≡ common_multiple (cell_at x 0) (cell_at y 0)
  multiple_one k h =
      le_antisymm (h.least (common_multiple (cell_at x 0) (cell_at y 0)) multiple.positive multiple.left multiple.right)
      (multiple.least k h.positive h.left h.right)

  -- the terms of the sequences are cells of the queries
  x_term : (i : ℕ) → i < cell_at x 1 → at s.terms i ≡ cell_at x (2 + i)
  unfolding sequence_of
  x_term i h = term_cell x i (omega (arith, S.count))

  y_term : (i : ℕ) → i < cell_at y 1 → at t.terms i ≡ cell_at y (2 + i)
  unfolding sequence_of
  y_term i h = term_cell y i (omega (arith, U.count))

  module _ (counts : cell_at x 1 ≡ cell_at y 1) where
    agree_cells : (i : ℕ) → i < cell_at x 1 → L.AgreeAt s t i → M.AgreeAt x y (common_divisor (cell_at x 0) (cell_at y 0)) i
    unfolding sequence_of
    agree_cells i h e =
        subst (λ (k : ℕ). k % common_divisor (cell_at x 0) (cell_at y 0) ≡ cell_at y (2 + i) % common_divisor (cell_at x 0) (cell_at y 0)) (x_term i h)
        (subst (λ (k : ℕ). at s.terms i % common_divisor (cell_at x 0) (cell_at y 0) ≡ k % common_divisor (cell_at x 0) (cell_at y 0)) (y_term i (omega arith)) e)

    cells_agree : (i : ℕ) → i < cell_at x 1 → M.AgreeAt x y (common_divisor (cell_at x 0) (cell_at y 0)) i → L.AgreeAt s t i
    unfolding sequence_of
    cells_agree i h e =
        ap (λ (k : ℕ). k % common_divisor (cell_at x 0) (cell_at y 0)) (x_term i h) ∙ e ∙ ap (λ (k : ℕ). k % common_divisor (cell_at x 0) (cell_at y 0)) (sym (y_term i (omega arith)))

    -- a number that leaves both terms there is exactly where they agree
    leaves_cells : (i v : ℕ) → i < cell_at x 1 → LeavesBoth x y i v → L.AgreeAt s t i
    unfolding sequence_of
    leaves_cells i v h l = both_agree s t S U i h (omega arith) v (l.first ∙ sym (x_term i h)) (l.second ∙ sym (y_term i (omega arith)))

    term_leaves : (i : ℕ) → i < cell_at x 1 → L.AgreeAt s t i → LeavesBoth x y i (merged_term s t i)
    unfolding sequence_of
    term_leaves i h e =
        let b = term_both s t S U i h (omega arith) e in
        record { first = b.1 ∙ x_term i h; second = b.2 ∙ y_term i (omega arith) }

    -- place i is the first where they disagree, said of the cells
    apart_cells :
        (g i : ℕ) → GreatestDivisor (cell_at x 0) (cell_at y 0) g → common_multiple (cell_at x 0) (cell_at y 0) ≤ max_modulus → i < cell_at x 1 → (M.AgreeAt x y g i → ⊥)
        → ((j : ℕ) → j < i → M.AgreeAt x y g j) → ApartAt s t i
    unfolding sequence_of
    apart_cells g i h within here apart before =
        record {
          counts = counts;
          within = within;
          here = here;
          apart = λ e. apart (subst (λ (k : ℕ). M.AgreeAt x y k i) (sym (divisor_one g h)) (agree_cells i here e));
          before = λ j l. cells_agree j (omega arith) (subst (λ (k : ℕ). M.AgreeAt x y k j) (divisor_one g h) (before j l));
        }

  -- the reason of what the comparison replies
  reason_of : (query : List ℕ) → length query ≡ query_bytes → (o : Outcome) → Comparison s t o → Reason x y query o
  unfolding sequence_of
  reason_of query size o = go
    where
      held : Comparable x y query
      held = record { first = passed_clean x fx; second = passed_clean y fy; buffer = size }

      go : Comparison s t o → Reason x y query o
      go (L.counts d e) = M.counts held d e
      go (L.multiple d l e) = M.multiple (common_multiple (cell_at x 0) (cell_at y 0)) held d multiple l e
      go (L.terms i a e) =
          M.terms (common_multiple (cell_at x 0) (cell_at y 0)) (common_divisor (cell_at x 0) (cell_at y 0)) i held a.counts multiple a.within divisor a.here
          (λ k. a.apart (cells_agree a.counts i a.here k)) (λ j l. agree_cells a.counts j (omega (arith, a.here)) (a.before j l)) e
      go (L.merges a e) =
          M.done (common_multiple (cell_at x 0) (cell_at y 0)) (common_divisor (cell_at x 0) (cell_at y 0)) held a.counts multiple a.within divisor
          (λ j l. agree_cells a.counts j l (a.agree j l)) e

  -- ---- the merged query

  module _ (a : Mergeable s t) where
    abbrev z : List ℕ
    z = merged_query s t

    fz : check_of z ≡ Ok tt
    fz = merged_passes s t S U a

    same_modulus : cell_at z 0 ≡ common_multiple (cell_at x 0) (cell_at y 0)
    unfolding sequence_of
    same_modulus = merged_modulus s t S U a

    x_count : cell_at z 1 ≡ cell_at x 1
    unfolding sequence_of
    x_count = merged_count s t S U a

    y_count : cell_at z 1 ≡ cell_at y 1
    unfolding sequence_of
    y_count = x_count ∙ a.counts

    counts_same : cell_at x 1 ≡ cell_at y 1
    counts_same = sym x_count ∙ y_count

    term_is : (i : ℕ) → i < cell_at x 1 → cell_at z (2 + i) ≡ merged_term s t i
    unfolding sequence_of
    term_is i h = merged_term_lem s t S U a i h

    agree_at : (i : ℕ) → i < cell_at x 1 → L.AgreeAt s t i
    unfolding sequence_of
    agree_at i h = a.agree i h

    larger : (k : ℕ) → k ≤ cell_at x 1 → complexity (cell_at z 0) (sequence_of z).terms k ≡ max (complexity (cell_at x 0) s.terms k) (complexity (cell_at y 0) t.terms k)
    unfolding sequence_of
    larger k h = ap (λ (v : ℕ). complexity v (sequence_of z).terms k) same_modulus ∙ merged_complexity s t S U a k h

    only_term : (i v : ℕ) → i < cell_at x 1 → v < cell_at z 0 → LeavesBoth x y i v → v ≡ merged_term s t i
    unfolding sequence_of
    only_term i v h l b =
        term_only s t S U i h (omega (arith, counts_same)) v (omega (arith, same_modulus)) (b.first ∙ sym (x_term i h)) (b.second ∙ sym (y_term i (omega (arith, counts_same))))

    least_merged :
        (k l l' : ℕ) → k ≤ cell_at z 1 → Least (cell_at x 0) (at (terms_of x)) k l → Least (cell_at y 0) (at (terms_of y)) k l'
        → Least (cell_at z 0) (at (terms_of z)) k (max l l')
    least_merged k l l' h p q =
        is_least z fz k (max l l') h
        (ap₂ max (least_is x fx k l (omega (arith, x_count)) p) (least_is y fy k l' (omega (arith, y_count)) q) ∙ sym (larger k (omega (arith, x_count))))

    profiles_merged :
        (calls_x calls_y calls_z : List Call) (cells_x cells_y cells_z : List ℕ) → Takes calls_x x → Takes calls_y y → Takes calls_z z → length cells_x ≡ profile_bytes
        → length cells_y ≡ profile_bytes → length cells_z ≡ profile_bytes → (k : ℕ) → k ≤ cell_at z 1
        → profile_cell (cell_at z 0) calls_z cells_z k ≡ max (profile_cell (cell_at x 0) calls_x cells_x k) (profile_cell (cell_at y 0) calls_y cells_y k)
    profiles_merged cx cy cz ex ey ez tx ty tz hx hy hz k h =
        least_unique (cell_at z 0) (at (terms_of z)) k (profile_cell (cell_at z 0) cz ez k) (max (profile_cell (cell_at x 0) cx ex k) (profile_cell (cell_at y 0) cy ey k))
        (cell_least z fz cz tz ez hz k h)
        (least_merged k (profile_cell (cell_at x 0) cx ex k) (profile_cell (cell_at y 0) cy ey k) h (cell_least x fx cx tx ex hx k (omega (arith, x_count)))
        (cell_least y fy cy ty ey hy k (omega (arith, y_count))))

    lengths_merged :
        (out_x out_y out_z : List ℕ) → length out_x ≡ record_bytes → length out_y ≡ record_bytes → length out_z ≡ record_bytes
        → length_made z out_z ≡ max (length_made x out_x) (length_made y out_y)
    lengths_merged ox oy oz hx hy hz =
        least_unique (cell_at z 0) (at (terms_of z)) (cell_at z 1) (length_made z oz) (max (length_made x ox) (length_made y oy)) (made_least z fz oz hz)
        (least_merged (cell_at z 1) (length_made x ox) (length_made y oy) (omega arith)
        (subst (λ (k : ℕ). Least (cell_at x 0) (at (terms_of x)) k (length_made x ox)) (sym x_count) (made_least x fx ox hx))
        (subst (λ (k : ℕ). Least (cell_at y 0) (at (terms_of y)) k (length_made y oy)) (sym y_count) (made_least y fy oy hy)))

    is_merged : IsMerged x y z
    is_merged =
        record {
          passes = fz;
          clean = passed_clean z fz;
          modulus = subst (LeastMultiple (cell_at x 0) (cell_at y 0)) (sym same_modulus) multiple;
          first_count = x_count;
          second_count = y_count;
          leaves = λ i h. let k : i < cell_at x 1 = omega (arith, x_count) in subst (LeavesBoth x y i) (sym (term_is i k)) (term_leaves counts_same i k (agree_at i k));
          only = λ i v h l b. let k : i < cell_at x 1 = omega (arith, x_count) in only_term i v k l b ∙ sym (term_is i k);
          least = least_merged;
          profiles = profiles_merged;
          lengths = lengths_merged;
        }

-- ---- every three buffers

module _ (x y query : List ℕ) where
  reason_told : Reason x y query (merge_of x y query)
  unfolding merge_of
  reason_told =
      go (eqb (length x) query_bytes) refl (eqb (length y) query_bytes) refl (eqb (length query) query_bytes) refl (check_of x) refl (check_of y) refl
    where
      go :
          (a : Bool) → eqb (length x) query_bytes ≡ a → (b : Bool) → eqb (length y) query_bytes ≡ b → (d : Bool) → eqb (length query) query_bytes ≡ d → (p : Outcome)
          → check_of x ≡ p → (q : Outcome) → check_of y ≡ q
          → Reason x y query (pick a (pick b (pick d (and_then p (and_then q (compared_of (sequence_of x) (sequence_of y)))) (Err R.Buffer)) (Err R.Buffer)) (Err R.Buffer))
      go false ha b hb d hd p hp q hq = first_buffer (λ h. false_true (sym ha ∙ eq-eqb (length x) query_bytes h)) refl
      go true ha false hb d hd p hp q hq = second_buffer (λ h. false_true (sym hb ∙ eq-eqb (length y) query_bytes h)) refl
      go true ha true hb false hd p hp q hq = query_buffer (λ h. false_true (sym hd ∙ eq-eqb (length query) query_bytes h)) refl
      go true ha true hb true hd (Err r) hp q hq =
          first_own r (eqb-true (length x) query_bytes ha) (eqb-true (length y) query_bytes hb) (eqb-true (length query) query_bytes hd) hp refl
      go true ha true hb true hd (Ok _) hp (Err r) hq =
          second_own r (passed_clean x hp) (eqb-true (length y) query_bytes hb) (eqb-true (length query) query_bytes hd) hq refl
      go true ha true hb true hd (Ok _) hp (Ok _) hq =
          reason_of x y hp hq query (eqb-true (length query) query_bytes hd) (compared_of (sequence_of x) (sequence_of y)) (comparing (sequence_of x) (sequence_of y))

  -- past 5 the reply is that of the checks, and past these that of the comparison
  checks : length x ≡ query_bytes → length y ≡ query_bytes → length query ≡ query_bytes
      → merge_of x y query ≡ past_buffers x y
  unfolding merge_of
  checks hx hy hq = rw (eq-eqb (length x) query_bytes hx, eq-eqb (length y) query_bytes hy, eq-eqb (length query) query_bytes hq) refl

  held : Comparable x y query → merge_of x y query ≡ compared_of (sequence_of x) (sequence_of y)
  held c =
      checks c.first.readable.size c.second.readable.size c.buffer
      ∙ ap₂ (λ (p q : Outcome). and_then p (and_then q (compared_of (sequence_of x) (sequence_of y)))) (clean_passed x c.first) (clean_passed y c.second)

  exactly_told : (o : Outcome) → Reason x y query o → merge_of x y query ≡ o
  unfolding merge_of sequence_of
  exactly_told o (first_buffer h e) = rw (ne_eqb (length x) query_bytes h) (sym e)
  exactly_told o (second_buffer h e) = rw (ne_eqb (length y) query_bytes h) (go (eqb (length x) query_bytes) ∙ sym e)
    where
      go : (a : Bool) → ◌≡◌ {A = Outcome} (pick a (Err R.Buffer) (Err R.Buffer)) (Err R.Buffer)
      go true = refl
      go false = refl
  exactly_told o (query_buffer h e) = rw (ne_eqb (length query) query_bytes h) (go (eqb (length x) query_bytes) (eqb (length y) query_bytes) ∙ sym e)
    where
      go : (a b : Bool) → ◌≡◌ {A = Outcome} (pick a (pick b (Err R.Buffer) (Err R.Buffer)) (Err R.Buffer)) (Err R.Buffer)
      go true true = refl
      go true false = refl
      go false b = refl
  exactly_told o (first_own r hx hy hq h e) = checks hx hy hq ∙ ap (λ (p : Outcome). and_then p (and_then (check_of y) (compared_of (sequence_of x) (sequence_of y)))) h ∙ sym e
  exactly_told o (second_own r c hy hq h e) =
      checks c.readable.size hy hq
      ∙ ap₂ (λ (p q : Outcome). and_then p (and_then q (compared_of (sequence_of x) (sequence_of y)))) (clean_passed x c) h ∙ sym e
  exactly_told o (M.counts c d e) = held c ∙ counts_told (sequence_of x) (sequence_of y) d ∙ sym e
  exactly_told o (M.multiple k c d h l e) =
      held c
      ∙ multiple_told (sequence_of x) (sequence_of y) d (omega (arith, multiple_one x y (clean_passed x c.first) (clean_passed y c.second) k h)) ∙ sym e
  exactly_told o (M.terms k g i c d h l hg here apart before e) =
      held c
      ∙ terms_told (sequence_of x) (sequence_of y) i
      (apart_cells x y (clean_passed x c.first) (clean_passed y c.second) d g i hg
      (omega (arith, multiple_one x y (clean_passed x c.first) (clean_passed y c.second) k h)) here apart before)
      ∙ sym e
  exactly_told o (M.done k g c d h l hg agree e) =
      held c
      ∙ merges_told (sequence_of x) (sequence_of y)
      (record {
        counts = d;
        within = omega (arith, multiple_one x y fx fy k h);
        agree = λ j b. cells_agree x y fx fy d j b (subst (λ (v : ℕ). M.AgreeAt x y v j) (divisor_one x y fx fy g hg) (agree j b));
      })
      ∙ sym e
    where
      fx : check_of x ≡ Ok tt
      fx = clean_passed x c.first

      fy : check_of y ≡ Ok tt
      fy = clean_passed y c.second

  -- a reply that is no refusal of a buffer or of a query comes of the comparison
  compared_when : (o : Outcome) → merge_of x y query ≡ o → ((r : Refusal) → (refusal r).number ≤ 5 → o ≡ Err r → ⊥) → Comparable x y query
  compared_when o told late = go reason_told
    where
      go : Reason x y query (merge_of x y query) → Comparable x y query
      go (first_buffer h e) = absurd (late R.Buffer (omega arith) (sym told ∙ e))
      go (second_buffer h e) = absurd (late R.Buffer (omega arith) (sym told ∙ e))
      go (query_buffer h e) = absurd (late R.Buffer (omega arith) (sym told ∙ e))
      go (first_own r hx hy hq h e) = absurd (late r (check_small x h) (sym told ∙ e))
      go (second_own r c hy hq h e) = absurd (late r (check_small y h) (sym told ∙ e))
      go (M.counts c d e) = c
      go (M.multiple k c d h l e) = c
      go (M.terms k g i c d h l hg here apart before e) = c
      go (M.done k g c d h l hg agree e) = c

  -- ---- 3

  wrong_told : (i : ℕ) → merge_of x y query ≡ Err (R.Term i) → (Readable x × FirstWrong x i) ⊎ (Clean x × Readable y × FirstWrong y i)
  wrong_told i told = go reason_told
    where
      -- the query's own refusal is this one
      own : (z : List ℕ) {r : Refusal} → check_of z ≡ Err r → merge_of x y query ≡ Err r → Readable z × FirstWrong z i
      own z h e = let p = (every_place.checked z).told_first i (h ∙ sym e ∙ told) in (p.1, p.2)

      -- another number than 3
      other : {A : Type 0} {r : Refusal} → merge_of x y query ≡ Err r → ((refusal r).number ≡ 3 → ⊥) → A
      other e k = absurd (k (same_number (sym e ∙ told)))

      go : Reason x y query (merge_of x y query) → (Readable x × FirstWrong x i) ⊎ (Clean x × Readable y × FirstWrong y i)
      go (first_buffer h e) = other e (λ k. omega arith)
      go (second_buffer h e) = other e (λ k. omega arith)
      go (query_buffer h e) = other e (λ k. omega arith)
      go (first_own r hx hy hq h e) = inl (own x h e)
      go (second_own r c hy hq h e) = let o = own y h e in inr (c, o.0, o.1)
      go (M.counts c d e) = other e (λ k. omega arith)
      go (M.multiple k c d h l e) = other e (λ k. omega arith)
      go (M.terms k g j c d h l hg here apart before e) = other e (λ k. omega arith)
      go (M.done k g c d h l hg agree e) = refused_done (sym told ∙ e)

  first_wrong_told : (i : ℕ) → Readable x → FirstWrong x i → length y ≡ query_bytes → length query ≡ query_bytes → merge_of x y query ≡ Err (R.Term i)
  first_wrong_told i r f hy hq = exactly_told (Err (R.Term i)) (first_own (R.Term i) r.size hy hq ((every_place.checked x).first_told i tt r f) refl)

  second_wrong_told : (i : ℕ) → Clean x → Readable y → FirstWrong y i → length query ≡ query_bytes → merge_of x y query ≡ Err (R.Term i)
  second_wrong_told i c r f hq = exactly_told (Err (R.Term i)) (second_own (R.Term i) c r.size hq ((every_place.checked y).first_told i tt r f) refl)

  -- ---- 31

  module _ (c : Comparable x y query) where
    px : check_of x ≡ Ok tt
    px = clean_passed x c.first

    py : check_of y ≡ Ok tt
    py = clean_passed y c.second

    none_apart_told :
        (k i : ℕ) → cell_at x 1 ≡ cell_at y 1 → LeastMultiple (cell_at x 0) (cell_at y 0) k → k ≤ max_modulus → i < cell_at x 1
        → ((v : ℕ) → LeavesBoth x y i v → ⊥) → ((j : ℕ) → j < i → (v : ℕ) × LeavesBoth x y j v) → merge_of x y query ≡ Err (R.TermsDisagree i)
    unfolding sequence_of
    none_apart_told k i d h l here never before =
        held c
        ∙ terms_told (sequence_of x) (sequence_of y) i
        (record {
          counts = d;
          within = omega (arith, multiple_one x y px py k h);
          here = here;
          apart = λ e. never (merged_term (sequence_of x) (sequence_of y) i) (term_leaves x y px py d i here e);
          before = λ j b. let w = before j b in leaves_cells x y px py d j w.0 (omega arith) w.1;
        })

  module _ (i : ℕ) (told : merge_of x y query ≡ Err (R.TermsDisagree i)) where
    c : Comparable x y query
    c = compared_when (Err (R.TermsDisagree i)) told (λ r h e. let n = same_number e in omega (arith, n))

    fx : check_of x ≡ Ok tt
    fx = clean_passed x c.first

    fy : check_of y ≡ Ok tt
    fy = clean_passed y c.second

    apart_at : ApartAt (sequence_of x) (sequence_of y) i
    apart_at = go (comparing (sequence_of x) (sequence_of y))
      where
        reply : compared_of (sequence_of x) (sequence_of y) ≡ Err (R.TermsDisagree i)
        reply = sym (held c) ∙ told

        go : Comparison (sequence_of x) (sequence_of y) (compared_of (sequence_of x) (sequence_of y)) → ApartAt (sequence_of x) (sequence_of y) i
        go (L.counts d e) = absurd (let n = same_number (sym e ∙ reply) in omega (arith, n))
        go (L.multiple d l e) = absurd (let n = same_number (sym e ∙ reply) in omega (arith, n))
        go (L.terms j a e) =
            let two : Err (R.TermsDisagree j) ≡ Err (R.TermsDisagree i) = sym e ∙ reply in
            let same_place : j ≡ i = cc in
            subst (ApartAt (sequence_of x) (sequence_of y)) same_place a
        go (L.merges a e) = refused_done (sym reply ∙ e)

    apart_never : (v : ℕ) → LeavesBoth x y i v → ⊥
    unfolding sequence_of
    apart_never v l = apart_at.apart (leaves_cells x y fx fy apart_at.counts i v apart_at.here l)

    apart_before : (j : ℕ) → j < i → (v : ℕ) × LeavesBoth x y j v
    unfolding sequence_of
    apart_before j h =
        (merged_term (sequence_of x) (sequence_of y) j, term_leaves x y fx fy apart_at.counts j (omega (arith, apart_at.here)) (apart_at.before j h))

  -- ---- done

  merged_told : merge_of x y query ≡ Ok tt → IsMerged x y (merged_exit x y query)
  merged_told told =
      subst (λ (o : Outcome). IsMerged x y (merged_in o x y query)) (sym told)
      (is_merged x y (clean_passed x c.first) (clean_passed y c.second) (mergeable (sequence_of x) (sequence_of y) (sym (held c) ∙ told)))
    where
      c : Comparable x y query
      c = compared_when (Ok tt) told (λ r h e. refused_done (sym e))

  kept_told : (merge_of x y query ≡ Ok tt → ⊥) → merged_exit x y query ≡ query
  kept_told other = go (merge_of x y query) refl
    where
      go : (o : Outcome) → merge_of x y query ≡ o → merged_in o x y query ≡ query
      go (Ok _) e = absurd (other e)
      go (Err r) e = refl

pub two_queries : TwoQueries
unfolding TwoQueries
two_queries x y query =
    record {
      reason = reason_told x y query;
      exactly = exactly_told x y query;
      wrong_term = wrong_told x y query;
      first_wrong = first_wrong_told x y query;
      second_wrong = second_wrong_told x y query;
      apart_none = apart_never x y query;
      apart_first = apart_before x y query;
      none_apart = λ k i c d h l here never before. none_apart_told x y query c k i d h l here never before;
      by_number = (merge_told x y query {r = merge_of x y query} {A = Unit {0}} refl tt).result_value;
      kept = kept_told x y query;
      merged = merged_told x y query;
    }
