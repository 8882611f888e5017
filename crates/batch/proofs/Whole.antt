-- The whole call: how the walk begins and goes on, what is true when it has answered every query, and what is replied.
-- Assumes nothing.
use mathlib.Core.Path.{◌≡◌, refl, sym, ap, ap₂, ◌∙◌, subst}
use mathlib.Core.Bool.{Bool, true, false, not}
use mathlib.Core.List.{List, [], ◌∷◌}
use Prim.Native.Nat.{ℕ, suc, ◌+◌, ◌-◌, ◌*◌, ◌/◌, ◌%◌, ◌≤◌, ◌<◌}
use native.Mathlib.Numerals.{add-one}
use native.Mathlib.Omega.{arith}
use lib.Dec.{ltb, eqb}
use lib.ListN.{length, take, drop, replicate, length-replicate}
use borrow.Author.Tests.{eqb-true, ltb-false}
use Rattle.std.specs.Prelude.{Result, Ok, Err}
use Rattle.lists.specs.Choice.{pick}
use Rattle.lists.specs.Table.{at, tabulate}
use Rattle.lists.proofs.Search.{both_left, both_right}
use Rattle.lists.proofs.Table.{at_tabulate, is_tabulate, length_tabulate}
use Rattle.sequence.specs.declared.Refusal.{Refusal}
use Rattle.sequence.specs.Limits.{query_bytes}
use Rattle.sequence.specs.Answers.{granted, refused, refusal, outcome_answer, first_of, Outcome}
use Rattle.sequence.specs.Rules.{check_of}
use Rattle.catalogue.specs.Rules.{record_bytes, record_at, records}
use Rattle.catalogue.proofs.Laws.{cut_record}
use Rattle.codes.specs.Codes.{code_of, counts_code_of}
use Rattle.codes.proofs.Laws.{counts_refused}
use Rattle.batch.specs.declared.Batch.{Batch}
use Rattle.batch.specs.Rules.{max_queries, query_at, queries_in, alone_of, part_of, reply_code, is_found, is_made, is_refused, count_kind, lengths_fit, refused_by, refused_whole, reply_by, look_up_batch_of, batch_answer, look_up_batch_answer, parts_in, replies_in, outcome_of}
use Rattle.batch.specs.Walk.{held_of, held_part, Holding}
use Rattle.batch.specs.Inner.{check_code, offered_part, offered_code, Offered, Answered, settled_part, settled_code, Settled, tally_of}
use Rattle.batch.proofs.Parts.{zero_part, is_end_to_end}
use Rattle.batch.proofs.Holding.{held_start, held_next, held_end}
use Rattle.batch.proofs.Counting.{tallied, all_counted}

-- ---- the lengths

pub fits_whole : (q o r : ℕ) → lengths_fit q o r ≡ true → q % query_bytes ≡ 0
fits_whole q o r h = eqb-true _ _ (both_left (eqb (q % query_bytes) 0) _ h)

pub fits_out : (q o r : ℕ) → lengths_fit q o r ≡ true → o ≡ q / query_bytes * record_bytes
fits_out q o r h = eqb-true _ _ (both_left (eqb o (q / query_bytes * record_bytes)) _ (both_right (eqb (q % query_bytes) 0) _ h))

pub fits_replies : (q o r : ℕ) → lengths_fit q o r ≡ true → r ≡ q / query_bytes
fits_replies q o r h = eqb-true _ _ (both_right (eqb o (q / query_bytes * record_bytes)) _ (both_right (eqb (q % query_bytes) 0) _ h))

-- where the whole call is not refused, all lengths are right
pub record Right (q c o r : ℕ) : Type 0 where
  pub sized : lengths_fit q o r ≡ true
  pub few : q / query_bytes ≤ max_queries
  pub whole : c % record_bytes ≡ 0

pub done_right : (q c o r : ℕ) → refused_whole q c o r ≡ Ok tt → Right q c o r
unfolding refused_whole
done_right q c o r h = go (lengths_fit q o r) (ltb max_queries (q / query_bytes)) (eqb (c % record_bytes) 0) refl refl refl h
  where
    no : {s : Refusal} → ◌≡◌ {A = Outcome} (Err s) (Ok tt) → Right q c o r
    no e = let z : ◌≡◌ {A = ℕ} 0 1 = cc in absurd (omega arith)

    go : (f m w : Bool) → lengths_fit q o r ≡ f → ltb max_queries (q / query_bytes) ≡ m → eqb (c % record_bytes) 0 ≡ w → refused_by (not f) m (not w) ≡ Ok tt → Right q c o r
    go true false true ef em ew k = record { sized = ef; few = ltb-false _ _ em; whole = eqb-true _ _ ew }
    go true false false ef em ew k = no k
    go true true w ef em ew k = no k
    go false m w ef em ew k = no k

-- ---- the walk

pub begun :
    (who : ℕ) (queries catalogue out₀ out replies : List ℕ) → length out₀ ≡ queries_in queries * record_bytes → out ≡ replicate (length out₀) 0
    → replies ≡ tabulate (queries_in queries) (λ i. check_code (query_at queries i)) → Holding who queries catalogue 0 out replies
begun who queries catalogue out₀ out replies w eo er =
    record {
      wide = ap length eo ∙ length-replicate {A = ℕ} (length out₀) 0 ∙ w;
      many = ap length er ∙ length_tabulate (queries_in queries) (λ i. check_code (query_at queries i));
      shown = λ i h. ap (λ (x : List ℕ). record_at x i) eo ∙ zero_part (length out₀) i (omega (arith, w)) ∙ sym (held_start who (query_at queries i) catalogue).0;
      told = λ i h.
          ap (λ (x : List ℕ). at x i) er ∙ at_tabulate (queries_in queries) (λ i. check_code (query_at queries i)) i h ∙ sym (held_start who (query_at queries i) catalogue).1;
    }

-- record j, as the walk cuts it out, offered to every query
pub holding_more :
    (who : ℕ) (queries catalogue out replies out' replies' : List ℕ) (j : ℕ) → Holding who queries catalogue j out replies
    → Offered who queries (take (j * record_bytes + record_bytes - j * record_bytes) (drop (j * record_bytes) catalogue)) j out replies out' replies'
    → Holding who queries catalogue (j + 1) out' replies'
holding_more who queries catalogue out replies out' replies' j s o =
    subst (λ (k : ℕ). Holding who queries catalogue k out' replies') (sym (add-one j))
    (record { wide = o.wide; many = o.many; shown = λ i h. o.shown i h ∙ parts i h; told = λ i h. o.told i h ∙ codes i h })
  where
    cut : take (j * record_bytes + record_bytes - j * record_bytes) (drop (j * record_bytes) catalogue) ≡ record_at catalogue j
    cut = cut_record catalogue (j * record_bytes)

    parts :
        (i : ℕ) → i < queries_in queries
        → offered_part who (query_at queries i) (take (j * record_bytes + record_bytes - j * record_bytes) (drop (j * record_bytes) catalogue)) (record_at out i) (at replies i)
        ≡ held_part who (held_of (query_at queries i) catalogue (suc j)) catalogue
    parts i h =
        ap (λ (e : List ℕ). offered_part who (query_at queries i) e (record_at out i) (at replies i)) cut
        ∙ ap₂ (λ (p : List ℕ) (r : ℕ). offered_part who (query_at queries i) (record_at catalogue j) p r) (s.shown i h) (s.told i h)
        ∙ (held_next who (query_at queries i) catalogue j).0

    codes :
        (i : ℕ) → i < queries_in queries
        → offered_code (query_at queries i) (take (j * record_bytes + record_bytes - j * record_bytes) (drop (j * record_bytes) catalogue)) j (at replies i)
        ≡ reply_code (held_of (query_at queries i) catalogue (suc j))
    codes i h =
        ap (λ (e : List ℕ). offered_code (query_at queries i) e j (at replies i)) cut
        ∙ ap (offered_code (query_at queries i) (record_at catalogue j) j) (s.told i h)
        ∙ (held_next who (query_at queries i) catalogue j).1

-- what is held after all records, settled
pub answered :
    (who : ℕ) (queries catalogue out replies out' replies' : List ℕ) → length catalogue % record_bytes ≡ 0 → Holding who queries catalogue (records catalogue) out replies
    → Settled queries out replies out' replies' → Answered who queries catalogue out' replies'
answered who queries catalogue out replies out' replies' whole s o =
    record {
      wide = o.wide;
      many = o.many;
      shown = λ i h.
          o.shown i h
          ∙ ap₂ (λ (p : List ℕ) (r : ℕ). settled_part (check_of (query_at queries i)) (query_at queries i) p r) (s.shown i h) (s.told i h)
          ∙ (held_end who (query_at queries i) catalogue whole).0;
      told = λ i h.
          o.told i h
          ∙ ap₂ (λ (p : List ℕ) (r : ℕ). settled_code (check_of (query_at queries i)) (query_at queries i) p r) (s.shown i h) (s.told i h)
          ∙ (held_end who (query_at queries i) catalogue whole).1;
    }

-- ---- what is replied

-- the answer by number is that of the reply
pub answer_told : (queries catalogue out replies : List ℕ) → batch_answer (look_up_batch_of queries catalogue out replies) ≡ look_up_batch_answer queries catalogue out replies
unfolding look_up_batch_of look_up_batch_answer refused_whole first_of
answer_told queries catalogue out replies =
    go (not (lengths_fit (length queries) (length out) (length replies))) (ltb max_queries (queries_in queries)) (not (eqb (length catalogue % record_bytes) 0))
  where
    go : (f m u : Bool)
        → batch_answer (reply_by (refused_by f m u) (count_kind is_found queries catalogue) (count_kind is_made queries catalogue) (count_kind is_refused queries catalogue))
        ≡ pick f (refused 5)
        (pick m (refused 34)
        (pick u (refused 23) (granted (count_kind is_found queries catalogue ∷ count_kind is_made queries catalogue ∷ count_kind is_refused queries catalogue ∷ []))))
    go true m u = refl
    go false true u = refl
    go false false true = refl
    go false false false = refl

abbrev Told : (queries catalogue out replies : List ℕ) (who : ℕ) (b : Result Batch Refusal) (out' replies' : List ℕ) → Type 0
Told queries catalogue out replies who b out' replies' =
    record {
      value : b ≡ look_up_batch_of queries catalogue out replies;
      out_after : out' ≡ parts_in who b queries catalogue out;
      replies_after : replies' ≡ replies_in b queries catalogue replies;
      result_value : batch_answer b ≡ look_up_batch_answer queries catalogue out replies;
    }

pub reply_by_lem :
    (queries catalogue out replies : List ℕ) (o : Outcome) → refused_whole (length queries) (length catalogue) (length out) (length replies) ≡ o
    → look_up_batch_of queries catalogue out replies ≡ reply_by o (count_kind is_found queries catalogue) (count_kind is_made queries catalogue) (count_kind is_refused queries catalogue)
unfolding look_up_batch_of
reply_by_lem queries catalogue out replies o e =
    ap (λ (x : Outcome). reply_by x (count_kind is_found queries catalogue) (count_kind is_made queries catalogue) (count_kind is_refused queries catalogue)) e

module _ (queries catalogue out replies : List ℕ) (who : ℕ) where
  -- each way out, with the whole promise
  pub refused_told :
      {o : Outcome} {r : Refusal} → o ≡ refused_whole (length queries) (length catalogue) (length out) (length replies) → o ≡ Err r
      → Told queries catalogue out replies who (Err r) out replies
  refused_told {o} {r} e k =
      let same = sym (reply_by_lem queries catalogue out replies (Err r) (sym e ∙ k)) in
      record { value = same; out_after = refl; replies_after = refl; result_value = ap batch_answer same ∙ answer_told queries catalogue out replies }

  pub done_told :
      {o : Outcome} {b : Batch} {out' replies' : List ℕ} → o ≡ refused_whole (length queries) (length catalogue) (length out) (length replies) → o ≡ Ok tt
      → Answered who queries catalogue out' replies' → b ≡ tally_of replies' → Told queries catalogue out replies who (Ok b) out' replies'
  done_told {o} {b} {out'} {replies'} e k a t =
      record {
        value = same;
        out_after = is_end_to_end (queries_in queries) (λ i. part_of who (query_at queries i) catalogue) out' a.wide a.shown;
        replies_after = is_tabulate (queries_in queries) (λ i. reply_code (alone_of (query_at queries i) catalogue)) 0 replies' a.many a.told;
        result_value = ap batch_answer same ∙ answer_told queries catalogue out replies;
      }
    where
      same : ◌≡◌ {A = Result Batch Refusal} (Ok b) (look_up_batch_of queries catalogue out replies)
      same =
          ap (λ (x : Batch). Ok x) (t ∙ tallied who queries catalogue out' replies' a)
          ∙ sym (reply_by_lem queries catalogue out replies (Ok tt) (sym e ∙ k))

-- ---- the counts

-- together the counts are no more than the queries that a batch may hold
pub counts_small :
    (queries catalogue out replies : List ℕ) {b : Batch} → Ok b ≡ look_up_batch_of queries catalogue out replies → b.found + b.made + b.refused ≤ max_queries
counts_small queries catalogue out replies {b} same = go (refused_whole (length queries) (length catalogue) (length out) (length replies)) refl
  where
    total : Result Batch Refusal → ℕ
    total (Ok x) = x.found + x.made + x.refused
    total (Err r) = 0

    go : (o : Outcome) → refused_whole (length queries) (length catalogue) (length out) (length replies) ≡ o → b.found + b.made + b.refused ≤ max_queries
    go (Ok _) e =
        omega (
          arith,
          ap total (same ∙ reply_by_lem queries catalogue out replies (Ok tt) e),
          all_counted queries catalogue,
          (done_right (length queries) (length catalogue) (length out) (length replies) e).few,
        )
    go (Err r) e = omega (arith, ap total (same ∙ reply_by_lem queries catalogue out replies (Err r) e))

-- ---- the refusals of the whole call

-- none of them carries a place
refused_plain : (queries catalogue out replies : List ℕ) {r : Refusal} → Err r ≡ look_up_batch_of queries catalogue out replies → (refusal r).values ≡ []
unfolding look_up_batch_of refused_whole
refused_plain queries catalogue out replies {r} h =
    go (not (lengths_fit (length queries) (length out) (length replies))) (ltb max_queries (queries_in queries)) (not (eqb (length catalogue % record_bytes) 0)) h
  where
    go : (f m u : Bool)
        → Err r ≡ reply_by (refused_by f m u) (count_kind is_found queries catalogue) (count_kind is_made queries catalogue) (count_kind is_refused queries catalogue)
        → (refusal r).values ≡ []
    go true m u e = ap (λ (o : Result Batch Refusal). (outcome_answer (outcome_of o)).values) e
    go false true u e = ap (λ (o : Result Batch Refusal). (outcome_answer (outcome_of o)).values) e
    go false false true e = ap (λ (o : Result Batch Refusal). (outcome_answer (outcome_of o)).values) e
    go false false false e = ap (λ (o : Result Batch Refusal). (outcome_answer (outcome_of o)).values) e

-- ---- the reply as one number

pub refused_code :
    (queries catalogue out replies : List ℕ) {r : Refusal} {n : ℕ} → Err r ≡ look_up_batch_of queries catalogue out replies → n ≡ code_of (refusal r)
    → batch_answer (Err r) ≡ look_up_batch_answer queries catalogue out replies → n ≡ counts_code_of (look_up_batch_answer queries catalogue out replies)
refused_code queries catalogue out replies {r} same e x = e ∙ counts_refused r (refused_plain queries catalogue out replies same) ∙ ap counts_code_of x
