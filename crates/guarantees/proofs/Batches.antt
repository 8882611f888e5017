-- The claims about batches.
-- Assumes nothing.
use mathlib.Core.Path.{◌≡◌, refl, sym, ap, ◌∙◌, subst}
use mathlib.Core.Bool.{Bool, true, false, not}
use mathlib.Core.Logic.{◌⊎◌, inl, inr}
use mathlib.Core.List.{List}
use Prim.Native.Nat.{ℕ, ◌+◌, ◌*◌, ◌%◌, ◌<◌}
use native.Mathlib.Omega.{arith}
use lib.Dec.{ltb, eqb}
use lib.ListN.{length}
use borrow.Author.Tests.{lt-ltb, le-ltb, eq-eqb, ne_eqb, ltb-true, ltb-false, eqb-true}
use Rattle.std.specs.Prelude.{Some, None, Ok, Err}
use Rattle.lists.proofs.Search.{both_true, false_true}
use Rattle.lists.specs.Table.{at, tabulate}
use Rattle.cells.specs.Cell.{cell_at}
use Rattle.sequence.specs.declared.Refusal.{Refusal}
use Rattle.sequence.specs.Rules.{check_of}
use Rattle.catalogue.specs.Rules.{record_bytes, body, record_at, look_up_of, LookedUp}
use Rattle.codes.specs.Codes.{counts_code_of}
use Rattle.batch.specs.declared.Batch.{Batch}
use Rattle.batch.specs.Rules.{max_queries, query_at, queries_in, alone_of, part_of, reply_code, is_found, is_made, is_refused, lengths_fit, refused_by, refused_whole, look_up_batch_of, end_to_end, outcome_of, count_kind}
use Rattle.batch.specs.Walk.{held_of, held_part, Holding}
use Rattle.batch.proofs.Whole.{fits_out, fits_replies, fits_whole, reply_by_lem, answer_told, counts_small}
use Rattle.batch.proofs.Holding.{match_is, is_match, none_is, is_none, held_refused, held_accepted}
use Rattle.batch.proofs.Parts.{zero_is}
use Rattle.batch.proofs.Counting.{all_counted}
use Rattle.batch.proofs.Laws.{outcome_is, alone_lent, alone_code, part_served, part_zeros, query_size, part_at, parts_long, reply_at, replies_long, counts_are, counts_code, kind_counted, batch_same, answers_same, replies_same, records_same, filled_by}
use Rattle.guarantees.specs.Claims.{MadeServedReported, Same, MadeCatalogue, AgreesWith}
use Rattle.guarantees.specs.Visitors.{SameButNumbers, served_from}
use Rattle.guarantees.specs.Batches.{records_after, Fitting, BatchReason, EveryOutcome, EveryQuery, HeldFor, Walked, Counted, BatchAlike, BatchSame, TheBatches}
use Rattle.guarantees.proofs.Records.{same}
use Rattle.sequence.specs.Answers.{Outcome}
use Rattle.sequence.specs.Report.{filled}

-- ---- when each refusal is given

module _ (queries out replies : List ℕ) where
  fitting : lengths_fit (length queries) (length out) (length replies) ≡ true → Fitting queries out replies
  fitting h =
      record {
        queries_whole = fits_whole (length queries) (length out) (length replies) h;
        records_each = fits_out (length queries) (length out) (length replies) h;
        replies_each = fits_replies (length queries) (length out) (length replies) h;
      }

  fits : Fitting queries out replies → lengths_fit (length queries) (length out) (length replies) ≡ true
  fits f = both_true (eq-eqb _ _ f.queries_whole) (both_true (eq-eqb _ _ f.records_each) (eq-eqb _ _ f.replies_each))

  misfit : (Fitting queries out replies → ⊥) → lengths_fit (length queries) (length out) (length replies) ≡ false
  misfit unfit = go (lengths_fit (length queries) (length out) (length replies)) refl
    where
      go : (b : Bool) → lengths_fit (length queries) (length out) (length replies) ≡ b → b ≡ false
      go true e = absurd (unfit (fitting e))
      go false e = refl

module _ (queries catalogue out replies : List ℕ) where
  reason_of : BatchReason queries catalogue out replies (refused_whole (length queries) (length catalogue) (length out) (length replies))
  unfolding refused_whole
  reason_of =
      go (lengths_fit (length queries) (length out) (length replies)) (ltb max_queries (queries_in queries)) (eqb (length catalogue % record_bytes) 0) refl refl refl
    where
      go : (f m w : Bool) → lengths_fit (length queries) (length out) (length replies) ≡ f → ltb max_queries (queries_in queries) ≡ m
          → eqb (length catalogue % record_bytes) 0 ≡ w → BatchReason queries catalogue out replies (refused_by (not f) m (not w))
      go false m w ef em ew = BatchReason.buffer (λ g. false_true (sym ef ∙ fits queries out replies g)) refl
      go true true w ef em ew = BatchReason.many (fitting queries out replies ef) (ltb-true _ _ em) refl
      go true false false ef em ew = BatchReason.uneven (fitting queries out replies ef) (ltb-false _ _ em) (λ z. false_true (sym ew ∙ eq-eqb _ _ z)) refl
      go true false true ef em ew = BatchReason.done (fitting queries out replies ef) (ltb-false _ _ em) (eqb-true _ _ ew) refl

  exactly_of : (o : Outcome) → BatchReason queries catalogue out replies o → refused_whole (length queries) (length catalogue) (length out) (length replies) ≡ o
  unfolding refused_whole
  exactly_of o (BatchReason.buffer unfit e) = rw (misfit queries out replies unfit) (sym e)
  exactly_of o (BatchReason.many f h e) = rw (fits queries out replies f, lt-ltb _ _ h) (sym e)
  exactly_of o (BatchReason.uneven f h n e) = rw (fits queries out replies f, le-ltb _ _ h, ne_eqb _ _ n) (sym e)
  exactly_of o (BatchReason.done f h w e) = rw (fits queries out replies f, le-ltb _ _ h, eq-eqb _ _ w) (sym e)

  every_outcome : EveryOutcome queries catalogue out replies
  every_outcome =
      record {
        reason = subst (BatchReason queries catalogue out replies) (sym (outcome_is queries catalogue out replies)) reason_of;
        exactly = λ o h. outcome_is queries catalogue out replies ∙ exactly_of o h;
        by_number = answer_told queries catalogue out replies;
        records_kept = λ who r e. filled_by (look_up_batch_of queries catalogue out replies) _ _ ∙ ap (λ (o : Outcome). filled o (end_to_end (queries_in queries) (λ i. part_of who (query_at queries i) catalogue)) out) e;
        none_counted = λ r e. reply_by_lem queries catalogue out replies (Err r) (sym (outcome_is queries catalogue out replies) ∙ e);
        replies_kept = λ r e. filled_by (look_up_batch_of queries catalogue out replies) _ _ ∙ ap (λ (o : Outcome). filled o (tabulate (queries_in queries) (λ i. reply_code (alone_of (query_at queries i) catalogue))) replies) e;
      }

-- ---- each query

module _ (queries catalogue out replies : List ℕ) (done : outcome_of (look_up_batch_of queries catalogue out replies) ≡ Ok tt) where
  every_query : (who : ℕ) → EveryQuery who queries catalogue out replies
  every_query who =
      record {
        alone = λ i h lent l.
            record {
              reply = reply_at queries catalogue out replies done i h ∙ alone_code (query_at queries i) catalogue lent l;
              served = λ not. part_at queries catalogue out replies done who i h ∙ part_served who (query_at queries i) catalogue lent l not;
              zeros = λ r e. part_at queries catalogue out replies done who i h ∙ part_zeros who (query_at queries i) catalogue lent l r e;
              size = query_size queries i h;
            };
        records_size = parts_long queries catalogue out replies done who;
        replies_size = replies_long queries catalogue out replies done;
      }

  -- ---- the counts

  counted : (lent : List ℕ) → length lent ≡ record_bytes → Counted queries catalogue out replies lent
  counted lent l =
      let are = counts_are queries catalogue out replies done in
      let code = counts_code queries catalogue out replies done in
      let small = counts_small queries catalogue out replies (sym are) in
      record {
        counts = record { found = count_kind is_found queries catalogue; made = count_kind is_made queries catalogue; refused = count_kind is_refused queries catalogue };
        replied = are;
        found = kind_counted is_found queries catalogue lent l;
        made = kind_counted is_made queries catalogue lent l;
        refused = kind_counted is_refused queries catalogue lent l;
        all = all_counted queries catalogue;
        found_byte = omega (arith, code, small);
        made_byte = omega (arith, code, small);
        refused_byte = omega (arith, code, small);
        no_refusal = omega (arith, code);
      }

-- ---- the walk

module _ (who : ℕ) (query catalogue : List ℕ) (j : ℕ) (part : List ℕ) (reply : ℕ) (ep : part ≡ held_part who (held_of query catalogue j) catalogue)
    (er : reply ≡ reply_code (held_of query catalogue j)) where
  code_by : {t : LookedUp} → held_of query catalogue j ≡ t → reply ≡ reply_code t
  code_by e = er ∙ ap reply_code e

  part_by : {t : LookedUp} → held_of query catalogue j ≡ t → part ≡ held_part who t catalogue
  part_by e = ep ∙ ap (λ (t : LookedUp). held_part who t catalogue) e

  -- what is held, by its number: of a query that passed its checks it is no refusal
  told_by : check_of query ≡ Ok tt → (t : LookedUp) → held_of query catalogue j ≡ t
      → ((k : ℕ) → reply ≡ 256 * (1 + k) → held_of query catalogue j ≡ Ok (Some k)) × (reply ≡ 0 → held_of query catalogue j ≡ Ok None)
  told_by p (Ok (Some i)) e = (
    λ k h. e ∙ ap (λ (x : ℕ). Ok (Some x)) (let z : i ≡ k = omega (arith, h, code_by e) in z),
    λ h. absurd (let z : ◌≡◌ {A = ℕ} 0 1 = omega (arith, h, code_by e) in omega (arith, z)),
  )
  told_by p (Ok None) e = (λ k h. absurd (let z : ◌≡◌ {A = ℕ} 0 1 = omega (arith, h, code_by e) in omega (arith, z)), λ h. e)
  told_by p (Err r) e = absurd (held_accepted query catalogue j p e)

  held_for : HeldFor who query catalogue j part reply
  held_for =
      record {
        match_is = λ p k h.
            let m = match_is query catalogue j p k ((told_by p (held_of query catalogue j) refl).0 k h) in
            record { within = m.0; matches = m.1.0; before = m.1.1 };
        is_match = λ p k m.
            let e = is_match query catalogue j p k m.within m.matches m.before in
            (code_by e ∙ omega arith, part_by e);
        none_is = λ p h. none_is query catalogue j p ((told_by p (held_of query catalogue j) refl).1 h);
        is_none = λ p h. let e = is_none query catalogue j p h in (code_by e, part_by e ∙ zero_is);
        refused = λ r h. let e = held_refused query catalogue j r h in (code_by e, part_by e ∙ zero_is);
      }

pub walked : (who : ℕ) (queries catalogue : List ℕ) (j : ℕ) (held told : List ℕ) → Holding who queries catalogue j held told → Walked who queries catalogue j held told
walked who queries catalogue j held told s i h = held_for who (query_at queries i) catalogue j (record_at held i) (at told i) (s.shown i h) (s.told i h)

-- ---- what holds of looking up

batch_alike : (queries c c' out replies : List ℕ) → SameButNumbers c c' → BatchAlike queries c c' out replies
batch_alike queries c c' out replies s =
    record {
      reply = batch_same queries c c' s.size s.bodies out replies;
      code = ap counts_code_of (answers_same queries c c' s.size s.bodies out replies);
      each = replies_same queries c c' s.size s.bodies out replies;
      visitor = λ who v. records_same queries c c' s.size s.bodies who out replies v;
    }

module _
    (queries catalogue out replies : List ℕ)
    (done : outcome_of (look_up_batch_of queries catalogue out replies) ≡ Ok tt)
    (made : MadeCatalogue catalogue)
    (who i : ℕ)
    (h : i < queries_in queries)
    (passed : check_of (query_at queries i) ≡ Ok tt)
    (lent : List ℕ)
    (l : length lent ≡ record_bytes)
  where
    alone_same : Same (query_at queries i) catalogue who lent
    unfolding MadeServedReported
    alone_same = same (query_at queries i) catalogue who lent passed made l

    not_refused : (r : Refusal) → look_up_of (query_at queries i) catalogue lent ≡ Err r → ⊥
    not_refused r e = go alone_same.served
      where
        go : ((k : ℕ) × (look_up_of (query_at queries i) catalogue lent ≡ Ok (Some k))) ⊎ (look_up_of (query_at queries i) catalogue lent ≡ Ok None) → ⊥
        go (inl (k, f)) = let q : ◌≡◌ {A = LookedUp} (Ok (Some k)) (Err r) = sym f ∙ e in let z : ◌≡◌ {A = ℕ} 0 1 = cc in absurd (omega arith)
        go (inr f) = let q : ◌≡◌ {A = LookedUp} (Ok None) (Err r) = sym f ∙ e in let z : ◌≡◌ {A = ℕ} 0 1 = cc in absurd (omega arith)

    served : record_at (records_after who queries catalogue out replies) i ≡ served_from who (query_at queries i) catalogue lent
    served = part_at queries catalogue out replies done who i h ∙ part_served who (query_at queries i) catalogue lent l not_refused

    whole_code : ((k : ℕ) × (look_up_of (query_at queries i) catalogue lent ≡ Ok (Some k))) ⊎ (look_up_of (query_at queries i) catalogue lent ≡ Ok None)
        → reply_code (look_up_of (query_at queries i) catalogue lent) % 256 ≡ 0
    whole_code (inl (k, f)) = ap (λ (t : LookedUp). reply_code t % 256) f ∙ omega arith
    whole_code (inr f) = ap (λ (t : LookedUp). reply_code t % 256) f

    pub batch_same_as : BatchSame who queries catalogue out replies i lent
    batch_same_as =
        record {
          not_refused = ap (λ (x : ℕ). x % 256) (reply_at queries catalogue out replies done i h ∙ ap reply_code (sym (alone_lent (query_at queries i) catalogue lent l)))
              ∙ whole_code alone_same.served;
          reported = λ calls a b t la lb. subst (AgreesWith (cell_at (query_at queries i) 0) calls a b) (sym served) (alone_same.record_served calls a b t la lb);
          body_made = ap body served ∙ alone_same.body_served;
          visitor_made = λ v. served ∙ alone_same.visitor_served v;
        }

pub batches : TheBatches
unfolding TheBatches
batches queries catalogue out replies =
    record {
      outcomes = every_outcome queries catalogue out replies;
      queries_alone = λ who d. every_query queries catalogue out replies d who;
      walked = λ who j held told s. walked who queries catalogue j held told s;
      counted = λ d lent l. counted queries catalogue out replies d lent l;
      alike = λ c' s. batch_alike queries catalogue c' out replies s;
      same = λ who d m i h p lent l. batch_same_as queries catalogue out replies d m who i h p lent l;
    }
