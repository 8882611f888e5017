-- What is known of a batch by its outcome: what refused it, what each query has, what is counted; and that accession numbers have no part in it.
-- Assumes nothing.
use mathlib.Core.Path.{◌≡◌, refl, sym, ap, ap₂, ◌∙◌}
use mathlib.Core.List.{List, [], ◌∷◌}
use Prim.Native.Nat.{ℕ, ◌*◌, ◌<◌}
use native.Mathlib.Omega.{arith}
use lib.ListN.{length, drop, replicate, length-drop}
use lib.Seq.{length-take-le}
use Rattle.std.specs.Prelude.{Result, Some, None, Ok, Err}
use Rattle.lists.specs.Sum.{sum_to}
use Rattle.lists.specs.Table.{at, tabulate}
use Rattle.lists.proofs.Sum.{sum_to_eq}
use Rattle.lists.proofs.Table.{at_tabulate, length_tabulate, tabulate_eq}
use Rattle.sequence.specs.declared.Refusal.{Refusal}
use Rattle.sequence.specs.Limits.{query_bytes}
use Rattle.sequence.specs.Answers.{granted, Outcome}
use Rattle.sequence.specs.Report.{filled}
use Rattle.catalogue.specs.Rules.{record_bytes, record_at, records, body, look_up_of, look_up_answer, editor, served_in, LookedUp}
use Rattle.catalogue.proofs.Laws.{look_up_lent}
use Rattle.catalogue.proofs.Places.{served_size}
use Rattle.catalogue.proofs.Answers.{look_up_told}
use Rattle.catalogue.proofs.Visitors.{reply_same, bytes_same}
use Rattle.codes.specs.Codes.{code_of, counts_code_of}
use Rattle.batch.specs.declared.Batch.{Batch}
use Rattle.batch.specs.Rules.{query_at, queries_in, zero_record, alone_of, part_of, reply_code, is_found, is_made, is_refused, count_kind, refused_whole, reply_by, look_up_batch_of, batch_answer, look_up_batch_answer, end_to_end, parts_in, replies_in, outcome_of}
use Rattle.batch.proofs.Parts.{zero_long, end_to_end_eq, end_to_end_long, at_end_to_end}
use Rattle.batch.proofs.Whole.{reply_by_lem, answer_told}

-- ---- the outcome

pub outcome_is :
    (queries catalogue out replies : List ℕ)
    → outcome_of (look_up_batch_of queries catalogue out replies) ≡ refused_whole (length queries) (length catalogue) (length out) (length replies)
outcome_is queries catalogue out replies = ap (λ (b : Result Batch Refusal). outcome_of b) (reply_by_lem queries catalogue out replies _ refl) ∙ go _
  where
    go : (o : Outcome)
        → outcome_of (reply_by o (count_kind is_found queries catalogue) (count_kind is_made queries catalogue) (count_kind is_refused queries catalogue)) ≡ o
    go (Ok _) = refl
    go (Err r) = refl

-- and says whether a buffer is filled
pub filled_by : (b : Result Batch Refusal) (now lent : List ℕ) → filled b now lent ≡ filled (outcome_of b) now lent
filled_by (Ok x) now lent = refl
filled_by (Err r) now lent = refl

-- ---- each query

-- alone, with any record lent
pub alone_lent : (query catalogue lent : List ℕ) → length lent ≡ record_bytes → look_up_of query catalogue lent ≡ alone_of query catalogue
unfolding alone_of
alone_lent query catalogue lent h = look_up_lent query catalogue lent zero_record (h ∙ sym zero_long)

pub alone_code : (query catalogue lent : List ℕ) → length lent ≡ record_bytes → reply_code (alone_of query catalogue) ≡ code_of (look_up_answer query catalogue lent)
alone_code query catalogue lent h =
    ap reply_code (sym (alone_lent query catalogue lent h))
    ∙ ap code_of (look_up_told query catalogue lent {r = look_up_of query catalogue lent} {A = query ≡ query} refl refl).result_value

-- its part, where looking up is not refused and where it is
pub part_served :
    (who : ℕ) (query catalogue lent : List ℕ) → length lent ≡ record_bytes → ((r : Refusal) → look_up_of query catalogue lent ≡ Err r → ⊥)
    → part_of who query catalogue ≡ served_in who (look_up_of query catalogue lent) query catalogue lent
unfolding part_of
part_served who query catalogue lent h not =
    ap (λ (t : LookedUp). served_in who t query catalogue zero_record) (sym (alone_lent query catalogue lent h)) ∙ go (look_up_of query catalogue lent) refl
  where
    go : (t : LookedUp) → look_up_of query catalogue lent ≡ t → served_in who t query catalogue zero_record ≡ served_in who t query catalogue lent
    go (Ok (Some i)) e = refl
    go (Ok None) e = refl
    go (Err r) e = absurd (not r e)

pub part_zeros :
    (who : ℕ) (query catalogue lent : List ℕ) → length lent ≡ record_bytes → (r : Refusal) → look_up_of query catalogue lent ≡ Err r
    → part_of who query catalogue ≡ replicate record_bytes 0
unfolding part_of zero_record
part_zeros who query catalogue lent h r e = ap (λ (t : LookedUp). served_in who t query catalogue zero_record) (sym (alone_lent query catalogue lent h) ∙ e)

pub query_size : (queries : List ℕ) (i : ℕ) → i < queries_in queries → length (query_at queries i) ≡ query_bytes
query_size queries i h = length-take-le query_bytes (drop (i * query_bytes) queries) (omega (arith, length-drop (i * query_bytes) queries))

part_size : (who : ℕ) (queries catalogue : List ℕ) (i : ℕ) → i < queries_in queries → length (part_of who (query_at queries i) catalogue) ≡ record_bytes
unfolding part_of alone_of
part_size who queries catalogue i h = served_size who (query_at queries i) catalogue zero_record (query_size queries i h) zero_long

-- ---- the buffers where the whole call is not refused

module _ (queries catalogue out replies : List ℕ) (done : outcome_of (look_up_batch_of queries catalogue out replies) ≡ Ok tt) where
  parts_are : (who : ℕ) → parts_in who (look_up_batch_of queries catalogue out replies) queries catalogue out ≡ end_to_end (queries_in queries) (λ i. part_of who (query_at queries i) catalogue)
  parts_are who = filled_by (look_up_batch_of queries catalogue out replies) _ _ ∙ ap (λ (o : Outcome). filled o (end_to_end (queries_in queries) (λ i. part_of who (query_at queries i) catalogue)) out) done

  replies_are :
      replies_in (look_up_batch_of queries catalogue out replies) queries catalogue replies ≡ tabulate (queries_in queries) (λ i. reply_code (alone_of (query_at queries i) catalogue))
  replies_are = filled_by (look_up_batch_of queries catalogue out replies) _ _ ∙ ap (λ (o : Outcome). filled o (tabulate (queries_in queries) (λ i. reply_code (alone_of (query_at queries i) catalogue))) replies) done

  pub part_at :
      (who i : ℕ) → i < queries_in queries → record_at (parts_in who (look_up_batch_of queries catalogue out replies) queries catalogue out) i ≡ part_of who (query_at queries i) catalogue
  part_at who i h =
      ap (λ (x : List ℕ). record_at x i) (parts_are who)
      ∙ at_end_to_end (queries_in queries) (λ i. part_of who (query_at queries i) catalogue) (part_size who queries catalogue) i h

  pub parts_long : (who : ℕ) → length (parts_in who (look_up_batch_of queries catalogue out replies) queries catalogue out) ≡ queries_in queries * record_bytes
  parts_long who = ap length (parts_are who) ∙ end_to_end_long (queries_in queries) (λ i. part_of who (query_at queries i) catalogue) (part_size who queries catalogue)

  pub reply_at :
      (i : ℕ) → i < queries_in queries
      → at (replies_in (look_up_batch_of queries catalogue out replies) queries catalogue replies) i ≡ reply_code (alone_of (query_at queries i) catalogue)
  reply_at i h = ap (λ (x : List ℕ). at x i) replies_are ∙ at_tabulate (queries_in queries) (λ i. reply_code (alone_of (query_at queries i) catalogue)) i h

  pub replies_long : length (replies_in (look_up_batch_of queries catalogue out replies) queries catalogue replies) ≡ queries_in queries
  replies_long = ap length replies_are ∙ length_tabulate (queries_in queries) (λ i. reply_code (alone_of (query_at queries i) catalogue))

  -- and the counts
  pub counts_are :
      look_up_batch_of queries catalogue out replies
      ≡ Ok (record {
        found = count_kind is_found queries catalogue;
        made = count_kind is_made queries catalogue;
        refused = count_kind is_refused queries catalogue;
      })
  counts_are = reply_by_lem queries catalogue out replies (Ok tt) (sym (outcome_is queries catalogue out replies) ∙ done)

  pub counts_code :
      counts_code_of (look_up_batch_answer queries catalogue out replies)
      ≡ counts_code_of (granted (count_kind is_found queries catalogue ∷ count_kind is_made queries catalogue ∷ count_kind is_refused queries catalogue ∷ []))
  counts_code = ap counts_code_of (sym (answer_told queries catalogue out replies) ∙ ap batch_answer counts_are)

pub kind_counted :
    (kind : LookedUp → ℕ) (queries catalogue lent : List ℕ) → length lent ≡ record_bytes
    → count_kind kind queries catalogue ≡ sum_to (queries_in queries) (λ i. kind (look_up_of (query_at queries i) catalogue lent))
unfolding count_kind
kind_counted kind queries catalogue lent h =
    sum_to_eq (queries_in queries) (λ i. kind (alone_of (query_at queries i) catalogue)) (λ i. kind (look_up_of (query_at queries i) catalogue lent))
    (λ i l. ap kind (sym (alone_lent (query_at queries i) catalogue lent h)))

-- ---- two catalogues of the same length whose records have the same bodies

module _ (queries c c' : List ℕ) (size : length c ≡ length c') (bodies : (i : ℕ) → i < records c → body (record_at c i) ≡ body (record_at c' i)) where
  alone_same : (i : ℕ) → alone_of (query_at queries i) c ≡ alone_of (query_at queries i) c'
  unfolding alone_of
  alone_same i = reply_same (query_at queries i) c c' size bodies zero_record

  kind_same : (kind : LookedUp → ℕ) → count_kind kind queries c ≡ count_kind kind queries c'
  unfolding count_kind
  kind_same kind =
      sum_to_eq (queries_in queries) (λ i. kind (alone_of (query_at queries i) c)) (λ i. kind (alone_of (query_at queries i) c')) (λ i l. ap kind (alone_same i))

  pub batch_same : (out replies : List ℕ) → look_up_batch_of queries c out replies ≡ look_up_batch_of queries c' out replies
  unfolding look_up_batch_of
  batch_same out replies =
      λ t. reply_by (refused_whole (length queries) (size t) (length out) (length replies)) (kind_same is_found t) (kind_same is_made t) (kind_same is_refused t)

  pub answers_same : (out replies : List ℕ) → look_up_batch_answer queries c out replies ≡ look_up_batch_answer queries c' out replies
  answers_same out replies = sym (answer_told queries c out replies) ∙ ap batch_answer (batch_same out replies) ∙ answer_told queries c' out replies

  pub replies_same :
      (out replies : List ℕ) → replies_in (look_up_batch_of queries c out replies) queries c replies ≡ replies_in (look_up_batch_of queries c' out replies) queries c' replies
  replies_same out replies =
      ap₂ (λ (b : Result Batch Refusal) (x : List ℕ). filled b x replies) (batch_same out replies)
      (tabulate_eq (queries_in queries) (λ i. reply_code (alone_of (query_at queries i) c)) (λ i. reply_code (alone_of (query_at queries i) c'))
      (λ i l. ap reply_code (alone_same i)))

  pub records_same :
      (who : ℕ) (out replies : List ℕ) → (who ≡ editor → ⊥)
      → parts_in who (look_up_batch_of queries c out replies) queries c out ≡ parts_in who (look_up_batch_of queries c' out replies) queries c' out
  unfolding part_of alone_of
  records_same who out replies visitor =
      ap₂ (λ (b : Result Batch Refusal) (x : List ℕ). filled b x out) (batch_same out replies)
      (end_to_end_eq (queries_in queries) (λ i. part_of who (query_at queries i) c) (λ i. part_of who (query_at queries i) c')
      (λ i l. bytes_same (query_at queries i) c c' size bodies who zero_record visitor))
