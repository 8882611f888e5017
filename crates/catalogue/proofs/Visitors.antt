-- Replies and what a visitor is served do not depend on accession numbers; what an editor and a visitor are served.
-- Assumes nothing.
use mathlib.Core.Path.{◌≡◌, refl, sym, ap, ap₂, ◌∙◌}
use mathlib.Core.Bool.{Bool, true, false}
use mathlib.Core.List.{List, ◌++◌}
use Prim.Native.Nat.{ℕ, ◌/◌, ◌%◌, ◌≤◌, ◌<◌}
use native.Mathlib.Omega.{arith}
use lib.Dec.{eqb}
use lib.ListN.{length, drop, take-append-drop}
use lib.Seq.{take_at, length-take-le}
use borrow.Author.Tests.{ne_eqb}
use Rattle.std.specs.Prelude.{Option, Some, None, Ok, Err}
use Rattle.lists.specs.Choice.{pick}
use Rattle.sequence.specs.declared.Refusal.TheVariants as R
use Rattle.sequence.specs.Rules.{sequence_of, check_of}
use Rattle.catalogue.specs.Rules.{record_bytes, body_bytes, body, no_number, record_at, records, first_match, match_of, serve_of, fetch_of, looked_up_answer, look_up_of, look_up_answer, editor, seen_by, served_in, LookedUp}
use Rattle.catalogue.proofs.Body.{passes_same, match_same}
use Rattle.catalogue.proofs.Laws.{match_below, found_below}
use Rattle.catalogue.proofs.Answers.{look_up_told}
use Rattle.sequence.specs.Answers.{Outcome, and_then}

-- two catalogues of the same length whose records have the same bodies
module _ (query c c' : List ℕ) (size : length c ≡ length c') (bodies : (i : ℕ) → i < records c → body (record_at c i) ≡ body (record_at c' i)) where
  served_alike : (f : Option ℕ) → match_of (records c) (first_match query c (records c)) ≡ f → serve_of (sequence_of query) c f ≡ serve_of (sequence_of query) c' f
  served_alike (Some i) h =
      ap (λ (b : Bool). pick b (Ok (Some i)) (Err R.Record)) (passes_same (sequence_of query) (record_at c i) (record_at c' i) (bodies i (match_below (records c) _ i h)))
  served_alike None h = refl

  matched : match_of (records c) (first_match query c (records c)) ≡ match_of (records c') (first_match query c' (records c'))
  matched =
      ap (match_of (records c)) (match_same query c c' (records c) bodies) ∙ ap (λ (n : ℕ). match_of (n / record_bytes) (first_match query c' (n / record_bytes))) size

  fetched : fetch_of query c ≡ fetch_of query c'
  unfolding fetch_of
  fetched =
      ap₂ (λ (b : Bool) (t : LookedUp). pick b t (Err R.Catalogue)) (ap (λ (n : ℕ). eqb (n % record_bytes) 0) size)
      (served_alike _ refl ∙ ap (serve_of (sequence_of query) c') matched)

  -- the same replies, whoever asks
  pub reply_same : (out : List ℕ) → look_up_of query c out ≡ look_up_of query c' out
  unfolding look_up_of
  reply_same out = ap (λ (t : LookedUp). pick (eqb (length out) record_bytes) (and_then (check_of query) t) (Err R.Buffer)) fetched

  pub answer_same : (out : List ℕ) → look_up_answer query c out ≡ look_up_answer query c' out
  answer_same out = sym (told c) ∙ ap looked_up_answer (reply_same out) ∙ told c'
    where
      told : (d : List ℕ) → looked_up_answer (look_up_of query d out) ≡ look_up_answer query d out
      told d = (look_up_told query d out {r = look_up_of query d out} {A = query ≡ query} refl refl).result_value

  -- and to a visitor the same bytes
  pub bytes_same : (who : ℕ) (out : List ℕ) → (who ≡ editor → ⊥) → served_in who (look_up_of query c out) query c out ≡ served_in who (look_up_of query c' out) query c' out
  bytes_same who out visitor = go (look_up_of query c out) refl ∙ ap (λ (t : LookedUp). served_in who t query c' out) (reply_same out)
    where
      go : (t : LookedUp) → look_up_of query c out ≡ t → served_in who t query c out ≡ served_in who t query c' out
      go (Ok (Some i)) h = rw (ne_eqb who editor visitor) (ap (λ (b : List ℕ). b ++ no_number) (bodies i (found_below query c out i h)))
      go (Ok None) h = refl
      go (Err r) h = refl

-- the body of a record as who asks sees it
pub body_seen : (who : ℕ) (entry : List ℕ) → body_bytes ≤ length entry → body (seen_by who entry) ≡ body entry
body_seen who entry h = go (eqb who editor)
  where
    go : (b : Bool) → body (pick b entry (body entry ++ no_number)) ≡ body entry
    go true = refl
    go false = take_at (body entry) no_number body_bytes (length-take-le body_bytes entry h)

-- a record without a number is seen whole by whoever asks
pub seen_whole : (who : ℕ) (entry : List ℕ) → drop body_bytes entry ≡ no_number → seen_by who entry ≡ entry
seen_whole who entry h = go (eqb who editor)
  where
    go : (b : Bool) → pick b entry (body entry ++ no_number) ≡ entry
    go true = refl
    go false = ap (λ (n : List ℕ). body entry ++ n) (sym h) ∙ take-append-drop body_bytes entry

-- a record is made only of a query that passed its checks
pub made_checked : (query c out : List ℕ) → look_up_of query c out ≡ Ok None → check_of query ≡ Ok tt
unfolding look_up_of
made_checked query c out h = go (eqb (length out) record_bytes) (check_of query) refl h
  where
    go : (b : Bool) (o : Outcome) → check_of query ≡ o → pick b (and_then o (fetch_of query c)) (Err R.Buffer) ≡ Ok None → check_of query ≡ Ok tt
    go false o e q = let z : ◌≡◌ {A = ℕ} 0 1 = cc in absurd (omega arith)
    go true (Ok _) e q = e
    go true (Err r) e q = let z : ◌≡◌ {A = ℕ} 0 1 = cc in absurd (omega arith)
