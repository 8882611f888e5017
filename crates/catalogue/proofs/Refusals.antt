-- Which refusals making and looking up reply: those of the query, then 23 and 24, and only these.
-- Assumes nothing.
use mathlib.Core.Path.{◌≡◌, refl, sym, ap, ◌∙◌}
use mathlib.Core.Bool.{Bool, true, false}
use mathlib.Core.Logic.{◌⊎◌, inl, inr}
use mathlib.Core.List.{List}
use Prim.Native.Nat.{ℕ, zero, ◌%◌, ◌<◌}
use native.Mathlib.Omega.{arith}
use lib.Dec.{ltb, eqb}
use lib.ListN.{length, take, drop, length-drop}
use lib.Seq.{length-take-le}
use borrow.Author.Tests.{ltb-true, eqb-true, lt-ltb, eq-eqb}
use Rattle.std.specs.Prelude.{Option, Some, None, Ok, Err}
use Rattle.lists.specs.Choice.{pick}
use Rattle.lists.proofs.Search.{false_true}
use Rattle.cells.specs.Cell.{cell_at}
use Rattle.sequence.specs.declared.Refusal.{Refusal}
use Rattle.sequence.specs.declared.Refusal.TheVariants as R
use Rattle.sequence.specs.Limits.{a_bytes, b_bytes}
use Rattle.sequence.specs.Answers.{refusal, Outcome, and_then}
use Rattle.sequence.specs.Rules.{sequence_of, check_of}
use Rattle.sequence.proofs.Laws.{same_number, check_small, refused_as}
use Rattle.candidate.specs.Rules.{verify_of, Verdict}
use Rattle.candidate.proofs.Testing.{verify_judges}
use Rattle.catalogue.specs.Rules.{record_bytes, a_place, b_place, length_cell, synthesize_of, records, record_at, first_match, match_of, is_yes, passes, serve_of, fetch_of, look_up_of, LookedUp}
use Rattle.catalogue.proofs.Places.{record_size}

-- ---- making

pub synthesize_query : (query out : List ℕ) → length out ≡ record_bytes → synthesize_of query out ≡ check_of query
unfolding synthesize_of
synthesize_query query out h = rw (eq-eqb (length out) record_bytes h)

-- a refusal other than 5 for the record is the query's
pub synthesize_refused :
    (query out : List ℕ) {r : Refusal} → synthesize_of query out ≡ Err r → ((refusal r).number ≡ 5 → ⊥) → (length out ≡ record_bytes) × (check_of query ≡ Err r)
unfolding synthesize_of
synthesize_refused query out {r} h other = go (eqb (length out) record_bytes) refl h
  where
    go : (b : Bool) → eqb (length out) record_bytes ≡ b → pick b (check_of query) (Err R.Buffer) ≡ Err r → (length out ≡ record_bytes) × (check_of query ≡ Err r)
    go true e k = (eqb-true _ _ e, k)
    go false e k = absurd (other (sym (same_number k)))

-- ---- looking up

pub look_up_query : (query catalogue out : List ℕ) {r : Refusal} → length out ≡ record_bytes → check_of query ≡ Err r → look_up_of query catalogue out ≡ Err r
unfolding look_up_of
look_up_query query catalogue out h k = rw (eq-eqb (length out) record_bytes h, k)

-- a refusal other than 5 for the record is the query's, or 23 or 24
pub record LookUpRefused (query catalogue out : List ℕ) (r : Refusal) : Type 0 where
  pub size : length out ≡ record_bytes
  pub source : (check_of query ≡ Err r) ⊎ (◌≡◌ {A = Outcome} (Err R.Catalogue) (Err r) ⊎ ◌≡◌ {A = Outcome} (Err R.Record) (Err r))

pub look_up_refused :
    (query catalogue out : List ℕ) {r : Refusal} → look_up_of query catalogue out ≡ Err r → ((refusal r).number ≡ 5 → ⊥) → LookUpRefused query catalogue out r
unfolding look_up_of fetch_of
look_up_refused query catalogue out {r} h other =
    go (eqb (length out) record_bytes) (check_of query) (eqb (length catalogue % record_bytes) 0) (match_of (records catalogue) k) refl refl h
  where
    k : ℕ
    k = first_match query catalogue (records catalogue)

    served : (j : ℕ) (g : Bool) → length out ≡ record_bytes → ◌≡◌ {A = LookedUp} (pick g (Ok (Some j)) (Err R.Record)) (Err r) → LookUpRefused query catalogue out r
    served j true l q = let z : ◌≡◌ {A = ℕ} 0 1 = cc in absurd (omega arith)
    served j false l q = record { size = l; source = inr (inr (refused_as q)) }

    go :
        (b : Bool) (o : Outcome) (d : Bool) (f : Option ℕ) → eqb (length out) record_bytes ≡ b → check_of query ≡ o →
        pick b (and_then o (pick d (serve_of (sequence_of query) catalogue f) (Err R.Catalogue))) (Err R.Buffer) ≡ Err r → LookUpRefused query catalogue out r
    go false o d f e e' q = absurd (other (sym (same_number (refused_as q))))
    go true (Err s) d f e e' q = record { size = eqb-true _ _ e; source = inl (e' ∙ refused_as q) }
    go true (Ok _) false f e e' q = record { size = eqb-true _ _ e; source = inr (inl (refused_as q)) }
    go true (Ok _) true None e e' q = let z : ◌≡◌ {A = ℕ} 0 1 = cc in absurd (omega arith)
    go true (Ok _) true (Some j) e e' q = served j (passes (sequence_of query) (record_at catalogue j)) (eqb-true _ _ e) q

-- what 24 says: nothing before it applies, and the first record with this query does not pass
pub record Failed (query catalogue out : List ℕ) : Type 0 where
  pub size : length out ≡ record_bytes
  pub passed : check_of query ≡ Ok tt
  pub whole : length catalogue % record_bytes ≡ zero
  pub within : first_match query catalogue (records catalogue) < records catalogue
  pub fails : passes (sequence_of query) (record_at catalogue (first_match query catalogue (records catalogue))) ≡ false

pub look_up_fails : (query catalogue out : List ℕ) → Failed query catalogue out → look_up_of query catalogue out ≡ Err R.Record
unfolding look_up_of fetch_of
look_up_fails query catalogue out f =
    rw (
      eq-eqb (length out) record_bytes f.size,
      f.passed,
      eq-eqb (length catalogue % record_bytes) 0 f.whole,
      lt-ltb (first_match query catalogue (records catalogue)) (records catalogue) f.within,
      f.fails,
    )

pub fails_look_up : (query catalogue out : List ℕ) → look_up_of query catalogue out ≡ Err R.Record → Failed query catalogue out
unfolding look_up_of fetch_of
fails_look_up query catalogue out h =
    go (eqb (length out) record_bytes) (check_of query) (eqb (length catalogue % record_bytes) 0) (ltb k (records catalogue)) (passes (sequence_of query) (record_at catalogue k)) refl refl refl refl refl h
  where
    k : ℕ
    k = first_match query catalogue (records catalogue)

    other : {A : Type 0} {r : Refusal} → ((refusal r).number ≡ 24 → ⊥) → ◌≡◌ {A = LookedUp} (Err r) (Err R.Record) → A
    other n q = absurd (n (same_number (refused_as q)))

    go :
        (b : Bool) (o : Outcome) (d f g : Bool) → eqb (length out) record_bytes ≡ b → check_of query ≡ o → eqb (length catalogue % record_bytes) 0 ≡ d
        → ltb k (records catalogue) ≡ f → passes (sequence_of query) (record_at catalogue k) ≡ g
        → pick b (and_then o (pick d (serve_of (sequence_of query) catalogue (pick f (Some k) None)) (Err R.Catalogue))) (Err R.Buffer) ≡ Err R.Record
        → Failed query catalogue out
    go false o d f g b' o' d' f' g' q = other (λ n. omega arith) q
    go true (Err r) d f g b' o' d' f' g' q = other (λ n. omega (arith, n, check_small query o')) q
    go true (Ok _) false f g b' o' d' f' g' q = other (λ n. omega arith) q
    go true (Ok _) true false g b' o' d' f' g' q = let z : ◌≡◌ {A = ℕ} 0 1 = cc in absurd (omega arith)
    go true (Ok _) true true true b' o' d' f' g' q =
        let e : ◌≡◌ {A = LookedUp} (Ok (Some k)) (Err R.Record) = ap (λ (x : Bool). pick x (Ok (Some k)) (Err R.Record)) (sym g') ∙ q in
        let z : ◌≡◌ {A = ℕ} 0 1 = cc in
        absurd (omega arith)
    go true (Ok _) true true false b' o' d' f' g' q =
        record { size = eqb-true _ _ b'; passed = o'; whole = eqb-true _ _ d'; within = ltb-true _ _ f'; fails = g' }

-- ---- the test of a record that is met

yes_is : (v : Verdict) → is_yes v ≡ true → v ≡ Ok None
yes_is (Ok None) h = refl
yes_is (Ok (Some i)) h = false_true h
yes_is (Err r) h = false_true h

-- a record's a and b have their sizes
module _ (catalogue : List ℕ) (i : ℕ) (h : i < records catalogue) where
  a_size : length (take a_bytes (drop a_place (record_at catalogue i))) ≡ a_bytes
  a_size = length-take-le a_bytes (drop a_place (record_at catalogue i)) (omega (arith, length-drop a_place (record_at catalogue i), record_size catalogue i h))

  b_size : length (take b_bytes (drop b_place (record_at catalogue i))) ≡ b_bytes
  b_size = length-take-le b_bytes (drop b_place (record_at catalogue i)) (omega (arith, length-drop b_place (record_at catalogue i), record_size catalogue i h))

-- a record passes exactly when a test of its register against the query says yes
module _ (query catalogue : List ℕ) (i : ℕ) (passed : check_of query ≡ Ok tt) (h : i < records catalogue) where
  tested : Verdict
  tested =
      verify_of query (take a_bytes (drop a_place (record_at catalogue i))) (take b_bytes (drop b_place (record_at catalogue i))) (cell_at (record_at catalogue i) length_cell)

  passes_test : passes (sequence_of query) (record_at catalogue i) ≡ is_yes tested
  unfolding passes tested
  passes_test = ap is_yes (sym (verify_judges query _ _ _ passed (a_size catalogue i h) (b_size catalogue i h)))

  pub not_yes :
      passes (sequence_of query) (record_at catalogue i) ≡ false
      → verify_of query (take a_bytes (drop a_place (record_at catalogue i))) (take b_bytes (drop b_place (record_at catalogue i))) (cell_at (record_at catalogue i) length_cell) ≡ Ok None → ⊥
  unfolding tested
  not_yes f e = false_true (sym f ∙ passes_test ∙ ap is_yes e)

  pub yes_not :
      (verify_of query (take a_bytes (drop a_place (record_at catalogue i))) (take b_bytes (drop b_place (record_at catalogue i))) (cell_at (record_at catalogue i) length_cell) ≡ Ok None → ⊥)
      → passes (sequence_of query) (record_at catalogue i) ≡ false
  unfolding tested
  yes_not n = go (is_yes tested) refl
    where
      go : (b : Bool) → is_yes tested ≡ b → passes (sequence_of query) (record_at catalogue i) ≡ false
      go true e = absurd (n (yes_is tested e))
      go false e = passes_test ∙ e
