-- Laws of the walk: what is held for a query before it, after one record more, and what the query gets in the end.
-- Assumes nothing.
use mathlib.Core.Path.{◌≡◌, refl, sym, ap, ◌∙◌, subst}
use mathlib.Core.Bool.{Bool, true, false}
use mathlib.Core.Logic.{◌⊎◌, inl, inr}
use mathlib.Core.List.{List}
use Prim.Native.Nat.{ℕ, suc, ◌%◌, ◌≤◌, ◌<◌}
use native.Mathlib.Omega.{arith}
use lib.ListN.{length}
use borrow.Author.Count.{below_more}
use borrow.Author.Tests.{lt-ltb, le-ltb, ne_eqb}
use Rattle.std.specs.Prelude.{Some, None, Ok, Err}
use Rattle.lists.specs.Choice.{pick, both}
use Rattle.lists.proofs.Search.{lt_or_le, first_passes, first_before, first_none, none_first, is_first}
use Rattle.sequence.specs.declared.Refusal.{Refusal}
use Rattle.sequence.specs.declared.Refusal.TheVariants as R
use Rattle.sequence.specs.Answers.{refusal, Outcome}
use Rattle.sequence.specs.Rules.{sequence_of, check_of}
use Rattle.catalogue.specs.Rules.{record_bytes, record_at, records, is_of, first_match, passes, seen_by, served_in, LookedUp}
use Rattle.catalogue.proofs.Laws.{look_up_made, look_up_met}
use Rattle.catalogue.proofs.Refusals.{look_up_query}
use Rattle.catalogue.proofs.Body.{passes_same}
use Rattle.catalogue.proofs.Places.{record_size}
use Rattle.catalogue.proofs.Visitors.{body_seen}
use Rattle.codes.specs.Codes.{code_of}
use Rattle.codes.proofs.Laws.{code_refused}
use Rattle.batch.specs.Rules.{zero_record, alone_of, part_of, reply_code}
use Rattle.batch.specs.Walk.{held_of, held_part}
use Rattle.batch.specs.Inner.{check_code, takes, offered_part, offered_code, settled_part, settled_code}
use Rattle.batch.proofs.Parts.{zero_long}

-- ---- the first match among j records, and among one more

module _ (query catalogue : List ℕ) where
  next_same : (j : ℕ) → first_match query catalogue j < j → first_match query catalogue (suc j) ≡ first_match query catalogue j
  unfolding first_match
  next_same j h =
      sym (is_first (suc j) (λ i. is_of query (record_at catalogue i)) (first_match query catalogue j) (omega arith) (first_before j _) (λ l. first_passes j _ h))

  next_here : (j : ℕ) → j ≤ first_match query catalogue j → is_of query (record_at catalogue j) ≡ true → first_match query catalogue (suc j) ≡ j
  unfolding first_match
  next_here j h e = sym (is_first (suc j) (λ i. is_of query (record_at catalogue i)) j (omega arith) (first_none j _ h) (λ l. e))

  next_none : (j : ℕ) → j ≤ first_match query catalogue j → is_of query (record_at catalogue j) ≡ false → first_match query catalogue (suc j) ≡ suc j
  unfolding first_match
  next_none j h e =
      none_first (suc j) (λ i. is_of query (record_at catalogue i))
      (λ k l. below_more (λ (i : ℕ). is_of query (record_at catalogue i) ≡ false) j (first_none j _ h) e k (omega arith))

-- ---- what is held after j records, told apart

data Held (query catalogue : List ℕ) (j : ℕ) : Type 0 where
  looking : check_of query ≡ Ok tt → j ≤ first_match query catalogue j → held_of query catalogue j ≡ Ok None → Held query catalogue j
  met : check_of query ≡ Ok tt → first_match query catalogue j < j → held_of query catalogue j ≡ Ok (Some (first_match query catalogue j)) → Held query catalogue j
  refused : (r : Refusal) → check_of query ≡ Err r → held_of query catalogue j ≡ Err r → Held query catalogue j

pub held_refused : (query catalogue : List ℕ) (j : ℕ) (r : Refusal) → check_of query ≡ Err r → held_of query catalogue j ≡ Err r
unfolding held_of
held_refused query catalogue j r e = rw e

held_found : (query catalogue : List ℕ) (j : ℕ) → check_of query ≡ Ok tt → first_match query catalogue j < j → held_of query catalogue j ≡ Ok (Some (first_match query catalogue j))
unfolding held_of
held_found query catalogue j e h = rw (e, lt-ltb _ _ h)

held_made : (query catalogue : List ℕ) (j : ℕ) → check_of query ≡ Ok tt → j ≤ first_match query catalogue j → held_of query catalogue j ≡ Ok None
unfolding held_of
held_made query catalogue j e h = rw (e, le-ltb _ _ h)

-- one that passed its checks is held as no refusal
pub held_accepted : (query catalogue : List ℕ) (j : ℕ) {r : Refusal} → check_of query ≡ Ok tt → held_of query catalogue j ≡ Err r → ⊥
held_accepted query catalogue j {r} p e = go (lt_or_le (first_match query catalogue j) j)
  where
    go : (first_match query catalogue j < j) ⊎ (j ≤ first_match query catalogue j) → ⊥
    go (inl h) = let q : Ok (Some (first_match query catalogue j)) ≡ Err r = sym (held_found query catalogue j p h) ∙ e in let y : ◌≡◌ {A = ℕ} 0 1 = cc in absurd (omega arith)
    go (inr h) = let q : (Ok None) ≡ Err r = sym (held_made query catalogue j p h) ∙ e in let y : ◌≡◌ {A = ℕ} 0 1 = cc in absurd (omega arith)

held : (query catalogue : List ℕ) (j : ℕ) → Held query catalogue j
held query catalogue j = go (check_of query) refl (lt_or_le (first_match query catalogue j) j)
  where
    go : (o : Outcome) → check_of query ≡ o → (first_match query catalogue j < j) ⊎ (j ≤ first_match query catalogue j) → Held query catalogue j
    go (Ok _) e (inl h) = met e h (held_found query catalogue j e h)
    go (Ok _) e (inr h) = looking e h (held_made query catalogue j e h)
    go (Err r) e h = refused r e (held_refused query catalogue j r e)

-- ---- it is the first match, or none

module _ (query catalogue : List ℕ) (j : ℕ) (passed : check_of query ≡ Ok tt) where
  pub match_is :
      (i : ℕ) → held_of query catalogue j ≡ Ok (Some i)
      → (i < j) × ((is_of query (record_at catalogue i) ≡ true) × ((k : ℕ) → k < i → is_of query (record_at catalogue k) ≡ false))
  unfolding first_match
  match_is i e = go (held query catalogue j)
    where
      go : Held query catalogue j → (i < j) × ((is_of query (record_at catalogue i) ≡ true) × ((k : ℕ) → k < i → is_of query (record_at catalogue k) ≡ false))
      go (looking p h z) = let q : (Ok None) ≡ Ok (Some i) = sym z ∙ e in let y : ◌≡◌ {A = ℕ} 0 1 = cc in absurd (omega arith)
      go (met p h z) =
          let q : Ok (Some (first_match query catalogue j)) ≡ Ok (Some i) = sym z ∙ e in
          let y : first_match query catalogue j ≡ i = cc in
          subst (λ (x : ℕ). (x < j) × ((is_of query (record_at catalogue x) ≡ true) × ((k : ℕ) → k < x → is_of query (record_at catalogue k) ≡ false))) y
          (h, (first_passes j (λ i. is_of query (record_at catalogue i)) h, first_before j (λ i. is_of query (record_at catalogue i))))
      go (refused r p z) = let q : Err r ≡ Ok (Some i) = sym z ∙ e in let y : ◌≡◌ {A = ℕ} 0 1 = cc in absurd (omega arith)

  pub is_match :
      (i : ℕ) → i < j → is_of query (record_at catalogue i) ≡ true → ((k : ℕ) → k < i → is_of query (record_at catalogue k) ≡ false) → held_of query catalogue j ≡ Ok (Some i)
  unfolding first_match
  is_match i h e before =
      let y : first_match query catalogue j ≡ i = sym (is_first j (λ i. is_of query (record_at catalogue i)) i (omega arith) before (λ l. e)) in
      held_found query catalogue j passed (omega (arith, h, y)) ∙ ap (λ (k : ℕ). Ok (Some k)) y

  pub none_is : held_of query catalogue j ≡ Ok None → (k : ℕ) → k < j → is_of query (record_at catalogue k) ≡ false
  unfolding first_match
  none_is e = go (held query catalogue j)
    where
      go : Held query catalogue j → (k : ℕ) → k < j → is_of query (record_at catalogue k) ≡ false
      go (looking p h z) = first_none j (λ i. is_of query (record_at catalogue i)) h
      go (met p h z) = let q : (Ok None) ≡ Ok (Some (first_match query catalogue j)) = sym e ∙ z in let y : ◌≡◌ {A = ℕ} 0 1 = cc in absurd (omega arith)
      go (refused r p z) = let q : (Ok None) ≡ Err r = sym e ∙ z in let y : ◌≡◌ {A = ℕ} 0 1 = cc in absurd (omega arith)

  pub is_none : ((k : ℕ) → k < j → is_of query (record_at catalogue k) ≡ false) → held_of query catalogue j ≡ Ok None
  unfolding first_match
  is_none h =
      let y : first_match query catalogue j ≡ j = none_first j (λ i. is_of query (record_at catalogue i)) h in
      held_made query catalogue j passed (omega (arith, y))

-- ---- before the walk

pub held_start : (who : ℕ) (query catalogue : List ℕ) → (held_part who (held_of query catalogue 0) catalogue ≡ zero_record) × (reply_code (held_of query catalogue 0) ≡ check_code query)
held_start who query catalogue = go (held query catalogue 0)
  where
    go : Held query catalogue 0 → (held_part who (held_of query catalogue 0) catalogue ≡ zero_record) × (reply_code (held_of query catalogue 0) ≡ check_code query)
    go (looking e h z) = (rw z, rw (z, e))
    go (met e h z) = absurd (omega arith)
    go (refused r e z) = (rw z, rw (z, e))

-- ---- a reply that is 0 looks, and no other

not_found : (i : ℕ) → reply_code (Ok (Some i)) ≡ 0 → ⊥
not_found i h = omega arith

not_refused : (r : Refusal) → reply_code (Err r) ≡ 0 → ⊥
not_refused r h = code_refused r (let z : code_of (refusal r) % 256 ≡ 0 = omega (arith, h) in z)

-- ---- one record more

both_no : (b : Bool) → both b false ≡ false
both_no true = refl
both_no false = refl

-- a query that does not take the record keeps its part and its reply
pub kept :
    (who : ℕ) (query entry part : List ℕ) (j reply : ℕ) → takes query entry reply ≡ false → (offered_part who query entry part reply ≡ part) × (offered_code query entry j reply ≡ reply)
kept who query entry part j reply h = (rw h, rw h)

pub not_its : (query entry : List ℕ) (reply : ℕ) → is_of query entry ≡ false → takes query entry reply ≡ false
not_its query entry reply h = rw (h, both_no)

not_looking : (query entry : List ℕ) (reply : ℕ) → (reply ≡ 0 → ⊥) → takes query entry reply ≡ false
not_looking query entry reply h = rw (ne_eqb reply 0 h)

module _ (who : ℕ) (query catalogue : List ℕ) (j : ℕ) where
  -- record j offered to what is held
  abbrev Next : LookedUp → LookedUp → Type 0
  Next t t' =
      (offered_part who query (record_at catalogue j) (held_part who t catalogue) (reply_code t) ≡ held_part who t' catalogue)
      × (offered_code query (record_at catalogue j) j (reply_code t) ≡ reply_code t')

  stays : (t : LookedUp) → takes query (record_at catalogue j) (reply_code t) ≡ false → Next t t
  stays t h = kept who query (record_at catalogue j) (held_part who t catalogue) j (reply_code t) h

  taken : is_of query (record_at catalogue j) ≡ true → Next (Ok None) (Ok (Some j))
  taken h = (rw h, rw h (omega arith))

  over : {t u t' u' : LookedUp} → t ≡ u → t' ≡ u' → Next u u' → Next t t'
  over {t} {u} {t'} {u'} e e' n = (
    ap (λ (x : LookedUp). offered_part who query (record_at catalogue j) (held_part who x catalogue) (reply_code x)) e ∙ n.0 ∙ ap (λ (x : LookedUp). held_part who x catalogue) (sym e'),
    ap (λ (x : LookedUp). offered_code query (record_at catalogue j) j (reply_code x)) e ∙ n.1 ∙ ap reply_code (sym e'),
  )

  -- what was held after j records, with record j offered, is what is held after one more
  pub held_next : Next (held_of query catalogue j) (held_of query catalogue (suc j))
  held_next = go (held query catalogue j)
    where
      look : check_of query ≡ Ok tt → j ≤ first_match query catalogue j → held_of query catalogue j ≡ Ok None → (b : Bool) → is_of query (record_at catalogue j) ≡ b
          → Next (held_of query catalogue j) (held_of query catalogue (suc j))
      look e h z true d =
          let here = next_here query catalogue j h d in
          over z (held_found query catalogue (suc j) e (omega (arith, here)) ∙ ap (λ (k : ℕ). Ok (Some k)) here) (taken d)
      look e h z false d =
          over z (held_made query catalogue (suc j) e (omega (arith, next_none query catalogue j h d))) (stays (Ok None) (not_its query (record_at catalogue j) 0 d))

      go : Held query catalogue j → Next (held_of query catalogue j) (held_of query catalogue (suc j))
      go (looking e h z) = look e h z (is_of query (record_at catalogue j)) refl
      go (met e h z) =
          let same = next_same query catalogue j h in
          over z (held_found query catalogue (suc j) e (omega (arith, same)) ∙ ap (λ (k : ℕ). Ok (Some k)) same)
          (stays (Ok (Some (first_match query catalogue j))) (not_looking query (record_at catalogue j) _ (not_found (first_match query catalogue j))))
      go (refused r e z) =
          over z (held_refused query catalogue (suc j) r e) (stays (Err r) (not_looking query (record_at catalogue j) _ (not_refused r)))

-- ---- after the walk

part_is : (who : ℕ) (query catalogue : List ℕ) {t : LookedUp} → alone_of query catalogue ≡ t → part_of who query catalogue ≡ served_in who t query catalogue zero_record
unfolding part_of
part_is who query catalogue e = ap (λ (x : LookedUp). served_in who x query catalogue zero_record) e

module _ (who : ℕ) (query catalogue : List ℕ) (whole : length catalogue % record_bytes ≡ 0) where
  -- what is held, settled, is what the query gets alone
  abbrev Ended : LookedUp → LookedUp → Type 0
  Ended t t' =
      (settled_part (check_of query) query (held_part who t catalogue) (reply_code t) ≡ served_in who t' query catalogue zero_record)
      × (settled_code (check_of query) query (held_part who t catalogue) (reply_code t) ≡ reply_code t')

  ended : {t t' : LookedUp} → held_of query catalogue (records catalogue) ≡ t → alone_of query catalogue ≡ t' → Ended t t'
      → (settled_part (check_of query) query (held_part who (held_of query catalogue (records catalogue)) catalogue) (reply_code (held_of query catalogue (records catalogue)))
      ≡ part_of who query catalogue)
      × (settled_code (check_of query) query (held_part who (held_of query catalogue (records catalogue)) catalogue) (reply_code (held_of query catalogue (records catalogue)))
      ≡ reply_code (alone_of query catalogue))
  ended {t} {t'} z e n = (
    ap (λ (x : LookedUp). settled_part (check_of query) query (held_part who x catalogue) (reply_code x)) z ∙ n.0 ∙ sym (part_is who query catalogue e),
    ap (λ (x : LookedUp). settled_code (check_of query) query (held_part who x catalogue) (reply_code x)) z ∙ n.1 ∙ ap reply_code (sym e),
  )

  end_refused : (r : Refusal) → check_of query ≡ Err r → Ended (Err r) (Err r)
  end_refused r e = (rw e, rw e)

  end_made : check_of query ≡ Ok tt → Ended (Ok None) (Ok None)
  end_made e = (rw e, rw e)

  -- a record is tested as who asks sees it: the number has no part in the test
  seen_passes : (i : ℕ) → i < records catalogue → passes (sequence_of query) (seen_by who (record_at catalogue i)) ≡ passes (sequence_of query) (record_at catalogue i)
  seen_passes i h =
      passes_same (sequence_of query) (seen_by who (record_at catalogue i)) (record_at catalogue i)
      (body_seen who (record_at catalogue i) (omega (arith, record_size catalogue i h)))

  end_met :
      check_of query ≡ Ok tt → (i : ℕ) → i < records catalogue → (g : Bool) → passes (sequence_of query) (record_at catalogue i) ≡ g
      → Ended (Ok (Some i)) (pick g (Ok (Some i)) (Err R.Record))
  end_met e i l g h = go g (seen_passes i l ∙ h)
    where
      go : (g : Bool) → passes (sequence_of query) (seen_by who (record_at catalogue i)) ≡ g → Ended (Ok (Some i)) (pick g (Ok (Some i)) (Err R.Record))
      go true k = (rw (e, ne_eqb (reply_code (Ok (Some i))) 0 (not_found i), k), rw (e, ne_eqb (reply_code (Ok (Some i))) 0 (not_found i), k))
      go false k = (rw (e, ne_eqb (reply_code (Ok (Some i))) 0 (not_found i), k), rw (e, ne_eqb (reply_code (Ok (Some i))) 0 (not_found i), k))

  pub held_end :
      (settled_part (check_of query) query (held_part who (held_of query catalogue (records catalogue)) catalogue) (reply_code (held_of query catalogue (records catalogue)))
      ≡ part_of who query catalogue)
      × (settled_code (check_of query) query (held_part who (held_of query catalogue (records catalogue)) catalogue) (reply_code (held_of query catalogue (records catalogue)))
      ≡ reply_code (alone_of query catalogue))
  unfolding alone_of
  held_end = go (held query catalogue (records catalogue))
    where
      go : Held query catalogue (records catalogue)
          → (settled_part (check_of query) query (held_part who (held_of query catalogue (records catalogue)) catalogue) (reply_code (held_of query catalogue (records catalogue)))
          ≡ part_of who query catalogue)
          × (settled_code (check_of query) query (held_part who (held_of query catalogue (records catalogue)) catalogue) (reply_code (held_of query catalogue (records catalogue)))
          ≡ reply_code (alone_of query catalogue))
      go (looking e h z) = ended z (look_up_made query catalogue zero_record zero_long e whole h) (end_made e)
      go (met e h z) =
          ended z (look_up_met query catalogue zero_record zero_long e whole h)
          (end_met e (first_match query catalogue (records catalogue)) h (passes (sequence_of query) (record_at catalogue (first_match query catalogue (records catalogue)))) refl)
      go (refused r e z) = ended z (look_up_query query catalogue zero_record zero_long e) (end_refused r e)
