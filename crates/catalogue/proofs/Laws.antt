-- Laws of records and catalogues: a record is filled part by part; a search stops at the first record of a query; what is found is in the catalogue.
-- Assumes nothing.
use mathlib.Core.Path.{◌≡◌, refl, sym, ap, ◌∙◌, subst}
use mathlib.Core.Bool.{Bool, true, false}
use mathlib.Core.List.{List, [], ◌∷◌, ◌++◌, append_assoc, append-nil}
use Prim.Native.Nat.{ℕ, ◌+◌, ◌-◌, ◌%◌, ◌≤◌, ◌<◌}
use native.Mathlib.Nat.{lt_irrefl}
use native.Mathlib.Omega.{arith}
use lib.Dec.{ltb, eqb}
use lib.ListN.{length, take, drop, set, length-drop, length-append, drop_of_length-le, take-append-drop}
use lib.Seq.{take_at, drop_at, take_all, length-take-le, get_or-take}
use borrow.Rule.Slice.PartMut.{put_mid, post_of}
use borrow.Author.Tests.{lt-ltb, le-ltb, eq-eqb, ltb-true}
use Rattle.std.specs.Prelude.{Option, Some, None, Ok, Err}
use Rattle.lists.specs.Choice.{pick}
use Rattle.lists.specs.Table.{at}
use Rattle.lists.specs.Search.{first}
use Rattle.lists.proofs.Search.{is_first}
use Rattle.cells.specs.Cell.{put_cell, bytes_of}
use Rattle.cells.proofs.Laws.{length_bytes_of, equal_ne}
use Rattle.synthesis.specs.declared.Synthesis.{Synthesis}
use Rattle.synthesis.specs.Synthesis.{synthesis_of}
use Rattle.sequence.specs.declared.Sequence.{Sequence}
use Rattle.sequence.specs.declared.Refusal.TheVariants as R
use Rattle.sequence.specs.Limits.{query_bytes, register_bytes}
use Rattle.sequence.specs.Rules.{sequence_of, check_of}
use Rattle.catalogue.specs.Word.{word_of}
use Rattle.catalogue.specs.Rules.{record_bytes, body_bytes, body, no_number, a_place, layout, record_of, record_at, is_of, records, first_match, match_of, passes, serve_of, fetch_of, look_up_of, editor, seen_by, served_in, LookedUp}
use Rattle.sequence.specs.Answers.{Outcome, and_then}

-- ---- filling a record

-- one part more, after what is filled
step : (p t ys : List ℕ) (a k : ℕ) → length p ≡ a → put_mid a k (p ++ t) ys ≡ (p ++ ys) ++ drop k t
step p t ys a k e = rw (take_at p t a e, drop_at p t a e) (sym (append_assoc p ys (drop k t)))

three :
    (out q l ab : List ℕ) → length out ≡ body_bytes → length q ≡ query_bytes → length l ≡ 2 →
    put_mid a_place register_bytes (put_mid query_bytes 2 (q ++ post_of 0 query_bytes out) l) ab ≡ q ++ (l ++ ab)
three out q l ab ho hq hl =
    ap (λ (z : List ℕ). put_mid a_place register_bytes z ab) (step q (post_of 0 query_bytes out) l query_bytes 2 hq)
    ∙ step (q ++ l) (drop 2 (post_of 0 query_bytes out)) ab a_place register_bytes (length-append q l ∙ omega arith)
    ∙ ap (λ (z : List ℕ). ((q ++ l) ++ ab) ++ z) none
    ∙ append-nil ((q ++ l) ++ ab)
    ∙ append_assoc q l ab
  where
    none : drop register_bytes (drop 2 (post_of 0 query_bytes out)) ≡ []
    none =
        drop_of_length-le (drop 2 (post_of 0 query_bytes out)) {i = register_bytes}
        (omega (arith, length-drop 2 (post_of 0 query_bytes out), length-drop query_bytes out))

one_cell : (xs : List ℕ) (v : ℕ) → length xs ≡ 2 → put_cell xs 0 v ≡ bytes_of (v ∷ [])
unfolding bytes_of
one_cell [] v e = absurd (omega arith)
one_cell (x ∷ []) v e = absurd (omega arith)
one_cell (x ∷ y ∷ []) v e = refl
one_cell (x ∷ y ∷ z ∷ xs) v e = absurd (omega arith)

-- the body, by the three calls that fill it
pub is_body :
    (out query q l ab : List ℕ) (s : Sequence) (x : Synthesis) → length out ≡ body_bytes → length query ≡ query_bytes → q ≡ query →
    l ≡ put_cell (take 2 (drop query_bytes (q ++ post_of 0 query_bytes out))) 0 x.length → ab ≡ bytes_of x.a ++ bytes_of x.b →
    x ≡ synthesis_of s.modulus s.terms s.count →
    put_mid a_place register_bytes (put_mid query_bytes 2 (q ++ post_of 0 query_bytes out) l) ab ≡ layout query s
unfolding layout synthesis_of
is_body out query q l ab s x ho hq eq el eab ex =
    three out q l ab ho size_q (ap length line ∙ two_bytes x.length)
    ∙ ap (λ (z : List ℕ). z ++ (l ++ ab)) eq
    ∙ ap (λ (z : List ℕ). query ++ (z ++ ab)) line
    ∙ ap (λ (z : List ℕ). query ++ (bytes_of (x.length ∷ []) ++ z)) eab
    ∙ ap (λ (z : Synthesis). query ++ (bytes_of (z.length ∷ []) ++ (bytes_of z.a ++ bytes_of z.b))) ex
  where
    size_q : length q ≡ query_bytes
    size_q = ap length eq ∙ hq

    two_bytes : (v : ℕ) → length (bytes_of (v ∷ [])) ≡ 2
    two_bytes v = length_bytes_of (v ∷ [])

    two : length (take 2 (drop query_bytes (q ++ post_of 0 query_bytes out))) ≡ 2
    two =
        length-take-le 2 (drop query_bytes (q ++ post_of 0 query_bytes out))
        (omega (arith, length-drop query_bytes (q ++ post_of 0 query_bytes out), length-append q (post_of 0 query_bytes out), length-drop query_bytes out, size_q))

    line : l ≡ bytes_of (x.length ∷ [])
    line = el ∙ one_cell (take 2 (drop query_bytes (q ++ post_of 0 query_bytes out))) x.length two

-- two bytes that were set to 0
pub is_hidden : (xs : List ℕ) → length xs ≡ 2 → set (set xs 0 0) 1 0 ≡ no_number
is_hidden [] e = absurd (omega arith)
is_hidden (x ∷ []) e = absurd (omega arith)
is_hidden (x ∷ y ∷ []) e = refl
is_hidden (x ∷ y ∷ z ∷ xs) e = absurd (omega arith)

-- a record, by its body and its number
pub is_record : (out b n : List ℕ) → length out ≡ record_bytes → length b ≡ body_bytes → put_mid body_bytes 2 (b ++ post_of 0 body_bytes out) n ≡ b ++ n
is_record out b n ho hb =
    step b (post_of 0 body_bytes out) n body_bytes 2 hb ∙ ap (λ (z : List ℕ). (b ++ n) ++ z) none ∙ append-nil (b ++ n)
  where
    none : drop 2 (post_of 0 body_bytes out) ≡ []
    none = drop_of_length-le (post_of 0 body_bytes out) {i = 2} (omega (arith, length-drop body_bytes out))

-- the record made, of the query's own sequence
pub is_made : (query : List ℕ) (s : Sequence) → s ≡ sequence_of query → layout query s ++ no_number ≡ record_of query
unfolding record_of
is_made query s e = ap (λ (t : Sequence). layout query t ++ no_number) e

-- a record with the number that who asks sees
pub is_seen : (who : ℕ) (entry : List ℕ) → length entry ≡ record_bytes → body entry ++ pick (eqb who editor) (take 2 (drop body_bytes entry)) no_number ≡ seen_by who entry
is_seen who entry h = go (eqb who editor)
  where
    go : (t : Bool) → body entry ++ pick t (take 2 (drop body_bytes entry)) no_number ≡ pick t entry (body entry ++ no_number)
    go true = ap (λ (z : List ℕ). body entry ++ z) (take_all 2 (drop body_bytes entry) (omega (arith, length-drop body_bytes entry))) ∙ take-append-drop body_bytes entry
    go false = refl

-- ---- searching a catalogue

-- record i, as the code cuts it out
pub cut_record : (catalogue : List ℕ) (at : ℕ) → take (at + record_bytes - at) (drop at catalogue) ≡ take record_bytes (drop at catalogue)
cut_record catalogue at =
    let e : at + record_bytes - at ≡ record_bytes = omega arith in
    ap (λ (z : ℕ). take z (drop at catalogue)) e

-- records that differ in their first four terms differ
pub word_tells : (query entry : List ℕ) (x y : ℕ) → x ≡ word_of query → y ≡ word_of entry → (x ≡ y → ⊥) → false ≡ is_of query entry
unfolding is_of
word_tells query entry x y hx hy differ =
    sym (equal_ne query (take query_bytes entry) (λ e. differ (hx ∙ ap word_of e ∙ cut ∙ sym hy)))
  where
    same : (i : ℕ) → i < query_bytes → at (take query_bytes entry) i ≡ at entry i
    same i h = get_or-take query_bytes entry i 0 h

    cut : word_of (take query_bytes entry) ≡ word_of entry
    cut =
        omega (
          arith,
          same 4 (omega arith),
          same 5 (omega arith),
          same 6 (omega arith),
          same 7 (omega arith),
          same 8 (omega arith),
          same 9 (omega arith),
          same 10 (omega arith),
          same 11 (omega arith),
        )

pub found :
    (query catalogue : List ℕ) (i : ℕ) → i < records catalogue → ((j : ℕ) → j < i → is_of query (record_at catalogue j) ≡ false) →
    is_of query (record_at catalogue i) ≡ true → Some i ≡ match_of (records catalogue) (first_match query catalogue (records catalogue))
unfolding first_match
found query catalogue i h b e =
    let f : i ≡ first (records catalogue) (λ j. is_of query (record_at catalogue j)) = is_first (records catalogue) (λ j. is_of query (record_at catalogue j)) i (omega arith) b (λ k. e) in
    rw (← f, lt-ltb i (records catalogue) h)

pub missed :
    (query catalogue : List ℕ) → ((j : ℕ) → j < records catalogue → is_of query (record_at catalogue j) ≡ false) →
    None ≡ match_of (records catalogue) (first_match query catalogue (records catalogue))
unfolding first_match
missed query catalogue b =
    let n : ℕ = records catalogue in
    let f : n ≡ first n (λ j. is_of query (record_at catalogue j)) = is_first n (λ j. is_of query (record_at catalogue j)) n (omega arith) b (λ k. absurd (lt_irrefl n k)) in
    rw (← f, le-ltb n n (omega arith))

-- a match is below the number of records that were searched
pub match_below : (n k i : ℕ) → match_of n k ≡ Some i → i < n
match_below n k i h = go (ltb k n) refl h
  where
    go : (b : Bool) → ltb k n ≡ b → pick b (Some k) None ≡ Some i → i < n
    go true e q = let z : k ≡ i = cc in subst (λ (y : ℕ). y < n) z (ltb-true k n e)
    go false e q = let z : ◌≡◌ {A = ℕ} 0 1 = cc in absurd (omega arith)

-- what serving record i leaves in the lent buffer
pub is_served :
    (s : Sequence) (query catalogue : List ℕ) (who : ℕ) (out : List ℕ) (i : ℕ) {r : LookedUp} {x : List ℕ} → r ≡ serve_of s catalogue (Some i) →
    x ≡ pick (passes s (record_at catalogue i)) (seen_by who (record_at catalogue i)) out → x ≡ served_in who r query catalogue out
is_served s query catalogue who out i e f = f ∙ go (passes s (record_at catalogue i)) ∙ ap (λ (t : LookedUp). served_in who t query catalogue out) (sym e)
  where
    go : (g : Bool) → pick g (seen_by who (record_at catalogue i)) out ≡ served_in who (pick g (Ok (Some i)) (Err R.Record)) query catalogue out
    go true = refl
    go false = refl

-- a record that is said to be found is in the catalogue
pub found_below : (query catalogue out : List ℕ) (i : ℕ) → look_up_of query catalogue out ≡ Ok (Some i) → i < records catalogue
unfolding look_up_of fetch_of
found_below query catalogue out i h =
    go (eqb (length out) record_bytes) (check_of query) (eqb (length catalogue % record_bytes) 0) (match_of (records catalogue) k) refl h
  where
    k : ℕ
    k = first_match query catalogue (records catalogue)

    served : (j : ℕ) (g : Bool) → match_of (records catalogue) k ≡ Some j → pick g (Ok (Some j)) (Err R.Record) ≡ Ok (Some i) → i < records catalogue
    served j true e q = let z : j ≡ i = cc in subst (λ (y : ℕ). y < records catalogue) z (match_below (records catalogue) k j e)
    served j false e q = let z : ◌≡◌ {A = ℕ} 0 1 = cc in absurd (omega arith)

    go :
        (b : Bool) (o : Outcome) (d : Bool) (f : Option ℕ) → match_of (records catalogue) k ≡ f →
        pick b (and_then o (pick d (serve_of (sequence_of query) catalogue f) (Err R.Catalogue))) (Err R.Buffer) ≡ Ok (Some i) → i < records catalogue
    go false o d f e q = let z : ◌≡◌ {A = ℕ} 0 1 = cc in absurd (omega arith)
    go true (Err r) d f e q = let z : ◌≡◌ {A = ℕ} 0 1 = cc in absurd (omega arith)
    go true (Ok _) false f e q = let z : ◌≡◌ {A = ℕ} 0 1 = cc in absurd (omega arith)
    go true (Ok _) true None e q = let z : ◌≡◌ {A = ℕ} 0 1 = cc in absurd (omega arith)
    go true (Ok _) true (Some j) e q = served j (passes (sequence_of query) (record_at catalogue j)) e q

-- a query that passed its checks, in a catalogue of whole records: its first record is tested, and without one a record is made
module _ (query catalogue out : List ℕ) (size : length out ≡ record_bytes) (passed : check_of query ≡ Ok tt) (whole : length catalogue % record_bytes ≡ 0) where
  pub look_up_made : records catalogue ≤ first_match query catalogue (records catalogue) → look_up_of query catalogue out ≡ Ok None
  unfolding look_up_of fetch_of
  look_up_made h = rw (eq-eqb _ _ size, passed, eq-eqb _ _ whole, le-ltb _ _ h)

  pub look_up_met :
      first_match query catalogue (records catalogue) < records catalogue
      → look_up_of query catalogue out
      ≡ pick (passes (sequence_of query) (record_at catalogue (first_match query catalogue (records catalogue)))) (Ok (Some (first_match query catalogue (records catalogue))))
      (Err R.Record)
  unfolding look_up_of fetch_of
  look_up_met h = rw (eq-eqb _ _ size, passed, eq-eqb _ _ whole, lt-ltb _ _ h)

-- of the lent record only its length counts
pub look_up_lent : (query catalogue out out' : List ℕ) → length out ≡ length out' → look_up_of query catalogue out ≡ look_up_of query catalogue out'
unfolding look_up_of
look_up_lent query catalogue out out' h =
    ap (λ (n : ℕ). pick (eqb n record_bytes) (and_then (check_of query) (fetch_of query catalogue)) (Err R.Buffer)) h
