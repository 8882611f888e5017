-- Refusal 3 carries the first wrong place, and 25, 6 and 26 are told apart by what is wrong with a candidate.
-- Assumes nothing.
use mathlib.Core.Path.{◌≡◌, refl, sym, ap, ◌∙◌, subst}
use mathlib.Core.Bool.{Bool, true}
use mathlib.Core.Logic.{◌⊎◌, inl, inr}
use mathlib.Core.List.{List}
use Prim.Native.Nat.{ℕ, suc, ◌+◌, ◌*◌, ◌≤◌, ◌<◌, min}
use native.Mathlib.Omega.{arith}
use lib.Dec.{leb}
use lib.ListN.{length}
use borrow.Author.Tests.{leb-true, leb-false, le-leb}
use Rattle.std.specs.Prelude.{None, Ok, Err}
use Rattle.lists.specs.Search.{first}
use Rattle.lists.proofs.Search.{first_before, first_found}
use Rattle.cells.specs.Cell.{cell_at}
use Rattle.sequence.specs.declared.Sequence.{Sequence}
use Rattle.sequence.specs.declared.Refusal.{Refusal}
use Rattle.sequence.specs.declared.Refusal.TheVariants as R
use Rattle.sequence.specs.Limits.{max_modulus, max_terms, query_bytes, a_bytes, b_bytes}
use Rattle.sequence.specs.Answers.{refused, refusal, Outcome}
use Rattle.sequence.specs.Rules.{IsSound, open_of, push_of, sequence_of, check_of, Pushed}
use Rattle.sequence.proofs.Laws.{term_cell, TermAt, term_check, check_term, check_small, check_done, done_check, same_number, refused_done, Push, unsound, full, large, done, pushing, push_large, sound_of}
use Rattle.candidate.specs.Rules.{a_cells, b_cells, flaw_of, IsFine, verify_of, generate_of}
use Rattle.candidate.proofs.Laws.{Found, long, coefficient, lead, fine, found}
use Rattle.candidate.proofs.Refusals.{flaw_large, told_long, long_told, told_coefficient, coefficient_told, told_lead, lead_told, told_malformed, VerifyRefused, verify_query, verify_flaw, verify_refused, generate_refused}
use Rattle.candidate.proofs.Testing.{generate_flaw}
use Rattle.catalogue.specs.Rules.{record_bytes, records, record_at, first_match, passes, synthesize_of, look_up_of}
use Rattle.catalogue.proofs.Refusals.{synthesize_query, synthesize_refused, LookUpRefused, look_up_query, look_up_refused, look_up_fails, fails_look_up, not_yes, yes_not}
use Rattle.codes.specs.Codes.{last_place}
use Rattle.guarantees.specs.Calls.{Call, after_all, taken}
use Rattle.guarantees.specs.Refusals.{PlacesCarried, Readable, WrongAt, FirstWrong, Clean, Placed, PushPlaced, EveryPlace, OneOfThree, Flawed, Runs, MeetsAt, test_at, EveryFlaw}
use Rattle.guarantees.proofs.State.{holding, sound_for, state, good}

-- ---- the place that a refusal carries

pub places_carried : PlacesCarried
places_carried =
    record {
      term = λ i. refl;
      form = λ i. refl;
      range = λ i. refl;
      disagree = λ i. refl;
      last = refl;
      plain = plain;
      placed_code = λ n i h. ap (λ (v : ℕ). suc n + 256 * v) (let z : min i last_place ≡ i = omega arith in z);
      last_code = λ n i h. ap (λ (v : ℕ). suc n + 256 * v) (let z : min i last_place ≡ last_place = omega arith in z);
      plain_code = λ n. (let z : n + 256 * 0 ≡ n = omega arith in z);
    }
  where
    plain : (r : Refusal) → ((refusal r).number ≡ 3 → ⊥) → ((refusal r).number ≡ 27 → ⊥) → ((refusal r).number ≡ 28 → ⊥) → ((refusal r).number ≡ 31 → ⊥)
        → refusal r ≡ refused (refusal r).number
    plain R.Modulus h k l m = refl
    plain R.Count h k l m = refl
    plain (R.Term i) h k l m = absurd (h refl)
    plain R.Padding h k l m = refl
    plain R.Buffer h k l m = refl
    plain R.CandidateCoefficient h k l m = refl
    plain R.Sequence h k l m = refl
    plain R.Full h k l m = refl
    plain R.Catalogue h k l m = refl
    plain R.Record h k l m = refl
    plain R.CandidateLength h k l m = refl
    plain R.CandidateLead h k l m = refl
    plain (R.LineForm i) h k l m = absurd (k refl)
    plain (R.LineRange i) h k l m = absurd (l refl)
    plain R.CountsDiffer h k l m = refl
    plain R.MultipleAbove h k l m = refl
    plain (R.TermsDisagree i) h k l m = absurd (m refl)
    plain R.Period h k l m = refl
    plain R.Census h k l m = refl
    plain R.Batch h k l m = refl

-- ---- where a query is wrong

readable_first : (query : List ℕ) (i : ℕ) → length query ≡ query_bytes → TermAt (sequence_of query) i → Readable query × FirstWrong query i
unfolding sequence_of
readable_first query i h t = (
  record { size = h; least = t.least; most = t.most; count = t.count },
  record {
    wrong = record { within = t.within; large = subst (λ (z : ℕ). cell_at query 0 ≤ z) (term_cell query i (omega (arith, t.within, t.count))) t.large };
    before = λ j k. subst (λ (z : ℕ). z < cell_at query 0) (term_cell query j (omega (arith, k, t.within, t.count))) (t.before j k);
  },
)

first_term : (query : List ℕ) (i : ℕ) → Readable query → FirstWrong query i → TermAt (sequence_of query) i
unfolding sequence_of
first_term query i r f =
    record {
      least = r.least;
      most = r.most;
      count = r.count;
      within = f.wrong.within;
      large = subst (λ (z : ℕ). cell_at query 0 ≤ z) (sym (term_cell query i (omega (arith, f.wrong.within, r.count)))) f.wrong.large;
      before = λ j k. subst (λ (z : ℕ). z < cell_at query 0) (sym (term_cell query j (omega (arith, k, f.wrong.within, r.count)))) (f.before j k);
    }

-- a query that passes its checks is clean
pub passed_clean : (query : List ℕ) → check_of query ≡ Ok tt → Clean query
unfolding sequence_of
passed_clean query h =
    record {
      readable = record { size = k.0; least = k.1.least; most = k.1.most; count = k.1.count };
      below = λ i l. subst (λ (z : ℕ). z < cell_at query 0) (term_cell query i (omega (arith, l, k.1.count))) (k.1.below i l);
      zeros = λ i l n. sym (term_cell query i n) ∙ k.1.zeros i l n;
    }
  where
    k : (length query ≡ query_bytes) × IsSound (sequence_of query)
    k = check_done query h

pub clean_passed : (query : List ℕ) → Clean query → check_of query ≡ Ok tt
unfolding sequence_of
clean_passed query c =
    done_check query c.readable.size
    (record {
      least = c.readable.least;
      most = c.readable.most;
      count = c.readable.count;
      below = λ i l. subst (λ (z : ℕ). z < cell_at query 0) (sym (term_cell query i (omega (arith, l, c.readable.count)))) (c.below i l);
      zeros = λ i l n. term_cell query i n ∙ c.zeros i l n;
    })

-- where some term is wrong there is a first
first_wrong : (query : List ℕ) (j : ℕ) → WrongAt query j → (i : ℕ) × FirstWrong query i
first_wrong query j w = (
  first n p,
  record {
    wrong = record { within = omega (arith, f.0, w.within); large = leb-true _ _ f.1 };
    before = λ k h. leb-false _ _ (first_before n p k h);
  },
)
  where
    n : ℕ
    n = cell_at query 1

    p : ℕ → Bool
    p i = leb (cell_at query 0) (cell_at query (2 + i))

    f : (first n p ≤ j) × (p (first n p) ≡ true)
    f = first_found n p j w.within (le-leb _ _ w.large)

-- a call that passes the query's refusals on, and gives 3 in no other way
placed :
    {A : Type 0} (refused : Refusal → A) (reply : A) (lent : Type 0) (query : List ℕ)
    → ((i : ℕ) → reply ≡ refused (R.Term i) → lent × (check_of query ≡ Err (R.Term i)))
    → ((i : ℕ) → lent → check_of query ≡ Err (R.Term i) → reply ≡ refused (R.Term i))
    → Placed refused reply lent query
placed refused reply lent query back on =
    record {
      told_first = λ i e. let h = back i e in let t = term_check query i h.1 in let f = readable_first query i t.0 t.1 in (h.0, f.0, f.1);
      first_told = told;
      wrong_told = λ j l r w. let f = first_wrong query j w in (f.0, told f.0 l r f.1);
    }
  where
    told : (i : ℕ) → lent → Readable query → FirstWrong query i → reply ≡ refused (R.Term i)
    told i l r f = on i l (check_term query i r.size (first_term query i r f))

synthesized : (query out : List ℕ) → Placed Err (synthesize_of query out) (length out ≡ record_bytes) query
synthesized query out =
    placed Err (synthesize_of query out) (length out ≡ record_bytes) query
    (λ i e. synthesize_refused query out e (λ k. omega arith))
    (λ i l e. synthesize_query query out l ∙ e)

looked_up : (query catalogue out : List ℕ) → Placed Err (look_up_of query catalogue out) (length out ≡ record_bytes) query
looked_up query catalogue out =
    placed Err (look_up_of query catalogue out) (length out ≡ record_bytes) query back (λ i l e. look_up_query query catalogue out l e)
  where
    back : (i : ℕ) → look_up_of query catalogue out ≡ Err (R.Term i) → (length out ≡ record_bytes) × (check_of query ≡ Err (R.Term i))
    back i e = go (look_up_refused query catalogue out e (λ k. omega arith))
      where
        go : LookUpRefused query catalogue out (R.Term i) → (length out ≡ record_bytes) × (check_of query ≡ Err (R.Term i))
        go h = (h.size, from h.source)
          where
            from : (check_of query ≡ Err (R.Term i)) ⊎ (◌≡◌ {A = Outcome} (Err R.Catalogue) (Err (R.Term i)) ⊎ ◌≡◌ {A = Outcome} (Err R.Record) (Err (R.Term i))) → check_of query ≡ Err (R.Term i)
            from (inl k) = k
            from (inr (inl k)) = absurd (omega (arith, same_number k))
            from (inr (inr k)) = absurd (omega (arith, same_number k))

verified : (query a b : List ℕ) (l : ℕ) → Placed Err (verify_of query a b l) ((length a ≡ a_bytes) × (length b ≡ b_bytes)) query
verified query a b l =
    placed Err (verify_of query a b l) ((length a ≡ a_bytes) × (length b ≡ b_bytes)) query back (λ i h e. verify_query query a b l h.0 h.1 e)
  where
    back : (i : ℕ) → verify_of query a b l ≡ Err (R.Term i) → ((length a ≡ a_bytes) × (length b ≡ b_bytes)) × (check_of query ≡ Err (R.Term i))
    back i e = go (verify_refused query a b l e (λ k. omega arith))
      where
        from : (check_of query ≡ Err (R.Term i)) ⊎ ((check_of query ≡ Ok tt) × (flaw_of (sequence_of query).modulus l (a_cells a) (b_cells b) ≡ Err (R.Term i))) → check_of query ≡ Err (R.Term i)
        from (inl k) = k
        from (inr k) = absurd (omega (arith, flaw_large (sequence_of query).modulus l (a_cells a) (b_cells b) k.1))

        go : VerifyRefused query a b l (R.Term i) → ((length a ≡ a_bytes) × (length b ≡ b_bytes)) × (check_of query ≡ Err (R.Term i))
        go h = ((h.a_size, h.b_size), from h.source)

-- ---- pushes

push_told : (s : Sequence) (t i : ℕ) → (push_of s t).outcome ≡ Err (R.Term i) → IsSound s × (s.count < max_terms) × (s.modulus ≤ t) × (i ≡ s.count)
push_told s t i h = go (pushing s t)
  where
    go : Push s t (push_of s t).outcome → IsSound s × (s.count < max_terms) × (s.modulus ≤ t) × (i ≡ s.count)
    go (unsound e) = absurd (omega (arith, same_number (sym e ∙ h)))
    go (full e) = absurd (omega (arith, same_number (sym e ∙ h)))
    go (large k r b e) = let same_place : i ≡ s.count = cc in (k, r, b, same_place)
    go (done e) = refused_done (sym h ∙ e)

pushed : (s : Sequence) (t : ℕ) → IsSound s → PushPlaced s.modulus s.count s t
pushed s t k =
    record {
      told_large = λ i h. let e = push_told s t i h in (e.1, e.2, e.3);
      large_told = λ r b. ap (λ (x : Pushed). x.outcome) (push_large s t k r b);
    }

pushed_after :
    (m : ℕ) → 2 ≤ m → m ≤ max_modulus → (calls : List Call) (t : ℕ) → PushPlaced m (length (taken m calls)) (after_all (open_of m).sequence calls) t
pushed_after m least most calls t =
    subst (λ (s : Sequence). PushPlaced m (length (taken m calls)) s t) (sym (state m least most calls)) (pushed (holding m (taken m calls)) t sound)
  where
    sound : IsSound (holding m (taken m calls))
    sound = sound_of (holding m (taken m calls)) (sound_for m least most (taken m calls) (good m least most calls))

pub every_place : EveryPlace
every_place =
    record {
      passed_clean = passed_clean;
      clean_passed = clean_passed;
      checked = λ query. placed Err (check_of query) (Unit {0}) query (λ i e. (tt, e)) (λ i l e. e);
      synthesized = synthesized;
      looked_up = looked_up;
      verified = verified;
      pushed = pushed;
      pushed_sound = λ s t i h. (push_told s t i h).0;
      pushed_after = pushed_after;
    }

-- ---- what is wrong with a candidate

-- a call that passes the candidate's refusals on, once they are reached, and gives them in no other way
flawed :
    {A : Type 0} (refused : Refusal → A) (reply : A) (reached : Type 0) (m l : ℕ) (a b : List ℕ)
    → ((r : Refusal) → 5 < (refusal r).number → reply ≡ refused r → reached × (flaw_of m l a b ≡ Err r))
    → ((r : Refusal) → reached → flaw_of m l a b ≡ Err r → reply ≡ refused r)
    → Flawed refused reply reached m l a b
flawed refused reply reached m l a b back on =
    record {
      told_long = λ e. let h = back R.CandidateLength (omega arith) e in (h.0, told_long m l a b h.1);
      long_told = λ h k. on R.CandidateLength h (long_told m l a b k);
      told_coefficient = λ e. let h = back R.CandidateCoefficient (omega arith) e in let k = told_coefficient m l a b h.1 in (h.0, k.0, k.1);
      coefficient_told = λ h k f. on R.CandidateCoefficient h (coefficient_told m l a b k f);
      told_lead = λ e. let h = back R.CandidateLead (omega arith) e in let k = told_lead m l a b h.1 in (h.0, k.0, k.1, k.2);
      lead_told = λ h k f o. on R.CandidateLead h (lead_told m l a b k f o);
      told_malformed = malformed;
      malformed_told = λ h k. one h k (found m l a b);
    }
  where
    from : (r : Refusal) → 5 < (refusal r).number → reply ≡ refused r → reached × (IsFine m l a b → ⊥)
    from r n e = let h = back r n e in (h.0, told_malformed m l a b h.1)

    malformed : OneOfThree refused reply → reached × (IsFine m l a b → ⊥)
    malformed (inl e) = from R.CandidateLength (omega arith) e
    malformed (inr (inl e)) = from R.CandidateCoefficient (omega arith) e
    malformed (inr (inr e)) = from R.CandidateLead (omega arith) e

    one : reached → (IsFine m l a b → ⊥) → Found m l a b (flaw_of m l a b) → OneOfThree refused reply
    one h k (long x e) = inl (on R.CandidateLength h e)
    one h k (coefficient x y e) = inr (inl (on R.CandidateCoefficient h e))
    one h k (lead x y z e) = inr (inr (on R.CandidateLead h e))
    one h k (fine f e) = absurd (k f)

tested :
    (query a b : List ℕ) (l : ℕ)
    → Flawed Err (verify_of query a b l) ((length a ≡ a_bytes) × (length b ≡ b_bytes) × Clean query) (cell_at query 0) l (a_cells a) (b_cells b)
unfolding sequence_of
tested query a b l =
    flawed Err (verify_of query a b l) ((length a ≡ a_bytes) × (length b ≡ b_bytes) × Clean query) (cell_at query 0) l (a_cells a) (b_cells b)
    back (λ r h e. verify_flaw query a b l h.0 h.1 (clean_passed query h.2) e)
  where
    flaw : Outcome
    flaw = flaw_of (cell_at query 0) l (a_cells a) (b_cells b)

    back : (r : Refusal) → 5 < (refusal r).number → verify_of query a b l ≡ Err r → ((length a ≡ a_bytes) × (length b ≡ b_bytes) × Clean query) × (flaw ≡ Err r)
    back r n e = go v.source
      where
        v : VerifyRefused query a b l r
        v = verify_refused query a b l e (λ k. omega (arith, n, k))

        go : (check_of query ≡ Err r) ⊎ ((check_of query ≡ Ok tt) × (flaw_of (sequence_of query).modulus l (a_cells a) (b_cells b) ≡ Err r))
            → ((length a ≡ a_bytes) × (length b ≡ b_bytes) × Clean query) × (flaw ≡ Err r)
        go (inl k) = absurd (omega (arith, n, check_small query k))
        go (inr k) = ((v.a_size, v.b_size, passed_clean query k.0), k.1)

ran : (m : ℕ) (a b : List ℕ) (l : ℕ) (cells : List ℕ) → Flawed Err (generate_of m a b l cells) (Runs m a b cells) m l (a_cells a) (b_cells b)
ran m a b l cells =
    flawed Err (generate_of m a b l cells) (Runs m a b cells) m l (a_cells a) (b_cells b) back
    (λ r h e. generate_flaw m a b l cells h.a_size h.b_size h.even h.least h.most h.count ∙ e)
  where
    back : (r : Refusal) → 5 < (refusal r).number → generate_of m a b l cells ≡ Err r → Runs m a b cells × (flaw_of m l (a_cells a) (b_cells b) ≡ Err r)
    back r n e =
        let g = generate_refused m a b l cells e n in
        (record { a_size = g.a_size; b_size = g.b_size; even = g.even; least = g.limits.0; most = g.limits.1; count = g.count }, g.source)

-- looking up gives none of the three
never : (query catalogue out : List ℕ) → OneOfThree Err (look_up_of query catalogue out) → ⊥
never query catalogue out = go
  where
    from :
        (r : Refusal) → 5 < (refusal r).number → ((refusal R.Catalogue).number ≡ (refusal r).number → ⊥) → ((refusal R.Record).number ≡ (refusal r).number → ⊥)
        → look_up_of query catalogue out ≡ Err r → ⊥
    from r n no_23 no_24 e = of (look_up_refused query catalogue out e (λ k. omega (arith, n, k))).source
      where
        of : (check_of query ≡ Err r) ⊎ (◌≡◌ {A = Outcome} (Err R.Catalogue) (Err r) ⊎ ◌≡◌ {A = Outcome} (Err R.Record) (Err r)) → ⊥
        of (inl k) = omega (arith, n, check_small query k)
        of (inr (inl k)) = no_23 (same_number k)
        of (inr (inr k)) = no_24 (same_number k)

    go : OneOfThree Err (look_up_of query catalogue out) → ⊥
    go (inl e) = from R.CandidateLength (omega arith) (λ k. omega arith) (λ k. omega arith) e
    go (inr (inl e)) = from R.CandidateCoefficient (omega arith) (λ k. omega arith) (λ k. omega arith) e
    go (inr (inr e)) = from R.CandidateLead (omega arith) (λ k. omega arith) (λ k. omega arith) e

-- 24 is for a record that is met and whose test does not say yes
told_24 :
    (query catalogue out : List ℕ) → look_up_of query catalogue out ≡ Err R.Record
    → (i : ℕ) × (MeetsAt query catalogue out i × (test_at query catalogue i ≡ Ok None → ⊥))
told_24 query catalogue out h =
    let f = fails_look_up query catalogue out h in
    let i = first_match query catalogue (records catalogue) in (
      i,
      (
        record { out_size = f.size; clean = passed_clean query f.passed; whole = f.whole; match = refl; within = f.within },
        not_yes query catalogue i f.passed f.within f.fails,
      ),
    )

is_24 :
    (query catalogue out : List ℕ) (i : ℕ) → MeetsAt query catalogue out i → (test_at query catalogue i ≡ Ok None → ⊥) → look_up_of query catalogue out ≡ Err R.Record
is_24 query catalogue out i m n =
    look_up_fails query catalogue out
    (record {
      size = m.out_size;
      passed = passed;
      whole = m.whole;
      within = subst (λ (k : ℕ). k < records catalogue) (sym m.match) m.within;
      fails = ap (λ (k : ℕ). passes (sequence_of query) (record_at catalogue k)) m.match ∙ yes_not query catalogue i passed m.within n;
    })
  where
    passed : check_of query ≡ Ok tt
    passed = clean_passed query m.clean

-- a test that refuses does not say yes
covered :
    (query catalogue out : List ℕ) (i : ℕ) → MeetsAt query catalogue out i → OneOfThree Err (test_at query catalogue i) → look_up_of query catalogue out ≡ Err R.Record
covered query catalogue out i m r = is_24 query catalogue out i m (λ e. go r e)
  where
    refused_yes : {x : Refusal} → test_at query catalogue i ≡ Err x → test_at query catalogue i ≡ Ok None → ⊥
    refused_yes h e = let z : ◌≡◌ {A = ℕ} 0 1 = cc in omega arith

    go : OneOfThree Err (test_at query catalogue i) → test_at query catalogue i ≡ Ok None → ⊥
    go (inl h) e = refused_yes h e
    go (inr (inl h)) e = refused_yes h e
    go (inr (inr h)) e = refused_yes h e

pub every_flaw : EveryFlaw
every_flaw = record { verified = tested; generated = ran; told_24 = told_24; is_24 = is_24; covered = covered; never = never }
