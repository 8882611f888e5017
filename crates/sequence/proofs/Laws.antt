-- Laws of sequences: what a sound one is, and what opening one, pushing a term and checking a query reply.
-- Assumes nothing.
use mathlib.Core.Path.{◌≡◌, refl, sym, ap, ◌∙◌, subst}
use mathlib.Core.Bool.{Bool, true, false}
use mathlib.Core.Logic.{◌⊎◌, inl, inr}
use mathlib.Core.List.{List}
use Prim.Native.Nat.{ℕ, zero, ◌+◌, ◌≤◌, ◌<◌}
use native.Mathlib.Nat.{le_refl}
use native.Mathlib.Omega.{arith}
use lib.Dec.{ltb, leb, eqb}
use lib.ListN.{length, set, length-set}
use lib.Seq.{get_or-set_same, get_or-set_other}
use lib.Arith.{lt_of_le-ne}
use borrow.Author.Count.{below_more}
use borrow.Author.Tests.{ltb-true, ltb-false, leb-true, leb-false, eqb-true, lt-ltb, le-ltb, lt-leb, le-leb, eq-eqb, ne_eqb}
use Rattle.std.specs.Prelude.{Result, Ok, Err}
use Rattle.lists.specs.Choice.{pick}
use Rattle.lists.specs.Table.{at}
use Rattle.lists.proofs.Table.{at_tabulate, at_past}
use Rattle.lists.proofs.Search.{false_true, lt_or_le, first_passes, first_before, is_first, first_none, none_first, all_at, all_true}
use Rattle.cells.specs.Cell.{cell_at}
use Rattle.sequence.specs.declared.Checked.{Checked}
use Rattle.sequence.specs.declared.Sequence.{Sequence}
use Rattle.sequence.specs.declared.Refusal.{Refusal}
use Rattle.sequence.specs.declared.Refusal.TheVariants as R
use Rattle.sequence.specs.Limits.{max_modulus, max_terms, query_bytes}
use Rattle.sequence.specs.Answers.{refusal, outcome_answer, Outcome, and_then}
use Rattle.sequence.specs.Rules.{outside, first_large, zero_from, fault_of, is_sound, IsSound, fresh, open_of, longer, push_of, sequence_of, check_of, accepted_of, checked_of, Pushed}

-- sequences are equal by their fields
pub same : {m m' n n' : ℕ} {t t' : List ℕ} → m ≡ m' → n ≡ n' → t ≡ t' → ◌≡◌ {A = Sequence} (record { modulus = m; count = n; terms = t }) (record { modulus = m'; count = n'; terms = t' })
same p q r = λ i. record { modulus = p i; count = q i; terms = r i }

-- what is refused is not done
pub refused_done : {A : Type 0} {r : Refusal} → ◌≡◌ {A = Outcome} (Err r) (Ok tt) → A
refused_done h = false_true (ap is_sound h)

-- ---- zeros

-- zeros are found to be such
pub zero_from_lem : (k n : ℕ) (xs : List ℕ) → ((i : ℕ) → k ≤ i → i < n → at xs i ≡ zero) → zero_from k n xs ≡ true
zero_from_lem k n xs h = all_true n _ (λ i l. go i l (lt_or_le i k))
  where
    go : (i : ℕ) → i < n → (i < k) ⊎ (k ≤ i) → pick (ltb i k) true (eqb (at xs i) zero) ≡ true
    go i l (inl x) = rw (lt-ltb i k x)
    go i l (inr x) = rw (le-ltb i k x) (eq-eqb (at xs i) zero (h i x l))

-- and what is found to be zeros is
pub zero_at : (k n : ℕ) (xs : List ℕ) → zero_from k n xs ≡ true → (i : ℕ) → k ≤ i → i < n → at xs i ≡ zero
zero_at k n xs z i x y = eqb-true _ _ (rw (le-ltb i k x) at (all_at n _ z i y))

-- ---- sound sequences

-- the first term that is not below the modulus stands at place i
pub record TermAt (s : Sequence) (i : ℕ) : Type 0 where
  pub least : 2 ≤ s.modulus
  pub most : s.modulus ≤ max_modulus
  pub count : s.count ≤ max_terms
  pub within : i < s.count
  pub large : s.modulus ≤ at s.terms i
  pub before : (j : ℕ) → j < i → at s.terms j < s.modulus

-- each thing that may be wrong with a sequence, with what it says where more than the refusal is wanted; or nothing
pub data Fault (s : Sequence) (o : Outcome) : Type 0 where
  modulus : o ≡ Err R.Modulus → Fault s o
  count : o ≡ Err R.Count → Fault s o
  term : (i : ℕ) → TermAt s i → o ≡ Err (R.Term i) → Fault s o
  padding : o ≡ Err R.Padding → Fault s o
  sound : IsSound s → o ≡ Ok tt → Fault s o

pub fault : (s : Sequence) → Fault s (fault_of s)
unfolding fault_of
fault s = go (ltb m 2) (ltb max_modulus m) (ltb max_terms n) (ltb i n) (zero_from n max_terms s.terms) refl refl refl refl refl
  where
    m : ℕ
    m = s.modulus

    n : ℕ
    n = s.count

    i : ℕ
    i = first_large m s.terms n

    go :
        (a b d e z : Bool) → ltb m 2 ≡ a → ltb max_modulus m ≡ b → ltb max_terms n ≡ d → ltb i n ≡ e → zero_from n max_terms s.terms ≡ z
        → Fault s (pick (pick a true b) (Err R.Modulus) (pick d (Err R.Count) (pick e (Err (R.Term i)) (pick z (Ok tt) (Err R.Padding)))))
    go true b d e z a' b' d' e' z' = modulus refl
    go false true d e z a' b' d' e' z' = modulus refl
    go false false true e z a' b' d' e' z' = count refl
    go false false false true z a' b' d' e' z' =
        term i
        (record {
          least = ltb-false _ _ a';
          most = ltb-false _ _ b';
          count = ltb-false _ _ d';
          within = ltb-true _ _ e';
          large = leb-true _ _ (first_passes n (λ j. leb m (at s.terms j)) (ltb-true _ _ e'));
          before = λ j k. leb-false _ _ (first_before n (λ j. leb m (at s.terms j)) j k);
        })
        refl
    go false false false false false a' b' d' e' z' = padding refl
    go false false false false true a' b' d' e' z' =
        sound
        (record {
          least = ltb-false _ _ a';
          most = ltb-false _ _ b';
          count = ltb-false _ _ d';
          below = λ j k. leb-false _ _ (first_none n _ (ltb-false _ _ e') j k);
          zeros = zero_at n max_terms s.terms z';
        })
        refl

-- nothing wrong was found with it
pub sound_of : (s : Sequence) → is_sound (fault_of s) ≡ true → IsSound s
sound_of s h = go (fault s)
  where
    refused : {r : Refusal} → fault_of s ≡ Err r → IsSound s
    refused e = false_true (sym (ap is_sound e) ∙ h)

    go : Fault s (fault_of s) → IsSound s
    go (modulus e) = refused e
    go (count e) = refused e
    go (term i t e) = refused e
    go (padding e) = refused e
    go (sound k e) = k

-- and of a sound one nothing is found
pub of_sound : (s : Sequence) → IsSound s → fault_of s ≡ Ok tt
unfolding fault_of
of_sound s h =
    let none : ltb (first_large s.modulus s.terms s.count) s.count ≡ false =
    rw (none_first s.count (λ i. leb s.modulus (at s.terms i)) (λ j k. lt-leb _ _ (h.below j k))) (le-ltb _ _ (le_refl s.count)) in
    rw (le-ltb _ _ h.least, le-ltb _ _ h.most, le-ltb _ _ h.count, none, zero_from_lem s.count max_terms s.terms h.zeros)

-- a term that is not below the modulus is refused with its place
pub of_term : (s : Sequence) (i : ℕ) → TermAt s i → fault_of s ≡ Err (R.Term i)
unfolding fault_of
of_term s i h =
    let first_is : first_large s.modulus s.terms s.count ≡ i =
    sym (is_first s.count _ i (omega (arith, h.within)) (λ j k. lt-leb _ _ (h.before j k)) (λ k. le-leb _ _ h.large)) in
    rw (le-ltb _ _ h.least, le-ltb _ _ h.most, le-ltb _ _ h.count, first_is, lt-ltb _ _ h.within)

pub is_sound_lem : (s : Sequence) → IsSound s → is_sound (fault_of s) ≡ true
is_sound_lem s h = ap is_sound (of_sound s h)

-- ---- opening

pub inside : (m : ℕ) → outside m ≡ false → (2 ≤ m) × (m ≤ max_modulus)
inside m h = go (ltb m 2) refl h
  where
    go : (t : Bool) → ltb m 2 ≡ t → pick t true (ltb max_modulus m) ≡ false → (2 ≤ m) × (m ≤ max_modulus)
    go true e k = false_true (sym k)
    go false e k = (ltb-false _ _ e, ltb-false _ _ k)

pub open_done : (m : ℕ) → 2 ≤ m → m ≤ max_modulus → open_of m ≡ record { sequence = fresh m; outcome = Ok tt }
unfolding open_of
open_done m h k = rw (le-ltb _ _ h, le-ltb _ _ k)

-- ---- pushing

-- each reply of a push by its refusal, with what it says where a term is too large; or none
pub data Push (s : Sequence) (t : ℕ) (o : Outcome) : Type 0 where
  unsound : o ≡ Err R.Sequence → Push s t o
  full : o ≡ Err R.Full → Push s t o
  large : IsSound s → s.count < max_terms → s.modulus ≤ t → o ≡ Err (R.Term s.count) → Push s t o
  done : o ≡ Ok tt → Push s t o

pub pushing : (s : Sequence) (t : ℕ) → Push s t (push_of s t).outcome
unfolding push_of
pushing s t = go (is_sound (fault_of s)) (eqb s.count max_terms) (leb s.modulus t) refl refl refl
  where
    with : Sequence → Outcome → Pushed
    with x o = record { sequence = x; outcome = o }

    go :
        (x y z : Bool) → is_sound (fault_of s) ≡ x → eqb s.count max_terms ≡ y → leb s.modulus t ≡ z
        → Push s t (pick x (pick y (with s (Err R.Full)) (pick z (with s (Err (R.Term s.count))) (with (longer s t) (Ok tt)))) (with s (Err R.Sequence))).outcome
    go false y z x' y' z' = unsound refl
    go true true z x' y' z' = full refl
    go true false true x' y' z' =
        let k = sound_of s x' in
        large k (lt_of_le-ne k.count (λ e. false_true (sym y' ∙ eq-eqb _ _ e))) (leb-true _ _ z') refl
    go true false false x' y' z' = done refl

pub push_done : (s : Sequence) (t : ℕ) → IsSound s → s.count < max_terms → t < s.modulus → push_of s t ≡ record { sequence = longer s t; outcome = Ok tt }
unfolding push_of
push_done s t h k b = rw (is_sound_lem s h, ne_eqb s.count max_terms (λ e. omega arith), lt-leb _ _ b)

pub push_full : (s : Sequence) (t : ℕ) → IsSound s → s.count ≡ max_terms → push_of s t ≡ record { sequence = s; outcome = Err R.Full }
unfolding push_of
push_full s t h k = rw (is_sound_lem s h, eq-eqb _ _ k)

pub push_large : (s : Sequence) (t : ℕ) → IsSound s → s.count < max_terms → s.modulus ≤ t → push_of s t ≡ record { sequence = s; outcome = Err (R.Term s.count) }
unfolding push_of
push_large s t h k b = rw (is_sound_lem s h, ne_eqb s.count max_terms (λ e. omega arith), le-leb _ _ b)

-- one that is refused leaves the sequence as it is
pub push_kept : (s : Sequence) (t : ℕ) → ((push_of s t).outcome ≡ Ok tt → ⊥) → (push_of s t).sequence ≡ s
unfolding push_of
push_kept s t h = go (is_sound (fault_of s)) (eqb s.count max_terms) (leb s.modulus t) h
  where
    with : Sequence → Outcome → Pushed
    with x o = record { sequence = x; outcome = o }

    reply : Bool → Bool → Bool → Pushed
    reply x y z = pick x (pick y (with s (Err R.Full)) (pick z (with s (Err (R.Term s.count))) (with (longer s t) (Ok tt)))) (with s (Err R.Sequence))

    go : (x y z : Bool) → ((reply x y z).outcome ≡ Ok tt → ⊥) → (reply x y z).sequence ≡ s
    go false y z h = refl
    go true true z h = refl
    go true false true h = refl
    go true false false h = absurd (h refl)

-- a sound sequence with one term more is sound
pub sound_longer : (s : Sequence) (t : ℕ) → IsSound s → s.count < max_terms → t < s.modulus → IsSound (longer s t)
sound_longer s t h room small =
    record {
      least = h.least;
      most = h.most;
      count = omega arith;
      below = below_more _ s.count (λ j k. subst (λ (x : ℕ). x < s.modulus) (sym (get_or-set_other s.terms s.count j t 0 (λ e. omega arith))) (h.below j k)) (last (lt_or_le s.count (length s.terms)));
      zeros = λ j k l. get_or-set_other s.terms s.count j t 0 (λ e. omega arith) ∙ h.zeros j (omega arith) l;
    }
  where
    -- where there is no such place, nothing is stored and zero is read
    last : (s.count < length s.terms) ⊎ (length s.terms ≤ s.count) → at (set s.terms s.count t) s.count < s.modulus
    last (inl l) = subst (λ (x : ℕ). x < s.modulus) (sym (get_or-set_same s.terms s.count t 0 l)) small
    last (inr l) = subst (λ (x : ℕ). x < s.modulus) (sym (at_past (set s.terms s.count t) s.count (omega (arith, length-set s.terms s.count t)))) (omega (arith, h.least))

-- ---- queries

-- a term of a query's sequence is a cell of the query
pub term_cell : (query : List ℕ) (i : ℕ) → i < max_terms → at (sequence_of query).terms i ≡ cell_at query (2 + i)
unfolding sequence_of
term_cell query i h = at_tabulate max_terms (λ i. cell_at query (2 + i)) i h

-- a refusal has its number
pub same_number : {r r' : Refusal} → ◌≡◌ {A = Outcome} (Err r) (Err r') → (refusal r).number ≡ (refusal r').number
same_number h = ap (λ (o : Outcome). (outcome_answer o).number) h

-- each reply of the check of a query, with what it says where a term is too large; or none
pub data Check (query : List ℕ) (o : Outcome) : Type 0 where
  buffer : o ≡ Err R.Buffer → Check query o
  fault_of_lem : length query ≡ query_bytes → Fault (sequence_of query) o → Check query o

pub checking : (query : List ℕ) → Check query (check_of query)
unfolding check_of
checking query = go (eqb (length query) query_bytes) refl
  where
    go : (b : Bool) → eqb (length query) query_bytes ≡ b → Check query (pick b (fault_of (sequence_of query)) (Err R.Buffer))
    go true e = fault_of_lem (eqb-true _ _ e) (fault (sequence_of query))
    go false e = buffer refl

-- a query's own refusals are numbered from 1 to 5
pub check_small : (query : List ℕ) {r : Refusal} → check_of query ≡ Err r → (refusal r).number ≤ 5
check_small query {r} h = go (checking query)
  where
    small : {x : Refusal} → check_of query ≡ Err x → (refusal x).number ≤ 5 → (refusal r).number ≤ 5
    small e k = omega (arith, k, same_number (sym e ∙ h))

    fault_small : Fault (sequence_of query) (check_of query) → (refusal r).number ≤ 5
    fault_small (modulus e) = small e (omega arith)
    fault_small (count e) = small e (omega arith)
    fault_small (term i t e) = small e (omega arith)
    fault_small (padding e) = small e (omega arith)
    fault_small (sound k e) = refused_done (sym h ∙ e)

    go : Check query (check_of query) → (refusal r).number ≤ 5
    go (buffer e) = small e (omega arith)
    go (fault_of_lem l f) = fault_small f

-- 3 is given for the first term that is not below the modulus
pub term_check : (query : List ℕ) (i : ℕ) → check_of query ≡ Err (R.Term i) → (length query ≡ query_bytes) × TermAt (sequence_of query) i
term_check query i h = go (checking query)
  where
    -- another number than 3
    other : {r : Refusal} → check_of query ≡ Err r → ((refusal r).number ≡ 3 → ⊥) → (length query ≡ query_bytes) × TermAt (sequence_of query) i
    other e k = absurd (k (same_number (sym e ∙ h)))

    of_fault : length query ≡ query_bytes → Fault (sequence_of query) (check_of query) → (length query ≡ query_bytes) × TermAt (sequence_of query) i
    of_fault l (modulus e) = other e (λ k. omega arith)
    of_fault l (count e) = other e (λ k. omega arith)
    of_fault l (term j t e) = let same_place : j ≡ i = cc in (l, subst (TermAt (sequence_of query)) same_place t)
    of_fault l (padding e) = other e (λ k. omega arith)
    of_fault l (sound k e) = refused_done (sym h ∙ e)

    go : Check query (check_of query) → (length query ≡ query_bytes) × TermAt (sequence_of query) i
    go (buffer e) = other e (λ k. omega arith)
    go (fault_of_lem l f) = of_fault l f

pub check_term : (query : List ℕ) (i : ℕ) → length query ≡ query_bytes → TermAt (sequence_of query) i → check_of query ≡ Err (R.Term i)
unfolding check_of
check_term query i h t = rw (eq-eqb _ _ h) (of_term (sequence_of query) i t)

pub check_done : (query : List ℕ) → check_of query ≡ Ok tt → (length query ≡ query_bytes) × IsSound (sequence_of query)
unfolding check_of
check_done query h = go (eqb (length query) query_bytes) refl h
  where
    go : (b : Bool) → eqb (length query) query_bytes ≡ b → pick b (fault_of (sequence_of query)) (Err R.Buffer) ≡ Ok tt → (length query ≡ query_bytes) × IsSound (sequence_of query)
    go true e h = (eqb-true _ _ e, sound_of (sequence_of query) (ap is_sound h))
    go false e h = let z : ◌≡◌ {A = Bool} false true = cc in false_true z

pub done_check : (query : List ℕ) → length query ≡ query_bytes → IsSound (sequence_of query) → check_of query ≡ Ok tt
unfolding check_of
done_check query h k = rw (eq-eqb _ _ h) (of_sound (sequence_of query) k)

-- a refusal is the same whatever else a call may answer
pub same_refusal : {A : Type 0} {r r' : Refusal} → ◌≡◌ {A = Result A Refusal} (Err r) (Err r') → r ≡ r'
same_refusal h = cc

pub refused_as : {A B : Type 0} {r r' : Refusal} → ◌≡◌ {A = Result A Refusal} (Err r) (Err r') → ◌≡◌ {A = Result B Refusal} (Err r) (Err r')
refused_as h = ap Err (same_refusal h)

-- what `check` tells of any query
pub checked : (query : List ℕ) {x : Checked} → x ≡ checked_of query → x.outcome ≡ check_of query
unfolding checked_of
checked query e = ap (λ (y : Checked). y.outcome) e

-- what `accept` tells of one that is refused
pub checked_refused : (query : List ℕ) {r : Refusal} → Err r ≡ accepted_of query → check_of query ≡ Err r
unfolding accepted_of
checked_refused query {r} e = go (check_of query) refl e
  where
    go : (o : Outcome) → check_of query ≡ o → Err r ≡ and_then o (Ok (sequence_of query)) → check_of query ≡ Err r
    go (Ok _) h k = let z : ◌≡◌ {A = Bool} false true = cc in false_true z
    go (Err x) h k = h ∙ ap Err (same_refusal (sym k))

-- and hands on of one that is not: its sequence, which is sound
pub record Accepted (query : List ℕ) (s : Sequence) : Type 0 where
  pub done : check_of query ≡ Ok tt
  pub long : length query ≡ query_bytes
  pub same : s ≡ sequence_of query
  pub sound : IsSound s

pub accepted : (query : List ℕ) {s : Sequence} → Ok s ≡ accepted_of query → Accepted query s
unfolding accepted_of
accepted query {s} e = go (check_of query) refl e
  where
    go : (o : Outcome) → check_of query ≡ o → Ok s ≡ and_then o (Ok (sequence_of query)) → Accepted query s
    go (Ok _) h k =
        let q : s ≡ sequence_of query = cc in
        record { done = h; long = (check_done query h).0; same = q; sound = subst IsSound (sym q) (check_done query h).1 }
    go (Err x) h k = let z : ◌≡◌ {A = Bool} false true = cc in false_true z
