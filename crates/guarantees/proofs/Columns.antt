-- The claims about columns hold.
-- Assumes nothing.
use mathlib.Core.Path.{◌≡◌, refl, sym, ap, ◌∙◌, subst}
use mathlib.Core.Bool.{Bool, true, false}
use mathlib.Core.Logic.{inl, inr}
use mathlib.Core.List.{List, [], ◌∷◌, ◌++◌, map, append_assoc, append-nil}
use Prim.Native.Nat.{ℕ, zero, suc, ◌+◌, ◌/◌, ◌%◌, ◌≤◌, ◌<◌}
use native.Mathlib.Nat.{not-suc-le-zero}
use native.Mathlib.Decide.{ℕ_discrete}
use native.Mathlib.Omega.{arith}
use lib.ListN.{length, take, length-append}
use borrow.Author.Tests.{lt-ltb, eq-eqb}
use Rattle.std.specs.Prelude.{Ok, Err}
use Rattle.lists.specs.Table.{at}
use Rattle.lists.proofs.Table.{is_tabulate}
use Rattle.cells.specs.Cell.{cell_at, bytes_of}
use Rattle.cells.proofs.Laws.{length_bytes_of, cell_at_bytes_of}
use Rattle.sequence.specs.declared.Sequence.{Sequence}
use Rattle.sequence.specs.declared.Refusal.TheVariants as R
use Rattle.sequence.specs.Limits.{max_modulus, max_terms}
use Rattle.sequence.specs.Rules.{IsSound, fault_of, is_sound, open_of, longer, push_of}
use Rattle.sequence.proofs.Laws.{refused_done, sound_of, push_kept}
use Rattle.column.specs.declared.PushedAll.{PushedAll}
use Rattle.column.specs.Rules.{terms_in, took, onward, each_of, push_all_of}
use Rattle.column.proofs.Laws.{each_none, each_push, each_by, column_odd, column_unsound, column_each}
use Rattle.guarantees.specs.Calls.{Call, push, push_all, after, after_all, takes_each, taken_from, taken}
use Rattle.guarantees.specs.Columns.{Ends, all, full, large, Takes, after_first, EndsSingly, Singly, taken_then, StandsFor, EveryColumn}
use Rattle.guarantees.proofs.State.{taken_held, after_sound, after_count, column_joined}
use Rattle.sequence.specs.Answers.{Outcome}

-- ---- by the terms

-- none of the terms is taken
module _ (s : Sequence) (ts : List ℕ) (sound : IsSound s) where
  none : (o : Outcome) → Ends s ts (took zero s o) → Takes s ts (took zero s o)
  none o e =
      record {
        below = λ i h. absurd (not-suc-le-zero h);
        room = omega (arith, sound.count);
        modulus = refl;
        count = omega arith;
        sound = sound;
        ends = e;
      }

-- one is taken, and then others
module _ (s : Sequence) (t : ℕ) (ts : List ℕ) (small : t < s.modulus) (r : PushedAll) (k : Takes (longer s t) ts r) where
  more_below : (i : ℕ) → i < suc r.taken → at (t ∷ ts) i < s.modulus
  more_below zero h = small
  more_below (suc i) h = k.below i (omega arith)

  more_ends : Ends (longer s t) ts r → Ends s (t ∷ ts) (onward (Ok tt) (longer s t) r)
  more_ends (all e o) = all (ap suc e) o
  more_ends (full l e o) = full (omega arith) (omega arith) o
  more_ends (large l h b o) = large (omega arith) (omega arith) b (o ∙ ap (λ (n : ℕ). Err (R.Term n)) (let e : s.count + 1 + r.taken ≡ s.count + suc r.taken = omega arith in e))

  more : Takes s (t ∷ ts) (onward (Ok tt) (longer s t) r)
  more =
      record {
        below = more_below;
        room = omega (arith, k.room);
        modulus = k.modulus;
        count = omega (arith, k.count);
        sound = k.sound;
        ends = more_ends k.ends;
      }

each_takes : (s : Sequence) (ts : List ℕ) → IsSound s → Takes s ts (each_of s ts)
each_takes =
    each_by Takes
    (λ s h. none s [] h (Ok tt) (all refl refl))
    (λ s t ts h e. none s (t ∷ ts) h (Err R.Full) (full (omega arith) (omega arith) refl))
    (λ s t ts h room l. none s (t ∷ ts) h (Err (R.Term s.count))
    (large (omega arith) (omega arith) l (ap (λ (n : ℕ). Err (R.Term n)) (let e : s.count ≡ s.count + 0 = omega arith in e))))
    (λ s t ts r h room l k. more s t ts l r k)

-- ---- by single pushes

each_singly : (s : Sequence) (ts : List ℕ) → Singly s ts (each_of s ts)
unfolding after_all
each_singly s [] = subst (Singly s []) (sym (each_none s)) (record { each = λ i h. absurd (not-suc-le-zero h); sequence = refl; ends = inl (refl, refl) })
each_singly s (t ∷ ts) = subst (Singly s (t ∷ ts)) (sym (each_push s t ts)) (go (push_of s t).outcome refl (each_singly (push_of s t).sequence ts))
  where
    s' : Sequence
    s' = (push_of s t).sequence

    rest : PushedAll
    rest = each_of s' ts

    go : (o : Outcome) → (push_of s t).outcome ≡ o → Singly s' ts rest → Singly s (t ∷ ts) (onward o s' rest)
    go (Ok _) e k = record { each = each; sequence = k.sequence; ends = ends k.ends }
      where
        each : (i : ℕ) → i < suc rest.taken → (push_of (after_first s (t ∷ ts) i) (at (t ∷ ts) i)).outcome ≡ Ok tt
        each zero h = e
        each (suc i) h = k.each i (omega arith)

        ends : EndsSingly ts rest → EndsSingly (t ∷ ts) (onward (Ok tt) s' rest)
        ends (inl x) = inl (ap suc x.0, x.1)
        ends (inr x) = inr (omega (arith, x.0), x.1, x.2)
    go (Err r) e k = record { each = λ i h. absurd (not-suc-le-zero h); sequence = kept; ends = inr (omega arith, sym e ∙ ap (λ (x : Sequence). (push_of x t).outcome) (sym kept), (λ h. refused_done h)) }
      where
        kept : s' ≡ s
        kept = push_kept s t (λ h. refused_done (sym e ∙ h))

-- ---- in a list of calls

-- whatever the column is, the sequence after it is that after the pushes of the terms taken
column_first : (s : Sequence) (list : List ℕ) → (push_all_of s list).sequence ≡ after_first s (terms_in list) (push_all_of s list).taken
unfolding after_all
column_first s list = go (ℕ_discrete (length list % 2) 0) (is_sound (fault_of s)) refl
  where
    First : PushedAll → Type 0
    First r = r.sequence ≡ after_first s (terms_in list) r.taken

    go : Dec (length list % 2 ≡ 0) → (b : Bool) → is_sound (fault_of s) ≡ b → First (push_all_of s list)
    go (no f) b h = subst First (sym (column_odd s list f)) refl
    go (yes e) false h = subst First (sym (column_unsound s list e h)) refl
    go (yes e) true h = subst First (sym (column_each s list e (sound_of s h))) (each_singly s (terms_in list)).sequence

after_append : (s : Sequence) (cs ds : List Call) → after_all s (cs ++ ds) ≡ after_all (after_all s cs) ds
unfolding after_all
after_append s [] ds = refl
after_append s (c ∷ cs) ds = after_append (after s c) cs ds

stands_for : (m : ℕ) → 2 ≤ m → m ≤ max_modulus → (calls : List Call) (list : List ℕ) (rest : List Call) → StandsFor m calls list rest
unfolding after_all
stands_for m least most calls list rest =
    record {
      sequence = same;
      terms = sym (taken_held m least most column) ∙ ap (λ (s : Sequence). take s.count s.terms) same ∙ taken_held m least most singles;
    }
  where
    s : Sequence
    s = after_all (open_of m).sequence calls

    pushes : List Call
    pushes = map push (take (taken_then m calls list) (terms_in list))

    column : List Call
    column = calls ++ (push_all list ∷ rest)

    singles : List Call
    singles = calls ++ (pushes ++ rest)

    same : after_all (open_of m).sequence column ≡ after_all (open_of m).sequence singles
    same =
        after_append (open_of m).sequence calls (push_all list ∷ rest)
        ∙ ap (λ (x : Sequence). after_all x rest) (column_first s list)
        ∙ sym (after_append (open_of m).sequence calls (pushes ++ rest) ∙ after_append s pushes rest)

-- ---- a whole column

-- a column of terms below m is taken whole where there is room
pub each_whole : (m : ℕ) (us ts : List ℕ) → ((j : ℕ) → j < length us → at us j < m) → length ts + length us ≤ max_terms → takes_each m ts us ≡ ts ++ us
unfolding takes_each
each_whole m [] ts below room = sym (append-nil ts)
each_whole m (t ∷ us) ts below room =
    rw (lt-ltb t m (below zero (omega arith)), lt-ltb (length ts) max_terms (omega arith))
    (each_whole m us (ts ++ (t ∷ [])) (λ j h. below (suc j) (omega arith)) (omega (arith, length-append ts (t ∷ []))) ∙ append_assoc ts (t ∷ []) us)

-- the terms of a column are those that were written
terms_back : (ts : List ℕ) → ((j : ℕ) → j < length ts → at ts j < 65536) → terms_in (bytes_of ts) ≡ ts
terms_back ts small =
    sym
    (is_tabulate (length (bytes_of ts) / 2) (λ j. cell_at (bytes_of ts) (0 + j)) 0 ts (omega (arith, length_bytes_of ts))
    (λ j h. sym (cell_at_bytes_of ts j (small j (omega (arith, length_bytes_of ts)))) ∙ ap (cell_at (bytes_of ts)) (let e : j ≡ 0 + j = omega arith in e)))

module _ (m : ℕ) (least : 2 ≤ m) (most : m ≤ max_modulus) (ts : List ℕ) (size : length ts ≤ max_terms) (below : (j : ℕ) → j < length ts → at ts j < m) where
  back : terms_in (bytes_of ts) ≡ ts
  back = terms_back ts (λ j h. omega (arith, below j h))

  whole : taken m (push_all (bytes_of ts) ∷ []) ≡ ts
  unfolding taken_from
  whole =
      rw (eq-eqb (length (bytes_of ts) % 2) 0 (omega (arith, length_bytes_of ts)))
      (ap (takes_each m []) back ∙ each_whole m ts [] below (omega arith))

pub every_column : EveryColumn
every_column =
    record {
      odd = λ s list h. column_odd s list h;
      unsound = λ s list e h. unsound s list e h (is_sound (fault_of s)) refl;
      takes = λ s list e h. subst (Takes s (terms_in list)) (sym (column_each s list e h)) (each_takes s (terms_in list) h);
      singly = λ s list e h. subst (Singly s (terms_in list)) (sym (column_each s list e h)) (each_singly s (terms_in list));
      joins = λ m least most calls list.
          record { sound = after_sound m least most calls; count = after_count m least most calls; joined = column_joined m least most calls list };
      stands = stands_for;
      whole = whole;
    }
  where
    unsound : (s : Sequence) (list : List ℕ) → length list % 2 ≡ zero → (IsSound s → ⊥) → (b : Bool) → is_sound (fault_of s) ≡ b → push_all_of s list ≡ took zero s (Err R.Sequence)
    unsound s list e h true k = absurd (h (sound_of s k))
    unsound s list e h false k = column_unsound s list e k
