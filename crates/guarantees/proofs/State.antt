-- The sequence after a list of calls holds the terms taken, and nothing else.
-- Assumes nothing.
use mathlib.Core.Path.{◌≡◌, refl, sym, ap, ◌∙◌, subst}
use mathlib.Core.List.{List, [], ◌∷◌, ◌++◌, map, append_assoc, append-nil}
use mathlib.Core.Logic.{◌⊎◌, inl, inr, ⊎_elim}
use mathlib.Core.Bool.{true}
use Prim.Native.Nat.{ℕ, suc, ◌+◌, ◌-◌, ◌%◌, ◌≤◌, ◌<◌}
use native.Mathlib.Nat.{not-suc-le-zero}
use native.Mathlib.Decide.{ℕ_discrete}
use native.Mathlib.Omega.{arith}
use lib.Dec.{eqb}
use lib.ListN.{length, take, set, replicate, length-append, get_or-replicate, get_or-append}
use lib.Seq.{set_at, get_or-append-add, get_or-append_seam}
use borrow.Author.Tests.{lt-ltb, le-ltb, eq-eqb, ne_eqb}
use borrow.Author.Count.{below_more}
use Rattle.std.specs.Prelude.{Ok}
use Rattle.lists.specs.Choice.{pick}
use Rattle.lists.specs.Table.{at}
use Rattle.lists.proofs.Search.{lt_or_le}
use Rattle.sequence.specs.declared.Sequence.{Sequence}
use Rattle.sequence.specs.declared.Opened.{Opened}
use Rattle.sequence.specs.Limits.{max_modulus, max_terms}
use Rattle.sequence.specs.Rules.{open_of, push_of, fault_of, is_sound, IsSound, Pushed}
use Rattle.sequence.proofs.Laws.{is_sound_lem, open_done, push_done, push_full, push_large}
use Rattle.column.specs.declared.PushedAll.{PushedAll}
use Rattle.column.specs.Rules.{terms_in, took, onward, each_of, push_all_of}
use Rattle.column.proofs.Laws.{each_none, each_done, each_full, each_large, column_odd, column_each}
use Rattle.guarantees.specs.Calls.{Call, push, push_all, register, profile, trace, after_all, takes_each, takes, taken_from, taken}
use Rattle.sequence.specs.Answers.{Outcome}

-- the terms in an array of 128, zero past the last
abbrev pub padded : List ℕ → List ℕ
padded ts = ts ++ replicate (max_terms - length ts) 0

-- the sequence that holds these terms
abbrev pub holding : ℕ → List ℕ → Sequence
holding m ts = record { modulus = m; count = length ts; terms = padded ts }

-- at most 128 terms, each below m
pub record Good (m : ℕ) (ts : List ℕ) : Type 0 where
  pub size : length ts ≤ max_terms
  pub below : (j : ℕ) → j < length ts → at ts j < m

pub padded_at : (ts : List ℕ) (j : ℕ) → j < length ts → at (padded ts) j ≡ at ts j
padded_at ts j h = get_or-append ts (replicate (max_terms - length ts) 0) 0 j h

-- of two lists, the first
front : (xs ys : List ℕ) → take (length xs) (xs ++ ys) ≡ xs
front [] ys = refl
front (x ∷ xs) ys = ap (λ (l : List ℕ). x ∷ l) (front xs ys)

module _ (m : ℕ) (least : 2 ≤ m) (most : m ≤ max_modulus) where
  pub holding_sound : (ts : List ℕ) → Good m ts → IsSound (holding m ts)
  holding_sound ts g =
      record {
        least = least;
        most = most;
        count = g.size;
        below = λ j h. subst (λ (z : ℕ). z < m) (sym (padded_at ts j h)) (g.below j h);
        zeros = λ j h k.
            let d : ℕ = j - length ts in
            let e : length ts + d ≡ j = omega arith in
            subst (λ (z : ℕ). at (padded ts) z ≡ 0) e (get_or-append-add ts (replicate (max_terms - length ts) 0) d 0 ∙ get_or-replicate (max_terms - length ts) d 0 0 (omega arith));
      }

  pub sound_for : (ts : List ℕ) → Good m ts → is_sound (fault_of (holding m ts)) ≡ true
  sound_for ts g = is_sound_lem (holding m ts) (holding_sound ts g)

  -- one term more, in the array
  stored : (ts : List ℕ) (t : ℕ) → length ts < max_terms → set (padded ts) (length ts) t ≡ padded (ts ++ (t ∷ []))
  stored ts t h =
      let k : ℕ = max_terms - length ts - 1 in
      let e : max_terms - length ts ≡ suc k = omega arith in
      let l : length (ts ++ (t ∷ [])) ≡ length ts + 1 = length-append ts (t ∷ []) in
      let d : max_terms - length (ts ++ (t ∷ [])) ≡ k = omega arith in
      ap (λ (z : ℕ). set (ts ++ replicate z 0) (length ts) t) e
      ∙ set_at ts 0 (replicate k 0) t (length ts) refl
      ∙ sym (append_assoc ts (t ∷ []) (replicate k 0))
      ∙ ap (λ (z : ℕ). (ts ++ (t ∷ [])) ++ replicate z 0) (sym d)

  more : (ts : List ℕ) (t : ℕ) → length ts < max_terms
      → ◌≡◌ {A = Sequence} (record { modulus = m; count = length ts + 1; terms = set (padded ts) (length ts) t }) (holding m (ts ++ (t ∷ [])))
  more ts t h = λ i. record { modulus = m; count = sym (length-append ts (t ∷ [])) i; terms = stored ts t h i }

  -- a push does to the sequence what it does to the terms
  push_for : (ts : List ℕ) (t : ℕ) → Good m ts → (push_of (holding m ts) t).sequence ≡ holding m (takes m ts (push t))
  push_for ts t g =
      ⊎_elim
      (λ (h : length ts < max_terms). ⊎_elim
      (λ (k : t < m). rw (lt-ltb t m k, lt-ltb (length ts) max_terms h) (kept (push_done (holding m ts) t s h k) ∙ more ts t h))
      (λ (k : m ≤ t). rw (le-ltb t m k) (kept (push_large (holding m ts) t s h k)))
      (lt_or_le t m))
      (λ (h : max_terms ≤ length ts). let full = kept (push_full (holding m ts) t s (omega (arith, g.size))) in ⊎_elim
      (λ (k : t < m). rw (lt-ltb t m k, le-ltb (length ts) max_terms h) full)
      (λ (k : m ≤ t). rw (le-ltb t m k) full)
      (lt_or_le t m))
      (lt_or_le (length ts) max_terms)
    where
      s : IsSound (holding m ts)
      s = holding_sound ts g

      kept : {x y : Pushed} → x ≡ y → x.sequence ≡ y.sequence
      kept = ap (λ (x : Pushed). x.sequence)

  good_none : Good m []
  good_none = record { size = omega arith; below = λ j h. absurd (not-suc-le-zero h) }

  good_more : (ts : List ℕ) (t : ℕ) → Good m ts → Good m (takes m ts (push t))
  good_more ts t g =
      ⊎_elim
      (λ (k : t < m). ⊎_elim
      (λ (h : length ts < max_terms). rw (lt-ltb t m k, lt-ltb (length ts) max_terms h) (grown k h))
      (λ (h : max_terms ≤ length ts). rw (lt-ltb t m k, le-ltb (length ts) max_terms h) g)
      (lt_or_le (length ts) max_terms))
      (λ (k : m ≤ t). rw (le-ltb t m k) g)
      (lt_or_le t m)
    where
      grown : t < m → length ts < max_terms → Good m (ts ++ (t ∷ []))
      grown k h =
          let l : length (ts ++ (t ∷ [])) ≡ length ts + 1 = length-append ts (t ∷ []) in
          record {
            size = omega arith;
            below = λ j i. below_more _ (length ts)
                (λ x y. subst (λ (z : ℕ). z < m) (sym (get_or-append ts (t ∷ []) 0 x y)) (g.below x y))
                (subst (λ (z : ℕ). z < m) (sym (get_or-append_seam ts t [] 0)) k)
                j (subst (λ (z : ℕ). j < z) l i);
          }

  -- a column of terms us, pushed where ts are held: its reply is r, and vs are held then
  record Left (ts us : List ℕ) (r : PushedAll) (vs : List ℕ) : Type 0 where
    holds : r.sequence ≡ holding m vs
    good : Good m vs
    -- those that are taken join at the end, in order
    joined : vs ≡ ts ++ take r.taken us

  -- none of them is taken
  left_none : (ts us : List ℕ) (o : Outcome) → Good m ts → Left ts us (took 0 (holding m ts) o) ts
  left_none ts us o g = record { holds = refl; good = g; joined = sym (append-nil ts) }

  each_for : (us ts : List ℕ) → Good m ts → Left ts us (each_of (holding m ts) us) (takes_each m ts us)
  unfolding takes_each
  each_for [] ts g = subst (λ (r : PushedAll). Left ts [] r ts) (sym (each_none (holding m ts))) (left_none ts [] (Ok tt) g)
  each_for (t ∷ us) ts g = go (lt_or_le t m) (lt_or_le (length ts) max_terms) (λ h. each_for us (ts ++ (t ∷ [])) h)
    where
      s : IsSound (holding m ts)
      s = holding_sound ts g

      -- the reply is this one
      by : {r r' : PushedAll} {vs : List ℕ} → r ≡ r' → Left ts (t ∷ us) r' vs → Left ts (t ∷ us) r vs
      by {vs = vs} e = subst (λ (x : PushedAll). Left ts (t ∷ us) x vs) (sym e)

      full : max_terms ≤ length ts → Left ts (t ∷ us) (each_of (holding m ts) (t ∷ us)) ts
      full h = by (each_full (holding m ts) t us s (omega (arith, g.size))) (left_none ts (t ∷ us) _ g)

      go :
          (t < m) ⊎ (m ≤ t) → (length ts < max_terms) ⊎ (max_terms ≤ length ts)
          → (Good m (ts ++ (t ∷ [])) → Left (ts ++ (t ∷ [])) us (each_of (holding m (ts ++ (t ∷ []))) us) (takes_each m (ts ++ (t ∷ [])) us))
          → Left ts (t ∷ us) (each_of (holding m ts) (t ∷ us)) (takes_each m ts (t ∷ us))
      go (inl k) (inl h) ih =
          let rest = ih (rw (lt-ltb t m k, lt-ltb (length ts) max_terms h) at (good_more ts t g)) in
          rw (lt-ltb t m k, lt-ltb (length ts) max_terms h)
          (by (each_done (holding m ts) t us s h k ∙ ap (λ (z : Sequence). onward (Ok tt) z (each_of z us)) (more ts t h))
          (record { holds = rest.holds; good = rest.good; joined = rest.joined ∙ append_assoc ts (t ∷ []) _ }))
      go (inl k) (inr h) ih = rw (lt-ltb t m k, le-ltb (length ts) max_terms h) (full h)
      go (inr k) (inl h) ih = rw (le-ltb t m k) (by (each_large (holding m ts) t us s h k) (left_none ts (t ∷ us) _ g))
      go (inr k) (inr h) ih = rw (le-ltb t m k) (full h)

  column_for : (ts list : List ℕ) → Good m ts → Left ts (terms_in list) (push_all_of (holding m ts) list) (takes m ts (push_all list))
  column_for ts list g = go (ℕ_discrete (length list % 2) 0)
    where
      go : Dec (length list % 2 ≡ 0) → Left ts (terms_in list) (push_all_of (holding m ts) list) (pick (eqb (length list % 2) 0) (takes_each m ts (terms_in list)) ts)
      go (yes e) = rw (eq-eqb _ _ e) (subst (λ (x : PushedAll). Left ts (terms_in list) x (takes_each m ts (terms_in list))) (sym (column_each (holding m ts) list e (holding_sound ts g))) (each_for (terms_in list) ts g))
      go (no f) = rw (ne_eqb _ _ f) (subst (λ (x : PushedAll). Left ts (terms_in list) x ts) (sym (column_odd (holding m ts) list f)) (left_none ts (terms_in list) _ g))

  after_from : (cs : List Call) (ts : List ℕ) → Good m ts → (after_all (holding m ts) cs ≡ holding m (taken_from m ts cs)) × Good m (taken_from m ts cs)
  unfolding after_all taken_from
  after_from [] ts g = (refl, g)
  after_from (push t ∷ cs) ts g =
      let h = after_from cs (takes m ts (push t)) (good_more ts t g) in
      (ap (λ (z : Sequence). after_all z cs) (push_for ts t g) ∙ h.0, h.1)
  after_from (push_all list ∷ cs) ts g =
      let f = column_for ts list g in
      let h = after_from cs (takes m ts (push_all list)) f.good in
      (ap (λ (z : Sequence). after_all z cs) f.holds ∙ h.0, h.1)
  after_from (register a b ∷ cs) ts g = after_from cs ts g
  after_from (profile c ∷ cs) ts g = after_from cs ts g
  after_from (trace a b sheet ∷ cs) ts g = after_from cs ts g

  pub opens : (open_of m).outcome ≡ Ok tt
  opens = ap (λ (x : Opened). x.outcome) (open_done m least most)

  opened : (open_of m).sequence ≡ holding m []
  opened = ap (λ (x : Opened). x.sequence) (open_done m least most)

  -- the sequence after the whole list
  pub state : (cs : List Call) → after_all (open_of m).sequence cs ≡ holding m (taken m cs)
  state cs = ap (λ (z : Sequence). after_all z cs) opened ∙ (after_from cs [] good_none).0

  pub good : (cs : List Call) → Good m (taken m cs)
  good cs = (after_from cs [] good_none).1

  -- the terms taken stand in it
  pub taken_held : (cs : List Call) → (let s = after_all (open_of m).sequence cs in take s.count s.terms) ≡ taken m cs
  taken_held cs = ap (λ (s : Sequence). take s.count s.terms) (state cs) ∙ front (taken m cs) (replicate (max_terms - length (taken m cs)) 0)

  -- it is sound, its modulus is m, and its count is the number of terms taken
  pub after_sound : (cs : List Call) → IsSound (after_all (open_of m).sequence cs)
  after_sound cs = subst IsSound (sym (state cs)) (holding_sound (taken m cs) (good cs))

  pub after_modulus : (cs : List Call) → (after_all (open_of m).sequence cs).modulus ≡ m
  after_modulus cs = ap (λ (s : Sequence). s.modulus) (state cs)

  pub after_count : (cs : List Call) → (after_all (open_of m).sequence cs).count ≡ length (taken m cs)
  after_count cs = ap (λ (s : Sequence). s.count) (state cs)

  -- ---- a column behind the list

  taken_append : (ts : List ℕ) (cs ds : List Call) → taken_from m ts (cs ++ ds) ≡ taken_from m (taken_from m ts cs) ds
  unfolding taken_from
  taken_append ts [] ds = refl
  taken_append ts (c ∷ cs) ds = taken_append (takes m ts c) cs ds

  pub column_joined : (cs : List Call) (list : List ℕ)
      → taken m (cs ++ (push_all list ∷ [])) ≡ taken m cs ++ take (push_all_of (after_all (open_of m).sequence cs) list).taken (terms_in list)
  unfolding taken_from
  column_joined cs list =
      taken_append [] cs (push_all list ∷ [])
      ∙ (column_for (taken m cs) list (good cs)).joined
      ∙ ap (λ (s : Sequence). taken m cs ++ take (push_all_of s list).taken (terms_in list)) (sym (state cs))

  -- ---- pushing terms one by one

  pushes_take : (ts us : List ℕ) → Good m (ts ++ us) → taken_from m ts (map push us) ≡ ts ++ us
  unfolding taken_from
  pushes_take ts [] g = sym (append-nil ts)
  pushes_take ts (t ∷ us) g =
      ap (λ (z : List ℕ). taken_from m z (map push us)) joins
      ∙ pushes_take (ts ++ (t ∷ [])) us (subst (Good m) (sym (append_assoc ts (t ∷ []) us)) g) ∙ append_assoc ts (t ∷ []) us
    where
      long : length (ts ++ (t ∷ us)) ≡ length ts + suc (length us)
      long = length-append ts (t ∷ us)

      joins : takes m ts (push t) ≡ ts ++ (t ∷ [])
      joins =
          rw (
            lt-ltb t m (subst (λ (z : ℕ). z < m) (get_or-append_seam ts t us 0) (g.below (length ts) (omega (arith, long)))),
            lt-ltb (length ts) max_terms (omega (arith, long, g.size)),
          )

  -- they are taken, all of them
  pub all_pushed : (ts : List ℕ) → Good m ts → taken m (map push ts) ≡ ts
  all_pushed ts g = pushes_take [] ts g
