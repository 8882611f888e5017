-- Laws of columns: what one term more does, and how far the terms have been pushed.
-- Assumes nothing.
use mathlib.Core.Path.{◌≡◌, refl, sym, ap, ◌∙◌, subst}
use mathlib.Core.Bool.{false}
use mathlib.Core.Logic.{◌⊎◌, inl, inr}
use mathlib.Core.List.{List, [], ◌∷◌}
use Prim.Native.Nat.{ℕ, zero, suc, ◌+◌, ◌/◌, ◌%◌, ◌≤◌, ◌<◌}
use native.Mathlib.Decide.{ℕ_discrete}
use native.Mathlib.Omega.{arith}
use lib.ListN.{length, drop, drop_of_length-le}
use lib.Seq.{drop-cons}
use lib.Arith.{lt_of_le-ne}
use borrow.Author.Tests.{eq-eqb, ne_eqb}
use Rattle.std.specs.Prelude.{Ok, Err}
use Rattle.lists.proofs.Search.{lt_or_le}
use Rattle.lists.proofs.Table.{length_tabulate}
use Rattle.cells.specs.Cell.{cell_at}
use Rattle.cells.proofs.Laws.{at_cells}
use Rattle.sequence.specs.declared.Sequence.{Sequence}
use Rattle.sequence.specs.declared.Refusal.TheVariants as R
use Rattle.sequence.specs.Limits.{max_terms}
use Rattle.sequence.specs.Rules.{IsSound, fault_of, is_sound, longer, push_of, Pushed}
use Rattle.sequence.proofs.Laws.{is_sound_lem, push_done, push_full, push_large, sound_longer}
use Rattle.column.specs.declared.PushedAll.{PushedAll}
use Rattle.column.specs.Rules.{terms_in, took, onward, each_of, push_all_of}
use Rattle.sequence.specs.Answers.{Outcome}

-- ---- one term

-- n more were taken before
abbrev pub later : ℕ → PushedAll → PushedAll
later n r = took (n + r.taken) r.sequence r.outcome

-- replies that differ in the form of their number alone
counted : {s : Sequence} {o : Outcome} {n n' : ℕ} → n ≡ n' → took n s o ≡ took n' s o
counted {s} {o} e = λ i. took (e i) s o

pub each_none : (s : Sequence) → each_of s [] ≡ took zero s (Ok tt)
unfolding each_of
each_none s = refl

module _ (s : Sequence) (t : ℕ) (ts : List ℕ) where
  -- what a push and the rest of the column make
  behind : Pushed → PushedAll
  behind p = onward p.outcome p.sequence (each_of p.sequence ts)

  pub each_push : each_of s (t ∷ ts) ≡ onward (push_of s t).outcome (push_of s t).sequence (each_of (push_of s t).sequence ts)
  unfolding each_of
  each_push = refl

  pub each_done : IsSound s → s.count < max_terms → t < s.modulus → each_of s (t ∷ ts) ≡ onward (Ok tt) (longer s t) (each_of (longer s t) ts)
  unfolding behind
  each_done sound room small = each_push ∙ ap behind (push_done s t sound room small)

  pub each_full : IsSound s → s.count ≡ max_terms → each_of s (t ∷ ts) ≡ took zero s (Err R.Full)
  unfolding behind
  each_full sound full = each_push ∙ ap behind (push_full s t sound full)

  pub each_large : IsSound s → s.count < max_terms → s.modulus ≤ t → each_of s (t ∷ ts) ≡ took zero s (Err (R.Term s.count))
  unfolding behind
  each_large sound room large = each_push ∙ ap behind (push_large s t sound room large)

-- What holds of each way in which a column may go on holds of the column: P is said of a sound sequence, of the terms and of the reply.
module _ (P : Sequence → List ℕ → PushedAll → Type 0)
    (none : (s : Sequence) → IsSound s → P s [] (took zero s (Ok tt)))
    (full : (s : Sequence) (t : ℕ) (ts : List ℕ) → IsSound s → s.count ≡ max_terms → P s (t ∷ ts) (took zero s (Err R.Full)))
    (large : (s : Sequence) (t : ℕ) (ts : List ℕ) → IsSound s → s.count < max_terms → s.modulus ≤ t → P s (t ∷ ts) (took zero s (Err (R.Term s.count))))
    (done : (s : Sequence) (t : ℕ) (ts : List ℕ) (r : PushedAll) → IsSound s → s.count < max_terms → t < s.modulus → P (longer s t) ts r → P s (t ∷ ts) (onward (Ok tt) (longer s t) r)) where
  pub each_by : (s : Sequence) (ts : List ℕ) → IsSound s → P s ts (each_of s ts)
  each_by s [] h = subst (P s []) (sym (each_none s)) (none s h)
  each_by s (t ∷ ts) h = go (ℕ_discrete s.count max_terms) (lt_or_le t s.modulus) (λ k. each_by (longer s t) ts k)
    where
      go : Dec (s.count ≡ max_terms) → (t < s.modulus) ⊎ (s.modulus ≤ t) → (IsSound (longer s t) → P (longer s t) ts (each_of (longer s t) ts)) → P s (t ∷ ts) (each_of s (t ∷ ts))
      go (yes e) l rest = subst (P s (t ∷ ts)) (sym (each_full s t ts h e)) (full s t ts h e)
      go (no f) (inr l) rest =
          let room = lt_of_le-ne h.count f in
          subst (P s (t ∷ ts)) (sym (each_large s t ts h room l)) (large s t ts h room l)
      go (no f) (inl l) rest =
          let room = lt_of_le-ne h.count f in
          subst (P s (t ∷ ts)) (sym (each_done s t ts h room l)) (done s t ts (each_of (longer s t) ts) h room l (rest (sound_longer s t h room l)))

-- ---- the whole column

module _ (s : Sequence) (list : List ℕ) where
  pub column_odd : (length list % 2 ≡ zero → ⊥) → push_all_of s list ≡ took zero s (Err R.Buffer)
  unfolding push_all_of
  column_odd h = rw (ne_eqb (length list % 2) 0 h)

  pub column_unsound : length list % 2 ≡ zero → is_sound (fault_of s) ≡ false → push_all_of s list ≡ took zero s (Err R.Sequence)
  unfolding push_all_of
  column_unsound h k = rw (eq-eqb (length list % 2) 0 h, k)

  pub column_each : length list % 2 ≡ zero → IsSound s → push_all_of s list ≡ each_of s (terms_in list)
  unfolding push_all_of
  column_each h k = rw (eq-eqb (length list % 2) 0 h, is_sound_lem s k)

-- ---- the loop

-- i terms were taken, the sequence is s then, and what is left of the whole is what the other terms do
pub record SoFar (list : List ℕ) (whole : PushedAll) (i : ℕ) (s : Sequence) : Type 0 where
  pub within : i ≤ length list / 2
  pub sound : IsSound s
  pub left : whole ≡ later i (each_of s (drop i (terms_in list)))

module _ (list : List ℕ) where
  pub how_many : length (terms_in list) ≡ length list / 2
  how_many = length_tabulate (length list / 2) _

  -- the next term
  pub next : (i : ℕ) → i < length list / 2 → drop i (terms_in list) ≡ cell_at list i ∷ drop (suc i) (terms_in list)
  next i h =
      drop-cons (terms_in list) i 0 (omega (arith, how_many))
      ∙ ap (λ (t : ℕ). t ∷ drop (suc i) (terms_in list)) (at_cells list (length list / 2) i h)

  pub far_none : (s : Sequence) → IsSound s → SoFar list (each_of s (terms_in list)) 0 s
  far_none s h = record { within = omega arith; sound = h; left = counted (let e : (each_of s (terms_in list)).taken ≡ 0 + (each_of s (terms_in list)).taken = omega arith in e) }

  module _ {whole : PushedAll} {i : ℕ} {s : Sequence} (f : SoFar list whole i s) where
    -- what is left where there is a next term t
    left_of : (t : ℕ) → i < length list / 2 → t ≡ cell_at list i → whole ≡ later i (each_of s (t ∷ drop (suc i) (terms_in list)))
    left_of t h e = f.left ∙ ap (λ (ts : List ℕ). later i (each_of s ts)) (next i h ∙ ap (λ (x : ℕ). x ∷ drop (suc i) (terms_in list)) (sym e))

    pub far_more : (t : ℕ) → i < length list / 2 → t ≡ cell_at list i → s.count < max_terms → t < s.modulus → SoFar list whole (i + 1) (longer s t)
    far_more t h e room small =
        record {
          within = omega arith;
          sound = sound_longer s t f.sound room small;
          left = left_of t h e
              ∙ ap (later i) (each_done s t (drop (suc i) (terms_in list)) f.sound room small)
              ∙ counted (let q : i + suc (each_of (longer s t) (drop (suc i) (terms_in list))).taken ≡ i + 1 + (each_of (longer s t) (drop (suc i) (terms_in list))).taken = omega arith in q)
              ∙ ap (λ (k : ℕ). later (i + 1) (each_of (longer s t) (drop k (terms_in list)))) (let q : suc i ≡ i + 1 = omega arith in q);
        }

    -- the reply where the next term is refused, or where there is none
    ends : (o : Outcome) → whole ≡ later i (took zero s o) → took i s o ≡ whole
    ends o h = counted (let q : i ≡ i + 0 = omega arith in q) ∙ sym h

    pub far_full : (n : ℕ) → n ≡ i → i < length list / 2 → s.count ≡ max_terms → took n s (Err R.Full) ≡ whole
    far_full n e h full = counted e ∙ ends (Err R.Full) (left_of _ h refl ∙ ap (later i) (each_full s _ _ f.sound full))

    pub far_large :
        (t n k : ℕ) → n ≡ i → k ≡ s.count → i < length list / 2 → t ≡ cell_at list i → s.count < max_terms → s.modulus ≤ t → took n s (Err (R.Term k)) ≡ whole
    far_large t n k en ek h e room large =
        counted en ∙ ap (λ (x : ℕ). took i s (Err (R.Term x))) ek
        ∙ ends (Err (R.Term s.count)) (left_of t h e ∙ ap (later i) (each_large s t _ f.sound room large))

    pub far_all : (n : ℕ) → n ≡ i → length list / 2 ≤ i → took n s (Ok tt) ≡ whole
    far_all n e h =
        counted e ∙ ends (Ok tt)
        (f.left
        ∙ ap (λ (ts : List ℕ). later i (each_of s ts)) (drop_of_length-le (terms_in list) {i = i} (omega (arith, how_many)))
        ∙ ap (later i) (each_none s))
