-- Single pushes go through a column: how far they are.
-- Assumes nothing.
use mathlib.Core.Path.{◌≡◌, refl, sym, ap, ap₂, ◌∙◌}
use mathlib.Core.Bool.{true, false}
use mathlib.Core.List.{List, ◌∷◌}
use Prim.Native.Nat.{ℕ, suc, ◌+◌, ◌/◌, ◌≤◌, ◌<◌}
use native.Mathlib.Omega.{arith}
use lib.ListN.{length, drop, drop_of_length-le}
use Rattle.std.specs.Prelude.{Ok, Err, is_err}
use Rattle.lists.proofs.Search.{false_true}
use Rattle.cells.specs.Cell.{cell_at}
use Rattle.sequence.specs.declared.Sequence.{Sequence}
use Rattle.sequence.specs.Rules.{push_of}
use Rattle.column.specs.declared.PushedAll.{PushedAll}
use Rattle.column.specs.Rules.{terms_in, onward, each_of}
use Rattle.column.proofs.Laws.{how_many, next, each_none, each_push}
use Rattle.sequence.specs.Answers.{Outcome}

-- i terms were taken, and s is the sequence then
pub record Pushing (list : List ℕ) (whole : Sequence) (i : ℕ) (s : Sequence) : Type 0 where
  pub within : i ≤ length list / 2
  pub left : whole ≡ (each_of s (drop i (terms_in list))).sequence

pub pushing_none : (list : List ℕ) (s : Sequence) → Pushing list (each_of s (terms_in list)).sequence 0 s
pushing_none list s = record { within = omega arith; left = refl }

module _ {list : List ℕ} {whole : Sequence} {i : ℕ} {s : Sequence} (f : Pushing list whole i s) where
  -- the push of the next term: its outcome, and the sequence then
  module _ (t : ℕ) (o : Outcome) (s' : Sequence) (h : i < length list / 2) (e : t ≡ cell_at list i) (ho : o ≡ (push_of s t).outcome) (hs : s' ≡ (push_of s t).sequence) where
    pushed : whole ≡ (onward o s' (each_of s' (drop (suc i) (terms_in list)))).sequence
    pushed =
        f.left
        ∙ ap (λ (ts : List ℕ). (each_of s ts).sequence) (next list i h ∙ ap (λ (x : ℕ). x ∷ drop (suc i) (terms_in list)) (sym e))
        ∙ ap (λ (r : PushedAll). r.sequence) (each_push s t (drop (suc i) (terms_in list)))
        ∙ ap₂ (λ (x : Outcome) (q : Sequence). (onward x q (each_of q (drop (suc i) (terms_in list)))).sequence) (sym ho) (sym hs)

    pub pushing_more : is_err o ≡ false → Pushing list whole (i + 1) s'
    pushing_more g =
        record {
          within = omega arith;
          left = go o g pushed ∙ ap (λ (k : ℕ). (each_of s' (drop k (terms_in list))).sequence) (let q : suc i ≡ i + 1 = omega arith in q);
        }
      where
        go : (x : Outcome) → is_err x ≡ false → whole ≡ (onward x s' (each_of s' (drop (suc i) (terms_in list)))).sequence
            → whole ≡ (each_of s' (drop (suc i) (terms_in list))).sequence
        go (Ok _) g q = q
        go (Err r) g q = false_true (sym g)

    pub pushing_refused : is_err o ≡ true → s' ≡ whole
    pushing_refused g = go o g pushed
      where
        go : (x : Outcome) → is_err x ≡ true → whole ≡ (onward x s' (each_of s' (drop (suc i) (terms_in list)))).sequence → s' ≡ whole
        go (Ok _) g q = false_true g
        go (Err r) g q = sym q

  pub pushing_all : length list / 2 ≤ i → s ≡ whole
  pushing_all h =
      sym
      (f.left
      ∙ ap (λ (ts : List ℕ). (each_of s ts).sequence) (drop_of_length-le (terms_in list) {i = i} (omega (arith, how_many list)))
      ∙ ap (λ (r : PushedAll). r.sequence) (each_none s))
