-- How long a line is, and that the reply of the bytes held is that of the line.
-- Assumes nothing.
use mathlib.Core.Path.{◌≡◌, refl, sym, ap, ap₂, ◌∙◌}
use mathlib.Core.Bool.{Bool, true, false, not}
use mathlib.Core.List.{List}
use Prim.Native.Nat.{ℕ, ◌+◌, ◌-◌, ◌≤◌, ◌<◌}
use native.Mathlib.Omega.{arith}
use lib.Dec.{eqb, ltb}
use lib.ListN.{length, take}
use lib.Seq.{length-take-le}
use borrow.Author.Tests.{lt-ltb, le-ltb, eq-eqb, ne_eqb, eqb-true, eqb-false}
use Rattle.lists.specs.Choice.{pick, both}
use Rattle.lists.specs.Table.{at}
use Rattle.input.specs.declared.Taken.TheVariants.{Line, TooLong, Ended}
use Rattle.input.specs.Marks.{longest, length_of}
use Rattle.input.specs.Held.{Holds, taken_of}
use Rattle.input.proofs.Holding.{held_all}

-- ---- how long a line is

-- at most one byte shorter than the bytes before its end
pub length_least : (xs : List ℕ) (marked : Bool) → length xs ≤ length_of xs marked + 1
length_least xs marked = go (both marked (eqb (at xs (length xs - 1)) 13))
  where
    go : (t : Bool) → length xs ≤ pick t (length xs - 1) (length xs) + 1
    go true = omega arith
    go false = omega arith

pub length_most : (xs : List ℕ) (marked : Bool) → length_of xs marked ≤ length xs
length_most xs marked = go (both marked (eqb (at xs (length xs - 1)) 13))
  where
    go : (t : Bool) → pick t (length xs - 1) (length xs) ≤ length xs
    go true = omega arith
    go false = omega arith

-- ---- the reply

-- what the two tests lead to
chosen :
    (xs : List ℕ) (marked : Bool) {s t : Bool} → both (eqb (length xs) 0) (not marked) ≡ s → ltb longest (length_of xs marked) ≡ t
    → pick s Ended (pick t TooLong (Line (length_of xs marked))) ≡ taken_of xs marked
chosen xs marked e f = sym (ap₂ (λ (a b : Bool). pick a Ended (pick b TooLong (Line (length_of xs marked)))) e f)

module _ (buffer : List ℕ) (n : ℕ) (marked : Bool) (xs : List ℕ) (h : Holds buffer n xs) where
  -- bytes are held exactly where there are some
  none : eqb n 0 ≡ eqb (length xs) 0
  none = go (eqb n 0) refl
    where
      go : (t : Bool) → eqb n 0 ≡ t → t ≡ eqb (length xs) 0
      go true e = sym (eq-eqb (length xs) 0 (omega (arith, h.count, eqb-true n 0 e)))
      go false e = sym (ne_eqb (length xs) 0 (λ k. omega (arith, h.count, eqb-false n 0 e)))

  ended : {t : Bool} → both (eqb n 0) (not marked) ≡ t → both (eqb (length xs) 0) (not marked) ≡ t
  ended e = ap (λ (t : Bool). both t (not marked)) (sym none) ∙ e

  pub told_ended : both (eqb n 0) (not marked) ≡ true → Ended ≡ taken_of xs marked
  told_ended e = chosen xs marked (ended e) refl

  pub told_long : both (eqb n 0) (not marked) ≡ false → longest < length buffer → length buffer < n → TooLong ≡ taken_of xs marked
  told_long e k l = chosen xs marked (ended e) (lt-ltb longest (length_of xs marked) (omega (arith, h.count, length_least xs marked)))

  module _ (e : both (eqb n 0) (not marked) ≡ false) (k : n ≤ length buffer) (r : ℕ) (f : r ≡ length_of (take n buffer) marked) where
    whole : r ≡ length_of xs marked
    whole = f ∙ ap (λ (ys : List ℕ). length_of ys marked) (held_all buffer n xs h k).1

    pub told_longer : longest < r → TooLong ≡ taken_of xs marked
    told_longer l = chosen xs marked (ended e) (lt-ltb longest (length_of xs marked) (omega (arith, whole)))

    pub told_line : r ≤ longest → Line r ≡ taken_of xs marked
    told_line l = ap Line whole ∙ chosen xs marked (ended e) (le-ltb longest (length_of xs marked) (omega (arith, whole)))

-- more bytes than the longest line has
pub told_many : (xs : List ℕ) → longest < length xs → TooLong ≡ taken_of xs false
told_many xs h = chosen xs false (ap (λ (t : Bool). both t true) (ne_eqb (length xs) 0 (λ e. omega (arith, e)))) (lt-ltb longest (length xs) h)

-- a line is within the bytes held
pub line_fits_lem : (buffer : List ℕ) (n r : ℕ) (marked : Bool) → n ≤ length buffer → r ≡ length_of (take n buffer) marked → r ≤ length buffer
line_fits_lem buffer n r marked k f = omega (arith, f, length_most (take n buffer) marked, length-take-le n buffer k)
