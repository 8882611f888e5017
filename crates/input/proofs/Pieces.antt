-- What a chunk still has, before and after a line has taken its part.
-- Assumes nothing.
use mathlib.Core.Path.{◌≡◌, refl, sym, ap, ap₂, ◌∙◌, subst}
use mathlib.Core.Bool.{Bool, true, false, cond}
use mathlib.Core.List.{List, [], ◌∷◌, ◌++◌, append-nil}
use Prim.Native.Nat.{ℕ, zero, suc, ◌+◌, ◌-◌, ◌≤◌, ◌<◌}
use native.Mathlib.Omega.{arith}
use lib.Dec.{eqb, leb, ltb}
use lib.ListN.{length, take, drop, drop_of_length-le}
use lib.Seq.{length-take-le, take-length, take-nil, drop-nil, drop-drop}
use borrow.Author.Tests.{le-ltb, le-leb, ltb-true, ltb-false, leb-true}
use Rattle.std.specs.Prelude.{Some, None}
use Rattle.std.specs.List.{position, position_or_len}
use Rattle.std.proofs.lemmas.List.Quantifiers.{position-Some}
use Rattle.std.proofs.lemmas.List.Sums.{passes_at_first, fails_before_first, prefix_len-le-length}
use Rattle.lists.specs.Choice.{pick, both}
use Rattle.lists.specs.Table.{at}
use Rattle.lists.proofs.Search.{both_left, both_right, first_le, is_first}
use Rattle.input.specs.declared.Source.{Source}
use Rattle.input.specs.Marks.{mark_in, rest_of, piece_of, left_of, is_marked}
use Rattle.input.specs.Held.{Holds}

mark_le : (xs : List ℕ) → mark_in xs ≤ length xs
unfolding mark_in
mark_le xs = first_le (length xs) _

pub mark_size : (xs : List ℕ) (r : ℕ) → r ≡ mark_in xs → r ≡ length (take r xs)
mark_size xs r f = sym (length-take-le r xs (omega (arith, f, mark_le xs)))

-- the first line feed is where it is found
pub mark_found : (xs : List ℕ) {k : ℕ} → position (λ b. eqb b 10) xs ≡ Some k → (k ≡ mark_in xs) × (k < length xs)
unfolding mark_in
mark_found xs {k} e =
    let found = position-Some (λ b. eqb b 10) xs k 0 e in
    (is_first (length xs) (λ i. eqb (at xs i) 10) k (omega (arith, found.0)) found.2 (λ h. found.1), found.0)

pub mark_none : (xs : List ℕ) → position (λ b. eqb b 10) xs ≡ None → length xs ≡ mark_in xs
unfolding mark_in
mark_none xs e = omega (arith, at_most, past, is)
  where
    p : ℕ → Bool
    p = λ b. eqb b 10

    at_most : position_or_len p xs ≤ length xs
    at_most = prefix_len-le-length _ xs

    past : length xs ≤ position_or_len p xs
    past = by_test (ltb (position_or_len p xs) (length xs)) refl e
      where
        by_test : (t : Bool) → ltb (position_or_len p xs) (length xs) ≡ t → cond t (Some (position_or_len p xs)) None ≡ None → length xs ≤ position_or_len p xs
        by_test true f g = absurd (cc)
        by_test false f g = ltb-false _ _ f

    is : position_or_len p xs ≡ mark_in xs
    is = is_first (length xs) (λ i. p (at xs i)) (position_or_len p xs) at_most (λ j h. fails_before_first p xs j 0 h) (λ h. passes_at_first p xs 0 h)

-- a part of a part
drop_take : (k n : ℕ) (xs : List ℕ) → drop k (take n xs) ≡ take (n - k) (drop k xs)
drop_take zero n xs = let e : n ≡ n - zero = omega arith in ap (λ (m : ℕ). take m xs) e
drop_take (suc k) zero xs = let e : 0 ≡ zero - suc k = omega arith in ap (λ (m : ℕ). take m (drop (suc k) xs)) e
drop_take (suc k) (suc n) [] = sym (take-nil (suc n - suc k))
drop_take (suc k) (suc n) (x ∷ xs) = let e : n - k ≡ suc n - suc k = omega arith in drop_take k n xs ∙ ap (λ (m : ℕ). take m (drop k xs)) e

abbrev has : Source → ℕ → Bool
has s n = both (ltb s.from s.end) (leb s.end n)

rest_none : (s : Source) (chunk : List ℕ) → has s (length chunk) ≡ false → rest_of s chunk ≡ []
unfolding rest_of
rest_none s chunk e = ap (λ (t : Bool). pick t (take (s.end - s.from) (drop s.from chunk)) []) e

-- where the chunk reaches to the end, the rest is the part between
rest_part : (s : Source) (chunk : List ℕ) → s.end ≤ length chunk → rest_of s chunk ≡ take (s.end - s.from) (drop s.from chunk)
unfolding rest_of
rest_part s chunk h = go (ltb s.from s.end) refl
  where
    go : (t : Bool) → ltb s.from s.end ≡ t → pick (both t (leb s.end (length chunk))) (take (s.end - s.from) (drop s.from chunk)) [] ≡ take (s.end - s.from) (drop s.from chunk)
    go true e = ap (λ (t : Bool). pick t (take (s.end - s.from) (drop s.from chunk)) []) (le-leb s.end (length chunk) h)
    go false e =
        let none : 0 ≡ s.end - s.from = omega (arith, ltb-false s.from s.end e) in
        ap (λ (m : ℕ). take m (drop s.from chunk)) none

-- ---- what a read gave

abbrev pub Fresh : Source → List ℕ → Type 0
Fresh s chunk = (s.from ≡ 0) × (s.end ≤ length chunk) × (s.open ≡ ltb 0 s.end)

pub fresh_rest : (s : Source) (chunk : List ℕ) → Fresh s chunk → rest_of s chunk ≡ take s.end chunk
fresh_rest s chunk f =
    let size : s.end - s.from ≡ s.end = omega (arith, f.0) in
    rest_part s chunk f.1 ∙ ap₂ (λ (n k : ℕ). take n (drop k chunk)) size f.0

-- where it is open and has no line feed, the line grows
pub fresh_grows : (s : Source) (chunk : List ℕ) → Fresh s chunk → s.open ≡ true → is_marked (rest_of s chunk) ≡ false → 0 < length (piece_of (rest_of s chunk))
fresh_grows s chunk f o e =
    let size : length (rest_of s chunk) ≡ s.end = ap length (fresh_rest s chunk f) ∙ length-take-le s.end chunk f.1 in
    omega (arith, ltb-true 0 s.end (sym f.2 ∙ o), size, ltb-false (mark_in (rest_of s chunk)) (length (rest_of s chunk)) e, mark_size (rest_of s chunk) (mark_in (rest_of s chunk)) refl)

pub unmarked_left : (xs : List ℕ) → is_marked xs ≡ false → left_of xs ≡ []
unmarked_left xs e =
    let past : length xs ≤ mark_in xs + 1 = omega (arith, ltb-false (mark_in xs) (length xs) e) in
    drop_of_length-le xs past

-- ---- whether there is some

pub has_some : (s : Source) (n : ℕ) → has s n ≡ true → (s.from < s.end) × (s.end ≤ n)
has_some s n e = (ltb-true _ _ (both_left _ _ e), leb-true _ _ (both_right (ltb s.from s.end) _ e))

-- ---- nothing to take

pub holds_nothing : (s : Source) (chunk buffer : List ℕ) (n : ℕ) → has s (length chunk) ≡ false → (xs : List ℕ) → Holds buffer n xs → Holds buffer n (xs ++ piece_of (rest_of s chunk))
holds_nothing s chunk buffer n e xs h =
    subst (λ (ys : List ℕ). Holds buffer n (xs ++ piece_of ys)) (sym (rest_none s chunk e))
    (subst (λ (ys : List ℕ). Holds buffer n (xs ++ ys)) (sym (take-nil (mark_in []))) (subst (Holds buffer n) (sym (append-nil xs)) h))

pub none_marked : (s : Source) (chunk : List ℕ) → has s (length chunk) ≡ false → false ≡ is_marked (rest_of s chunk)
none_marked s chunk e = sym (ap is_marked (rest_none s chunk e) ∙ le-ltb (mark_in []) 0 (omega arith))

pub none_left : (s : Source) (chunk : List ℕ) → has s (length chunk) ≡ false → rest_of s chunk ≡ left_of (rest_of s chunk)
none_left s chunk e = subst (λ (ys : List ℕ). ys ≡ left_of ys) (sym (rest_none s chunk e)) (sym (drop-nil (mark_in [] + 1)))

-- ---- a part is taken

module _ (s : Source) (chunk : List ℕ) (e : has s (length chunk) ≡ true) where
  abbrev part : List ℕ
  part = take (s.end - s.from) (drop s.from chunk)

  is_part : rest_of s chunk ≡ part
  is_part = rest_part s chunk (has_some s (length chunk) e).1

  pub holds_piece : {buffer : List ℕ} {n r : ℕ} (xs : List ℕ) → r ≡ mark_in part → Holds buffer n (xs ++ take r part) → Holds buffer n (xs ++ piece_of (rest_of s chunk))
  holds_piece {buffer} {n} xs f h =
      subst (λ (ys : List ℕ). Holds buffer n (xs ++ piece_of ys)) (sym is_part)
      (subst (λ (k : ℕ). Holds buffer n (xs ++ take k part)) f h)

  pub holds_part : {buffer : List ℕ} {n : ℕ} (xs : List ℕ) → length part ≡ mark_in part → Holds buffer n (xs ++ part) → Holds buffer n (xs ++ piece_of (rest_of s chunk))
  holds_part {buffer} {n} xs f h = holds_piece xs f (subst (λ (ys : List ℕ). Holds buffer n (xs ++ ys)) (sym (take-length part)) h)

  pub marked_part : {t : Bool} (r : ℕ) → r ≡ mark_in part → ltb r (length part) ≡ t → t ≡ is_marked (rest_of s chunk)
  marked_part r f h = sym (ap is_marked is_part ∙ ap (λ (k : ℕ). ltb k (length part)) (sym f) ∙ h)

  -- what follows a line feed is left
  pub left_after : (s' : Source) (r : ℕ) → r ≡ mark_in part → s'.end ≡ s.end → s'.from ≡ s.from + (r + 1) → rest_of s' chunk ≡ left_of (rest_of s chunk)
  left_after s' r f g h =
      let inside : s'.end ≤ length chunk = omega (arith, g, (has_some s (length chunk) e).1) in
      let size : s'.end - s'.from ≡ s.end - s.from - (r + 1) = omega (arith, g, h) in
      rest_part s' chunk inside ∙ ap₂ (λ (n k : ℕ). take n (drop k chunk)) size h
      ∙ ap (take (s.end - s.from - (r + 1))) (sym (drop-drop (r + 1) s.from chunk)) ∙ sym (drop_take (r + 1) (s.end - s.from) (drop s.from chunk))
      ∙ ap (λ (k : ℕ). drop (k + 1) part) f ∙ ap left_of (sym is_part)

  -- where there is none, nothing is
  pub none_after : (s' : Source) (r : ℕ) → r ≡ mark_in part → length part ≤ r → s'.end ≤ s'.from → rest_of s' chunk ≡ left_of (rest_of s chunk)
  none_after s' r f h g =
      let past : length part ≤ mark_in part + 1 = omega (arith, f, h) in
      rest_none s' chunk (ap (λ (t : Bool). both t (leb s'.end (length chunk))) (le-ltb s'.from s'.end g))
      ∙ sym (ap left_of is_part ∙ drop_of_length-le part past)
