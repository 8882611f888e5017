-- Laws of a census's typed line: how its numbers are read, and that a printed pair is read back.
-- Assumes nothing.
use mathlib.Core.Path.{◌≡◌, refl, sym, ap, ap₂, ◌∙◌}
use mathlib.Core.Bool.{Bool, true, false, cond}
use mathlib.Core.List.{List, [], ◌∷◌, ◌++◌}
use Prim.Native.Nat.{ℕ, zero, suc, ◌+◌, ◌*◌, ◌-◌, ◌≤◌, ◌<◌}
use native.Mathlib.Numerals.{add-one}
use native.Mathlib.Omega.{arith}
use lib.Dec.{eqb, ltb, leb}
use lib.ListN.{length, take, drop, length-append, length-drop, drop_of_length-le, get_or-append}
use lib.Seq.{drop-cons, take_all, take_at, drop-append-add, get_or-append_seam}
use borrow.Author.Tests.{lt-ltb, le-ltb, eq-eqb, ne_eqb, leb-true, ltb-false}
use Rattle.std.specs.Prelude.{Some, None, Option}
use Rattle.std.specs.List.{position, position_or_len}
use Rattle.std.proofs.lemmas.List.Quantifiers.{position-Some}
use Rattle.std.proofs.lemmas.List.Sums.{passes_at_first, fails_before_first, prefix_len-le-length}
use Rattle.lists.specs.Choice.{both}
use Rattle.lists.specs.Table.{at}
use Rattle.lists.specs.Search.{every}
use Rattle.lists.proofs.Choice.{picked, passed}
use Rattle.lists.proofs.Search.{is_first, both_left, both_true, every_head, every_tail}
use Rattle.lines.specs.Form.{is_digit, decimal}
use Rattle.lines.proofs.Numbers.{behind, behind_zero, behind_le}
use Rattle.formatting.specs.Text.{numeral}
use Rattle.formatting.specs.Census.{census_line, number_limit, is_number, number_of, blank_in, pair_of, pair_in, answer_of, pair_line}
use Rattle.formatting.proofs.Reading.{numeral_some, numeral_digits, numeral_value}

-- ---- numbers

module _ (bs : List ℕ) where
  no_number : is_number bs ≡ false → None ≡ number_of bs
  unfolding number_of
  no_number e = sym (passed _ _ e)

  a_number : zero < length bs → every is_digit bs ≡ true → decimal bs < number_limit → number_of bs ≡ Some (decimal bs)
  unfolding number_of
  a_number h k l = picked _ _ (both_true (lt-ltb 0 (length bs) h) (both_true k (lt-ltb (decimal bs) number_limit l)))

  pub no_digits : length bs ≡ zero → None ≡ number_of bs
  no_digits e = no_number (rw (le-ltb 0 (length bs) (omega (arith, e))))

  not_digits : every is_digit bs ≡ false → None ≡ number_of bs
  not_digits e = no_number (go (ltb 0 (length bs)))
    where
      go : (t : Bool) → both t (both (every is_digit bs) (ltb (decimal bs) number_limit)) ≡ false
      go true = rw e
      go false = refl

  too_large : number_limit ≤ decimal bs → None ≡ number_of bs
  too_large h = no_number (go (ltb 0 (length bs)) (every is_digit bs))
    where
      go : (t u : Bool) → both t (both u (ltb (decimal bs) number_limit)) ≡ false
      go true true = le-ltb (decimal bs) number_limit h
      go true false = refl
      go false u = refl

-- The loop: the digits before place i are read, and make v; with the others behind it that is the value of all.
pub record Valued (bs : List ℕ) (v i : ℕ) : Type 0 where
  pub within : i ≤ length bs
  pub small : v < number_limit
  pub digits : every is_digit bs ≡ every is_digit (drop i bs)
  pub value : decimal bs ≡ behind v (drop i bs)

pub valued_none : (bs : List ℕ) → Valued bs 0 0
valued_none bs = record { within = omega arith; small = omega arith; digits = refl; value = sym (behind_zero bs) }

module _ {bs : List ℕ} {v i : ℕ} (x : Valued bs v i) where
  -- at a byte b
  module _ (h : i < length bs) {b : ℕ} (is : b ≡ at bs i) where
    next : drop i bs ≡ b ∷ drop (i + 1) bs
    next = drop-cons bs i 0 h ∙ ap₂ (λ (y k : ℕ). y ∷ drop k bs) (sym is) (sym (add-one i))

    pub valued_broken : is_digit b ≡ false → None ≡ number_of bs
    unfolding every
    valued_broken e = not_digits bs (x.digits ∙ ap (every is_digit) next ∙ rw (e, every))

    -- with one more digit
    module _ (e : is_digit b ≡ true) {w : ℕ} (f : w ≡ 10 * v + (b - 48)) where
      value_next : decimal bs ≡ behind w (drop (i + 1) bs)
      unfolding behind
      value_next = x.value ∙ ap (behind v) next ∙ ap (λ (y : ℕ). behind y (drop (i + 1) bs)) (sym f)

      pub valued_past : number_limit ≤ w → None ≡ number_of bs
      valued_past l = too_large bs (omega (arith, value_next, behind_le w (drop (i + 1) bs)))

      pub valued_next : w < number_limit → Valued bs w (i + 1)
      unfolding every
      valued_next l =
          record {
            within = omega arith;
            small = l;
            digits = x.digits ∙ ap (every is_digit) next ∙ rw (e, every);
            value = value_next;
          }

  pub valued_all : zero < length bs → length bs ≤ i → Some v ≡ number_of bs
  unfolding every behind
  valued_all some h =
      let end = drop_of_length-le bs h in
      let is : decimal bs ≡ v = x.value ∙ ap (behind v) end in
      ap Some (sym is) ∙ sym (a_number bs some (x.digits ∙ ap (every is_digit) end) (omega (arith, is, x.small)))

-- ---- pairs

-- a blank is where it is found
pub blank_found : (line : List ℕ) {k : ℕ} → position (λ b. eqb b 32) line ≡ Some k → k ≡ blank_in line
unfolding blank_in
blank_found line {k} e =
    let at_first = position-Some (λ b. eqb b 32) line k 0 e in
    is_first (length line) (λ i. eqb (at line i) 32) k (omega (arith, at_first.0)) at_first.2 (λ h. at_first.1)

-- no number stands behind a blank that is not there
pub pair_none : (line : List ℕ) → position (λ b. eqb b 32) line ≡ None → None ≡ pair_in line
unfolding pair_in blank_in
pair_none line e =
    sym (ap (λ (y : Option ℕ). pair_of (number_of (take (blank_in line) line)) y) none ∙ go (number_of (take (blank_in line) line)))
  where
    p : ℕ → Bool
    p = λ b. eqb b 32

    past : length line ≤ position_or_len p line
    past = by_test (ltb (position_or_len p line) (length line)) refl e
      where
        by_test : (t : Bool) → ltb (position_or_len p line) (length line) ≡ t → cond t (Some (position_or_len p line)) None ≡ None → length line ≤ position_or_len p line
        by_test true f g = absurd (cc)
        by_test false f g = ltb-false _ _ f

    is : position_or_len p line ≡ blank_in line
    is = is_first (length line) (λ i. p (at line i)) (position_or_len p line) (prefix_len-le-length _ line) (λ j h. fails_before_first p line j 0 h) (λ h. passes_at_first p line 0 h)

    rest : drop (suc (blank_in line)) line ≡ []
    rest = drop_of_length-le line {i = suc (blank_in line)} (omega (arith, is, past))

    none : number_of (drop (suc (blank_in line)) line) ≡ None
    none = ap number_of rest ∙ sym (no_digits [] refl)

    go : (y : Option ℕ) → pair_of y None ≡ None
    go (Some m) = refl
    go None = refl

-- a part of a line up to its end
pub part_all : (line : List ℕ) (k : ℕ) → take (length line - k) (drop k line) ≡ drop k line
part_all line k = take_all (length line - k) (drop k line) (omega (arith, length-drop k line))

pub pair_read : (line : List ℕ) {k : ℕ} {y z : (Option ℕ)} → k ≡ blank_in line → y ≡ number_of (take k line) → z ≡ number_of (drop (k + 1) line) → pair_of y z ≡ pair_in line
unfolding pair_in
pair_read line {k} {y} {z} e f g =
    ap₂ pair_of (f ∙ ap (λ (j : ℕ). number_of (take j line)) e)
    (g ∙ ap (λ (j : ℕ). number_of (drop j line)) (add-one k ∙ ap suc e))

pub answer_told : (line : List ℕ) {p : (Option (ℕ × ℕ))} → pair_in line ≡ p → answer_of p ≡ pair_line line
unfolding pair_line
answer_told line e = sym (ap answer_of e)

-- ---- what a person would write

every_at : (bs : List ℕ) (i : ℕ) → every is_digit bs ≡ true → i < length bs → is_digit (at bs i) ≡ true
every_at [] i h l = absurd (omega (arith, l))
every_at (b ∷ bs) zero h l = every_head is_digit b bs h
every_at (b ∷ bs) (suc i) h l = every_at bs i (every_tail is_digit b bs h) (omega (arith, l))

numeral_number : (n : ℕ) → n < number_limit → number_of (numeral n) ≡ Some n
numeral_number n h =
    a_number (numeral n) (numeral_some n) (numeral_digits n) (omega (arith, numeral_value n)) ∙ ap Some (numeral_value n)

-- two numbers with a blank between them are read as they are
pub pair_printed : (m n : ℕ) → m < number_limit → n < number_limit → pair_in (numeral m ++ 32 ∷ numeral n) ≡ Some (m, n)
unfolding blank_in
pair_printed m n h k =
    sym (pair_read line place (sym (ap number_of before ∙ numeral_number m h)) (sym (ap number_of rest ∙ numeral_number n k)))
  where
    line : List ℕ
    line = numeral m ++ 32 ∷ numeral n

    size : length line ≡ length (numeral m) + suc (length (numeral n))
    size = length-append (numeral m) (32 ∷ numeral n)

    no_blank : (b : ℕ) → is_digit b ≡ true → eqb b 32 ≡ false
    no_blank b e = ne_eqb b 32 (λ f. omega (arith, f, leb-true 48 b (both_left (leb 48 b) (leb b 57) e)))

    place : length (numeral m) ≡ blank_in line
    place =
        is_first (length line) (λ i. eqb (at line i) 32) (length (numeral m)) (omega (arith, size))
        (λ j l. ap (λ (b : ℕ). eqb b 32) (get_or-append (numeral m) (32 ∷ numeral n) 0 j l) ∙ no_blank (at (numeral m) j) (every_at (numeral m) j (numeral_digits m) l))
        (λ l. eq-eqb _ 32 (get_or-append_seam (numeral m) 32 (numeral n) 0))

    before : take (length (numeral m)) line ≡ numeral m
    before = take_at (numeral m) (32 ∷ numeral n) (length (numeral m)) refl

    rest : drop (length (numeral m) + 1) line ≡ numeral n
    rest = drop-append-add (numeral m) (32 ∷ numeral n) 1

-- and so answered by the census's line of the two
pub pair_answered : (m n : ℕ) → m < number_limit → n < number_limit → pair_line (numeral m ++ 32 ∷ numeral n) ≡ census_line m n
pair_answered m n h k = sym (answer_told (numeral m ++ 32 ∷ numeral n) (pair_printed m n h k))
