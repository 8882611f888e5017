-- A number that is printed, read as the digits of a typed line are, is the number.
-- Assumes nothing.
use mathlib.Core.Path.{◌≡◌, refl, sym, ap, ◌∙◌, subst}
use mathlib.Core.Bool.{Bool, true, cond}
use mathlib.Core.List.{List, [], ◌∷◌, ◌++◌}
use Prim.Native.Nat.{ℕ, zero, suc, ◌+◌, ◌*◌, ◌-◌, ◌/◌, ◌%◌, ◌^◌, ◌≤◌, ◌<◌}
use native.Mathlib.Nat.{pow-suc, mod-lt}
use native.Mathlib.Decide.{dec_lt}
use native.Mathlib.Omega.{arith}
use lib.Dec.{ltb}
use lib.ListN.{length}
use borrow.Author.Tests.{lt-ltb, le-leb, ltb-true, ltb-false}
use Rattle.io.specs.Digits.{hex_digit_ascii, last_digits}
use Rattle.lists.specs.Table.{at}
use Rattle.lists.proofs.Table.{length_snoc, at_front}
use Rattle.lists.specs.Search.{first, every}
use Rattle.lists.proofs.Search.{every_cons, every_head, every_tail, both_true, first_le, first_passes, first_before}
use Rattle.residue.proofs.Factors.{below_power}
use Rattle.lines.specs.Form.{is_digit, decimal}
use Rattle.formatting.specs.Text.{numeral}

-- ---- a digit more at the end

decimal_last : (bs : List ℕ) (b : ℕ) → decimal (bs ++ (b ∷ [])) ≡ decimal bs * 10 + (b - 48)
unfolding decimal
decimal_last [] b = omega arith
decimal_last (c ∷ bs) b =
    let p : 10 ^ suc (length bs) ≡ 10 ^ length bs * 10 = pow-suc 10 (length bs) in
    let n : length (bs ++ (b ∷ [])) ≡ suc (length bs) = length_snoc bs b in
    let q : (c - 48) * 10 ^ length (bs ++ (b ∷ [])) ≡ (c - 48) * (10 ^ length bs * 10) = ap (λ (x : ℕ). (c - 48) * x) (ap (λ (x : ℕ). 10 ^ x) n ∙ p) in
    let e : (c - 48) * 10 ^ length (bs ++ (b ∷ [])) + decimal (bs ++ (b ∷ [])) ≡ ((c - 48) * 10 ^ length bs + decimal bs) * 10 + (b - 48)
    = omega (arith, decimal_last bs b) in
    e

every_last : (bs : List ℕ) (b : ℕ) → every is_digit bs ≡ true → is_digit b ≡ true → every is_digit (bs ++ (b ∷ [])) ≡ true
unfolding every
every_last [] b h k = every_cons is_digit b [] k refl
every_last (c ∷ bs) b h k = every_cons is_digit c (bs ++ (b ∷ [])) (every_head is_digit c bs h) (every_last bs b (every_tail is_digit c bs h) k)

-- ---- the last k digits of n

glyph_is : (n : ℕ) → hex_digit_ascii (n % 10) ≡ 48 + n % 10
glyph_is n = ap (λ (t : Bool). cond t (48 + n % 10) (87 + n % 10)) (lt-ltb (n % 10) 10 (mod-lt n (omega arith)))

glyph_digit : (n : ℕ) → is_digit (hex_digit_ascii (n % 10)) ≡ true
glyph_digit n =
    let low : n % 10 < 10 = mod-lt n (omega arith) in
    let e = glyph_is n in
    both_true (le-leb 48 (hex_digit_ascii (n % 10)) (omega (arith, e))) (le-leb (hex_digit_ascii (n % 10)) 57 (omega (arith, e, low)))

are_digits : (k n : ℕ) → every is_digit (last_digits 10 k n) ≡ true
unfolding every
are_digits zero n = refl
are_digits (suc k) n = every_last (last_digits 10 k (n / 10)) (hex_digit_ascii (n % 10)) (are_digits k (n / 10)) (glyph_digit n)

value_is : (k n : ℕ) → n < 10 ^ k → decimal (last_digits 10 k n) ≡ n
unfolding decimal
value_is zero n h = omega arith
value_is (suc k) n h =
    decimal_last (last_digits 10 k (n / 10)) (hex_digit_ascii (n % 10))
    ∙ (let p : 10 ^ suc k ≡ 10 ^ k * 10 = pow-suc 10 k in
    let less : n / 10 < 10 ^ k = omega arith in
    omega (arith, value_is k (n / 10) less, glyph_is n))

long : (k n : ℕ) → length (last_digits 10 k n) ≡ k
long zero n = refl
long (suc k) n = length_snoc (last_digits 10 k (n / 10)) (hex_digit_ascii (n % 10)) ∙ omega (arith, long k (n / 10))

-- the first of them
lead : (j n : ℕ) → 10 ^ j ≤ n → n < 10 ^ suc j → at (last_digits 10 (suc j) n) 0 ≡ 48 → ⊥
lead zero n h k e = absurd (omega (arith, glyph_is n, e))
lead (suc j) n h k e =
    let p : 10 ^ suc j ≡ 10 ^ j * 10 = pow-suc 10 j in
    let q : 10 ^ suc (suc j) ≡ 10 ^ suc j * 10 = pow-suc 10 (suc j) in
    lead j (n / 10) (omega arith) (omega arith)
    (sym (at_front (last_digits 10 (suc j) (n / 10)) (hex_digit_ascii (n % 10)) 0 (omega (arith, long (suc j) (n / 10)))) ∙ e)

-- ---- numerals

module _ (n : ℕ) where
  abbrev most : ℕ
  most = first n (λ k. ltb n (10 ^ suc k))

  enough : n < 10 ^ suc most
  enough = go (dec_lt most n)
    where
      go : Dec (most < n) → n < 10 ^ suc most
      go (yes h) = ltb-true n (10 ^ suc most) (first_passes n (λ k. ltb n (10 ^ suc k)) h)
      go (no h) =
          let e : most ≡ n = omega (arith, first_le n (λ k. ltb n (10 ^ suc k))) in
          let p : 10 ^ suc most ≡ 10 ^ suc n = ap (λ (x : ℕ). 10 ^ suc x) e in
          omega (arith, p, below_power 10 (suc n) (omega arith))

  needed : (j : ℕ) → most ≡ suc j → 10 ^ suc j ≤ n
  needed j e = ltb-false n (10 ^ suc j) (first_before n (λ k. ltb n (10 ^ suc k)) j (omega (arith, e)))

  in_front : (j : ℕ) → most ≡ j → 1 < suc j → at (last_digits 10 (suc j) n) 0 ≡ 48 → ⊥
  in_front zero e h = absurd (omega (arith, h))
  in_front (suc j) e h = lead (suc j) n (needed j e) (subst (λ (x : ℕ). n < 10 ^ suc x) e enough)

-- one digit or more, of a typed line, which reads them as the number; no zero stands in front of others
pub numeral_some : (n : ℕ) → zero < length (numeral n)
unfolding numeral
numeral_some n = omega (arith, long (suc (most n)) n)

pub numeral_digits : (n : ℕ) → every is_digit (numeral n) ≡ true
unfolding numeral
numeral_digits n = are_digits (suc (most n)) n

pub numeral_value : (n : ℕ) → decimal (numeral n) ≡ n
unfolding numeral
numeral_value n = value_is (suc (most n)) n (enough n)

pub numeral_front : (n : ℕ) → 1 < length (numeral n) → at (numeral n) 0 ≡ 48 → ⊥
unfolding numeral
numeral_front n h = in_front n (most n) refl (omega (arith, h, long (suc (most n)) n))
