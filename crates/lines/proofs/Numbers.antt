-- The number that is being read is the decimal value of the digits at the end of what was read.
-- Assumes nothing.
use mathlib.Core.Path.{◌≡◌, refl, sym, ap, ap₂, ◌∙◌}
use mathlib.Core.Bool.{Bool, true, false}
use mathlib.Core.Logic.{◌⊎◌, inl, inr}
use mathlib.Core.List.{List, [], ◌∷◌, ◌++◌}
use Prim.Native.Nat.{ℕ, zero, suc, ◌+◌, ◌*◌, ◌-◌, ◌^◌, ◌≤◌}
use native.Mathlib.Nat.{pow-suc}
use native.Mathlib.Omega.{arith}
use lib.Dec.{ltb, eqb}
use lib.ListN.{length}
use borrow.Author.Tests.{eqb-true, ltb-true, lt-ltb}
use Rattle.lists.specs.Choice.{pick}
use Rattle.lists.specs.Search.{every}
use Rattle.lists.proofs.Search.{false_true, every_cons, every_head, every_tail}
use Rattle.lines.specs.declared.State.TheVariants.{Start, Wrong, AfterM}
use Rattle.lines.specs.declared.Cursor.{Cursor}
use Rattle.lines.specs.Form.{is_digit, decimal, limit, Passes}
use Rattle.lines.specs.Reading.{is_wrong, step_of, start}
use Rattle.lines.proofs.States.{states_from, stays_wrong}

-- ---- digits one after the other

-- v with the digits behind it
unfoldable pub behind : ℕ → List ℕ → ℕ
behind v [] = v
behind v (b ∷ bs) = behind (10 * v + (b - 48)) bs

pub behind_is : (v : ℕ) (bs : List ℕ) → behind v bs ≡ v * 10 ^ length bs + decimal bs
unfolding behind decimal
behind_is v [] = omega arith
behind_is v (b ∷ bs) =
    behind_is (10 * v + (b - 48)) bs
    ∙ (let p : 10 ^ suc (length bs) ≡ 10 ^ length bs * 10 = pow-suc 10 (length bs) in
    let q : v * 10 ^ suc (length bs) ≡ v * (10 ^ length bs * 10) = ap (λ (x : ℕ). v * x) p in
    let e : (10 * v + (b - 48)) * 10 ^ length bs + decimal bs ≡ v * 10 ^ suc (length bs) + ((b - 48) * 10 ^ length bs + decimal bs) = omega arith in e)

pub behind_zero : (bs : List ℕ) → behind 0 bs ≡ decimal bs
behind_zero bs = behind_is 0 bs ∙ (let e : 0 * 10 ^ length bs + decimal bs ≡ decimal bs = omega arith in e)

-- a number does not shrink
pub behind_le : (v : ℕ) (bs : List ℕ) → v ≤ behind v bs
unfolding behind
behind_le v [] = omega arith
behind_le v (b ∷ bs) = omega (arith, behind_le (10 * v + (b - 48)) bs)

-- ---- the cursor along bytes

unfoldable pub cursor_from : Cursor → List ℕ → Cursor
cursor_from c [] = c
cursor_from c (b ∷ bs) = cursor_from (step_of c b) bs

pub cursor_append : (c : Cursor) (u v : List ℕ) → cursor_from c (u ++ v) ≡ cursor_from (cursor_from c u) v
unfolding cursor_from
cursor_append c [] v = refl
cursor_append c (b ∷ u) v = cursor_append (step_of c b) u v

-- the number being read is past its limit
abbrev pub over : Cursor → Bool
over c = ltb (limit c.minus) c.size

digits_size : (c : Cursor) (ds : List ℕ) → every is_digit ds ≡ true → (cursor_from c ds).size ≡ behind c.size ds
unfolding cursor_from behind
digits_size c [] h = refl
digits_size c (d ∷ ds) h =
    digits_size (step_of c d) ds (every_tail is_digit d ds h)
    ∙ ap (λ (t : Bool). behind (pick t (10 * c.size + (d - 48)) zero) ds) (every_head is_digit d ds h)

digits_minus : (c : Cursor) (ds : List ℕ) → every is_digit ds ≡ true → (cursor_from c ds).minus ≡ c.minus
unfolding cursor_from
digits_minus c [] h = refl
digits_minus c (d ∷ ds) h =
    digits_minus (step_of c d) ds (every_tail is_digit d ds h)
    ∙ ap (λ (t : Bool). pick t c.minus (eqb d 45)) (every_head is_digit d ds h)

-- digits after a byte that is none
after_byte : (before : List ℕ) (b : ℕ) (number : List ℕ) → is_digit b ≡ false → every is_digit number ≡ true
    → over (cursor_from start (before ++ b ∷ number)) ≡ ltb (limit (eqb b 45)) (decimal number)
unfolding cursor_from
after_byte before b number e h =
    let c = cursor_from start before in
    ap over (cursor_append start before (b ∷ number))
    ∙ ap₂ (λ (s : Bool) (v : ℕ). ltb (limit s) v)
    (digits_minus (step_of c b) number h ∙ ap (λ (t : Bool). pick t c.minus (eqb b 45)) e)
    (digits_size (step_of c b) number h ∙ ap (λ (t : Bool). behind (pick t (10 * c.size + (b - 48)) zero) number) e ∙ behind_zero number)

pub passes_over : (u : List ℕ) → Passes u → over (cursor_from start u) ≡ true
passes_over u p =
    ap (λ (v : List ℕ). over (cursor_from start v)) p.split
    ∙ after_byte p.before p.byte p.number p.ended p.digits
    ∙ lt-ltb _ _ p.past

-- the digits at the end of some bytes
record Split (u : List ℕ) : Type 0 where
  before : List ℕ
  byte : ℕ
  number : List ℕ
  split : u ≡ before ++ byte ∷ number
  ended : is_digit byte ≡ false
  digits : every is_digit number ≡ true

split_end : (u : List ℕ) → (every is_digit u ≡ true) ⊎ Split u
unfolding every
split_end [] = inl refl
split_end (b ∷ u) = go (split_end u) (is_digit b) refl
  where
    go : (every is_digit u ≡ true) ⊎ Split u → (t : Bool) → is_digit b ≡ t → (every is_digit (b ∷ u) ≡ true) ⊎ Split (b ∷ u)
    go (inr s) t e = inr (record { before = b ∷ s.before; byte = s.byte; number = s.number; split = ap (λ (v : List ℕ). b ∷ v) s.split; ended = s.ended; digits = s.digits })
    go (inl h) true e = inl (every_cons is_digit b u e h)
    go (inl h) false e = inr (record { before = []; byte = b; number = u; split = refl; ended = e; digits = h })

-- bytes that are all digits begin no line
digits_wrong : (u : List ℕ) → every is_digit u ≡ true → is_wrong (states_from Start u) ≡ false → over (cursor_from start u) ≡ false
unfolding states_from cursor_from
digits_wrong [] h w = refl
digits_wrong (b ∷ u) h w = go (eqb b 109) refl w
  where
    go : (t : Bool) → eqb b 109 ≡ t → is_wrong (states_from (pick t AfterM Wrong) u) ≡ false → over (cursor_from start (b ∷ u)) ≡ false
    go true e w = false_true (sym (ap is_digit (eqb-true b 109 e)) ∙ every_head is_digit b u h)
    go false e w = false_true (sym w ∙ ap is_wrong (stays_wrong u))

pub over_passes : (u : List ℕ) → is_wrong (states_from Start u) ≡ false → over (cursor_from start u) ≡ true → Passes u
over_passes u w h = go (split_end u)
  where
    go : (every is_digit u ≡ true) ⊎ Split u → Passes u
    go (inl d) = false_true (sym (digits_wrong u d w) ∙ h)
    go (inr s) =
        record {
          before = s.before;
          byte = s.byte;
          number = s.number;
          split = s.split;
          ended = s.ended;
          digits = s.digits;
          past = ltb-true _ _ (sym (ap (λ (v : List ℕ). over (cursor_from start v)) s.split ∙ after_byte s.before s.byte s.number s.ended s.digits) ∙ h);
        }
