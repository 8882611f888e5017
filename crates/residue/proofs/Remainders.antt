-- Two coprime moduli, and the one number below m with given remainders at the prime powers of m.
-- Assumes nothing.
use mathlib.Core.Path.{◌≡◌, refl, sym, ap, ◌∙◌, subst}
use mathlib.Core.Logic.{◌≢◌}
use mathlib.Core.Bool.{Bool, true}
use mathlib.Core.List.{List, [], ◌∷◌, map}
use Prim.Native.Nat.{ℕ, zero, ◌+◌, ◌*◌, ◌-◌, ◌/◌, ◌%◌, ◌≤◌, ◌<◌}
use native.Mathlib.Nat.{le_refl, mod-lt, mod-mod, mod-eq_of_lt, mod-one, zero-mod, div-add-mod', mul-le-mul_right}
use native.Mathlib.Decide.{dec_le}
use native.Mathlib.Omega.{arith}
use lib.Dec.{eqb}
use lib.Arith.{digits_lt}
use borrow.Author.Tests.{eq-eqb, eqb-true}
use Rattle.lists.specs.Search.{first, every}
use Rattle.lists.proofs.Among.{Among, here, there}
use Rattle.lists.proofs.Search.{first_found, every_cons, every_head, every_tail}
use Rattle.residue.specs.Congruence.{Cong, neg}
use Rattle.residue.specs.Units.{Prime, Coprime, inverse}
use Rattle.residue.specs.Factors.{PrimePower, value}
use Rattle.residue.specs.Remainders.{Remainder, joined, two}
use Rattle.residue.proofs.Congruence.{rfl, of_eq, sy, tr, add, mul, modulo, multiple, self, zero_l, same_below, add_neg, cancel, cong_left, cong_right, Invertible, unit_cancel, q_pos}
use Rattle.residue.proofs.Units.{inverse_inverts, inverse_lt, prime_power_coprime, coprime_invertible}
use Rattle.residue.proofs.Factors.{Factored, one, more}

-- ---- two moduli, the first a unit modulo the second

zero_exact : (q x : ℕ) → Cong q x zero → x ≡ x / q * q
zero_exact q x h = omega (arith, div-add-mod' x q, h.same ∙ zero-mod q)

module _ (q r : ℕ) (qpos : zero < q) (rpos : zero < r) (v : Invertible r q) where
  both_zero : (z : ℕ) → Cong q z zero → Cong r z zero → Cong (q * r) z zero
  both_zero z hq hr =
      tr (of_eq (zero_exact q z hq ∙ ap (λ (x : ℕ). x * q) (zero_exact r (z / q) low) ∙ regroup)) (multiple (z / q / r))
    where
      low : Cong r (z / q) zero
      low = unit_cancel v (tr (of_eq (omega (arith, zero_exact q z hq))) hr)

      regroup : z / q / r * r * q ≡ z / q / r * (q * r)
      regroup = omega arith

  both_up : (x z : ℕ) → Cong q (x + z) x → Cong r (x + z) x → Cong (q * r) (x + z) x
  both_up x z hq hr = tr (add (rfl {a = x}) (both_zero z (cancel qpos hq) (cancel rpos hr))) (of_eq (omega arith))

  -- a congruence modulo both holds modulo the product
  pub product : (x y : ℕ) → Cong q x y → Cong r x y → Cong (q * r) x y
  product x y hq hr = pick (dec_le x y)
    where
      pick : Dec (x ≤ y) → Cong (q * r) x y
      pick (yes l) =
          let e : x + (y - x) ≡ y = omega arith in
          sy (subst (λ (w : ℕ). Cong (q * r) w x) e (both_up x (y - x) (tr (of_eq e) (sy hq)) (tr (of_eq e) (sy hr))))
      pick (no f) =
          let e : y + (x - y) ≡ x = omega arith in
          subst (λ (w : ℕ). Cong (q * r) w y) e (both_up y (x - y) (tr (of_eq e) hq) (tr (of_eq e) hr))

-- The number that is x modulo q and y modulo r, by the inverse of q modulo r: what the code computes.
unfoldable pub glue : ℕ → ℕ → ℕ → ℕ → ℕ
glue q r x y = x + q * ((y + neg r x) * inverse r q % r)

module _ (q r : ℕ) (rpos : zero < r) (v : Invertible r q) where
  pub glue_left : (x y : ℕ) → Cong q (glue q r x y) x
  unfolding glue
  glue_left x y = tr (add (rfl {a = x}) (zero_l _ self)) (of_eq (omega arith))

  pub glue_right : (x y : ℕ) → Cong r (glue q r x y) y
  unfolding glue
  glue_right x y =
      tr (add (rfl {a = x}) (mul (rfl {a = q}) (modulo ((y + neg r x) * inverse r q))))
      (tr (add (rfl {a = x})
      (tr (of_eq (let z : q * ((y + neg r x) * inverse r q) ≡ q * inverse r q * (y + neg r x) = omega arith in z)) (mul (inverse_inverts r q rpos v) rfl)))
      (tr (of_eq (let z : x + 1 * (y + neg r x) ≡ y + (x + neg r x) = omega arith in z))
      (tr (add (rfl {a = y}) (add_neg x rpos)) (of_eq (omega arith)))))

  pub glue_lt : (x y : ℕ) → x < q → glue q r x y < q * r
  unfolding glue
  glue_lt x y h =
      let s = (y + neg r x) * inverse r q % r in
      omega (arith, digits_lt {q = s} {m = r} {r = x} {c = q} (mod-lt ((y + neg r x) * inverse r q) rpos) h)

-- the same from the difference d and the factor s, each a remainder modulo r
pub glue_of : (q r x y d s i : ℕ) → d ≡ (y + neg r (x % r)) % r → s ≡ d * i % r → i ≡ inverse r q → x + q * s ≡ glue q r x y
unfolding glue neg
glue_of q r x y d s i hd hs hi = ap (λ (k : ℕ). x + q * k) (hs ∙ step.same)
  where
    step : Cong r (d * i) ((y + neg r x) * inverse r q)
    step = mul (tr (of_eq hd) (tr (modulo (y + neg r (x % r))) (of_eq (ap (λ (k : ℕ). y + (r - k)) (mod-mod x r))))) (of_eq hi)

-- ---- the number with given remainders

-- x leaves every remainder of the list
pub data Leaves : ℕ → List Remainder → Type 0 where
  none : {x : ℕ} → Leaves x []
  also : {x : ℕ} {r : Remainder} {rs : List Remainder} → x % r.modulus ≡ r.rest → Leaves x rs → Leaves x (r ∷ rs)

abbrev test : ℕ → Remainder → Bool
test x r = eqb (x % r.modulus) r.rest

leaves_test : (x : ℕ) (rs : List Remainder) → Leaves x rs → every (test x) rs ≡ true
unfolding every
leaves_test x [] none = refl
leaves_test x (r ∷ rs) (also h k) = every_cons (test x) r rs (eq-eqb (x % r.modulus) r.rest h) (leaves_test x rs k)

test_leaves : (x : ℕ) (rs : List Remainder) → every (test x) rs ≡ true → Leaves x rs
test_leaves x [] h = none
test_leaves x (r ∷ rs) h =
    also (eqb-true (x % r.modulus) r.rest (every_head (test x) r rs h)) (test_leaves x rs (every_tail (test x) r rs h))

-- numbers that leave the same remainders are congruent modulo m
abbrev pub Decides : ℕ → List Remainder → Type 0
Decides m rs = (x y : ℕ) → Leaves x rs → Leaves y rs → Cong m x y

-- where some number below m leaves the remainders, the joined number does
pub joined_leaves : (m : ℕ) (rs : List Remainder) (x : ℕ) → x < m → Leaves x rs → (joined m rs < m) × Leaves (joined m rs) rs
unfolding joined
joined_leaves m rs x h l =
    let f = first_found m (λ x. every (test x) rs) x h (leaves_test x rs l) in
    (omega (arith, f.0), test_leaves (first m (λ x. every (test x) rs)) rs f.1)

-- and it is the only one
pub is_joined : (m : ℕ) (rs : List Remainder) → Decides m rs → (x : ℕ) → x < m → Leaves x rs → x ≡ joined m rs
is_joined m rs only x h l =
    let j = joined_leaves m rs x h l in
    same_below h j.0 (only x (joined m rs) l j.1)

-- ---- remainders at the prime powers of m

-- the remainder r f at each prime power f
abbrev pub rests : (PrimePower → ℕ) → List PrimePower → List Remainder
rests r fs = map (λ f. record { modulus = value f; rest = r f }) fs

rest_invertible : {R : ℕ} (f : PrimePower) → Prime f.prime → zero < f.exponent → R % f.prime ≢ zero → zero < R → Invertible R (value f)
rest_invertible {R} f P e h pos =
    coprime_invertible (value f) R (q_pos f.prime f.exponent P.big) pos
    (λ d x y. prime_power_coprime f.prime f.exponent R P e h d y x)

-- congruent at every prime power, congruent modulo m
pub cong_factored : {m : ℕ} {fs : List PrimePower} (x y : ℕ) → Factored m fs → ((f : PrimePower) → Among f fs → Cong (value f) x y) → Cong m x y
cong_factored x y one h = record { same = mod-one x ∙ sym (mod-one y) }
cong_factored x y (more {rest = R} {f = f} P e n pos F) h =
    product (value f) R (q_pos f.prime f.exponent P.big) pos (rest_invertible f P e n pos) x y (h f here)
    (cong_factored x y F (λ g k. h g (there k)))

module _ (r : PrimePower → ℕ) where
  -- what is congruent modulo m leaves the same remainders
  pub leaves_cong : {m : ℕ} {fs : List PrimePower} (x y : ℕ) → Factored m fs → Cong m x y → Leaves y (rests r fs) → Leaves x (rests r fs)
  leaves_cong x y one c none = none
  leaves_cong x y (more {rest = R} {f = f} P e h pos F) c (also l ls) =
      also ((cong_left (value f) R c).same ∙ l) (leaves_cong x y F (cong_right (value f) R c) ls)

  pub factored_decides : {m : ℕ} {fs : List PrimePower} → Factored m fs → Decides m (rests r fs)
  factored_decides one x y lx ly = record { same = mod-one x ∙ sym (mod-one y) }
  factored_decides (more {rest = R} {f = f} P e h pos F) x y (also lx lxs) (also ly lys) =
      product (value f) R (q_pos f.prime f.exponent P.big) pos (rest_invertible f P e h pos) x y
      (record { same = lx ∙ sym ly }) (factored_decides F x y lxs lys)

  pub factored_some : {m : ℕ} {fs : List PrimePower} → Factored m fs → ((f : PrimePower) → Prime f.prime → zero < f.exponent → r f < value f) → (x : ℕ) × (x < m) × Leaves x (rests r fs)
  factored_some one small = (zero, le_refl 1, none)
  factored_some (more {rest = R} {f = f} P e h pos F) small =
      let y = factored_some F small in
      let v = rest_invertible f P e h pos in
      let x = glue (value f) R (r f) y.0 in (
        x,
        glue_lt (value f) R pos v (r f) y.0 (small f P e),
        also ((glue_left (value f) R pos v (r f) y.0).same ∙ mod-eq_of_lt (small f P e))
            (leaves_cong x y.0 F (glue_right (value f) R pos v (r f) y.0) y.2),
      )

  -- the joined number is below m and leaves the remainders
  pub factored_joined : {m : ℕ} {fs : List PrimePower} → Factored m fs → ((f : PrimePower) → Prime f.prime → zero < f.exponent → r f < value f)
      → (joined m (rests r fs) < m) × Leaves (joined m (rests r fs)) (rests r fs)
  factored_joined {m} {fs} F small = let x = factored_some F small in joined_leaves m (rests r fs) x.0 x.1 x.2

  -- its remainder at each of the prime powers
  pub leaves_at : {f : PrimePower} {fs : List PrimePower} (x : ℕ) → Among f fs → Leaves x (rests r fs) → x % value f ≡ r f
  leaves_at x here (also l ls) = l
  leaves_at x (there h) (also l ls) = leaves_at x h ls

  -- a number with the right remainder at each prime power leaves them all
  pub leaves_all : (fs : List PrimePower) (x : ℕ) → ((f : PrimePower) → Among f fs → x % value f ≡ r f) → Leaves x (rests r fs)
  leaves_all [] x h = none
  leaves_all (f ∷ fs) x h = also (h f here) (leaves_all fs x (λ g k. h g (there k)))

-- ---- two remainders, as the code joins them

pub two_joined : (q r x y : ℕ) → x < q → y < r → Invertible r q → glue q r x y ≡ joined (q * r) (two q x r y)
two_joined q r x y hx hy v =
    is_joined (q * r) (two q x r y) only (glue q r x y) (glue_lt q r (omega arith) v x y hx)
    (also ((glue_left q r (omega arith) v x y).same ∙ mod-eq_of_lt hx) (also ((glue_right q r (omega arith) v x y).same ∙ mod-eq_of_lt hy) none))
  where
    only : Decides (q * r) (two q x r y)
    only u w (also a (also b none)) (also c (also d none)) =
        product q r (omega arith) (omega arith) v u w (record { same = a ∙ sym c }) (record { same = b ∙ sym d })

-- the joined number of two is below the product and leaves both
pub two_leaves : (q r x y : ℕ) → x < q → y < r → Invertible r q
    → (joined (q * r) (two q x r y) < q * r) × (joined (q * r) (two q x r y) % q ≡ x) × (joined (q * r) (two q x r y) % r ≡ y)
two_leaves q r x y hx hy v =
    let e = two_joined q r x y hx hy v in (
      subst (λ (z : ℕ). z < q * r) e (glue_lt q r (omega arith) v x y hx),
      ap (λ (z : ℕ). z % q) (sym e) ∙ (glue_left q r (omega arith) v x y).same ∙ mod-eq_of_lt hx,
      ap (λ (z : ℕ). z % r) (sym e) ∙ (glue_right q r (omega arith) v x y).same ∙ mod-eq_of_lt hy,
    )

-- ---- what the code of the join has of its numbers

-- the second factor is at most the product
pub factor_right : (q r : ℕ) → zero < q → r ≤ q * r
factor_right q r h = omega (arith, mul-le-mul_right r h)

-- what is equal to a remainder is below the modulus
pub rest_below : (d x m : ℕ) → zero < m → d ≡ x % m → d < m
rest_below d x m h e = omega (arith, mod-lt x h)

pub join_lt : (q r x s : ℕ) → x < q → s < r → x + q * s < q * r
join_lt q r x s hx hs = omega (arith, digits_lt {q = s} {m = r} {r = x} {c = q} hs hx)

module _ (q r x y : ℕ) (hx : x < q) (hy : y < r) (co : Coprime q r) where
  unit : Invertible r q
  unit = coprime_invertible q r (omega arith) (omega arith) co

  pub joiner_lt : inverse r q < r
  joiner_lt = inverse_lt r q (omega arith) unit

  pub join_is : (d s i : ℕ) → d ≡ (y + neg r (x % r)) % r → s ≡ d * i % r → i ≡ inverse r q → x + q * s ≡ joined (q * r) (two q x r y)
  join_is d s i hd hs hi = glue_of q r x y d s i hd hs hi ∙ two_joined q r x y hx hy unit
