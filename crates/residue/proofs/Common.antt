-- The greatest common divisor and Euclid's law for it, the least common multiple, and the one number below that with two given remainders.
-- Assumes nothing.
use mathlib.Core.Path.{◌≡◌, refl, sym, ap, ap₂, ◌∙◌, subst}
use mathlib.Core.Logic.{◌⊎◌, inl, inr, ◌≢◌}
use mathlib.Core.Bool.{Bool, true, false}
use mathlib.Core.List.{List}
use Prim.Native.Nat.{ℕ, zero, suc, ◌+◌, ◌*◌, ◌-◌, ◌/◌, ◌%◌, ◌^◌, ◌≤◌, ◌<◌}
use native.Mathlib.Nat.{le_antisymm, le_of_dvd, dvd_of_mod-eq-zero, mod-mod_of_dvd, mod_self, mod-one, mod-zero, mod-lt, zero-mod, div-add-mod', div-lt_iff_lt-mul, mul-mod_left, mul-le-mul_right}
use native.Mathlib.Decide.{ℕ_discrete}
use native.Mathlib.Omega.{arith}
use lib.Dec.{eqb}
use lib.Arith.{digits_lt, digits_div, digits_mod, mod-mul}
use borrow.Author.Tests.{eq-eqb, eqb-true}
use Rattle.lists.specs.Choice.{both}
use Rattle.lists.specs.Search.{first}
use Rattle.lists.proofs.Search.{both_left, both_right, both_true, first_found, is_first}
use Rattle.residue.specs.Congruence.{Cong}
use Rattle.residue.specs.Units.{Prime, Coprime}
use Rattle.residue.specs.Common.{common_divisor, common_multiple}
use Rattle.residue.specs.Remainders.{Remainder, joined, two}
use Rattle.residue.proofs.Congruence.{of_eq, tr, Invertible, unit_cancel}
use Rattle.residue.proofs.Units.{coprime_invertible, prime_invertible}
use Rattle.residue.proofs.Remainders.{Leaves, none, also, Decides, joined_leaves, is_joined, product, two_leaves}

-- ---- the greatest common divisor

-- g divides both, and no greater number does
pub record Greatest (a b g : ℕ) : Type 0 where
  pub positive : zero < g
  pub left : a % g ≡ zero
  pub right : b % g ≡ zero
  pub most : (d : ℕ) → a % d ≡ zero → b % d ≡ zero → d ≤ g

-- a divisor of a number above 0 is above 0 and at most that number
divisor_pos : (a d : ℕ) → zero < a → a % d ≡ zero → zero < d
divisor_pos a zero h z = absurd (let e : a ≡ zero = sym (mod-zero a) ∙ z in omega arith)
divisor_pos a (suc d) h z = omega arith

divisor_le : (a d : ℕ) → zero < a → a % d ≡ zero → d ≤ a
divisor_le a d h z = le_of_dvd {m = d} h (dvd_of_mod-eq-zero d {n = a} z)

abbrev test : ℕ → ℕ → ℕ → Bool
test a b i = both (eqb (a % (a - i)) zero) (eqb (b % (a - i)) zero)

passes : (a b d : ℕ) → a % d ≡ zero → b % d ≡ zero → d ≤ a → test a b (a - d) ≡ true
passes a b d x y h =
    let e : d ≡ a - (a - d) = omega arith in
    both_true (eq-eqb (a % (a - (a - d))) zero (subst (λ (z : ℕ). a % z ≡ zero) e x)) (eq-eqb (b % (a - (a - d))) zero (subst (λ (z : ℕ). b % z ≡ zero) e y))

pub greatest : (a b : ℕ) → zero < a → Greatest a b (common_divisor a b)
unfolding common_divisor
greatest a b pos =
    record {
      positive = omega (arith, one.0);
      left = eqb-true (a % g) zero (both_left (eqb (a % g) zero) (eqb (b % g) zero) one.1);
      right = eqb-true (b % g) zero (both_right (eqb (a % g) zero) (eqb (b % g) zero) one.1);
      most = λ d x y.
          let low = divisor_pos a d pos x in
          let high = divisor_le a d pos x in
          omega (arith, (first_found a (test a b) (a - d) (omega arith) (passes a b d x y high)).0);
    }
  where
    g : ℕ
    g = a - first a (test a b)

    one : (first a (test a b) ≤ a - 1) × (test a b (first a (test a b)) ≡ true)
    one = first_found a (test a b) (a - 1) (omega arith) (passes a b 1 (mod-one a) (mod-one b) pos)

greatest_unique : (a b g g' : ℕ) → Greatest a b g → Greatest a b g' → g ≡ g'
greatest_unique a b g g' x y = le_antisymm (y.most g x.left x.right) (x.most g' y.left y.right)

-- ---- Euclid's law

pub euclid_end : (a b : ℕ) → zero < a → b % a ≡ zero → a ≡ common_divisor a b
euclid_end a b pos z =
    greatest_unique a b a (common_divisor a b)
    (record { positive = pos; left = mod_self a; right = z; most = λ d x y. divisor_le a d pos x }) (greatest a b pos)

-- the smaller pair has the same common divisors
pub euclid_step : (a b : ℕ) → zero < a → zero < b % a → common_divisor (b % a) a ≡ common_divisor a b
euclid_step a b pos low = greatest_unique a b (common_divisor (b % a) a) (common_divisor a b) lifted (greatest a b pos)
  where
    G : Greatest (b % a) a (common_divisor (b % a) a)
    G = greatest (b % a) a low

    through : (d : ℕ) → a % d ≡ zero → b % a % d ≡ b % d
    through d x = mod-mod_of_dvd d b (dvd_of_mod-eq-zero d {n = a} x)

    lifted : Greatest a b (common_divisor (b % a) a)
    lifted =
        record {
          positive = G.positive;
          left = G.right;
          right = sym (through (common_divisor (b % a) a) G.right) ∙ G.left;
          most = λ d x y. G.most d (through d x ∙ y) x;
        }

-- ---- two moduli μ g and ν g, of coprime μ and ν: a number by its last digit to the base g and by its quotient

-- congruent modulo m g: the last digits are the same, and the quotients congruent modulo m; and back
digits_of : (g m : ℕ) → zero < g → zero < m → {x y : ℕ} → Cong (m * g) x y → Cong m (x / g) (y / g) × (x % g ≡ y % g)
digits_of g m gpos mpos {x} {y} h = (
  record { same = sym (digits_div (x / g % m) (mod-lt x gpos)) ∙ ap (λ (k : ℕ). k / g) e ∙ digits_div (y / g % m) (mod-lt y gpos) },
  sym (digits_mod (x / g % m) (mod-lt x gpos)) ∙ ap (λ (k : ℕ). k % g) e ∙ digits_mod (y / g % m) (mod-lt y gpos),
)
  where
    e : x / g % m * g + x % g ≡ y / g % m * g + y % g
    e = sym (mod-mul x mpos gpos) ∙ h.same ∙ mod-mul y mpos gpos

of_digits : (g m : ℕ) → zero < g → zero < m → {x y : ℕ} → Cong m (x / g) (y / g) → x % g ≡ y % g → Cong (m * g) x y
of_digits g m gpos mpos {x} {y} h e =
    record { same = mod-mul x mpos gpos ∙ ap₂ (λ (k r : ℕ). k * g + r) h.same e ∙ sym (mod-mul y mpos gpos) }

-- what is below such moduli tells that their factors are above 0
pub factors_pos : (μ ν g x y : ℕ) → x < μ * g → y < ν * g → (zero < μ) × (zero < ν) × (zero < g)
factors_pos zero ν g x y hx hy = absurd (omega arith)
factors_pos (suc μ) zero g x y hx hy = absurd (omega arith)
factors_pos (suc μ) (suc ν) zero x y hx hy = absurd (omega arith)
factors_pos (suc μ) (suc ν) (suc g) x y hx hy = (omega arith, omega arith, omega arith)

-- the product of the quotients fits where the multiple does
pub met_parts : (μ ν g : ℕ) → zero < g → μ * ν * g < 65536 → μ * ν < 65536
met_parts μ ν g pos h = go g pos h
  where
    go : (g : ℕ) → zero < g → μ * ν * g < 65536 → μ * ν < 65536
    go zero pos h = absurd (omega arith)
    go (suc g) pos h = omega (arith, mul-le-mul_right (μ * ν) pos)

module _ (μ ν g : ℕ) (μpos : zero < μ) (νpos : zero < ν) (gpos : zero < g) (co : Coprime μ ν) where
  unit : Invertible ν μ
  unit = coprime_invertible μ ν μpos νpos co

  μν-pos : zero < μ * ν
  μν-pos = omega (arith, mul-le-mul_right ν μpos)

  -- congruent modulo both, congruent modulo the multiple
  both_moduli : (x y : ℕ) → Cong (μ * g) x y → Cong (ν * g) x y → Cong (μ * ν * g) x y
  both_moduli x y hμ hν =
      let l = digits_of g μ gpos μpos hμ in
      let r = digits_of g ν gpos νpos hν in
      of_digits g (μ * ν) gpos μν-pos (product μ ν μpos νpos unit (x / g) (y / g) l.0 r.0) l.1

  -- what both divide, their multiple divides
  of_both : (c : ℕ) → c % (μ * g) ≡ zero → c % (ν * g) ≡ zero → c % (μ * ν * g) ≡ zero
  of_both c x y =
      (both_moduli c zero (record { same = x ∙ sym (zero-mod (μ * g)) }) (record { same = y ∙ sym (zero-mod (ν * g)) })).same ∙ zero-mod (μ * ν * g)

  module _ (x y : ℕ) where
    abbrev rests : List Remainder
    rests = two (μ * g) x (ν * g) y

    met_decides : Decides (μ * ν * g) rests
    met_decides u w (also p (also q none)) (also r (also s none)) = both_moduli u w (record { same = p ∙ sym r }) (record { same = q ∙ sym s })

    module _ (hx : x < μ * g) (hy : y < ν * g) where
      -- what `join` is handed
      pub quotients_small : (x / g < μ) × (y / g < ν)
      quotients_small = ((div-lt_iff_lt-mul {k = g} gpos).1 hx, (div-lt_iff_lt-mul {k = g} gpos).1 hy)

      -- the number whose quotient is joined of the quotients: what the code computes
      abbrev pub met : ℕ
      met = joined (μ * ν) (two μ (x / g) ν (y / g)) * g + x % g

      q : (joined (μ * ν) (two μ (x / g) ν (y / g)) < μ * ν) × (joined (μ * ν) (two μ (x / g) ν (y / g)) % μ ≡ x / g) × (joined (μ * ν) (two μ (x / g) ν (y / g)) % ν ≡ y / g)
      q = two_leaves μ ν (x / g) (y / g) quotients_small.0 quotients_small.1 unit

      pub met_lt : met < μ * ν * g
      met_lt = digits_lt {c = g} q.0 (mod-lt x gpos)

      -- where they agree modulo g, it leaves both
      met_leaves : x % g ≡ y % g → Leaves met rests
      met_leaves agree =
          also (left μ μpos (x / g) q.1 ∙ div-add-mod' x g)
          (also (left ν νpos (y / g) q.2 ∙ ap (λ (k : ℕ). y / g * g + k) agree ∙ div-add-mod' y g) none)
        where
          w : ℕ
          w = joined (μ * ν) (two μ (x / g) ν (y / g))

          left : (m : ℕ) → zero < m → (v : ℕ) → w % m ≡ v → met % (m * g) ≡ v * g + x % g
          left m pos v e =
              mod-mul met pos gpos
              ∙ ap₂ (λ (k r : ℕ). k % m * g + r) (digits_div w (mod-lt x gpos)) (digits_mod w (mod-lt x gpos))
              ∙ ap (λ (k : ℕ). k * g + x % g) e

      -- and is the joined number
      pub met_joined : x % g ≡ y % g → met ≡ joined (μ * ν * g) rests
      met_joined agree = is_joined (μ * ν * g) rests met_decides met met_lt (met_leaves agree)

-- ---- any two moduli

-- what the numbers of two moduli are: their common divisor, and what is left of them
module _ (a b : ℕ) (apos : zero < a) (bpos : zero < b) where
  abbrev g : ℕ
  g = common_divisor a b

  abbrev μ : ℕ
  μ = a / g

  abbrev ν : ℕ
  ν = b / g

  G : Greatest a b g
  G = greatest a b apos

  pub g_pos : zero < g
  g_pos = G.positive

  pub a_whole : a ≡ μ * g
  a_whole = omega (arith, div-add-mod' a g, G.left)

  pub b_whole : b ≡ ν * g
  b_whole = omega (arith, div-add-mod' b g, G.right)

  pub μ-pos : zero < μ
  μ-pos = go μ refl
    where
      go : (k : ℕ) → μ ≡ k → zero < k
      go zero e = absurd (omega (arith, a_whole, ap (λ (z : ℕ). z * g) e))
      go (suc k) e = omega arith

  pub ν-pos : zero < ν
  ν-pos = go ν refl
    where
      go : (k : ℕ) → ν ≡ k → zero < k
      go zero e = absurd (omega (arith, b_whole, ap (λ (z : ℕ). z * g) e))
      go (suc k) e = omega arith

  -- a common divisor of what is left would make g greater
  pub rest_coprime : Coprime μ ν
  rest_coprime d x y = go d refl
    where
      scaled : (n : ℕ) → n ≡ n / g * g → n / g % d ≡ zero → n % (d * g) ≡ zero
      scaled n e z =
          ap (λ (k : ℕ). k % (d * g)) (e ∙ omega (arith, ap (λ (k : ℕ). k * g) (div-add-mod' (n / g) d), ap (λ (k : ℕ). k * g) z))
          ∙ mul-mod_left (n / g / d) (d * g)

      bound : d * g ≤ g
      bound = G.most (d * g) (scaled a a_whole x) (scaled b b_whole y)

      go : (k : ℕ) → d ≡ k → d ≡ 1
      go zero e = absurd (omega (arith, divisor_pos μ d μ-pos x))
      go (suc zero) e = e
      go (suc (suc k)) e = absurd (omega (arith, bound, ap (λ (z : ℕ). z * g) e, G.positive))

  -- ---- the least common multiple

  abbrev both_test : ℕ → Bool
  both_test i = both (eqb (suc i % a) zero) (eqb (suc i % b) zero)

  product_pos : zero < μ * ν * g
  product_pos = omega (arith, mul-le-mul_right g (mul-le-mul_right ν μ-pos), mul-le-mul_right g ν-pos, G.positive)

  product_left : μ * ν * g % a ≡ zero
  product_left = ap (λ (k : ℕ). k % a) (omega (arith, ap (λ (k : ℕ). k * ν) a_whole)) ∙ mul-mod_left ν a

  product_right : μ * ν * g % b ≡ zero
  product_right = ap (λ (k : ℕ). k % b) (omega (arith, ap (λ (k : ℕ). k * μ) b_whole)) ∙ mul-mod_left μ b

  product_least : (c : ℕ) → zero < c → c % a ≡ zero → c % b ≡ zero → μ * ν * g ≤ c
  product_least c pos x y =
      divisor_le c (μ * ν * g) pos
      (of_both μ ν g μ-pos ν-pos G.positive rest_coprime c (subst (λ (k : ℕ). c % k ≡ zero) a_whole x) (subst (λ (k : ℕ). c % k ≡ zero) b_whole y))

  pub multiple_is : common_multiple a b ≡ μ * ν * g
  unfolding common_multiple
  multiple_is = omega (arith, is_first (a * b) both_test r most before (λ l. found), last)
    where
      r : ℕ
      r = μ * ν * g - 1

      last : suc r ≡ μ * ν * g
      last = omega (arith, product_pos)

      most : r ≤ a * b
      most =
          omega (arith, product_least (a * b) (omega (arith, mul-le-mul_right b apos)) (ap (λ (k : ℕ). k % a) (let e : a * b ≡ b * a = omega arith in e) ∙ mul-mod_left b a) (mul-mod_left a b))

      before : (j : ℕ) → j < r → both_test j ≡ false
      before j h = go (both_test j) refl
        where
          go : (t : Bool) → both_test j ≡ t → t ≡ false
          go true e =
              absurd (omega (
                arith,
                last,
                product_least (suc j) (omega arith) (eqb-true (suc j % a) zero (both_left (eqb (suc j % a) zero) (eqb (suc j % b) zero) e))
                    (eqb-true (suc j % b) zero (both_right (eqb (suc j % a) zero) (eqb (suc j % b) zero) e)),
              ))
          go false e = refl

      found : both_test r ≡ true
      found = both_true (eq-eqb (suc r % a) zero (ap (λ (k : ℕ). k % a) last ∙ product_left)) (eq-eqb (suc r % b) zero (ap (λ (k : ℕ). k % b) last ∙ product_right))

  abbrev M : ℕ
  M = common_multiple a b

  -- it is above 0, both divide it, and no smaller number above 0 is so
  pub multiple_pos : zero < M
  multiple_pos = omega (arith, multiple_is, product_pos)

  pub multiple_left : M % a ≡ zero
  multiple_left = ap (λ (k : ℕ). k % a) multiple_is ∙ product_left

  pub multiple_right : M % b ≡ zero
  multiple_right = ap (λ (k : ℕ). k % b) multiple_is ∙ product_right

  pub multiple_least : (c : ℕ) → zero < c → c % a ≡ zero → c % b ≡ zero → M ≤ c
  multiple_least c pos x y = omega (arith, multiple_is, product_least c pos x y)

  pub multiple_above : a ≤ M
  multiple_above = divisor_le M a multiple_pos multiple_left

  -- as the code has it
  pub multiple_product : a * ν ≡ M
  multiple_product = omega (arith, multiple_is, ap (λ (k : ℕ). k * ν) a_whole)

  -- each power of a prime that divides the multiple divides one of the numbers: p does not divide both of what is left of them
  pub power_either : (p e : ℕ) → Prime p → zero < e → Cong (p ^ e) M zero → (a % (p ^ e) ≡ zero) ⊎ (b % (p ^ e) ≡ zero)
  power_either p e P pos h = go (ℕ_discrete (ν % p) zero)
    where
      μ-bare : ν % p ≡ zero → μ % p ≢ zero
      μ-bare z w = let one : p ≡ 1 = rest_coprime p w z in omega (arith, P.big)

      go : Dec (ν % p ≡ zero) → (a % (p ^ e) ≡ zero) ⊎ (b % (p ^ e) ≡ zero)
      go (no f) =
          inl ((unit_cancel (prime_invertible p e ν P pos f) (tr (of_eq (omega (arith, multiple_is, ap (λ (k : ℕ). k * ν) a_whole))) h)).same ∙ zero-mod (p ^ e))
      go (yes z) =
          inr ((unit_cancel (prime_invertible p e μ P pos (μ-bare z)) (tr (of_eq (omega (arith, multiple_is, ap (λ (k : ℕ). k * μ) b_whole))) h)).same ∙ zero-mod (p ^ e))

  -- ---- the number with two given remainders

  module _ (x y : ℕ) where
    -- a number that leaves both tells that they agree modulo the common divisor
    pub leaves_agree : (z : ℕ) → z % a ≡ x → z % b ≡ y → x % g ≡ y % g
    leaves_agree z p q =
        ap (λ (k : ℕ). k % g) (sym p) ∙ mod-mod_of_dvd g z (dvd_of_mod-eq-zero g {n = a} G.left)
        ∙ sym (mod-mod_of_dvd g z (dvd_of_mod-eq-zero g {n = b} G.right)) ∙ ap (λ (k : ℕ). k % g) q

    -- where they agree the joined number leaves both, and no other number below the multiple does
    pub joined_both : x < a → y < b → x % g ≡ y % g → (joined M (two a x b y) < M) × (joined M (two a x b y) % a ≡ x) × (joined M (two a x b y) % b ≡ y)
    joined_both hx hy agree = told (joined_leaves M (two a x b y) v v_lt v_leaves)
      where
        v : ℕ
        v = met μ ν g μ-pos ν-pos G.positive rest_coprime x y (subst (λ (k : ℕ). x < k) a_whole hx) (subst (λ (k : ℕ). y < k) b_whole hy)

        v_lt : v < M
        v_lt = omega (arith, multiple_is, met_lt μ ν g μ-pos ν-pos G.positive rest_coprime x y (subst (λ (k : ℕ). x < k) a_whole hx) (subst (λ (k : ℕ). y < k) b_whole hy))

        v_leaves : Leaves v (two a x b y)
        v_leaves =
            subst (λ (k : ℕ). Leaves v (two k x b y)) (sym a_whole) (subst (λ (k : ℕ). Leaves v (two (μ * g) x k y)) (sym b_whole)
            (met_leaves μ ν g μ-pos ν-pos G.positive rest_coprime x y (subst (λ (k : ℕ). x < k) a_whole hx) (subst (λ (k : ℕ). y < k) b_whole hy) agree))

        told : (joined M (two a x b y) < M) × Leaves (joined M (two a x b y)) (two a x b y)
            → (joined M (two a x b y) < M) × (joined M (two a x b y) % a ≡ x) × (joined M (two a x b y) % b ≡ y)
        told (l, also p (also q none)) = (l, p, q)

    pub joined_only : (z : ℕ) → z < M → z % a ≡ x → z % b ≡ y → z ≡ joined M (two a x b y)
    joined_only z h p q = is_joined M (two a x b y) only z h (also p (also q none))
      where
        only : Decides M (two a x b y)
        only u w (also p (also q none)) (also r (also s none)) =
            subst (λ (k : ℕ). Cong k u w) (sym multiple_is)
            (both_moduli μ ν g μ-pos ν-pos G.positive rest_coprime u w (subst (λ (k : ℕ). Cong k u w) a_whole (record { same = p ∙ sym r }))
            (subst (λ (k : ℕ). Cong k u w) b_whole (record { same = q ∙ sym s })))
