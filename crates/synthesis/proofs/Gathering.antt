-- The loop over the prime powers: what is joined so far, and that the last join gives the register.
-- Assumes nothing.
use mathlib.Core.Path.{◌≡◌, refl, sym, ap, ap₂, ◌∙◌, subst}
use mathlib.Core.Logic.{◌⊎◌, inl, inr, ◌≢◌}
use mathlib.Core.Bool.{Bool, true, false}
use mathlib.Core.List.{List, [], ◌∷◌}
use Prim.Native.Nat.{ℕ, zero, ◌*◌, ◌/◌, ◌%◌, ◌^◌, ◌≤◌, ◌<◌}
use native.Mathlib.Nat.{le_refl, le_antisymm, mul-mod_left, mul-mod_right, mod-lt, mul-le-mul_left, mul-le-mul_right, mul-one}
use native.Mathlib.Decide.{dec_le, dec_lt}
use native.Mathlib.Omega.{arith}
use lib.Dec.{eqb}
use lib.ListN.{length}
use borrow.Author.Tests.{le-leb, lt-leb, eqb-true, eq-eqb}
use Rattle.lists.specs.Table.{at, tabulate}
use Rattle.lists.proofs.Among.{Among, here, there}
use Rattle.lists.proofs.Table.{is_tabulate, at_tabulate}
use Rattle.residue.specs.Congruence.{Cong}
use Rattle.residue.specs.Units.{Coprime, Prime}
use Rattle.residue.specs.Factors.{is_prime, PrimePower, value, least_power, prime_powers}
use Rattle.residue.proofs.Congruence.{rfl, of_eq, tr, modulo, same_below, cong_divisor}
use Rattle.residue.proofs.Units.{invertible_coprime, prime_power_coprime, coprime_left, coprime_right, coprime_product}
use Rattle.residue.proofs.Factors.{least_prime, least_exponent, least_whole, least_parts, least_value, rest_pos, value_most, divides_trans, test_prime, prime_test, factored, powers_more, powers_none, prime_powers_lem, among_prime}
use Rattle.recurrence.specs.Polynomial.{len}
use Rattle.recurrence.specs.Register.{complexity, register}
use Rattle.recurrence.proofs.Pairs.{conv_cong}
use Rattle.recurrence.proofs.Register.{Right, complexity_most, complexity_least, is_register_a, register_length, register_right}
use Rattle.steps.specs.Sizes.{max_cells, max_terms}
use Rattle.steps.specs.Run.{Below, first_row}
use Rattle.synthesis.specs.declared.Synthesis.{Synthesis}
use Rattle.synthesis.specs.Joining.{Extended, Starts}
use Rattle.synthesis.specs.Synthesis.{length_at, synthesis_of}

-- a prime power by its numbers
pub is_power : (f : PrimePower) (p e : ℕ) → p ≡ f.prime → e ≡ f.exponent → ◌≡◌ {A = PrimePower} (record { prime = p; exponent = e }) f
is_power f p e hp he = ap₂ (λ (x y : ℕ). record { prime = x; exponent = y }) hp he

-- the least prime power of R makes a ring
pub power_fits : {R : ℕ} → 1 < R → R < 65536 → (p e q : ℕ) → p ≡ (least_power R).prime → e ≡ (least_power R).exponent → q ≡ value (least_power R)
    → Prime p × (zero < e) × (q ≡ p ^ e) × (q < 65536)
power_fits {R} big small p e q hp he hq = rw (hp, he, hq) (least_prime R big, least_exponent R big, refl, omega (arith, value_most R big))

-- f divides Q, and row 0 there is in a and in the lengths
pub record Covers (S : List ℕ) (n Q : ℕ) (a lengths : List ℕ) (f : PrimePower) : Type 0 where
  pub divides : Q % value f ≡ zero
  pub cells : (i : ℕ) → i < max_cells → Cong (value f) (at a i) (at (first_row f S n).a i)
  pub sizes : (k : ℕ) → k ≤ n → len (first_row f S k) ≤ at lengths k

-- a and the lengths are joined for the prime powers of Q, and those of R are left
pub record Gathered (m : ℕ) (S : List ℕ) (n Q R : ℕ) (a lengths : List ℕ) : Type 0 where
  pub whole : Q * R ≡ m
  pub some : zero < Q
  pub more : zero < R
  pub apart : Coprime Q R
  pub long_a : length a ≡ max_cells
  pub long_lengths : length lengths ≡ max_cells
  pub below : Below max_cells Q a
  pub each : (f : PrimePower) → Among f (prime_powers m) → Among f (prime_powers R) ⊎ Covers S n Q a lengths f
  pub left : (f : PrimePower) → Among f (prime_powers R) → Among f (prime_powers m)
  pub most : (k : ℕ) → k ≤ n → at lengths k ≤ complexity m S k
  pub past : (k : ℕ) → n < k → k < max_cells → at lengths k ≡ zero

pub gathered_start : (m : ℕ) (S : List ℕ) (n : ℕ) (a lengths : List ℕ) → 1 < m → n ≤ max_terms → length a ≡ max_cells → Below max_cells 1 a → length lengths ≡ max_cells
    → Below max_cells 1 lengths → Gathered m S n 1 m a lengths
gathered_start m S n a lengths big few la za ll zl =
    record {
      whole = omega arith;
      some = le_refl 1;
      more = omega arith;
      apart = invertible_coprime m 1 (record { inverse = 1; inverts = rfl });
      long_a = la;
      long_lengths = ll;
      below = za;
      each = λ f h. inl h;
      left = λ f h. h;
      most = λ k l. omega (arith, zl k (omega arith));
      past = λ k l h. omega (arith, zl k h);
    }

first_or_later : {f g : PrimePower} {gs : List PrimePower} → Among f (g ∷ gs) → (f ≡ g) ⊎ Among f gs
first_or_later here = inl refl
first_or_later (there h) = inr h

none_among : {f : PrimePower} → Among f [] → ⊥
none_among = elim [ ]

-- ---- one more prime power

module _ {m : ℕ} {S : List ℕ} {n Q R : ℕ} {a lengths : List ℕ} (g : Gathered m S n Q R a lengths) (big : 1 < R) where
  abbrev f : PrimePower
  f = least_power R

  abbrev v : ℕ
  v = value (least_power R)

  abbrev R' : ℕ
  R' = R / value (least_power R)

  pub rest_most : R ≤ m
  rest_most = omega (arith, g.whole, mul-le-mul_right R g.some)

  pub product_most : Q * v ≤ m
  product_most = omega (arith, g.whole, mul-le-mul_left Q (value_most R big))

  pub value_apart : Coprime Q v
  value_apart = coprime_left Q v R' (subst (Coprime Q) (sym (least_whole R big)) g.apart)

  apart_rest : Coprime Q R'
  apart_rest = coprime_right Q v R' (subst (Coprime Q) (sym (least_whole R big)) g.apart)

  v_rest : Coprime v R'
  v_rest d x y =
      prime_power_coprime f.prime f.exponent R' (least_prime R big) (least_exponent R big) (least_parts R big).bare d y x

  module _ {a' lengths' : List ℕ} (x : Extended f S n Q a lengths a' lengths') (wide : 1 < m) where
    covers_new : Covers S n (Q * v) a' lengths' f
    covers_new =
        record {
          divides = mul-mod_left Q v;
          cells = λ i h. (x.cells i h).right;
          sizes = λ k h. omega (arith, x.sizes k h);
        }

    covers_old : (h : PrimePower) → Covers S n Q a lengths h → Covers S n (Q * v) a' lengths' h
    covers_old h c =
        record {
          divides = divides_trans (value h) Q (Q * v) c.divides (mul-mod_right Q v);
          cells = λ i l. tr (cong_divisor (value h) Q c.divides (x.cells i l).left) (c.cells i l);
          sizes = λ k l. omega (arith, c.sizes k l, x.sizes k l);
        }

    among_rest : (h : PrimePower) → Among h (prime_powers R) → (h ≡ f) ⊎ Among h (prime_powers R')
    among_rest h k = first_or_later (subst (Among h) (powers_more R big) k)

    rest_among : (h : PrimePower) → Among h (prime_powers R') → Among h (prime_powers R)
    rest_among h k = subst (Among h) (sym (powers_more R big)) (there k)

    f_among : Among f (prime_powers m)
    f_among = g.left f (subst (Among f) (sym (powers_more R big)) here)

    extended : Gathered m S n (Q * v) R' a' lengths'
    extended =
        record {
          whole = omega (arith, g.whole, ap (λ (k : ℕ). Q * k) (least_whole R big));
          some = omega (arith, mul-le-mul_left {m = 1} {n = v} Q (omega (arith, least_value R big)), g.some);
          more = rest_pos R big;
          apart = coprime_product Q v R' g.some (omega (arith, least_value R big)) (rest_pos R big) apart_rest v_rest;
          long_a = x.long_a;
          long_lengths = x.long_lengths;
          below = λ i h. (x.cells i h).below;
          each = λ h k. go h (g.each h k);
          left = λ h k. g.left h (rest_among h k);
          most = λ k l. omega (arith, x.sizes k l, g.most k l, complexity_most m wide S k f_among);
          past = λ k l h. x.others k l h ∙ g.past k l h;
        }
      where
        late : (h : PrimePower) → (h ≡ f) ⊎ Among h (prime_powers R') → Among h (prime_powers R') ⊎ Covers S n (Q * v) a' lengths' h
        late h (inl e) = inr (subst (Covers S n (Q * v) a' lengths') (sym e) covers_new)
        late h (inr k) = inl k

        go : (h : PrimePower) → Among h (prime_powers R) ⊎ Covers S n Q a lengths h → Among h (prime_powers R') ⊎ Covers S n (Q * v) a' lengths' h
        go h (inl k) = late h (among_rest h k)
        go h (inr c) = inr (covers_old h c)

  -- the same for the code's prime power, its value and the rest
  pub gathered_next : {a' lengths' : List ℕ} (h : PrimePower) (w r : ℕ) → h ≡ f → w ≡ v → r ≡ R' → 1 < m → Extended h S n Q a lengths a' lengths'
      → Gathered m S n (Q * w) r a' lengths'
  gathered_next {a'} {lengths'} h w r same hw hr wide x =
      subst (λ (y : ℕ). Gathered m S n (Q * y) r a' lengths') (sym hw)
      (subst (λ (y : ℕ). Gathered m S n (Q * v) y a' lengths') (sym hr)
      (extended (subst (λ (y : PrimePower). Extended y S n Q a lengths a' lengths') same x) wide))

-- ---- whether the modulus is prime

-- the last prime split off is one of m's, as soon as there is one
pub record Last (m Q last : ℕ) : Type 0 where
  pub among : 1 < Q → (f : PrimePower) × Among f (prime_powers m) × (last ≡ f.prime)

pub last_start : (m : ℕ) → Last m 1 1
last_start m = record { among = λ h. absurd (omega arith) }

-- whatever is split off next
pub last_next : {m : ℕ} {S : List ℕ} {n Q R : ℕ} {a lengths : List ℕ} → Gathered m S n Q R a lengths → 1 < R → (Q' last : ℕ)
    → last ≡ (least_power R).prime → Last m Q' last
last_next {R = R} g big Q' last e =
    record { among = λ h. (least_power R, g.left (least_power R) (subst (Among (least_power R)) (sym (powers_more R big)) here), e) }

among_one : {f g : PrimePower} {fs : List PrimePower} → fs ≡ g ∷ [] → Among f fs → f ≡ g
among_one {f} {g} e h = go (first_or_later (subst (Among f) e h))
  where
    go : (f ≡ g) ⊎ Among f [] → f ≡ g
    go (inl k) = k
    go (inr k) = absurd (none_among k)

-- a prime of m is m itself exactly when m is prime
own_prime : (m : ℕ) (f : PrimePower) → 1 < m → Among f (prime_powers m) → f.prime ≡ m → is_prime m ≡ true
own_prime m f big h e = prime_test m (subst Prime e (among_prime (factored m (omega arith)) h))

other_prime : (m : ℕ) (f : PrimePower) → Among f (prime_powers m) → f.prime ≢ m → is_prime m ≡ false
other_prime m f h ne = go (is_prime m) refl
  where
    go : (t : Bool) → is_prime m ≡ t → is_prime m ≡ false
    go false e = e
    go true e = absurd (ne (ap (λ (g : PrimePower). g.prime) (among_one (prime_powers_lem m (test_prime m e)) h)))

-- ---- the end: no prime power is left

module _ {m : ℕ} {S : List ℕ} {n Q R : ℕ} {a lengths : List ℕ} (g : Gathered m S n Q R a lengths) (wide : 1 < m) (end : R ≤ 1) where
  all_covered : (f : PrimePower) → Among f (prime_powers m) → Covers S n Q a lengths f
  all_covered f h = go (g.each f h)
    where
      go : Among f (prime_powers R) ⊎ Covers S n Q a lengths f → Covers S n Q a lengths f
      go (inl k) = absurd (none_among (subst (Among f) (powers_none R end) k))
      go (inr c) = c

  same_q : Q ≡ m
  same_q = sym (mul-one Q) ∙ ap (λ (k : ℕ). Q * k) (let e : 1 ≡ R = omega (arith, g.more) in e) ∙ g.whole

  -- the last prime is the modulus exactly when that is a prime
  pub gathered_prime : (last : ℕ) → Last m Q last → eqb last m ≡ is_prime m
  gathered_prime last x = go (eqb last m) refl
    where
      w : (f : PrimePower) × Among f (prime_powers m) × (last ≡ f.prime)
      w = x.among (omega (arith, same_q))

      go : (t : Bool) → eqb last m ≡ t → t ≡ is_prime m
      go true e = sym (own_prime m w.0 wide w.1 (sym w.2 ∙ eqb-true last m e))
      go false e = sym (other_prime m w.0 w.1 (λ d. let same : true ≡ false = sym (eq-eqb last m (w.2 ∙ d)) ∙ e in (cc)))

  pub gathered_a : a ≡ tabulate max_cells (at (register m S n).a)
  gathered_a =
      is_tabulate max_cells (at (register m S n).a) zero a g.long_a
      (λ i h. is_register_a m wide S n i (at a i) (omega (arith, g.below i h, same_q)) (λ f k. (all_covered f k).cells i h))

  length_of : (k : ℕ) → k ≤ n → at lengths k ≡ complexity m S k
  length_of k h = le_antisymm (g.most k h) (complexity_least m wide S k (at lengths k) (λ f j. (all_covered f j).sizes k h))

  pub gathered_lengths : lengths ≡ tabulate max_cells (length_at m S n)
  unfolding length_at
  gathered_lengths = is_tabulate max_cells (length_at m S n) zero lengths g.long_lengths (λ k h. go k h (dec_le k n))
    where
      go : (k : ℕ) → k < max_cells → Dec (k ≤ n) → at lengths k ≡ length_at m S n k
      go k h (yes l) = rw (le-leb k n l, length_at) (length_of k l)
      go k h (no l) = rw (lt-leb k n (omega arith), length_at) (g.past k (omega arith) h)

-- ---- the whole register

module _ (m : ℕ) (S : List ℕ) (n : ℕ) (a lengths : List ℕ) (wide : 1 < m) (few : n ≤ max_terms)
    (ha : a ≡ tabulate max_cells (at (register m S n).a)) (hl : lengths ≡ tabulate max_cells (length_at m S n)) where
  cell_a : (i : ℕ) → i < max_cells → at a i ≡ at (register m S n).a i
  cell_a i h = ap (λ (x : List ℕ). at x i) ha ∙ at_tabulate max_cells (at (register m S n).a) i h

  pub a_below : (i : ℕ) → i < max_cells → at a i < m
  a_below i h = omega (arith, cell_a i h, (register_right m wide S n).small_a i)

  pub length_is : at lengths n ≡ (register m S n).length
  unfolding length_at
  length_is =
      ap (λ (x : List ℕ). at x n) hl ∙ at_tabulate max_cells (length_at m S n) n (omega arith)
      ∙ rw (le-leb n n (le_refl n), length_at) (sym (register_length m wide S n))

  pub complexity_is : at lengths n ≡ complexity m S n
  complexity_is = length_is ∙ register_length m wide S n

  pub length_most : at lengths n ≤ n
  length_most = omega (arith, length_is, (register_right m wide S n).short)

  b_is : (b : List ℕ) → Starts S a (at lengths n) m b → b ≡ tabulate max_terms (at (register m S n).b)
  b_is b s = is_tabulate max_terms (at (register m S n).b) zero b s.long (λ i h. go i h (dec_lt i (at lengths n)))
    where
      R : Right m S n (register m S n)
      R = register_right m wide S n

      go : (i : ℕ) → i < max_terms → Dec (i < at lengths n) → at b i ≡ at (register m S n).b i
      go i h (yes l) =
          s.below i l
          ∙ (conv_cong {q = m} (at S) (at S) (at a) (at (register m S n).a) i (λ j k. rfl) (λ j k. of_eq (cell_a j (omega arith)))).same
          ∙ same_below (mod-lt _ (omega arith)) (R.small_b i) (tr (modulo _) (R.generates i (omega (arith, length_most))))
      go i h (no l) = s.above i (omega arith) ∙ sym (R.past_b i (omega (arith, length_is)))

  pub synthesis_is : (b : List ℕ) (prime : Bool) → Starts S a (at lengths n) m b → prime ≡ is_prime m
      → ◌≡◌ {A = Synthesis} (record { length = at lengths n; a = a; b = b; lengths = lengths; prime = prime }) (synthesis_of m S n)
  unfolding synthesis_of
  synthesis_is b prime s hp =
      ap₂ (λ (l : ℕ) (x : List ℕ). record { length = l; a = x; b = b; lengths = lengths; prime = prime }) length_is ha
      ∙ ap₂ (λ (x y : List ℕ). record { length = (register m S n).length; a = tabulate max_cells (at (register m S n).a); b = x; lengths = y; prime = prime }) (b_is b s) hl
      ∙ ap (λ (t : Bool). record { length = (register m S n).length; a = tabulate max_cells (at (register m S n).a); b = tabulate max_terms (at (register m S n).b); lengths = tabulate max_cells (length_at m S n); prime = t }) hp
