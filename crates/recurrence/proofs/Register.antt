-- The joined register is right modulo every m: it starts with 1, generates every term, its L is its length, and that is the least length.
-- Assumes nothing.
use mathlib.Core.Path.{◌≡◌, refl, sym, ap, ap₂, ◌∙◌, subst}
use mathlib.Core.List.{List, ◌∷◌, map}
use Prim.Native.Nat.{ℕ, zero, suc, ◌%◌, ◌^◌, ◌≤◌, ◌<◌}
use native.Mathlib.Nat.{le_antisymm, mod-eq_of_lt, pow-zero}
use native.Mathlib.Omega.{arith}
use Rattle.lists.specs.Table.{at, largest}
use Rattle.lists.proofs.Table.{at_tabulate_all}
use Rattle.lists.proofs.Among.{Among, map_map, largest_most, largest_least}
use Rattle.residue.specs.Congruence.{Cong}
use Rattle.residue.specs.Units.{Prime}
use Rattle.residue.specs.Factors.{PrimePower, value, prime_powers}
use Rattle.residue.specs.Remainders.{joined}
use Rattle.residue.proofs.Congruence.{rfl, of_eq, sy, tr, same_below, cong_left, cong_right, q_pos}
use Rattle.residue.proofs.Factors.{Factored, one, more, factored, among_prime, among_exponent, among_cong}
use Rattle.residue.proofs.Remainders.{Leaves, rests, leaves_at, factored_joined, cong_factored}
use Rattle.recurrence.specs.Polynomial.{Pair, len, Generates}
use Rattle.recurrence.specs.Steps.{row_at}
use Rattle.recurrence.specs.Least.{Least}
use Rattle.recurrence.specs.Register.{Register, pair_of, Part, length_from, coefficient_from, register_from, part, parts, complexity, register}
use Rattle.recurrence.proofs.Pairs.{Deg, conv_cong}
use Rattle.recurrence.proofs.Polynomial.{Reduced, len_deg, len_least}
use Rattle.recurrence.proofs.Steps.{Alike, row_same}
use Rattle.recurrence.proofs.Length.{least_of_pair}
use Rattle.recurrence.proofs.Theorem.{shortest, reduced, length_le, lead, past_a, past_b}

-- a coefficient of the joined register
unfoldable pub coefficient : ℕ → List ℕ → ℕ → (Pair → List ℕ) → ℕ → ℕ
coefficient m S n side i = coefficient_from m (parts m S n) side i

-- what is right of a register for the first n terms of S modulo m
pub record Right (m : ℕ) (S : List ℕ) (n : ℕ) (x : Register) : Type 0 where
  pub one : at x.a zero ≡ 1
  pub small_a : Reduced m x.a
  pub small_b : Reduced m x.b
  pub past_a : (i : ℕ) → x.length < i → at x.a i ≡ zero
  pub past_b : (i : ℕ) → x.length ≤ i → at x.b i ≡ zero
  pub generates : Generates m S n (pair_of x)
  pub length_is : len (pair_of x) ≡ x.length
  pub short : x.length ≤ n
  pub least : Least m (at S) n x.length

module _ (m : ℕ) (big : 1 < m) (S : List ℕ) (n : ℕ) where
  fs : List PrimePower
  fs = prime_powers m

  F : Factored m fs
  unfolding fs
  F = factored m (omega arith)

  -- row 0 after n steps at a prime power
  abbrev pub row_of : PrimePower → Pair
  row_of f = row_at f.prime f.exponent S zero n

  -- ---- the length

  pub complexity_largest : complexity m S n ≡ largest (map (λ f. len (row_of f)) (prime_powers m))
  unfolding complexity parts part
  complexity_largest = ap largest (map_map (λ t. len t.pair) (part m S n) (prime_powers m))

  pub complexity_most : {f : PrimePower} → Among f (prime_powers m) → len (row_of f) ≤ complexity m S n
  complexity_most h = omega (arith, complexity_largest, largest_most (λ f. len (row_of f)) h)

  pub complexity_least : (l : ℕ) → ((f : PrimePower) → Among f (prime_powers m) → len (row_of f) ≤ l) → complexity m S n ≤ l
  complexity_least l h = omega (arith, complexity_largest, largest_least (λ f. len (row_of f)) l (prime_powers m) h)

  pub complexity_short : complexity m S n ≤ n
  unfolding fs
  complexity_short =
      complexity_least n (λ f h. length_le f.prime f.exponent (among_prime F h) (among_exponent F h) S zero n (among_exponent F h))

  -- ---- the coefficients: side is a or b

  module _ (side : Pair → List ℕ) (small : (p e : ℕ) → Prime p → zero < e → Reduced (p ^ e) (side (row_at p e S zero n))) (i : ℕ) where
    abbrev pub rest_of : PrimePower → ℕ
    rest_of f = at (side (row_of f)) i

    pub coefficient_joined : coefficient m S n side i ≡ joined m (rests rest_of (prime_powers m))
    unfolding coefficient parts part
    coefficient_joined = ap (joined m) (map_map (λ t. record { modulus = t.modulus; rest = at (side t.pair) i }) (part m S n) (prime_powers m))

    found : (joined m (rests rest_of (prime_powers m)) < m) × Leaves (joined m (rests rest_of (prime_powers m))) (rests rest_of (prime_powers m))
    unfolding fs
    found = factored_joined rest_of F (λ f P e. small f.prime f.exponent P e i)

    pub coefficient_lt : coefficient m S n side i < m
    coefficient_lt = rw coefficient_joined found.0

    pub coefficient_at : {f : PrimePower} → Among f (prime_powers m) → Cong (value f) (coefficient m S n side i) (at (side (row_of f)) i)
    unfolding fs
    coefficient_at {f} h =
        record {
          same =
              ap (λ (x : ℕ). x % value f) coefficient_joined ∙ leaves_at rest_of _ h found.1
              ∙ sym (mod-eq_of_lt (small f.prime f.exponent (among_prime F h) (among_exponent F h) i));
        }

    -- the one number below m with the right remainders
    pub is_coefficient : (x : ℕ) → x < m → ((f : PrimePower) → Among f (prime_powers m) → Cong (value f) x (at (side (row_of f)) i)) → x ≡ coefficient m S n side i
    unfolding fs
    is_coefficient x h each = same_below h coefficient_lt (cong_factored x _ F (λ f k. tr (each f k) (sy (coefficient_at k))))

  small_a : (p e : ℕ) → Prime p → zero < e → Reduced (p ^ e) (row_at p e S zero n).a
  small_a p e P pos = (reduced p e P pos S zero n pos).0

  small_b : (p e : ℕ) → Prime p → zero < e → Reduced (p ^ e) (row_at p e S zero n).b
  small_b p e P pos = (reduced p e P pos S zero n pos).1

  abbrev pub a_of_lem : ℕ → ℕ
  a_of_lem = coefficient m S n (λ w. w.a)

  abbrev pub b_of_lem : ℕ → ℕ
  b_of_lem = coefficient m S n (λ w. w.b)

  a_zero : (i : ℕ) → complexity m S n < i → a_of_lem i ≡ zero
  unfolding fs
  a_zero i h =
      sym (is_coefficient (λ w. w.a) small_a i zero (omega arith)
      (λ f k. of_eq (sym (past_a f.prime f.exponent (among_prime F k) (among_exponent F k) S zero n i (among_exponent F k) (omega (arith, complexity_most k))))))

  b_zero : (i : ℕ) → complexity m S n ≤ i → b_of_lem i ≡ zero
  unfolding fs
  b_zero i h =
      sym (is_coefficient (λ w. w.b) small_b i zero (omega arith)
      (λ f k. of_eq (sym (past_b f.prime f.exponent (among_prime F k) (among_exponent F k) S zero n i (among_exponent F k) (omega (arith, complexity_most k))))))

  -- the register's lists hold these coefficients at every place
  pub register_a : (i : ℕ) → at (register m S n).a i ≡ a_of_lem i
  unfolding register complexity coefficient
  register_a i = at_tabulate_all (suc (complexity m S n)) a_of_lem a_zero i

  pub register_b : (i : ℕ) → at (register m S n).b i ≡ b_of_lem i
  unfolding register complexity coefficient
  register_b i = at_tabulate_all (complexity m S n) b_of_lem b_zero i

  -- the register's a is found cell by cell, from the remainders at the prime powers
  pub is_register_a : (i x : ℕ) → x < m → ((f : PrimePower) → Among f (prime_powers m) → Cong (value f) x (at (row_of f).a i))
      → x ≡ at (register m S n).a i
  is_register_a i x h each = is_coefficient (λ w. w.a) small_a i x h each ∙ sym (register_a i)

  pub register_length : (register m S n).length ≡ complexity m S n
  unfolding register complexity
  register_length = refl

  -- ---- the register is right

  reduced_a : Reduced m (register m S n).a
  reduced_a i = subst (λ (y : ℕ). y < m) (sym (register_a i)) (coefficient_lt (λ w. w.a) small_a i)

  reduced_b : Reduced m (register m S n).b
  reduced_b i = subst (λ (y : ℕ). y < m) (sym (register_b i)) (coefficient_lt (λ w. w.b) small_b i)

  -- at each prime power it is that row 0
  pub register_a_at : {f : PrimePower} → Among f (prime_powers m) → (i : ℕ) → Cong (value f) (at (register m S n).a i) (at (row_of f).a i)
  register_a_at h i = tr (of_eq (register_a i)) (coefficient_at (λ w. w.a) small_a i h)

  pub register_b_at : {f : PrimePower} → Among f (prime_powers m) → (i : ℕ) → Cong (value f) (at (register m S n).b i) (at (row_of f).b i)
  register_b_at h i = tr (of_eq (register_b i)) (coefficient_at (λ w. w.b) small_b i h)

  starts_with_one : at (register m S n).a zero ≡ 1
  unfolding fs
  starts_with_one =
      register_a zero
      ∙ sym (is_coefficient (λ w. w.a) small_a zero 1 big
      (λ f k. of_eq (sym (lead f.prime f.exponent (among_prime F k) (among_exponent F k) S zero n (among_exponent F k) ∙ pow-zero f.prime))))

  register_generates : Generates m S n (pair_of (register m S n))
  unfolding fs
  register_generates j h =
      cong_factored _ _ F
      (λ f k. tr (conv_cong (at S) (at S) _ (at (row_of f).a) j (λ i l. rfl) (λ i l. register_a_at k i))
      (tr ((shortest f.prime f.exponent (among_prime F k) (among_exponent F k) S zero n (among_exponent F k)).agree j h) (sy (register_b_at k j))))

  register_deg : Deg m (complexity m S n) (at (register m S n).a) (at (register m S n).b)
  register_deg = record { top_a = λ i h. of_eq (register_a i ∙ a_zero i h); top_b = λ i h. of_eq (register_b i ∙ b_zero i h) }

  -- a bound on its degrees bounds the length of each row 0
  rows_below : (l : ℕ) → Deg m l (at (register m S n).a) (at (register m S n).b) → complexity m S n ≤ l
  unfolding fs
  rows_below l d =
      complexity_least l
      (λ f k. len_least (value f) l (row_of f) (q_pos f.prime f.exponent (among_prime F k).big)
      (small_a f.prime f.exponent (among_prime F k) (among_exponent F k)) (small_b f.prime f.exponent (among_prime F k) (among_exponent F k))
      (record { top_a = λ i h. tr (sy (register_a_at k i)) (among_cong F k (d.top_a i h)); top_b = λ i h. tr (sy (register_b_at k i)) (among_cong F k (d.top_b i h)) }))

  register_len : len (pair_of (register m S n)) ≡ complexity m S n
  register_len =
      le_antisymm (len_least m (complexity m S n) (pair_of (register m S n)) (omega arith) reduced_a reduced_b register_deg)
      (rows_below (len (pair_of (register m S n))) (len_deg m (pair_of (register m S n))))

  -- the linear complexity is the least length
  pub complexity_is_least : Least m (at S) n (complexity m S n)
  unfolding fs
  complexity_is_least =
      least_of_pair m (omega arith) (at S) n (at (register m S n).a) (at (register m S n).b) (complexity m S n)
      (of_eq starts_with_one) register_generates register_deg
      (λ a b l one agree deg. complexity_least l
      (λ f k. (shortest f.prime f.exponent (among_prime F k) (among_exponent F k) S zero n (among_exponent F k)).least a b l
      (tr (among_cong F k one) (of_eq (sym (pow-zero f.prime)))) (λ j h. among_cong F k (agree j h))
      (record { top_a = λ i h. among_cong F k (deg.top_a i h); top_b = λ i h. among_cong F k (deg.top_b i h) })))

  pub register_right : Right m S n (register m S n)
  unfolding register complexity
  register_right =
      record {
        one = starts_with_one;
        small_a = reduced_a;
        small_b = reduced_b;
        past_a = λ i h. register_a i ∙ a_zero i h;
        past_b = λ i h. register_b i ∙ b_zero i h;
        generates = register_generates;
        length_is = register_len;
        short = complexity_short;
        least = complexity_is_least;
      }

-- ---- only the first n terms count, and these only modulo m

module _ (m : ℕ) (big : 1 < m) (S T : List ℕ) (n : ℕ) (alike : Alike m S T n) where
  parts_same : parts m S n ≡ parts m T n
  unfolding parts part
  parts_same = same (factored m (omega arith)) (λ j h. alike j h)
    where
      same : {k : ℕ} {gs : List PrimePower} → Factored k gs → Alike k S T n → map (part m S n) gs ≡ map (part m T n) gs
      same one h = refl
      same (more {rest = R} {f = f} P e c pos G) h =
          ap₂ (λ (y : Part) (ys : List Part). y ∷ ys)
          (ap (λ (w : Pair). record { modulus = value f; pair = w }) (row_same f.prime f.exponent S T zero n (λ j l. cong_left (value f) R (h j l))))
          (same G (λ j l. cong_right (value f) R (h j l)))

  pub complexity_same : complexity m S n ≡ complexity m T n
  unfolding complexity
  complexity_same = ap length_from parts_same

  pub register_same : register m S n ≡ register m T n
  unfolding register
  register_same = ap (register_from m) parts_same
