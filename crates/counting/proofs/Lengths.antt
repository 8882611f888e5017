-- How many sequences have each length: all together m^n, and one has length 0; modulo a prime, the recurrence from n to n + 1 and the formula.
-- Assumes nothing.
use mathlib.Core.Path.{◌≡◌, refl, sym, ap, ap₂, ◌∙◌}
use mathlib.Core.Logic.{◌⊎◌, inl, inr}
use mathlib.Core.List.{List, [], ◌∷◌, ◌++◌}
use Prim.Native.Nat.{ℕ, zero, suc, ◌+◌, ◌*◌, ◌-◌, ◌^◌, ◌≤◌, ◌<◌, min, max}
use native.Mathlib.Nat.{zero-div, zero-mod, one-le-pow, pow-suc, pow-zero, pow-succ', mul_left_comm}
use native.Mathlib.Decide.{ℕ_discrete, dec_le}
use native.Mathlib.Omega.{arith}
use lib.ListN.{length}
use Rattle.lists.specs.Table.{at}
use Rattle.lists.specs.Sum.{sum_to}
use Rattle.lists.proofs.Search.{lt_or_le}
use Rattle.lists.proofs.Table.{at_past, length_snoc, at_front, at_last}
use Rattle.lists.proofs.Sum.{sum_to_eq, sum_to_ones, sum_to_zeros, sum_to_single, sum_to_swap, sum_to_add, sum_to_times, sum_to_rows, sum_to_but_one}
use Rattle.residue.specs.Units.{Prime}
use Rattle.residue.proofs.Congruence.{of_eq, tr, same_below}
use Rattle.recurrence.specs.Least.{Least}
use Rattle.recurrence.specs.Register.{complexity}
use Rattle.recurrence.proofs.Length.{least_unique}
use Rattle.recurrence.proofs.Register.{complexity_short, complexity_is_least}
use Rattle.counting.specs.Numbering.{list_at, count_below}
use Rattle.counting.specs.Lengths.{with_length}
use Rattle.counting.proofs.Counts.{mark, mark_same, mark_other, mark_iff}
use Rattle.counting.proofs.Numbering.{list_at_length, list_at_below, list_at_inj, list_at_more}
use Rattle.counting.proofs.Next.{fitting, fitting_below, next_fits, next_fails}

-- ---- every modulus

module _ (m : ℕ) (big : 1 < m) (n : ℕ) where
  -- no sequence is longer than it has terms
  pub lengths_past : (l : ℕ) → n < l → with_length m n l ≡ zero
  unfolding with_length count_below
  lengths_past l h = sum_to_zeros (m ^ n) _ (λ x k. mark_other (complexity m (list_at m n x) n) l (λ e. omega (arith, complexity_short m big (list_at m n x) n)))

  -- the cells add up to the number of sequences
  pub lengths_whole : sum_to (suc n) (with_length m n) ≡ m ^ n
  unfolding with_length count_below
  lengths_whole =
      sum_to_swap (suc n) (m ^ n) (λ l x. mark (complexity m (list_at m n x) n) l)
      ∙ sum_to_eq (m ^ n) _ (λ x. 1) (λ x k. one (complexity m (list_at m n x) n) (complexity_short m big (list_at m n x) n))
      ∙ sum_to_ones (m ^ n)
    where
      one : (k : ℕ) → k ≤ n → sum_to (suc n) (λ l. mark k l) ≡ 1
      one k h =
          sum_to_single (suc n) k (λ l. mark k l) (omega arith) (λ l b ne. mark_other k l (λ e. ne (sym e)))
          ∙ mark_same k k refl

  pos : zero < m
  pos = omega arith

  -- number 0 is that of zeros
  zeros : (k i : ℕ) → at (list_at m k zero) i ≡ zero
  unfolding list_at
  zeros zero i = refl
  zeros (suc k) i =
      ap (λ (ts : List ℕ). at ts i) (ap₂ (λ (y s : ℕ). list_at m k y ++ (s ∷ [])) (zero-div m) (zero-mod m)) ∙ go (lt_or_le i k) (zeros k i)
    where
      go : (i < k) ⊎ (k ≤ i) → at (list_at m k zero) i ≡ zero → at (list_at m k zero ++ (zero ∷ [])) i ≡ zero
      go (inl h) ih = at_front (list_at m k zero) zero i (omega (arith, list_at_length m k zero)) ∙ ih
      go (inr h) ih = last (ℕ_discrete i k)
        where
          last : Dec (i ≡ k) → at (list_at m k zero ++ (zero ∷ [])) i ≡ zero
          last (yes e) = at_last (list_at m k zero) zero i (list_at_length m k zero ∙ sym e)
          last (no e) =
              at_past (list_at m k zero ++ (zero ∷ [])) i (omega (arith, length_snoc (list_at m k zero) zero, list_at_length m k zero))

  -- one sequence has length 0: that of zeros
  pub lengths_none : with_length m n zero ≡ 1
  unfolding with_length count_below sum_to
  lengths_none =
      sum_to_single (m ^ n) zero (λ x. mark (complexity m (list_at m n x) n) zero) (omega (arith, one-le-pow n m pos))
      (λ x h ne. mark_other (complexity m (list_at m n x) n) zero (λ e. ne (list_at_inj m pos n x zero h (omega (arith, one-le-pow n m pos)) (λ i k. terms x e i k ∙ sym (zeros n i)))))
      ∙ mark_same (complexity m (list_at m n zero) n) zero
      (least_unique m (at (list_at m n zero)) n (complexity m (list_at m n zero) n) zero (complexity_is_least m big (list_at m n zero) n) none)
    where
      -- no coefficients give zeros
      none : Least m (at (list_at m n zero)) n zero
      none =
          record {
            some = [];
            many = refl;
            small = λ i h. absurd (omega arith);
            gives = λ j h k. of_eq (zeros n j);
            least = λ cs h. omega arith;
          }

      -- and nothing else
      terms : (x : ℕ) → complexity m (list_at m n x) n ≡ zero → (i : ℕ) → i < n → at (list_at m n x) i ≡ zero
      terms x e i h =
          let l = complexity_is_least m big (list_at m n x) n in
          let short : length l.some ≡ zero = l.many ∙ e in
          same_below (list_at_below m pos n x i) pos
          (tr (l.gives i (omega arith) h) (of_eq (ap (λ (k : ℕ). sum_to k (λ j. at l.some j * at (list_at m n x) (i - suc j))) short)))

-- ---- a prime modulus c + 1

module _ (c : ℕ) (P : Prime (suc c)) where
  abbrev p : ℕ
  p = suc c

  abbrev length_of : ℕ → ℕ → ℕ
  length_of n x = complexity p (list_at p n x) n

  short : (n x : ℕ) → length_of n x ≤ n
  short n x = complexity_short p P.big (list_at p n x) n

  -- the length after a term that does not fit
  abbrev after : ℕ → ℕ → ℕ
  after n y = max (length_of n y) (suc n - length_of n y)

  inner : (n l y : ℕ) → sum_to p (λ s. mark (length_of (suc n) (y * p + s)) l) ≡ mark (length_of n y) l + c * mark (after n y) l
  inner n l y =
      omega (
        arith,
        sum_to_but_one p (fitting p P (list_at p n y) n (list_at_length p n y)) (mark (length_of n y) l) (mark (after n y) l)
            (λ s. mark (length_of (suc n) (y * p + s)) l) (fitting_below p P (list_at p n y) n (list_at_length p n y))
            (ap (λ (z : ℕ). mark z l) (step f (fitting_below p P (list_at p n y) n (list_at_length p n y)) ∙ next_fits p P (list_at p n y) n (list_at_length p n y) f refl))
            (λ s h ne. ap (λ (z : ℕ). mark z l) (step s h ∙ next_fails p P (list_at p n y) n (list_at_length p n y) s h ne)),
      )
    where
      f : ℕ
      f = fitting p P (list_at p n y) n (list_at_length p n y)

      step : (s : ℕ) → s < p → length_of (suc n) (y * p + s) ≡ complexity p (list_at p n y ++ (s ∷ [])) (suc n)
      step s h = ap (λ (ts : List ℕ). complexity p ts (suc n)) (list_at_more p n y s h)

  one_more : (n l : ℕ) → with_length p (suc n) l ≡ with_length p n l + c * sum_to (p ^ n) (λ y. mark (after n y) l)
  unfolding with_length count_below
  one_more n l =
      sum_to_rows (p ^ n) p (p ^ suc n) (λ x. mark (length_of (suc n) x) l) (pow-suc p n)
      ∙ sum_to_eq (p ^ n) _ (λ y. mark (length_of n y) l + c * mark (after n y) l) (λ y h. inner n l y)
      ∙ sum_to_add (p ^ n) (λ y. mark (length_of n y) l) (λ y. c * mark (after n y) l)
      ∙ ap (λ (z : ℕ). sum_to (p ^ n) (λ y. mark (length_of n y) l) + z) (sum_to_times (p ^ n) c (λ y. mark (after n y) l))

  -- the recurrence: 2l ≤ n, 2l = n + 1, and above
  lengths_low : (n l : ℕ) → l + l ≤ n → with_length p (suc n) l ≡ with_length p n l
  lengths_low n l h =
      one_more n l ∙ omega (arith, ap (λ (z : ℕ). c * z) (sum_to_zeros (p ^ n) (λ y. mark (after n y) l) (λ y k. mark_other (after n y) l (λ e. omega arith))))

  lengths_mid : (n l : ℕ) → l + l ≡ suc n → with_length p (suc n) l ≡ p * with_length p n l
  unfolding with_length count_below
  lengths_mid n l h =
      one_more n l
      ∙ omega (
        arith,
        ap (λ (z : ℕ). c * z) (sum_to_eq (p ^ n) (λ y. mark (after n y) l) (λ y. mark (length_of n y) l)
            (λ y k. mark_iff (after n y) l (length_of n y) l (λ e. omega arith) (λ e. omega arith))),
      )

  lengths_high : (n l k : ℕ) → suc (suc n) ≤ l + l → l + k ≡ suc n → with_length p (suc n) l ≡ p * with_length p n l + c * with_length p n k
  unfolding with_length count_below
  lengths_high n l k h e =
      one_more n l
      ∙ omega (
        arith,
        ap (λ (z : ℕ). c * z) (sum_to_eq (p ^ n) (λ y. mark (after n y) l) (λ y. mark (length_of n y) l + mark (length_of n y) k) (λ y z. same y)
            ∙ sum_to_add (p ^ n) (λ y. mark (length_of n y) l) (λ y. mark (length_of n y) k)),
      )
    where
      same : (y : ℕ) → mark (after n y) l ≡ mark (length_of n y) l + mark (length_of n y) k
      same y = go (dec_le (length_of n y + length_of n y) n)
        where
          go : Dec (length_of n y + length_of n y ≤ n) → mark (after n y) l ≡ mark (length_of n y) l + mark (length_of n y) k
          go (yes a) =
              mark_iff (after n y) l (length_of n y) k (λ x. omega (arith, short n y)) (λ x. omega (arith, short n y))
              ∙ omega (arith, mark_other (length_of n y) l (λ x. omega arith))
          go (no a) =
              mark_iff (after n y) l (length_of n y) l (λ x. omega arith) (λ x. omega arith)
              ∙ omega (arith, mark_other (length_of n y) k (λ x. omega arith))

  abbrev exponent : ℕ → ℕ → ℕ
  exponent n l = min (2 * n - 2 * l) (2 * l - 1)

  formula : (n l : ℕ) → 1 ≤ l → l ≤ n → with_length p n l ≡ c * p ^ exponent n l
  formula zero l h k = absurd (omega arith)
  formula (suc n) l h k = go (dec_le (l + l) n) (dec_le (l + l) (suc n)) (dec_le l n) (formula n)
    where
      power : (x y : ℕ) → x ≡ y → c * p ^ x ≡ c * p ^ y
      power x y e = ap (λ (z : ℕ). c * p ^ z) e

      next : (x y : ℕ) → y ≡ suc x → p * (c * p ^ x) ≡ c * p ^ y
      next x y e = mul_left_comm p c (p ^ x) ∙ ap (λ (z : ℕ). c * z) (sym (pow-succ' p x) ∙ ap (λ (z : ℕ). p ^ z) (sym e))

      go : Dec (l + l ≤ n) → Dec (l + l ≤ suc n) → Dec (l ≤ n) → ((l : ℕ) → 1 ≤ l → l ≤ n → with_length p n l ≡ c * p ^ exponent n l)
          → with_length p (suc n) l ≡ c * p ^ exponent (suc n) l
      go (yes a) d f ih = lengths_low n l a ∙ ih l h (omega arith) ∙ power (exponent n l) (exponent (suc n) l) (omega arith)
      go (no a) (yes b) f ih =
          lengths_mid n l (omega arith) ∙ ap (λ (z : ℕ). p * z) (ih l h (omega arith)) ∙ next (exponent n l) (exponent (suc n) l) (omega arith)
      go (no a) (no b) (yes f) ih =
          let i : ℕ = suc n - l in
          let x : ℕ = 2 * n - 2 * l in
          lengths_high n l i (omega arith) (omega arith)
          ∙ omega (
            arith,
            ap (λ (z : ℕ). p * z) (ih l h f ∙ power (exponent n l) x (omega arith)),
            next x (suc x) refl,
            ap (λ (z : ℕ). c * z) (ih i (omega arith) (omega arith) ∙ power (exponent n i) (suc x) (omega arith)),
            next (suc x) (suc (suc x)) refl,
          )
          ∙ power (suc (suc x)) (exponent (suc n) l) (omega arith)
      go (no a) (no b) (no f) ih =
          lengths_high n l zero (omega arith) (omega arith)
          ∙ omega (arith, ap (λ (z : ℕ). p * z) (lengths_past p P.big n l (omega arith)), ap (λ (z : ℕ). c * z) (lengths_none p P.big n))
          ∙ ap (λ (z : ℕ). c * z) (sym (pow-zero p)) ∙ power zero (exponent (suc n) l) (omega arith)

-- modulo a prime, (m - 1) m to the smaller of 2n - 2l and 2l - 1 sequences of n terms have length l from 1 to n
pub lengths_prime : (m : ℕ) → Prime m → (n l : ℕ) → 1 ≤ l → l ≤ n → with_length m n l ≡ (m - 1) * m ^ min (2 * n - 2 * l) (2 * l - 1)
lengths_prime zero P n l h k = absurd (omega (arith, P.big))
lengths_prime (suc c) P n l h k =
    formula c P n l h k ∙ ap (λ (z : ℕ). z * suc c ^ min (2 * n - 2 * l) (2 * l - 1)) (let e : c ≡ suc c - 1 = omega arith in e)
