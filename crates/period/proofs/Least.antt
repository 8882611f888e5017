-- The length found by halving is the least length of two whole periods, and of any more terms.
-- Assumes nothing.
use mathlib.Core.Path.{◌≡◌, sym, ap, ◌∙◌}
use mathlib.Core.Logic.{inl, inr}
use mathlib.Core.List.{List}
use Prim.Native.Nat.{ℕ, zero, suc, ◌+◌, ◌-◌, ◌%◌, ◌^◌, ◌≤◌, ◌<◌}
use native.Mathlib.Nat.{mod-eq_of_lt, add-mod_left}
use native.Mathlib.Decide.{dec_lt, dec_le}
use native.Mathlib.Omega.{arith}
use lib.ListN.{length}
use Rattle.lists.specs.Table.{at}
use Rattle.lists.proofs.Table.{at_past}
use Rattle.residue.specs.Congruence.{Cong}
use Rattle.residue.proofs.Congruence.{rfl, of_eq, sy, tr, zero_add_zero}
use Rattle.recurrence.specs.Polynomial.{conv}
use Rattle.recurrence.specs.Least.{Least}
use Rattle.recurrence.proofs.Series.{shift, const, conv_comm, conv_one, shift_below, shift_from}
use Rattle.recurrence.proofs.Pairs.{Deg, Agree, conv_cong, vanish}
use Rattle.recurrence.proofs.Length.{least_same, least_of_pair}
use Rattle.period.specs.Halving.{halving, Binary}
use Rattle.period.proofs.Powers.{Δs, one_plus, Δs-cong, Δs-below, Δs-Δs, Δs-vanish, Δs-zero, Δs-first, Δs-conv, Δs-inj, const_vanish, twice, power_two, descent}
use Rattle.period.proofs.Halving.{Result, shape}

-- the sequence with the period s
abbrev pub repeated : ℕ → List ℕ → ℕ → ℕ
repeated w s i = at s (i % 2 ^ w)

module _ (w : ℕ) (s : List ℕ) (size : length s ≡ 2 ^ w) (bits : Binary (2 ^ w) s) where
  abbrev N : ℕ
  N = 2 ^ w

  abbrev S : ℕ → ℕ
  S = repeated w s

  -- (1 + x^N) S = s
  killed : (i : ℕ) → Cong 2 (Δs N S i) (at s i)
  killed i = tr (power_two w S i) (go (dec_lt i N))
    where
      go : Dec (i < N) → Cong 2 (S i + shift N S i) (at s i)
      go (yes l) = of_eq (omega (arith, ap (at s) (mod-eq_of_lt l), shift_below N S i l))
      go (no l) =
          let g : N ≤ i = omega arith in
          let same : S (i - N) ≡ S i = ap (at s) (sym (add-mod_left N (i - N)) ∙ ap (λ (z : ℕ). z % N) (let e : N + (i - N) ≡ i = omega arith in e)) in
          tr (of_eq (let e : S i + shift N S i ≡ S i + S i = omega (arith, shift_from N S i g) in e))
          (tr (twice (S i)) (of_eq (sym (at_past s i (omega (arith, size))))))

  -- a pair with that length generates every term
  upper_a : (c : ℕ) → Result N s c → ℕ → ℕ
  upper_a c (inl z) = const 1
  upper_a c (inr R) = Δs c (const 1)

  upper_b : (c : ℕ) → Result N s c → ℕ → ℕ
  upper_b c (inl z) = λ i. zero
  upper_b c (inr R) = one_plus R.τ

  upper_lead : (c : ℕ) (r : Result N s c) → Cong 2 (upper_a c r zero) 1
  unfolding upper_a const
  upper_lead c (inl z) = rfl
  upper_lead c (inr R) = of_eq (Δs-first c (const 1))

  upper_agree : (c : ℕ) (r : Result N s c) (k : ℕ) → Agree 2 S k (upper_a c r) (upper_b c r)
  unfolding upper_a upper_b
  upper_agree c (inl z) k j l =
      tr (of_eq (conv_comm S (const 1) j ∙ conv_one S j))
      (Δs-inj {q = 2} (omega arith) N S (λ i. zero) (λ i. tr (killed i) (tr (z.0 i) (of_eq (sym (Δs-zero N i))))) j)
  upper_agree c (inr R) k j l =
      tr (of_eq (conv_comm S (Δs c (const 1)) j ∙ Δs-conv c (const 1) S j))
      (tr (Δs-cong c (conv (const 1) S) S (λ i. of_eq (conv_one S i)) j)
      (Δs-inj {q = 2} (omega arith) R.v (Δs c S) (one_plus R.τ)
      (λ i. tr (of_eq (sym (Δs-Δs R.v c N S i (omega (arith, R.size))))) (tr (killed i) (R.form i))) j))

  upper_deg : (c : ℕ) (r : Result N s c) → Deg 2 c (upper_a c r) (upper_b c r)
  unfolding upper_a upper_b
  upper_deg c (inl z) = record { top_a = λ i h. const_vanish 1 (suc c) (omega arith) i h; top_b = λ i h. rfl }
  upper_deg c (inr R) =
      record {
        top_a = λ i h. Δs-vanish c (const 1) 1 (const_vanish 1 1 (omega arith)) i (omega arith);
        top_b = λ i h. zero_add_zero (Δs-vanish 1 R.τ R.γ R.short i (omega (arith, R.positive))) (const_vanish 1 c (omega (arith, R.positive)) i h);
      }

  -- no shorter one generates two whole periods
  lower : (c k : ℕ) → N + N ≤ k → Result N s c → (a b : ℕ → ℕ) (l : ℕ) → Cong 2 (a zero) 1 → Agree 2 S k a b → Deg 2 l a b → c ≤ l
  lower c k enough (inl z) a b l lead agree deg = omega (arith, z.1)
  lower c k enough (inr R) a b l lead agree deg = go (dec_le N l)
    where
      go : Dec (N ≤ l) → c ≤ l
      go (yes h) = omega (arith, R.size)
      go (no h) = descent R.τ R.γ R.short b l deg.top_b c a l lead deg.top_a whole
        where
          product : (i : ℕ) → Dec (i < N + N) → Cong 2 (conv (at s) a i) (Δs N b i)
          product i (yes p) =
              tr (conv_cong (at s) (Δs N S) a a i (λ j q. sy (killed j)) (λ j q. rfl))
              (tr (of_eq (Δs-conv N S a i)) (Δs-below N (conv S a) b (N + N) (λ j q. agree j (omega arith)) i p))
          product i (no p) =
              tr (vanish (at s) a N (suc l) i (λ j q. of_eq (at_past s j (omega (arith, size)))) deg.top_a (omega arith))
              (sy (Δs-vanish N b l deg.top_b i (omega arith)))

          whole : (i : ℕ) → Cong 2 (conv (one_plus R.τ) a i) (Δs c b i)
          whole =
              Δs-inj {q = 2} (omega arith) R.v (conv (one_plus R.τ) a) (Δs c b)
              (λ i. tr (of_eq (sym (Δs-conv R.v (one_plus R.τ) a i)))
              (tr (conv_cong (Δs R.v (one_plus R.τ)) (at s) a a i (λ j q. sy (R.form j)) (λ j q. rfl))
              (tr (product i (dec_lt i (N + N))) (of_eq (Δs-Δs R.v c N b i (omega (arith, R.size)))))))

  -- the halving gives the least length, for two periods and for any more terms
  pub halving_is_least : (k : ℕ) → N + N ≤ k → Least 2 S k (halving w s)
  halving_is_least k h =
      let r = shape w s size bits in
      least_of_pair 2 (omega arith) S k (upper_a (halving w s) r) (upper_b (halving w s) r) (halving w s) (upper_lead (halving w s) r) (upper_agree (halving w s) r k)
      (upper_deg (halving w s) r) (lower (halving w s) k h r)

-- so it is for any terms that repeat the period
pub least_repeated : (w : ℕ) (s : List ℕ) → length s ≡ 2 ^ w → Binary (2 ^ w) s → (T : ℕ → ℕ) (k : ℕ) → 2 ^ w + 2 ^ w ≤ k
    → ((j : ℕ) → j < k → T j ≡ at s (j % 2 ^ w)) → Least 2 T k (halving w s)
least_repeated w s size bits T k enough same =
    least_same 2 (repeated w s) T k (halving w s) (λ j h. of_eq (sym (same j h))) (halving_is_least w s size bits k enough)
