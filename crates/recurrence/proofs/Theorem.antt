-- Theorem 1 of Reeds and Sloane for the steps as they are defined: every row, after every step, is a shortest pair that generates
-- the terms so far; the length of row 0 is the least length; and the law by which lengths grow.
-- Assumes nothing.
use mathlib.Core.Path.{◌≡◌, refl, sym, ap, ◌∙◌, subst}
use mathlib.Core.Logic.{◌⊎◌, inl, inr}
use mathlib.Core.List.{List, [], ◌∷◌}
use Prim.Native.Nat.{ℕ, zero, suc, ◌+◌, ◌*◌, ◌-◌, ◌%◌, ◌^◌, ◌≤◌, ◌<◌}
use native.Mathlib.Nat.{le_refl, le_of_suc-le-suc, eq-or-lt_of_le, mod-lt, zero-mod, sub-zero, pow-zero}
use native.Mathlib.Decide.{dec_le, dec_lt}
use native.Mathlib.Omega.{arith}
use lib.Pow.{pow-add}
use Rattle.lists.specs.Table.{at}
use Rattle.residue.specs.Congruence.{Cong, neg}
use Rattle.residue.specs.Units.{Prime, inverse}
use Rattle.residue.specs.Valuation.{valuation, cofactor}
use Rattle.residue.proofs.Congruence.{rfl, of_eq, sy, tr, add, mul, modulo, self, add_neg, same_below, q_pos, pow_lt}
use Rattle.residue.proofs.Valuation.{valuation_le, cofactor_whole, cofactor_invertible, cofactor_inverse}
use Rattle.recurrence.specs.Polynomial.{conv, Pair, len}
use Rattle.recurrence.specs.Least.{Least}
use Rattle.recurrence.specs.Steps.{discrepancy, Older, multiplier, row_at, d_at, u_at, θ-at, L-at, older_at}
use Rattle.recurrence.proofs.Series.{shift}
use Rattle.recurrence.proofs.Pairs.{Deg}
use Rattle.recurrence.proofs.Trace.{Trace, Step, stay, fresh, old, Steps, Best, shortest_rows, grows, flat_law}
use Rattle.recurrence.proofs.Polynomial.{Reduced, at_combine, at_add, at_single, reduced_plus, reduced_times, reduced_up, reduced_single, len_deg, len_least}
use Rattle.recurrence.proofs.Steps.{g_at, row_start, next_stays, next_added, next_cancelled, older_kept, older_grown, entry}
use Rattle.recurrence.proofs.Length.{least_of_pair}

-- the multiplier is minus the multiple that it stands for
multiplier_cancels : (p e d : ℕ) (o : Older) → zero < p ^ e
    → Cong (p ^ e) (cofactor e p d * inverse (p ^ e) o.θ * p ^ (valuation e p d - o.u) + multiplier p e d o) zero
unfolding multiplier
multiplier_cancels p e d o pos = add_neg _ pos

module _ (p e : ℕ) (P : Prime p) (pos : zero < e) (S : List ℕ) where
  abbrev Row : ℕ → ℕ → Pair
  Row η k = row_at p e S η k

  abbrev Len : ℕ → ℕ → ℕ
  Len η k = L-at p e S η k

  pub qp : zero < p ^ e
  qp = q_pos p e P.big

  pub d_lt : (η k : ℕ) → d_at p e S η k < p ^ e
  unfolding discrepancy
  d_lt η k = mod-lt _ qp

  pub u_le : (η k : ℕ) → u_at p e S η k ≤ e
  u_le η k = valuation_le e p (d_at p e S η k)

  -- what step k does, as a choice of three
  data Kind (η k : ℕ) : Type 0 where
    one : e ≤ u_at p e S η k → Kind η k
    two : u_at p e S η k < e → Len (g_at p e S η k) k ≡ zero → Kind η k
    three : u_at p e S η k < e → zero < Len (g_at p e S η k) k → Kind η k

  kind : (η k : ℕ) → Kind η k
  kind η k = pick (dec_lt (u_at p e S η k) e) (dec_lt zero (Len (g_at p e S η k) k))
    where
      pick : Dec (u_at p e S η k < e) → Dec (zero < Len (g_at p e S η k) k) → Kind η k
      pick (yes h) (yes l) = three h l
      pick (yes h) (no l) = two h (omega arith)
      pick (no h) l = one (omega arith)

  -- ---- coefficients stay below p^e

  pub reduced : (η k : ℕ) → η < e → Reduced (p ^ e) (Row η k).a × Reduced (p ^ e) (Row η k).b
  reduced η zero h = rw (row_start p e S η h) (reduced_single (p ^ e) (p ^ η) qp (pow_lt p e P.big h), λ i. qp)
  reduced η (suc k) h = go (kind η k) (reduced η k h)
    where
      Good : Pair → Type 0
      Good w = Reduced (p ^ e) w.a × Reduced (p ^ e) w.b

      go : Kind η k → Good (Row η k) → Good (Row η (suc k))
      go (one l) r = rw (next_stays p e S η k h l) r
      go (two l z) r =
          rw (next_added p e S η k h l z)
          (r.0, reduced_plus _ qp _ _ r.1 (reduced_up _ k qp _ (reduced_single (p ^ e) (d_at p e S η k) qp (d_lt η k))))
      go (three l z) r =
          rw (next_cancelled p e S η k h l z)
          (reduced_plus _ qp _ _ r.0 (reduced_times _ _ qp _), reduced_plus _ qp _ _ r.1 (reduced_times _ _ qp _))

  -- ---- what a row remembers is of the last step at which its L grew

  pub record Saved (o : Older) (g k : ℕ) : Type 0 where
    pub earlier : o.r < k
    pub grew : Len g o.r < Len g (suc o.r)
    pub level : (j : ℕ) → o.r < j → j < k → Len g (suc j) ≤ Len g j
    pub same : o ≡ entry p e S g o.r

  pub start_length : (η : ℕ) → η < e → Len η zero ≡ zero
  start_length η h =
      rw (row_start p e S η h)
      (omega (arith, len_least (p ^ e) zero (record { a = p ^ η ∷ []; b = [] }) qp (reduced_single (p ^ e) (p ^ η) qp (pow_lt p e P.big h)) (λ i. qp) small))
    where
      past : (i : ℕ) → 1 ≤ i → Cong (p ^ e) (at (p ^ η ∷ []) i) zero
      past zero z = absurd (omega arith)
      past (suc i) z = rfl

      small : Deg (p ^ e) zero (at (p ^ η ∷ [])) (at [])
      small = record { top_a = past; top_b = λ i z. rfl }

  pub saved : (g k : ℕ) → g < e → (Len g k ≡ zero) ⊎ Saved (older_at p e S g k) g k
  saved g zero h = inl (start_length g h)
  saved g (suc k) h = go (dec_lt (Len g k) (Len g (suc k))) (saved g k h)
    where
      go : Dec (Len g k < Len g (suc k)) → (Len g k ≡ zero) ⊎ Saved (older_at p e S g k) g k
          → (Len g (suc k) ≡ zero) ⊎ Saved (older_at p e S g (suc k)) g (suc k)
      go (yes x) s =
          inr (subst (λ (o : Older). Saved o g (suc k)) (sym (older_grown p e S g k x))
          (record { earlier = le_refl (suc k); grew = x; level = λ j y z. absurd (omega arith); same = refl }))
      go (no x) (inl z) = inl (omega arith)
      go (no x) (inr s) =
          inr (subst (λ (o : Older). Saved o g (suc k)) (sym (older_kept p e S g k (omega arith)))
          (record { earlier = omega (arith, s.earlier); grew = s.grew; level = λ j y z. last j y (eq-or-lt_of_le (le_of_suc-le-suc z)); same = s.same }))
        where
          last : (j : ℕ) → (older_at p e S g k).r < j → (j ≡ k) ⊎ (j < k) → Len g (suc j) ≤ Len g j
          last j y (inl z) = subst (λ (i : ℕ). Len g (suc i) ≤ Len g i) (sym z) (omega arith)
          last j y (inr z) = s.level j y z

  -- ---- the steps obey the rule of `Trace`

  pub discrepancy_ok : (k : ℕ) (w : Pair) → Cong (p ^ e) (conv (at S) (at w.a) k) (at w.b k + discrepancy (p ^ e) S k w)
  unfolding discrepancy
  discrepancy_ok k w =
      let c = conv (at S) (at w.a) k in
      let b = at w.b k in
      sy (tr (add (rfl {a = b}) (modulo (c + neg (p ^ e) b)))
      (tr (of_eq (let z : b + (c + neg (p ^ e) b) ≡ c + (b + neg (p ^ e) b) = omega arith in z))
      (tr (add rfl (add_neg b qp)) (of_eq (omega arith)))))

  -- the multiple of the older discrepancy that meets the new one
  multiple_ok : (d θ u d' θ' u' : ℕ) → Cong (p ^ e) d (θ * p ^ u) → Cong (p ^ e) d' (θ' * p ^ u') → Cong (p ^ e) (θ' * inverse (p ^ e) θ') 1
      → u' ≤ u → Cong (p ^ e) (θ * inverse (p ^ e) θ' * p ^ (u - u') * d') d
  multiple_ok d θ u d' θ' u' hd hd' hi le =
      tr (mul (rfl {a = θ * i * p ^ (u - u')}) hd')
      (tr (of_eq (let z : θ * i * p ^ (u - u') * (θ' * p ^ u') ≡ θ' * i * (θ * (p ^ (u - u') * p ^ u')) = omega arith in z))
      (tr (mul hi (of_eq (ap (λ (x : ℕ). θ * x) (sym (pow-add p (u - u') u') ∙ ap (λ (x : ℕ). p ^ x) (let z : u - u' + u' ≡ u = omega arith in z)))))
      (tr (of_eq (let z : 1 * (θ * p ^ u) ≡ θ * p ^ u = omega arith in z)) (sy hd))))
    where
      i : ℕ
      i = inverse (p ^ e) θ'

  abbrev pub trace : Trace
  trace =
      record {
        a = λ η k. at (row_at p e S η k).a;
        b = λ η k. at (row_at p e S η k).b;
        L = λ η k. len (row_at p e S η k);
        d = λ η k. d_at p e S η k;
        u = λ η k. u_at p e S η k;
        θ = λ η k. θ-at p e S η k;
      }

  step_ok : (η k : ℕ) → η < e → Step p e trace η k
  step_ok η k h = go (kind η k)
    where
      w : Pair
      w = Row η k

      g : ℕ
      g = g_at p e S η k

      go : Kind η k → Step p e trace η k
      go (one l) =
          stay (omega (arith, u_le η k))
          (λ i. of_eq (ap (λ (v : Pair). at v.a i) (next_stays p e S η k h l)))
          (λ i. of_eq (ap (λ (v : Pair). at v.b i) (next_stays p e S η k h l)))
      go (two l z) =
          fresh l z
          (λ i. of_eq (ap (λ (v : Pair). at v.a i) (next_added p e S η k h l z)))
          (λ i. tr (of_eq (ap (λ (v : Pair). at v.b i) (next_added p e S η k h l z))) (at_add (p ^ e) (d_at p e S η k) k w.b i))
      go (three l z) = last (saved g k (omega arith))
        where
          last : (Len g k ≡ zero) ⊎ Saved (older_at p e S g k) g k → Step p e trace η k
          last (inl y) = absurd (omega arith)
          last (inr s) =
              old l r c n s.earlier s.grew s.level
              (λ le. tr (of_eq (ap (λ (o' : Older). θ-at p e S η k * inverse (p ^ e) o'.θ * p ^ (u_at p e S η k - o'.u) * d_at p e S h' r) s.same))
              (multiple_ok (d_at p e S η k) (θ-at p e S η k) (u_at p e S η k) (d_at p e S h' r) (θ-at p e S h' r) (u_at p e S h' r)
              (cofactor_whole p e P pos (d_at p e S η k) (d_lt η k)) (cofactor_whole p e P pos (d_at p e S h' r) (d_lt h' r))
              (cofactor_inverse p e P pos (d_at p e S h' r) (d_lt h' r)) le))
              cancels
              (λ i. tr (of_eq (ap (λ (v : Pair). at v.a i) (next_cancelled p e S η k h l z)))
              (tr (at_combine (p ^ e) n (k - r) w.a o.pair.a i)
              (of_eq (ap (λ (o' : Older). at w.a i + n * shift (k - r) (at o'.pair.a) i) s.same))))
              (λ i. tr (of_eq (ap (λ (v : Pair). at v.b i) (next_cancelled p e S η k h l z)))
              (tr (at_combine (p ^ e) n (k - r) w.b o.pair.b i)
              (of_eq (ap (λ (o' : Older). at w.b i + n * shift (k - r) (at o'.pair.b) i) s.same))))
            where
              o : Older
              o = older_at p e S g k

              r : ℕ
              r = o.r

              h' : ℕ
              h' = g_at p e S g r

              c : ℕ
              c = θ-at p e S η k * inverse (p ^ e) o.θ * p ^ (u_at p e S η k - o.u)

              n : ℕ
              n = multiplier p e (d_at p e S η k) o

              cancels : Cong (p ^ e) (c + n) zero
              cancels = multiplier_cancels p e (d_at p e S η k) o qp

  pub steps_ok : Steps p e (at S) trace
  steps_ok =
      record {
        start_a = λ η h i. of_eq (ap (λ (w : Pair). at w.a i) (row_start p e S η h) ∙ at_single (p ^ η) i);
        start_b = λ η h i. of_eq (ap (λ (w : Pair). at w.b i) (row_start p e S η h));
        length = λ η k h. len_deg (p ^ e) (Row η k);
        shortest = λ η k l h x. len_least (p ^ e) l (Row η k) qp (reduced η k h).0 (reduced η k h).1 x;
        disc = λ η k h. discrepancy_ok k (Row η k);
        parts = λ η k h. cofactor_whole p e P pos (d_at p e S η k) (d_lt η k);
        unit = λ η k h. cofactor_invertible p e P pos (d_at p e S η k) (d_lt η k);
        step = step_ok;
      }

  -- Theorem 1: every row is a shortest pair with a(0) = p^η that generates the first k terms, and its L is at most k
  pub shortest : (η k : ℕ) → η < e → Best p e (at S) trace η k
  shortest η k h = shortest_rows p e P.big (at S) trace steps_ok η k h

  -- L of row 0 after k steps is the least length for the first k terms
  pub least_length : (k : ℕ) → Least (p ^ e) (at S) k (len (row_at p e S zero k))
  least_length k =
      let x = shortest zero k pos in
      least_of_pair (p ^ e) qp (at S) k (at (Row zero k).a) (at (Row zero k).b) (len (Row zero k))
      (tr x.lead (of_eq (pow-zero p))) x.agree (steps_ok.length zero k pos)
      (λ a b m lead agree deg. x.least a b m (tr lead (of_eq (sym (pow-zero p)))) agree deg)

  -- ---- what a program that keeps only a and the lengths relies on

  pub length_le : (η k : ℕ) → η < e → L-at p e S η k ≤ k
  length_le η k h = (shortest η k h).low

  pub lead : (η k : ℕ) → η < e → at (row_at p e S η k).a zero ≡ p ^ η
  lead η k h = same_below ((reduced η k h).0 zero) (pow_lt p e P.big h) (shortest η k h).lead

  pub past_a : (η k i : ℕ) → η < e → L-at p e S η k < i → at (row_at p e S η k).a i ≡ zero
  past_a η k i h l = same_below ((reduced η k h).0 i) qp ((len_deg (p ^ e) (Row η k)).top_a i l)

  pub past_b : (η k i : ℕ) → η < e → L-at p e S η k ≤ i → at (row_at p e S η k).b i ≡ zero
  past_b η k i h l = same_below ((reduced η k h).1 i) qp ((len_deg (p ^ e) (Row η k)).top_b i l)

  -- b has no part in a discrepancy: its coefficient k is 0
  pub d_of_a : (η k : ℕ) → η < e → d_at p e S η k ≡ conv (at S) (at (row_at p e S η k).a) k % p ^ e
  unfolding discrepancy neg
  d_of_a η k h =
      ap (λ (x : ℕ). (c + (p ^ e - x % p ^ e)) % p ^ e) (past_b η k k h (length_le η k h))
      ∙ ap (λ (x : ℕ). (c + (p ^ e - x)) % p ^ e) (zero-mod (p ^ e))
      ∙ ap (λ (x : ℕ). (c + x) % p ^ e) (sub-zero (p ^ e))
      ∙ (tr (add (rfl {a = c}) (self {q = p ^ e})) (of_eq (let z : c + zero ≡ c = omega arith in z))).same
    where
      c : ℕ
      c = conv (at S) (at (row_at p e S η k).a) k

  -- the law of lengths: a row with u = e keeps its L; any other has the larger of its L and k + 1 less L of row g
  pub length_stays : (η k : ℕ) → η < e → e ≤ u_at p e S η k → L-at p e S η (suc k) ≡ L-at p e S η k
  length_stays η k h l = ap len (next_stays p e S η k h l)

  pub length_kept : (η k : ℕ) → η < e → k < L-at p e S η k + L-at p e S (g_at p e S η k) k → L-at p e S η (suc k) ≡ L-at p e S η k
  length_kept η k h l = flat_law p e P.big (at S) trace steps_ok η k h l

  pub length_grows : (η k : ℕ) → η < e → u_at p e S η k < e → L-at p e S η k + L-at p e S (g_at p e S η k) k ≤ k
      → (L-at p e S η (suc k) + L-at p e S (g_at p e S η k) k ≡ suc k) × (η + u_at p e S (g_at p e S η k) k < e)
  length_grows η k h l s = grows p e P.big (at S) trace steps_ok η k h l s

  -- L never shrinks
  pub length_mono : (η k : ℕ) → η < e → L-at p e S η k ≤ L-at p e S η (suc k)
  length_mono η k h = go (dec_lt (u_at p e S η k) e) (dec_le (L-at p e S η k + L-at p e S (g_at p e S η k) k) k)
    where
      go : Dec (u_at p e S η k < e) → Dec (L-at p e S η k + L-at p e S (g_at p e S η k) k ≤ k) → L-at p e S η k ≤ L-at p e S η (suc k)
      go (no u) d = omega (arith, length_stays η k h (omega arith))
      go (yes u) (no d) = omega (arith, length_kept η k h (omega arith))
      go (yes u) (yes d) = omega (arith, (length_grows η k h u d).0)
