-- The steps at a prime power p ^ e, as a trace: for each row and each step the pair, its length, its discrepancy and the
-- discrepancy's parts. Whatever trace obeys the rule of the steps has in each row the shortest pair (Reeds and Sloane, section 4).
-- Assumes nothing.
use mathlib.Core.Path.{◌≡◌, refl, sym, ap, ◌∙◌, subst}
use mathlib.Core.Logic.{◌⊎◌, inl, inr}
use Prim.Native.Nat.{ℕ, zero, suc, ◌+◌, ◌*◌, ◌-◌, ◌^◌, ◌≤◌, ◌<◌}
use native.Mathlib.Nat.{le_refl, le_of_lt, le_of_suc-le-suc, eq-or-lt_of_le}
use native.Mathlib.Decide.{dec_le, dec_lt}
use native.Mathlib.Omega.{arith}
use lib.Pow.{pow-add}
use Rattle.recurrence.specs.Polynomial.{conv}
use Rattle.recurrence.proofs.Series.{shift, const, conv_add_r, conv_mul_r, conv_shift_r, shift_below, shift_from}
use Rattle.residue.specs.Congruence.{Cong}
use Rattle.residue.proofs.Congruence.{rfl, of_eq, sy, tr, add, mul, zero_l, zero_r, zero_add_zero, pow_zero_of_le, pow_not_zero, Invertible, unit_cancel}
use Rattle.recurrence.proofs.Pairs.{Deg, Agree, conv_cong, cross_short}

abbrev pub Same : ℕ → (ℕ → ℕ) → (ℕ → ℕ) → Type 0
Same q f g = (i : ℕ) → Cong q (f i) (g i)

-- row η before step k
pub record Trace : Type 0 where
  pub a : ℕ → ℕ → ℕ → ℕ
  pub b : ℕ → ℕ → ℕ → ℕ
  pub L : ℕ → ℕ → ℕ
  pub d : ℕ → ℕ → ℕ
  pub u : ℕ → ℕ → ℕ
  pub θ : ℕ → ℕ → ℕ

-- the row that answers row η at step k
abbrev pub other : ℕ → Trace → ℕ → ℕ → ℕ
other e t η k = e - 1 - t.u η k

-- what step k does to row η
pub data Step (p e : ℕ) (t : Trace) (η k : ℕ) : Type 0 where
  stay : t.u η k ≡ e → Same (p ^ e) (t.a η (suc k)) (t.a η k) → Same (p ^ e) (t.b η (suc k)) (t.b η k) → Step p e t η k
  fresh : t.u η k < e → t.L (other e t η k) k ≡ zero
      → Same (p ^ e) (t.a η (suc k)) (t.a η k)
      → Same (p ^ e) (t.b η (suc k)) (λ i. t.b η k i + shift k (const (t.d η k)) i) → Step p e t η k
  old : t.u η k < e → (r c n : ℕ) → r < k
      → t.L (other e t η k) r < t.L (other e t η k) (suc r)
      → ((j : ℕ) → r < j → j < k → t.L (other e t η k) (suc j) ≤ t.L (other e t η k) j)
      → (t.u (other e t (other e t η k) r) r ≤ t.u η k → Cong (p ^ e) (c * t.d (other e t (other e t η k) r) r) (t.d η k))
      → Cong (p ^ e) (c + n) zero
      → Same (p ^ e) (t.a η (suc k)) (λ i. t.a η k i + n * shift (k - r) (t.a (other e t (other e t η k) r) r) i)
      → Same (p ^ e) (t.b η (suc k)) (λ i. t.b η k i + n * shift (k - r) (t.b (other e t (other e t η k) r) r) i) → Step p e t η k

pub record Steps (p e : ℕ) (S : ℕ → ℕ) (t : Trace) : Type 0 where
  pub start_a : (η : ℕ) → η < e → Same (p ^ e) (t.a η zero) (const (p ^ η))
  pub start_b : (η : ℕ) → η < e → Same (p ^ e) (t.b η zero) (λ i. zero)
  pub length : (η k : ℕ) → η < e → Deg (p ^ e) (t.L η k) (t.a η k) (t.b η k)
  pub shortest : (η k l : ℕ) → η < e → Deg (p ^ e) l (t.a η k) (t.b η k) → t.L η k ≤ l
  pub disc : (η k : ℕ) → η < e → Cong (p ^ e) (conv S (t.a η k) k) (t.b η k k + t.d η k)
  pub parts : (η k : ℕ) → η < e → Cong (p ^ e) (t.d η k) (t.θ η k * p ^ t.u η k)
  pub unit : (η k : ℕ) → η < e → Invertible (p ^ e) (t.θ η k)
  pub step : (η k : ℕ) → η < e → Step p e t η k

-- row η grew at step r, by the rule, or kept its length
abbrev pub Grown : ℕ → Trace → ℕ → ℕ → Type 0
Grown e t η r =
    (t.L η (suc r) ≡ t.L η r)
    ⊎ ((t.L η r < t.L η (suc r)) × (η + t.u (other e t η r) r < e) × (t.L η (suc r) + t.L (other e t η r) r ≡ suc r))

-- row η before step k is a shortest pair with a(0) = p ^ η that agrees with S below k
pub record Best (p e : ℕ) (S : ℕ → ℕ) (t : Trace) (η k : ℕ) : Type 0 where
  pub lead : Cong (p ^ e) (t.a η k zero) (p ^ η)
  pub agree : Agree (p ^ e) S k (t.a η k) (t.b η k)
  pub low : t.L η k ≤ k
  pub least : (a b : ℕ → ℕ) (l : ℕ) → Cong (p ^ e) (a zero) (p ^ η) → Agree (p ^ e) S k a b → Deg (p ^ e) l a b → t.L η k ≤ l

-- ---- helpers

upto : {P : ℕ → Type 0} (k : ℕ) → ((j : ℕ) → j < k → P j) → P k → (j : ℕ) → j < suc k → P j
upto {P} k below at j h = pick (eq-or-lt_of_le (le_of_suc-le-suc h))
  where
    pick : (j ≡ k) ⊎ (j < k) → P j
    pick (inl e) = subst P (sym e) at
    pick (inr l) = below j l

deg_mono : {q l m : ℕ} {a b : ℕ → ℕ} → l ≤ m → Deg q l a b → Deg q m a b
deg_mono h x = record { top_a = λ i k. x.top_a i (omega arith); top_b = λ i k. x.top_b i (omega arith) }

-- a congruence of shifted series, asked for only where they have started
pub shift_cong : {q : ℕ} (s : ℕ) (f g : ℕ → ℕ) (n : ℕ) → (s ≤ n → Cong q (f (n - s)) (g (n - s))) → Cong q (shift s f n) (shift s g n)
shift_cong {q} s f g n h = pick (dec_le s n)
  where
    pick : Dec (s ≤ n) → Cong q (shift s f n) (shift s g n)
    pick (yes k) = tr (of_eq (shift_from s f n k)) (tr (h k) (of_eq (sym (shift_from s g n k))))
    pick (no f') = tr (of_eq (shift_below s f n (omega arith))) (of_eq (sym (shift_below s g n (omega arith))))

pub shift_zero : {q : ℕ} (s : ℕ) (f : ℕ → ℕ) (n : ℕ) → (s ≤ n → Cong q (f (n - s)) zero) → Cong q (shift s f n) zero
shift_zero {q} s f n h = pick (dec_le s n)
  where
    pick : Dec (s ≤ n) → Cong q (shift s f n) zero
    pick (yes k) = tr (of_eq (shift_from s f n k)) (h k)
    pick (no f') = of_eq (shift_below s f n (omega arith))

-- ---- one step at one row: the new pair agrees one place further

conv_combo : (S a c : ℕ → ℕ) (n s j : ℕ) → conv S (λ i. a i + n * shift s c i) j ≡ conv S a j + n * shift s (conv S c) j
conv_combo S a c n s j =
    conv_add_r S a (λ i. n * shift s c i) j
    ∙ ap (λ (x : ℕ). conv S a j + x) (conv_mul_r n S (shift s c) j ∙ ap (λ (x : ℕ). n * x) (conv_shift_r s S c j))

module _ {q : ℕ} (S a b : ℕ → ℕ) (k d : ℕ) (ab : Agree q S k a b) (ak : Cong q (conv S a k) (b k + d)) where
  fresh_agree : Agree q S (suc k) a (λ i. b i + shift k (const d) i)
  unfolding const
  fresh_agree =
      upto k
      (λ j h. tr (ab j h) (of_eq (omega (arith, shift_below k (const d) j h))))
      (tr ak (of_eq (ap (λ (x : ℕ). b k + x) (sym (shift_from k (const d) k (le_refl k) ∙ ap (const d) (let z : k - k ≡ zero = omega arith in z))))))

  old_agree : (c d₀ : ℕ → ℕ) (r δ m n : ℕ) → r < k → Agree q S r c d₀ → Cong q (conv S c r) (d₀ r + δ)
      → Cong q (m * δ) d → Cong q (m + n) zero
      → Agree q S (suc k) (λ i. a i + n * shift (k - r) c i) (λ i. b i + n * shift (k - r) d₀ i)
  old_agree c d₀ r δ m n lt cd cr md mn =
      upto k
      (λ j h. tr (of_eq (conv_combo S a c n (k - r) j))
      (add (ab j h) (mul (rfl {a = n}) (shift_cong (k - r) (conv S c) d₀ j (λ l. cd (j - (k - r)) (omega arith))))))
      (tr (of_eq (conv_combo S a c n (k - r) k))
      (tr (add (tr ak (add rfl (sy md))) (mul (rfl {a = n}) sc))
      (tr (of_eq regroup)
      (tr (add (rfl {a = b k + n * d₀ r}) (zero_l δ mn))
      (tr (of_eq (let z : b k + n * d₀ r + zero ≡ b k + n * d₀ r = omega arith in z))
      (add rfl (mul rfl (sy sd))))))))
    where
      back : k - (k - r) ≡ r
      back = omega arith

      sc : Cong q (shift (k - r) (conv S c) k) (d₀ r + δ)
      sc = tr (of_eq (shift_from (k - r) (conv S c) k (omega arith) ∙ ap (conv S c) back)) cr

      sd : Cong q (shift (k - r) d₀ k) (d₀ r)
      sd = of_eq (shift_from (k - r) d₀ k (omega arith) ∙ ap d₀ back)

      regroup : b k + m * δ + n * (d₀ r + δ) ≡ b k + n * d₀ r + (m + n) * δ
      regroup = omega arith

fresh_deg : {q : ℕ} (a b : ℕ → ℕ) (k d l : ℕ) → Deg q l a b → k < l → Deg q l a (λ i. b i + shift k (const d) i)
unfolding const
fresh_deg {q} a b k d l x h =
    record {
      top_a = x.top_a;
      top_b = λ i m. zero_add_zero (x.top_b i m) (shift_zero k (const d) i (λ s. of_eq (past (i - k) (omega arith))));
    }
  where
    past : (j : ℕ) → zero < j → const d j ≡ zero
    past zero z = absurd (omega arith)
    past (suc j) z = refl

old_deg : {q : ℕ} (a b c d : ℕ → ℕ) (n s l m : ℕ) → Deg q l a b → Deg q m c d → m + s ≤ l
    → Deg q l (λ i. a i + n * shift s c i) (λ i. b i + n * shift s d i)
old_deg a b c d n s l m x y h =
    record {
      top_a = λ i k. zero_add_zero (x.top_a i k) (zero_r n (shift_zero s c i (λ z. y.top_a (i - s) (omega arith))));
      top_b = λ i k. zero_add_zero (x.top_b i k) (zero_r n (shift_zero s d i (λ z. y.top_b (i - s) (omega arith))));
    }

deg_same : {q l : ℕ} {a b a' b' : ℕ → ℕ} → Same q a' a → Same q b' b → Deg q l a b → Deg q l a' b'
deg_same ha hb x = record { top_a = λ i h. tr (ha i) (x.top_a i h); top_b = λ i h. tr (hb i) (x.top_b i h) }

agree_same : {q : ℕ} (S a b a' b' : ℕ → ℕ) (k : ℕ) → Same q a' a → Same q b' b → Agree q S k a b → Agree q S k a' b'
agree_same S a b a' b' k ha hb x j h = tr (conv_cong S S a' a j (λ i l. rfl) (λ i l. ha i)) (tr (x j h) (sy (hb j)))

-- ---- the invariant

module _ (p e : ℕ) (big : 1 < p) (S : ℕ → ℕ) (t : Trace) (run : Steps p e S t) where
  -- a multiple of the discrepancy of row η by a power of p
  scaled : (η k w x : ℕ) → η < e → Cong (p ^ e) x (p ^ w) → Cong (p ^ e) (x * t.d η k) (t.θ η k * p ^ (w + t.u η k))
  scaled η k w x h hx =
      tr (mul hx (run.parts η k h)) (of_eq (omega (arith, ap (λ (y : ℕ). t.θ η k * y) (pow-add p w (t.u η k)))))

  scaled_zero : (η k w x : ℕ) → η < e → Cong (p ^ e) x (p ^ w) → e ≤ w + t.u η k → Cong (p ^ e) (x * t.d η k) zero
  scaled_zero η k w x h hx l = tr (scaled η k w x h hx) (zero_r (t.θ η k) (pow_zero_of_le p e big l))

  scaled_nonzero : (η k w x : ℕ) → η < e → Cong (p ^ e) x (p ^ w) → w + t.u η k < e → ¬ Cong (p ^ e) (x * t.d η k) zero
  scaled_nonzero η k w x h hx l z = pow_not_zero p e big l (unit_cancel (run.unit η k h) (tr (sy (scaled η k w x h hx)) z))

  record New (η k : ℕ) : Type 0 where
    lead : Cong (p ^ e) (t.a η (suc k) zero) (p ^ η)
    agree : Agree (p ^ e) S (suc k) (t.a η (suc k)) (t.b η (suc k))
    deg : (t.u η k ≡ e → Deg (p ^ e) (t.L η k) (t.a η (suc k)) (t.b η (suc k)))
    deg' : t.u η k < e → (l : ℕ) → t.L η k ≤ l → suc k ≤ l + t.L (other e t η k) k → Deg (p ^ e) l (t.a η (suc k)) (t.b η (suc k))

  grew : (η r : ℕ) → Grown e t η r → t.L η r < t.L η (suc r)
      → (η + t.u (other e t η r) r < e) × (t.L η (suc r) + t.L (other e t η r) r ≡ suc r)
  grew η r (inl x) y = absurd (omega arith)
  grew η r (inr z) y = (z.1, z.2)

  -- from the last growth on a row keeps its length
  flat : (η r k : ℕ) → ((j : ℕ) → j < k → Grown e t η j) → ((j : ℕ) → r < j → j < k → t.L η (suc j) ≤ t.L η j)
      → r < k → t.L η (suc r) ≡ t.L η k
  flat η r zero grown last h = absurd (omega arith)
  flat η r (suc k) grown last h = pick (eq-or-lt_of_le (le_of_suc-le-suc h)) (λ l. flat η r k (λ j z. grown j (omega arith)) (λ j y z. last j y (omega arith)) l)
    where
      level : Grown e t η k → r < k → t.L η (suc k) ≡ t.L η k
      level (inl x) l = x
      level (inr z) l = absurd (omega (arith, z.0, last k l (le_refl (suc k))))

      pick : (r ≡ k) ⊎ (r < k) → (r < k → t.L η (suc r) ≡ t.L η k) → t.L η (suc r) ≡ t.L η (suc k)
      pick (inl x) ih = ap (λ (y : ℕ). t.L η (suc y)) x
      pick (inr l) ih = ih l ∙ sym (level (grown k (le_refl (suc k))) l)

  new : (k : ℕ) → ((η r : ℕ) → η < e → r ≤ k → Best p e S t η r) → ((η r : ℕ) → η < e → r < k → Grown e t η r)
      → (η : ℕ) → η < e → Step p e t η k → New η k
  new k best grown η h (stay ue sa sb) =
      record {
        lead = tr (sa zero) (best η k h (le_refl k)).lead;
        agree = agree_same S (t.a η k) (t.b η k) (t.a η (suc k)) (t.b η (suc k)) (suc k) sa sb
            (upto k (best η k h (le_refl k)).agree
            (tr (run.disc η k h) (tr (add (rfl {a = t.b η k k}) none) (of_eq (omega arith)))));
        deg = λ _. deg_same sa sb (run.length η k h);
        deg' = λ lt. absurd (omega arith);
      }
    where
      none : Cong (p ^ e) (t.d η k) zero
      none = tr (of_eq (let z : t.d η k ≡ 1 * t.d η k = omega arith in z)) (scaled_zero η k zero 1 h (of_eq (sym (native.Mathlib.Nat.pow-zero p))) (omega arith))
  new k best grown η h (fresh lt none sa sb) =
      record {
        lead = tr (sa zero) (best η k h (le_refl k)).lead;
        agree = agree_same S (t.a η k) (λ i. t.b η k i + shift k (const (t.d η k)) i) (t.a η (suc k)) (t.b η (suc k)) (suc k) sa sb
            (fresh_agree S (t.a η k) (t.b η k) k (t.d η k) (best η k h (le_refl k)).agree (run.disc η k h));
        deg = λ eq. absurd (omega arith);
        deg' = λ _ l low high. deg_same sa sb (fresh_deg (t.a η k) (t.b η k) k (t.d η k) l (deg_mono low (run.length η k h)) (omega arith));
      }
  new k best grown η h (old lt r c n rk up last mult cn sa sb) =
      record {
        lead = tr (sa zero) (tr (add (best η k h (le_refl k)).lead (of_eq (ap (λ (x : ℕ). n * x) (shift_below (k - r) (t.a (o) r) zero (omega arith))))) (of_eq (omega arith)));
        agree = agree_same S _ _ (t.a η (suc k)) (t.b η (suc k)) (suc k) sa sb
            (old_agree S (t.a η k) (t.b η k) k (t.d η k) (best η k h (le_refl k)).agree (run.disc η k h)
            (t.a o r) (t.b o r) r (t.d o r) c n rk (best o r (omega arith) (le_of_lt rk)).agree (run.disc o r (omega arith))
            (mult (omega (arith, facts.0))) cn);
        deg = λ eq. absurd (omega arith);
        deg' = λ _ l low high. deg_same sa sb
            (old_deg (t.a η k) (t.b η k) (t.a o r) (t.b o r) n (k - r) l (t.L o r) (deg_mono low (run.length η k h)) (run.length o r (omega arith)) (omega (arith, facts.1, level)));
      }
    where
      g : ℕ
      g = other e t η k

      o : ℕ
      o = other e t g r

      facts : (g + t.u o r < e) × (t.L g (suc r) + t.L o r ≡ suc r)
      facts = grew g r (grown g r (omega arith) rk) up

      level : t.L g (suc r) ≡ t.L g k
      level = flat g r k (λ j z. grown g j (omega arith) z) last rk

  -- where the two rows are short together, the other row's discrepancy is not too divisible, and no pair is shorter than the rule says
  module _ (η k : ℕ) (h : η < e) (lt : t.u η k < e) (mine : Best p e S t η k) (its : Best p e S t (other e t η k) k)
      (short : t.L η k + t.L (other e t η k) k ≤ k) where
    valid : η + t.u (other e t η k) k < e
    valid = pick (dec_lt (η + t.u (other e t η k) k) e)
      where
        g : ℕ
        g = other e t η k

        crossed : Cong (p ^ e) (t.a g k zero * t.d η k) (t.a η k zero * t.d g k)
        crossed =
            cross_short S (t.a η k) (t.b η k) (t.a g k) (t.b g k) k (t.d η k) (t.d g k) (run.length η k h) (run.length g k (omega arith)) short
            mine.agree (run.disc η k h) its.agree (run.disc g k (omega arith))

        pick : Dec (η + t.u g k < e) → η + t.u g k < e
        pick (yes x) = x
        pick (no f) =
            absurd (scaled_nonzero η k g (t.a g k zero) h its.lead (omega arith)
            (tr crossed (scaled_zero g k η (t.a η k zero) (omega arith) mine.lead (omega arith))))

    lower : (a b : ℕ → ℕ) (l : ℕ) → Cong (p ^ e) (a zero) (p ^ η) → Agree (p ^ e) S (suc k) a b → Deg (p ^ e) l a b
        → suc k ≤ l + t.L (other e t η k) k
    lower a b l lead agree x = pick (dec_le (suc k) (l + t.L (other e t η k) k))
      where
        g : ℕ
        g = other e t η k

        pick : Dec (suc k ≤ l + t.L g k) → suc k ≤ l + t.L g k
        pick (yes y) = y
        pick (no f) =
            absurd (scaled_nonzero g k η (a zero) (omega arith) lead valid
            (tr (sy (cross_short S a b (t.a g k) (t.b g k) k zero (t.d g k) x (run.length g k (omega arith)) (omega arith)
            (λ j z. agree j (omega arith)) (tr (agree k (le_refl (suc k))) (of_eq (omega arith))) its.agree (run.disc g k (omega arith))))
            (of_eq (omega arith))))

  conclude : (η k : ℕ) → η < e → Best p e S t η k → Best p e S t (other e t η k) k → New η k → (t.u η k ≡ e) ⊎ (t.u η k < e)
      → Best p e S t η (suc k) × Grown e t η k
  conclude η k h mine its n (inl eq) = (
    record {
      lead = n.lead;
      agree = n.agree;
      low = omega (arith, down, mine.low);
      least = λ a b l le ag dg. omega (arith, down, mine.least a b l le (λ j z. ag j (omega arith)) dg);
    },
    inl (omega (arith, down, back)),
  )
    where
      down : t.L η (suc k) ≤ t.L η k
      down = run.shortest η (suc k) (t.L η k) h (n.deg eq)

      back : t.L η k ≤ t.L η (suc k)
      back = mine.least (t.a η (suc k)) (t.b η (suc k)) (t.L η (suc k)) n.lead (λ j z. n.agree j (omega arith)) (run.length η (suc k) h)
  conclude η k h mine its n (inr lt) = pick (dec_le (suc k) (t.L η k + t.L g k))
    where
      g : ℕ
      g = other e t η k

      back : t.L η k ≤ t.L η (suc k)
      back = mine.least (t.a η (suc k)) (t.b η (suc k)) (t.L η (suc k)) n.lead (λ j z. n.agree j (omega arith)) (run.length η (suc k) h)

      pick : Dec (suc k ≤ t.L η k + t.L g k) → Best p e S t η (suc k) × Grown e t η k
      pick (yes x) =
          let down : t.L η (suc k) ≤ t.L η k = run.shortest η (suc k) (t.L η k) h (n.deg' lt (t.L η k) (le_refl _) x) in (
            record {
              lead = n.lead;
              agree = n.agree;
              low = omega (arith, mine.low);
              least = λ a b l le ag dg. omega (arith, mine.least a b l le (λ j z. ag j (omega arith)) dg);
            },
            inl (omega (arith, back)),
          )
      pick (no f) =
          let short : t.L η k + t.L g k ≤ k = omega arith in
          let down : t.L η (suc k) ≤ suc k - t.L g k = run.shortest η (suc k) (suc k - t.L g k) h (n.deg' lt (suc k - t.L g k) (omega arith) (omega arith)) in
          let up : suc k ≤ t.L η (suc k) + t.L g k
          = lower η k h lt mine its short (t.a η (suc k)) (t.b η (suc k)) (t.L η (suc k)) n.lead n.agree (run.length η (suc k) h) in (
            record {
              lead = n.lead;
              agree = n.agree;
              low = omega arith;
              least = λ a b l le ag dg. omega (arith, lower η k h lt mine its short a b l le ag dg);
            },
            inr (omega arith, valid η k h lt mine its short, omega arith),
          )

  kind : (η k : ℕ) → Step p e t η k → (t.u η k ≡ e) ⊎ (t.u η k < e)
  kind η k (stay ue sa sb) = inl ue
  kind η k (fresh lt none sa sb) = inr lt
  kind η k (old lt r c n rk up last mult cn sa sb) = inr lt

  abbrev All : ℕ → Type 0
  All k = ((η r : ℕ) → η < e → r ≤ k → Best p e S t η r) × ((η r : ℕ) → η < e → r < k → Grown e t η r)

  first : (η : ℕ) → η < e → Best p e S t η zero
  unfolding const
  first η h =
      record {
        lead = run.start_a η h zero;
        agree = λ j z. absurd (omega arith);
        low = low;
        least = λ a b l le ag dg. omega (arith, low);
      }
    where
      past : (i : ℕ) → suc zero ≤ i → Cong (p ^ e) (t.a η zero i) zero
      past zero z = absurd (omega arith)
      past (suc i) z = run.start_a η h (suc i)

      low : t.L η zero ≤ zero
      low = run.shortest η zero zero h (record { top_a = past; top_b = λ i z. run.start_b η h i })

  next : (k : ℕ) → All k → (η : ℕ) → η < e → Best p e S t η (suc k) × Grown e t η k
  next k all η h =
      conclude η k h (all.0 η k h (le_refl k)) (all.0 (other e t η k) k (omega arith) (le_refl k))
      (new k all.0 all.1 η h (run.step η k h)) (kind η k (run.step η k h))

  extend : (k : ℕ) → All k → All (suc k)
  extend k before = (
    λ η r h z. upto {P = λ x. Best p e S t η x} (suc k) (λ j y. before.0 η j h (omega arith)) (next k before η h).0 r (omega arith),
    λ η r h z. upto {P = λ x. Grown e t η x} k (λ j y. before.1 η j h y) (next k before η h).1 r z,
  )

  all : (k : ℕ) → All k
  all zero = (
    λ η r h z. subst (λ (x : ℕ). Best p e S t η x) (let y : zero ≡ r = omega arith in y) (first η h),
    λ η r h z. absurd (omega arith),
  )
  all (suc k) = extend k (all k)

  -- every row, before every step, is a shortest pair
  pub shortest_rows : (η k : ℕ) → η < e → Best p e S t η k
  shortest_rows η k h = (all k).0 η k h (le_refl k)

  pub grown : (η k : ℕ) → η < e → Grown e t η k
  grown η k h = (all (suc k)).1 η k h (le_refl (suc k))

  -- where the two rows are short together, the row grows, to one length
  pub grows : (η k : ℕ) → η < e → t.u η k < e → t.L η k + t.L (other e t η k) k ≤ k
      → (t.L η (suc k) + t.L (other e t η k) k ≡ suc k) × (η + t.u (other e t η k) k < e)
  grows η k h lt short = pick (grown η k h)
    where
      mine : Best p e S t η k
      mine = shortest_rows η k h

      its : Best p e S t (other e t η k) k
      its = shortest_rows (other e t η k) k (omega arith)

      then : Best p e S t η (suc k)
      then = shortest_rows η (suc k) h

      pick : Grown e t η k → (t.L η (suc k) + t.L (other e t η k) k ≡ suc k) × (η + t.u (other e t η k) k < e)
      pick (inl x) =
          absurd (omega (arith, lower η k h lt mine its short (t.a η (suc k)) (t.b η (suc k)) (t.L η (suc k)) then.lead then.agree (run.length η (suc k) h)))
      pick (inr z) = (z.2, z.1)

  -- else it keeps its length
  pub flat_law : (η k : ℕ) → η < e → k < t.L η k + t.L (other e t η k) k → t.L η (suc k) ≡ t.L η k
  flat_law η k h long = pick (grown η k h)
    where
      pick : Grown e t η k → t.L η (suc k) ≡ t.L η k
      pick (inl x) = x
      pick (inr z) = absurd (omega (arith, z.0, z.2))
