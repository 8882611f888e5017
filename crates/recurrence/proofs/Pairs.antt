-- Pairs of series modulo q: the product by congruence, degrees, and the cross product of two pairs (Reeds and Sloane, lemma 1).
-- Assumes nothing.
use mathlib.Core.Path.{◌≡◌}
use Prim.Native.Nat.{ℕ, zero, suc, ◌+◌, ◌*◌, ◌≤◌, ◌<◌}
use native.Mathlib.Omega.{arith}
use Rattle.recurrence.specs.Polynomial.{conv}
use Rattle.recurrence.proofs.Series.{tail, conv_swap}
use Rattle.residue.specs.Congruence.{Cong}
use Rattle.residue.proofs.Congruence.{rfl, of_eq, sy, tr, add, mul, zero_l, zero_r, zero_add_zero}

-- the coefficients from place l on are 0
abbrev pub Vanish : ℕ → ℕ → (ℕ → ℕ) → Type 0
Vanish q l f = (i : ℕ) → l ≤ i → Cong q (f i) zero

-- the pair has length at most l: a has degree at most l and b degree below l
pub record Deg (q l : ℕ) (a b : ℕ → ℕ) : Type 0 where
  pub top_a : Vanish q (suc l) a
  pub top_b : Vanish q l b

-- the product of S and a agrees with b below place k
abbrev pub Agree : ℕ → (ℕ → ℕ) → ℕ → (ℕ → ℕ) → (ℕ → ℕ) → Type 0
Agree q S k a b = (j : ℕ) → j < k → Cong q (conv S a j) (b j)

pub conv_cong : {q : ℕ} (f f' g g' : ℕ → ℕ) (n : ℕ) → ((i : ℕ) → i ≤ n → Cong q (f i) (f' i)) → ((i : ℕ) → i ≤ n → Cong q (g i) (g' i)) → Cong q (conv f g n) (conv f' g' n)
unfolding conv
conv_cong f f' g g' zero hf hg = mul (hf zero (omega arith)) (hg zero (omega arith))
conv_cong f f' g g' (suc n) hf hg =
    add (mul (hf zero (omega arith)) (hg (suc n) (omega arith)))
    (conv_cong (tail f) (tail f') g g' n (λ i h. hf (suc i) (omega arith)) (λ i h. hg i (omega arith)))

pub conv_zero : {q : ℕ} (f g : ℕ → ℕ) (n : ℕ) → Vanish q zero f → Cong q (conv f g n) zero
unfolding conv
conv_zero f g zero hf = zero_l (g zero) (hf zero (omega arith))
conv_zero f g (suc n) hf = zero_add_zero (zero_l (g (suc n)) (hf zero (omega arith))) (conv_zero (tail f) g n (λ i h. hf (suc i) (omega arith)))

-- degrees add
pub vanish : {q : ℕ} (f g : ℕ → ℕ) (l m n : ℕ) → Vanish q l f → Vanish q m g → l + m ≤ suc n → Cong q (conv f g n) zero
unfolding conv
vanish f g zero m n hf hg h = conv_zero f g n hf
vanish f g (suc l) m zero hf hg h = zero_r (f zero) (hg zero (omega arith))
vanish f g (suc l) m (suc n) hf hg h =
    zero_add_zero (zero_r (f zero) (hg (suc n) (omega arith))) (vanish (tail f) g l m n (λ i k. hf (suc i) (omega arith)) hg (omega arith))

-- two factors that agree below place k and differ there by δ
pub conv_top : {q : ℕ} (f g h : ℕ → ℕ) (k δ : ℕ) → ((j : ℕ) → j < k → Cong q (g j) (h j)) → Cong q (g k) (h k + δ) → Cong q (conv f g k) (conv f h k + f zero * δ)
unfolding conv
conv_top f g h zero δ below at = tr (mul (rfl {a = f zero}) at) (of_eq (omega arith))
conv_top f g h (suc k) δ below at =
    tr (add (mul (rfl {a = f zero}) at) (conv_cong (tail f) (tail f) g h k (λ i l. rfl) (λ i l. below i (omega arith)))) (of_eq (omega arith))

module _ {q : ℕ} (S a b c d : ℕ → ℕ) (k α γ : ℕ) where
  -- the cross product of two pairs, at the first place where they need not agree with S
  pub cross : Agree q S k a b → Cong q (conv S a k) (b k + α) → Agree q S k c d → Cong q (conv S c k) (d k + γ)
      → Cong q (conv c b k + c zero * α) (conv a d k + a zero * γ)
  cross ab ak cd ck =
      tr (sy (conv_top c (conv S a) b k α ab ak)) (tr (of_eq (conv_swap c S a k)) (conv_top a (conv S c) d k γ cd ck))

  -- two short pairs: the discrepancies cancel across
  pub cross_short : {l m : ℕ} → Deg q l a b → Deg q m c d → l + m ≤ k
      → Agree q S k a b → Cong q (conv S a k) (b k + α) → Agree q S k c d → Cong q (conv S c k) (d k + γ)
      → Cong q (c zero * α) (a zero * γ)
  cross_short {l} {m} dab dcd h ab ak cd ck =
      let left : Cong q (conv c b k) zero = vanish c b (suc m) l k dcd.top_a dab.top_b (omega arith) in
      let right : Cong q (conv a d k) zero = vanish a d (suc l) m k dab.top_a dcd.top_b (omega arith) in
      tr (of_eq (let z : c zero * α ≡ zero + c zero * α = omega arith in z))
      (tr (add (sy left) rfl)
      (tr (cross ab ak cd ck)
      (tr (add right rfl) (of_eq (omega arith)))))
