-- Laws of a number as θ p^u.
-- Assumes nothing.
use mathlib.Core.Path.{◌≡◌, refl, sym, ap, ◌∙◌, subst}
use mathlib.Core.Logic.{◌≢◌}
use Prim.Native.Nat.{ℕ, zero, suc, ◌+◌, ◌*◌, ◌-◌, ◌/◌, ◌%◌, ◌^◌, ◌≤◌, ◌<◌}
use native.Mathlib.Nat.{mod-eq_of_lt, zero-mod, zero-div, div-add-mod', div-one, div-le_self, div-lt_iff_lt-mul, div-div-eq-div-mul, pow-suc, pow-succ', pow-zero, mul_assoc, mul_comm, mul-one, one-mul, zero-mul}
use native.Mathlib.Numerals.{add-one}
use native.Mathlib.Omega.{arith}
use Rattle.residue.specs.Congruence.{Cong}
use Rattle.residue.specs.Units.{Prime, inverse}
use Rattle.residue.specs.Valuation.{valuation, cofactor}
use Rattle.residue.proofs.Congruence.{of_eq, sy, tr, self, q_pos, Invertible}
use Rattle.residue.proofs.Units.{prime_invertible, inverse_inverts}

pub valuation_le : (f p d : ℕ) → valuation f p d ≤ f
unfolding valuation
valuation_le zero p d = omega arith
valuation_le (suc f) p d = go (d % p) (valuation_le f p (d / p))
  where
    go : (r : ℕ) → valuation f p (d / p) ≤ f → elim r as (λ z. ℕ) [ zero ↦ suc (valuation f p (d / p)) | suc r ↦ zero ] ≤ suc f
    go zero h = omega arith
    go (suc r) h = omega arith

pub valuation_zero : (f p : ℕ) → valuation f p zero ≡ f
unfolding valuation
valuation_zero zero p = refl
valuation_zero (suc f) p = rw (zero-mod p, valuation) (ap suc (rw zero-div (valuation_zero f p)))

-- where p does not divide d
pub valuation_stop : (f p d : ℕ) → d % p ≢ zero → valuation f p d ≡ zero
unfolding valuation
valuation_stop zero p d h = refl
valuation_stop (suc f) p d h = go (d % p) refl
  where
    go : (r : ℕ) → d % p ≡ r → elim r as (λ z. ℕ) [ zero ↦ suc (valuation f p (d / p)) | suc r ↦ zero ] ≡ zero
    go zero e = absurd (h e)
    go (suc r) e = refl

-- where p divides d
pub valuation_more : (f p d : ℕ) → d % p ≡ zero → valuation (suc f) p d ≡ suc (valuation f p (d / p))
unfolding valuation
valuation_more f p d h = rw (h, valuation)

-- d is θ p^u, p does not divide θ, and u is below f
pub record Parts (f p d u θ : ℕ) : Type 0 where
  pub below : u < f
  pub whole : d ≡ θ * p ^ u
  pub bare : θ % p ≢ zero

pub valuation_parts : (f p d : ℕ) → 1 < p → zero < d → d < p ^ f → Parts f p d (valuation f p d) (d / p ^ valuation f p d)
unfolding valuation
valuation_parts zero p d big pos lt = absurd (omega (arith, pow-zero p))
valuation_parts (suc f) p d big pos lt = go (d % p) refl (λ a b. valuation_parts f p (d / p) big a b)
  where
    v : ℕ
    v = valuation f p (d / p)

    go : (r : ℕ) → d % p ≡ r → (zero < d / p → d / p < p ^ f → Parts f p (d / p) v (d / p / p ^ v))
        → Parts (suc f) p d (elim r as (λ z. ℕ) [ zero ↦ suc v | suc r ↦ zero ]) (d / p ^ elim r as (λ z. ℕ) [ zero ↦ suc v | suc r ↦ zero ])
    go zero e ih =
        record {
          below = omega (arith, w.below);
          whole =
              split ∙ ap (λ (x : ℕ). x * p) w.whole ∙ mul_assoc θ (p ^ v) p
              ∙ mul_comm θ (p ^ v * p) ∙ ap (λ (x : ℕ). x * θ) (sym (pow-suc p v)) ∙ mul_comm (p ^ suc v) θ
              ∙ ap (λ (x : ℕ). x * p ^ suc v) (sym θ-same);
          bare = subst (λ (x : ℕ). x % p ≢ zero) (sym θ-same) w.bare;
        }
      where
        θ : ℕ
        θ = d / p / p ^ v

        θ-same : d / p ^ suc v ≡ θ
        θ-same = ap (λ (x : ℕ). d / x) (pow-succ' p v) ∙ sym (div-div-eq-div-mul d p (p ^ v))

        split : d ≡ d / p * p
        split = omega (arith, div-add-mod' d p)

        positive : d / p ≢ zero
        positive z = let y : d ≡ zero = split ∙ ap (λ (x : ℕ). x * p) z ∙ zero-mul p in omega arith

        w : Parts f p (d / p) v θ
        w = ih (omega (arith, positive)) ((div-lt_iff_lt-mul {k = p} (omega arith)).1 (omega (arith, pow-suc p f)))
    go (suc r) e ih =
        record {
          below = omega arith;
          whole = sym (ap (λ (x : ℕ). d / x * x) (pow-zero p) ∙ mul-one (d / 1) ∙ div-one d);
          bare = subst (λ (x : ℕ). x % p ≢ zero) (sym (ap (λ (x : ℕ). d / x) (pow-zero p) ∙ div-one d)) (λ z. omega arith);
        }

-- θ where d is not 0
pub cofactor_of : (f p d : ℕ) → zero < d → cofactor f p d ≡ d / p ^ valuation f p d
unfolding cofactor
cofactor_of f p zero h = absurd (omega arith)
cofactor_of f p (suc d) h = refl

pub cofactor_le : (f p d c : ℕ) → 1 ≤ c → d ≤ c → cofactor f p d ≤ c
unfolding cofactor
cofactor_le f p zero c h l = h
cofactor_le f p (suc d) c h l = omega (arith, div-le_self (suc d) (p ^ valuation f p (suc d)))

module _ (p e : ℕ) (P : Prime p) (pos : zero < e) where
  pub cofactor_whole : (d : ℕ) → d < p ^ e → Cong (p ^ e) d (cofactor e p d * p ^ valuation e p d)
  unfolding cofactor
  cofactor_whole zero lt =
      tr (sy self) (of_eq (sym (one-mul (p ^ valuation e p zero) ∙ ap (λ (u : ℕ). p ^ u) (valuation_zero e p))))
  cofactor_whole (suc d) lt = of_eq (valuation_parts e p (suc d) P.big (omega arith) lt).whole

  pub cofactor_bare : (d : ℕ) → d < p ^ e → cofactor e p d % p ≢ zero
  unfolding cofactor
  cofactor_bare zero lt z = let w : 1 ≡ zero = sym (mod-eq_of_lt P.big) ∙ z in omega arith
  cofactor_bare (suc d) lt z = (valuation_parts e p (suc d) P.big (omega arith) lt).bare z

  pub cofactor_invertible : (d : ℕ) → d < p ^ e → Invertible (p ^ e) (cofactor e p d)
  cofactor_invertible d lt = prime_invertible p e (cofactor e p d) P pos (cofactor_bare d lt)

  pub cofactor_inverse : (d : ℕ) → d < p ^ e → Cong (p ^ e) (cofactor e p d * inverse (p ^ e) (cofactor e p d)) 1
  cofactor_inverse d lt = inverse_inverts (p ^ e) (cofactor e p d) (q_pos p e P.big) (cofactor_invertible d lt)

-- ---- the loop that divides by p

-- d has been divided by p u times, and θ is left
pub record Weighing (p e d u θ : ℕ) : Type 0 where
  pub few : u ≤ e
  pub more : valuation e p d ≡ u + valuation (e - u) p θ
  pub left : d / p ^ u ≡ θ

module _ (p e d : ℕ) where
  pub weighing_start : Weighing p e d zero d
  weighing_start =
      record {
        few = omega arith;
        more = ap (λ (x : ℕ). valuation x p d) (let z : e ≡ e - zero = omega arith in z) ∙ omega arith;
        left = ap (λ (x : ℕ). d / x) (pow-zero p) ∙ div-one d;
      }

  pub weighing_next : (u θ : ℕ) → Weighing p e d u θ → u < e → θ % p ≡ zero → Weighing p e d (u + 1) (θ / p)
  weighing_next u θ w l z =
      record {
        few = omega arith;
        more =
            w.more ∙ ap (λ (x : ℕ). u + valuation x p θ) (let y : e - u ≡ suc (e - (u + 1)) = omega arith in y)
            ∙ ap (λ (x : ℕ). u + x) (valuation_more (e - (u + 1)) p θ z) ∙ omega arith;
        left =
            ap (λ (x : ℕ). d / x) (ap (λ (x : ℕ). p ^ x) (add-one u) ∙ pow-suc p u)
            ∙ sym (div-div-eq-div-mul d (p ^ u) p) ∙ ap (λ (x : ℕ). x / p) w.left;
      }

  weighed : (u θ : ℕ) → zero < d → Weighing p e d u θ → valuation (e - u) p θ ≡ zero → (u ≡ valuation e p d) × (θ ≡ cofactor e p d)
  weighed u θ pos w none =
      let same : u ≡ valuation e p d = omega (arith, w.more) in
      (same, sym w.left ∙ ap (λ (x : ℕ). d / p ^ x) same ∙ sym (cofactor_of e p d pos))

  pub weighing_stop : (u θ : ℕ) → zero < d → Weighing p e d u θ → θ % p ≢ zero → (u ≡ valuation e p d) × (θ ≡ cofactor e p d)
  weighing_stop u θ pos w z = weighed u θ pos w (valuation_stop (e - u) p θ z)

  pub weighing_end : (u θ : ℕ) → zero < d → Weighing p e d u θ → e ≤ u → (e ≡ valuation e p d) × (θ ≡ cofactor e p d)
  unfolding valuation
  weighing_end u θ pos w h =
      let f = weighed u θ pos w (ap (λ (x : ℕ). valuation x p θ) (let y : e - u ≡ zero = omega arith in y)) in
      (omega (arith, w.few, f.0), f.1)

  pub weighing_zero : d ≡ zero → (e ≡ valuation e p d) × (1 ≡ cofactor e p d)
  unfolding cofactor
  weighing_zero z = (sym (ap (valuation e p) z ∙ valuation_zero e p), sym (ap (cofactor e p) z))
