-- One more term, modulo a prime: exactly one of the p next terms fits the register so far, and what the length is after each.
-- Assumes nothing.
use mathlib.Core.Path.{◌≡◌, ap, ◌∙◌}
use mathlib.Core.Logic.{◌≢◌}
use mathlib.Core.List.{List, [], ◌∷◌, ◌++◌}
use Prim.Native.Nat.{ℕ, zero, suc, ◌+◌, ◌*◌, ◌-◌, ◌%◌, ◌<◌, max}
use native.Mathlib.Nat.{mod-lt}
use native.Mathlib.Omega.{arith}
use lib.ListN.{length}
use Rattle.lists.specs.Table.{at}
use Rattle.lists.proofs.Table.{at_front}
use Rattle.residue.specs.Congruence.{Cong, neg}
use Rattle.residue.specs.Units.{Prime}
use Rattle.residue.proofs.Congruence.{rfl, of_eq, sy, tr, add, modulo, same_below, add_neg}
use Rattle.recurrence.specs.Polynomial.{conv}
use Rattle.recurrence.specs.Register.{Register, complexity, register}
use Rattle.recurrence.proofs.Steps.{Alike}
use Rattle.recurrence.proofs.Register.{register_right, complexity_same, register_same}
use Rattle.counting.proofs.Prime.{leaves, length_fits, length_fails}
use Rattle.counting.proofs.Terms.{conv_more}

module _ (p : ℕ) (P : Prime p) (T : List ℕ) (n : ℕ) (size : length T ≡ n) where
  pos : zero < p
  pos = omega (arith, P.big)

  -- what the register makes of the terms so far at the next place
  so_far : ℕ
  so_far = conv (at T) (at (register p T n).a) n

  -- the term that fits
  pub fitting : ℕ
  fitting = neg p so_far % p

  pub fitting_below : fitting < p
  unfolding fitting
  fitting_below = mod-lt (neg p so_far) pos

  module _ (s : ℕ) where
    longer : List ℕ
    longer = T ++ (s ∷ [])

    alike : Alike p longer T n
    unfolding longer
    alike j h = of_eq (at_front T s j (omega arith))

    before : complexity p longer n ≡ complexity p T n
    before = complexity_same p P.big longer T n alike

    left : Cong p (leaves p P longer n) (so_far + s)
    unfolding so_far longer
    left =
        tr (modulo (conv (at longer) (at (register p longer n).a) n))
        (tr (of_eq (ap (λ (x : Register). conv (at longer) (at x.a) n) (register_same p P.big longer T n alike)))
        (tr (conv_more T s n (at (register p T n).a) size)
        (add rfl (of_eq (ap (λ (z : ℕ). z * s) (register_right p P.big T n).one ∙ omega arith)))))

    left_below : leaves p P longer n < p
    left_below = mod-lt _ pos

    -- it keeps the length
    pub next_fits : s ≡ fitting → complexity p (T ++ (s ∷ [])) (suc n) ≡ complexity p T n
    unfolding fitting longer
    next_fits e =
        length_fits p P longer n
        (same_below left_below pos (tr left (tr (add rfl (tr (of_eq e) (modulo (neg p so_far)))) (add_neg so_far pos))))
        ∙ before

    -- any other makes it the larger of l and n + 1 - l
    pub next_fails : s < p → s ≢ fitting → complexity p (T ++ (s ∷ [])) (suc n) ≡ max (complexity p T n) (suc n - complexity p T n)
    unfolding fitting longer
    next_fails h ne =
        length_fails p P longer n (λ z. ne (same_below h (mod-lt (neg p so_far) pos) (tr (opposite (tr (sy left) (of_eq z))) (sy (modulo (neg p so_far))))))
        ∙ ap (λ (l : ℕ). max l (suc n - l)) before
      where
        opposite : Cong p (so_far + s) zero → Cong p s (neg p so_far)
        opposite z =
            tr (of_eq (let e : s ≡ s + zero = omega arith in e))
            (tr (add rfl (sy (add_neg so_far pos)))
            (tr (of_eq (let e : s + (so_far + neg p so_far) ≡ so_far + s + neg p so_far = omega arith in e))
            (tr (add z rfl) (of_eq (let e : zero + neg p so_far ≡ neg p so_far = omega arith in e)))))
