-- The order and the start of a register: the degree of a, and the first place, not before the order, from which the rule of a holds.
-- Assumes nothing.
use mathlib.Core.Path.{◌≡◌, sym, ap, ◌∙◌, fun_ext}
use mathlib.Core.List.{List}
use Prim.Native.Nat.{ℕ, zero, suc, ◌%◌, ◌≤◌, ◌<◌}
use native.Mathlib.Decide.{dec_lt}
use native.Mathlib.Omega.{arith}
use Rattle.lists.specs.Table.{at, tabulate}
use Rattle.lists.proofs.Table.{length_tabulate, at_tabulate, at_past}
use Rattle.residue.specs.Congruence.{Cong, neg}
use Rattle.residue.proofs.Congruence.{of_eq, tr}
use Rattle.recurrence.specs.Polynomial.{conv, degree}
use Rattle.recurrence.specs.Register.{Register}
use Rattle.recurrence.proofs.Pairs.{Deg, Agree}
use Rattle.recurrence.proofs.Polynomial.{degree_past, degree_most, degree_last}
use Rattle.recurrence.proofs.Length.{coefficients, of_pair}
use Rattle.recurrence.proofs.Register.{Right}

-- for a list with the register's coefficients, whatever zeros it ends with
module _ (m : ℕ) (big : 1 < m) (S : List ℕ) (n : ℕ) (x : Register) (right : Right m S n x) (a : List ℕ) (same : (i : ℕ) → at a i ≡ at x.a i) where
  lead : at a zero ≡ 1
  lead = same zero ∙ right.one

  pub order_last : at a (degree a) ≡ zero → ⊥
  order_last = degree_last a (λ e. absurd (omega (arith, e, lead)))

  pub order_within : degree a ≤ x.length
  order_within = degree_most a x.length (λ i h. same i ∙ right.past_a i h)

  -- the rule holds from the length on
  pub start_holds : (j : ℕ) → x.length ≤ j → j < n → Cong m (conv (at S) (at a) j) zero
  start_holds j h l =
      tr (of_eq (ap (λ (f : ℕ → ℕ). conv (at S) f j) (fun_ext same))) (tr (right.generates j l) (of_eq (right.past_b j h)))

  -- and from no earlier place: with the part of S × a below that place as b, a would be that of a shorter register
  pub start_first : (s : ℕ) → degree a ≤ s → ((j : ℕ) → s ≤ j → j < n → Cong m (conv (at S) (at a) j) zero) → x.length ≤ s
  start_first s h holds =
      omega (
        arith,
        right.least.least (coefficients m pos (at S) n (at a) s) (of_pair m pos (at S) n (at a) (at b) s (of_eq lead) agree deg),
        length_tabulate s (λ i. neg m (at a (suc i)) % m),
      )
    where
      pos : zero < m
      pos = omega arith

      b : List ℕ
      b = tabulate s (conv (at S) (at a))

      b_past : (i : ℕ) → s ≤ i → at b i ≡ zero
      b_past i k = at_past b i (omega (arith, length_tabulate s (conv (at S) (at a))))

      agree : Agree m (at S) n (at a) (at b)
      agree j l = go (dec_lt j s)
        where
          go : Dec (j < s) → Cong m (conv (at S) (at a) j) (at b j)
          go (yes k) = of_eq (sym (at_tabulate s (conv (at S) (at a)) j k))
          go (no k) = tr (holds j (omega arith) l) (of_eq (sym (b_past j (omega arith))))

      deg : Deg m s (at a) (at b)
      deg = record { top_a = λ i k. of_eq (degree_past a i (omega arith)); top_b = λ i k. of_eq (b_past i k) }
