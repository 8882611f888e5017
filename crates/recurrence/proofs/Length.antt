-- The least length of a register is the least L of a pair with a(0) = 1: from a pair to coefficients and back.
-- Assumes nothing.
use mathlib.Core.Path.{◌≡◌, refl, sym, ap, ◌∙◌, subst}
use mathlib.Core.List.{List, [], ◌∷◌}
use Prim.Native.Nat.{ℕ, zero, suc, ◌+◌, ◌*◌, ◌-◌, ◌%◌, ◌≤◌, ◌<◌}
use native.Mathlib.Nat.{le_antisymm, mod-lt, mod_self, suc-sub-suc}
use native.Mathlib.Decide.{dec_le, dec_lt}
use native.Mathlib.Omega.{arith}
use lib.ListN.{length}
use Rattle.lists.specs.Table.{at, tabulate}
use Rattle.lists.specs.Sum.{sum_to}
use Rattle.lists.proofs.Table.{length_tabulate, at_tabulate, at_past}
use Rattle.lists.proofs.Sum.{sum_to_eq, sum_to_cut}
use Rattle.residue.specs.Congruence.{Cong, neg}
use Rattle.residue.proofs.Congruence.{rfl, of_eq, sy, tr, add, mul, modulo, zero_add_zero, add_neg, cancel, cong_divisor}
use Rattle.recurrence.specs.Polynomial.{conv}
use Rattle.recurrence.specs.Least.{combination, Gives, Least}
use Rattle.recurrence.proofs.Series.{tail, summand, conv_sum, conv_comm, conv_add_l}
use Rattle.recurrence.proofs.Pairs.{Vanish, Deg, Agree, conv_zero}

-- the least length is one number
pub least_unique : (m : ℕ) (S : ℕ → ℕ) (k l l' : ℕ) → Least m S k l → Least m S k l' → l ≡ l'
least_unique m S k l l' x y =
    le_antisymm (subst (λ (n : ℕ). l ≤ n) y.many (x.least y.some y.gives)) (subst (λ (n : ℕ). l' ≤ n) x.many (y.least x.some x.gives))

combination_cong : {q : ℕ} (cs : List ℕ) (S T : ℕ → ℕ) (j : ℕ) → length cs ≤ j → ((i : ℕ) → i < j → Cong q (S i) (T i))
    → Cong q (combination cs S j) (combination cs T j)
unfolding sum_to
combination_cong {q} cs S T j h same = go (length cs) h
  where
    go : (n : ℕ) → n ≤ j → Cong q (sum_to n (λ i. at cs i * S (j - suc i))) (sum_to n (λ i. at cs i * T (j - suc i)))
    go zero l = rfl
    go (suc n) l = add (go n (omega arith)) (mul (rfl {a = at cs n}) (same (j - suc n) (omega arith)))

-- coefficients that give the terms modulo m give, modulo a divisor q of m, all terms that are congruent to them there
pub gives_divisor : (m q : ℕ) (S T : ℕ → ℕ) (k : ℕ) (cs : List ℕ) → m % q ≡ zero → ((j : ℕ) → j < k → Cong q (S j) (T j)) → Gives m S k cs → Gives q T k cs
gives_divisor m q S T k cs d same g j h lt =
    tr (sy (same j lt)) (tr (cong_divisor q m d (g j h lt)) (combination_cong cs S T j h (λ i l. same i (omega arith))))

-- the first k terms alone count, and these only modulo m
pub least_same : (m : ℕ) (S T : ℕ → ℕ) (k l : ℕ) → ((j : ℕ) → j < k → Cong m (S j) (T j)) → Least m S k l → Least m T k l
least_same m S T k l same x =
    record {
      some = x.some;
      many = x.many;
      small = x.small;
      gives = gives_divisor m m S T k x.some (mod_self m) same x.gives;
      least = λ cs g. x.least cs (gives_divisor m m T S k cs (mod_self m) (λ j h. sy (same j h)) g);
    }

-- the sum of c_i S_(j-i) as a product of series
pub combination_conv : (cs : List ℕ) (S : ℕ → ℕ) (j : ℕ) → length cs ≤ suc j → combination cs S (suc j) ≡ conv (at cs) S j
combination_conv cs S j h =
    sum_to_eq (length cs) (λ i. at cs i * S (suc j - suc i)) (summand (at cs) S j) (λ i l. ap (λ (x : ℕ). at cs i * S x) (suc-sub-suc j i))
    ∙ sym (sum_to_cut (suc j) (length cs) (summand (at cs) S j) h (λ i a b. ap (λ (x : ℕ). x * S (j - i)) (at_past cs i a) ∙ omega arith))
    ∙ sym (conv_sum (at cs) S j)

module _ (q : ℕ) (pos : zero < q) (S : ℕ → ℕ) (k : ℕ) where
  -- the coefficients cs against the series a: minus one another, place by place
  match : (a : ℕ → ℕ) (cs : List ℕ) → Cong q (a zero) 1 → ((i : ℕ) → Cong q (at cs i + a (suc i)) zero)
      → (j : ℕ) → length cs ≤ j → Cong q (combination cs S j + conv S a j) (S j)
  unfolding conv sum_to
  match a [] lead minus zero h = tr (add rfl (mul (rfl {a = S zero}) lead)) (of_eq (omega arith))
  match a (c ∷ cs) lead minus zero h = absurd (omega arith)
  match a cs lead minus (suc j) h =
      tr (of_eq (let w : combination cs S (suc j) + conv S a (suc j) ≡ a zero * S (suc j) + (conv (at cs) S j + conv (tail a) S j)
      = omega (arith, combination_conv cs S j h, conv_comm S a (suc j)) in w))
      (tr (add (mul lead rfl) (tr (of_eq (sym (conv_add_l (at cs) (tail a) S j))) (conv_zero (λ i. at cs i + a (suc i)) S j (λ i z. minus i))))
      (of_eq (omega arith)))

  -- the coefficients of a pair: minus a_1, .., minus a_l, brought below q
  abbrev pub coefficients : (ℕ → ℕ) → ℕ → List ℕ
  coefficients a l = tabulate l (λ i. neg q (a (suc i)) % q)

  pub of_pair : (a b : ℕ → ℕ) (l : ℕ) → Cong q (a zero) 1 → Agree q S k a b → Deg q l a b → Gives q S k (coefficients a l)
  of_pair a b l lead agree deg j h lt =
      sy (tr (of_eq (let w : combination cs S j ≡ combination cs S j + zero = omega arith in w))
      (tr (add rfl (sy (tr (agree j lt) (deg.top_b j (omega (arith, long))))))
      (match a cs lead minus j h)))
    where
      f : ℕ → ℕ
      f i = neg q (a (suc i)) % q

      cs : List ℕ
      cs = tabulate l f

      long : length cs ≡ l
      long = length_tabulate l f

      minus : (i : ℕ) → Cong q (at cs i + a (suc i)) zero
      minus i = pick (dec_lt i l)
        where
          pick : Dec (i < l) → Cong q (at cs i + a (suc i)) zero
          pick (yes h) =
              tr (add (tr (of_eq (at_tabulate l f i h)) (modulo (neg q (a (suc i))))) (rfl {a = a (suc i)}))
              (tr (of_eq (let w : neg q (a (suc i)) + a (suc i) ≡ a (suc i) + neg q (a (suc i)) = omega arith in w)) (add_neg (a (suc i)) pos))
          pick (no n) = zero_add_zero (of_eq (at_past cs i (omega (arith, long)))) (deg.top_a (suc i) (omega arith))

  -- the pair of some coefficients: 1 less their series, and the part below the length of its product with S
  lead_one : List ℕ → ℕ → ℕ
  lead_one cs zero = 1
  lead_one cs (suc i) = neg q (at cs i)

  cut : ℕ → (ℕ → ℕ) → ℕ → ℕ
  cut zero f n = zero
  cut (suc l) f zero = f zero
  cut (suc l) f (suc n) = cut l (tail f) n

  cut_below : (l : ℕ) (f : ℕ → ℕ) (n : ℕ) → n < l → cut l f n ≡ f n
  unfolding cut
  cut_below zero f n h = absurd (omega arith)
  cut_below (suc l) f zero h = refl
  cut_below (suc l) f (suc n) h = cut_below l (tail f) n (omega arith)

  cut_from : (l : ℕ) (f : ℕ → ℕ) (n : ℕ) → l ≤ n → cut l f n ≡ zero
  unfolding cut
  cut_from zero f n h = refl
  cut_from (suc l) f zero h = absurd (omega arith)
  cut_from (suc l) f (suc n) h = cut_from l (tail f) n (omega arith)

  pub of_coefficients : (cs : List ℕ) → Gives q S k cs
      → (a b : ℕ → ℕ) × Cong q (a zero) 1 × Agree q S k a b × Deg q (length cs) a b
  unfolding lead_one
  of_coefficients cs gives = (
    lead_one cs,
    cut (length cs) (conv S (lead_one cs)),
    rfl,
    agree,
    record { top_a = top; top_b = λ i h. of_eq (cut_from (length cs) (conv S (lead_one cs)) i h) },
  )
    where
      agree : Agree q S k (lead_one cs) (cut (length cs) (conv S (lead_one cs)))
      agree j lt = pick (dec_le (length cs) j)
        where
          pick : Dec (length cs ≤ j) → Cong q (conv S (lead_one cs) j) (cut (length cs) (conv S (lead_one cs)) j)
          pick (yes h) =
              tr (cancel pos (tr (match (lead_one cs) cs rfl (λ i. add_neg (at cs i) pos) j h) (gives j h lt)))
              (of_eq (sym (cut_from (length cs) (conv S (lead_one cs)) j h)))
          pick (no f) = of_eq (sym (cut_below (length cs) (conv S (lead_one cs)) j (omega arith)))

      top : Vanish q (suc (length cs)) (lead_one cs)
      top zero h = absurd (omega arith)
      top (suc i) h =
          tr (of_eq (ap (neg q) (at_past cs i (omega arith))))
          (tr (of_eq (let w : neg q zero ≡ zero + neg q zero = omega arith in w)) (add_neg zero pos))

  -- the length of a shortest pair is the least length
  pub least_of_pair : (a b : ℕ → ℕ) (l : ℕ) → Cong q (a zero) 1 → Agree q S k a b → Deg q l a b
      → ((a' b' : ℕ → ℕ) (m : ℕ) → Cong q (a' zero) 1 → Agree q S k a' b' → Deg q m a' b' → l ≤ m)
      → Least q S k l
  least_of_pair a b l lead agree deg shortest =
      record {
        some = coefficients a l;
        many = length_tabulate l (λ i. neg q (a (suc i)) % q);
        small = λ i h. subst (λ (x : ℕ). x < q) (sym (at_tabulate l (λ i. neg q (a (suc i)) % q) i h)) (mod-lt (neg q (a (suc i))) pos);
        gives = of_pair a b l lead agree deg;
        least = λ cs h. let v = of_coefficients cs h in shortest v.0 v.1 (length cs) v.2 v.3 v.4;
      }
