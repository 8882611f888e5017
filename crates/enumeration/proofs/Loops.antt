-- What the loops know: the digits read off a number so far, and how many sequences so far have each length.
-- Assumes nothing.
use mathlib.Core.Path.{◌≡◌, refl, sym, ap, ap₂, ◌∙◌, subst}
use mathlib.Core.Logic.{◌⊎◌, inl, inr}
use mathlib.Core.List.{List}
use Prim.Native.Nat.{ℕ, zero, suc, ◌+◌, ◌/◌, ◌%◌, ◌^◌, ◌≤◌, ◌<◌}
use native.Mathlib.Decide.{ℕ_discrete}
use native.Mathlib.Omega.{arith}
use lib.Dec.{eqb}
use lib.ListN.{length, set, replicate, length-set, length-replicate, get_or-replicate}
use lib.Seq.{get_or-set_same, get_or-set_other}
use Rattle.lists.specs.Choice.{pick}
use Rattle.lists.specs.Sum.{sum_to}
use Rattle.lists.specs.Table.{at, tabulate}
use Rattle.lists.proofs.Search.{lt_or_le}
use Rattle.lists.proofs.Table.{at_past, at_front, at_last, is_tabulate}
use Rattle.recurrence.specs.Register.{complexity}
use Rattle.counting.specs.Numbering.{list_at, count_below}
use Rattle.counting.specs.Lengths.{with_length}
use Rattle.counting.proofs.Counts.{mark_same, mark_other, count_more, count_le}
use Rattle.counting.proofs.Numbering.{list_at_length}
use Rattle.sequence.specs.Limits.{max_terms}
use Rattle.enumeration.specs.Rules.{max_sequences, lengths}

-- ---- digits, the last first

-- the digits from place i on stand in the terms, and those before it are the digits of what is left
pub record Parted (m n x i left : ℕ) (terms : List ℕ) : Type 0 where
  pub within : i ≤ n
  pub size : length terms ≡ max_terms
  pub done : (j : ℕ) → i ≤ j → j < n → at terms j ≡ at (list_at m n x) j
  pub rest : (j : ℕ) → j < i → at (list_at m n x) j ≡ at (list_at m i left) j
  pub zeros : (j : ℕ) → n ≤ j → j < max_terms → at terms j ≡ zero

module _ {m n x : ℕ} where
  pub parted_none : Parted m n x n x (replicate max_terms 0)
  parted_none =
      record {
        within = omega arith;
        size = length-replicate {A = ℕ} max_terms 0;
        done = λ j a b. absurd (omega arith);
        rest = λ j b. refl;
        zeros = λ j b h. get_or-replicate max_terms j 0 0 h;
      }

  -- one digit more, at place i
  more :
      {i left : ℕ} {terms : List ℕ} (d : ℕ) → n ≤ max_terms → Parted m n x (suc i) left terms → d ≡ left % m → Parted m n x i (left / m) (set terms i d)
  unfolding list_at
  more {i} {left} {terms} d few p e =
      record {
        within = omega (arith, p.within);
        size = length-set terms i d ∙ p.size;
        done = λ j a b. go j a b (ℕ_discrete j i);
        rest = λ j b. p.rest j (omega arith) ∙ at_front (list_at m i (left / m)) (left % m) j (omega (arith, list_at_length m i (left / m)));
        zeros = λ j b h. get_or-set_other terms i j d zero (λ z. omega (arith, p.within)) ∙ p.zeros j b h;
      }
    where
      digit : d ≡ at (list_at m n x) i
      digit = e ∙ sym (p.rest i (omega arith) ∙ at_last (list_at m i (left / m)) (left % m) i (list_at_length m i (left / m)))

      go : (j : ℕ) → i ≤ j → j < n → Dec (j ≡ i) → at (set terms i d) j ≡ at (list_at m n x) j
      go j a b (yes z) =
          ap (at (set terms i d)) z ∙ get_or-set_same terms i d zero (omega (arith, p.within, p.size)) ∙ digit ∙ ap (at (list_at m n x)) (sym z)
      go j a b (no z) = get_or-set_other terms i j d zero z ∙ p.done j (omega arith) b

  pub parted_more :
      {k left : ℕ} {terms : List ℕ} (i d : ℕ) → n ≤ max_terms → k ≡ suc i → Parted m n x k left terms → d ≡ left % m
      → Parted m n x i (left / m) (set terms i d)
  parted_more {k} {left} {terms} i d few a p e = more d few (subst (λ (z : ℕ). Parted m n x z left terms) a p) e

  pub parted_all : {k left : ℕ} {terms : List ℕ} → k ≡ zero → Parted m n x k left terms → terms ≡ tabulate max_terms (at (list_at m n x))
  parted_all {k} {left} {terms} e p = is_tabulate max_terms (at (list_at m n x)) zero terms p.size (λ j b. go j b (lt_or_le j n))
    where
      go : (j : ℕ) → j < max_terms → (j < n) ⊎ (n ≤ j) → at terms j ≡ at (list_at m n x) j
      go j b (inl h) = p.done j (omega arith) h
      go j b (inr h) = p.zeros j h b ∙ sym (at_past (list_at m n x) j (omega (arith, list_at_length m n x)))

-- ---- how many have each length

-- how many of the first x sequences have length l
abbrev so_far : ℕ → ℕ → ℕ → ℕ → ℕ
so_far m n x l = count_below x (λ y. eqb (complexity m (list_at m n y) n) l)

pub record Tallied (m n x : ℕ) (counts : List ℕ) : Type 0 where
  pub size : length counts ≡ lengths
  pub each : (l : ℕ) → l < lengths → at counts l ≡ so_far m n x l

module _ {m n : ℕ} where
  pub tallied_none : Tallied m n zero (replicate lengths 0)
  unfolding count_below sum_to
  tallied_none = record { size = length-replicate {A = ℕ} lengths 0; each = λ l h. get_or-replicate lengths l 0 0 h }

  -- the sequence with number x has length l
  pub tallied_more :
      {x l : ℕ} {counts : List ℕ} → Tallied m n x counts → l < lengths → l ≡ complexity m (list_at m n x) n
      → Tallied m n (x + 1) (set counts l (at counts l + 1))
  tallied_more {x} {l} {counts} t h e =
      record {
        size = length-set counts l (at counts l + 1) ∙ t.size;
        each = λ k b. go k b (ℕ_discrete k l) ∙ sym (count_more x (λ y. eqb (complexity m (list_at m n y) n) k));
      }
    where
      go : (k : ℕ) → k < lengths → Dec (k ≡ l) → at (set counts l (at counts l + 1)) k ≡ so_far m n x k + pick (eqb (complexity m (list_at m n x) n) k) 1 zero
      go k b (yes z) =
          ap (at (set counts l (at counts l + 1))) z ∙ get_or-set_same counts l (at counts l + 1) zero (omega (arith, t.size))
          ∙ ap₂ ◌+◌ (ap (at counts) (sym z) ∙ t.each k b) (sym (mark_same (complexity m (list_at m n x) n) k (sym e ∙ sym z)))
      go k b (no z) =
          get_or-set_other counts l k (at counts l + 1) zero z ∙ t.each k b
          ∙ omega (arith, mark_other (complexity m (list_at m n x) n) k (λ y. z (sym y ∙ sym e)))

  -- so each cell has room for one more
  pub tallied_room :
      {k x l : ℕ} {counts : List ℕ} → Tallied m n x counts → x < k → k ≤ max_sequences → l < lengths
      → at counts l < max_sequences
  tallied_room {x = x} {l = l} t a b h = omega (arith, t.each l h, count_le x (λ y. eqb (complexity m (list_at m n y) n) l))

  pub tallied_all : {k : ℕ} {counts : List ℕ} → Tallied m n k counts → k ≡ m ^ n → counts ≡ tabulate lengths (with_length m n)
  unfolding with_length
  tallied_all {counts = counts} t e =
      is_tabulate lengths (with_length m n) zero counts t.size (λ l h. t.each l h ∙ ap (λ (z : ℕ). so_far m n z l) e)
