-- Laws of the loops that join cells and raise lengths, and of the steps at one more prime power.
-- Assumes nothing.
use mathlib.Core.Path.{◌≡◌, sym, ap, ◌∙◌, subst}
use mathlib.Core.List.{List}
use Prim.Native.Nat.{ℕ, zero, ◌+◌, ◌*◌, ◌^◌, ◌≤◌, ◌<◌, max}
use native.Mathlib.Nat.{le_refl, mul-le-mul_left, mod-one, pow-zero}
use native.Mathlib.Omega.{arith}
use lib.ListN.{length, set, length-set}
use Rattle.lists.specs.Table.{at}
use Rattle.lists.proofs.Table.{each_next, rest_next}
use Rattle.residue.specs.Congruence.{Cong}
use Rattle.residue.specs.Units.{Coprime}
use Rattle.residue.specs.Remainders.{joined, two}
use Rattle.residue.proofs.Congruence.{rfl, of_eq, Invertible, pow_lt}
use Rattle.residue.proofs.Units.{coprime_invertible}
use Rattle.residue.proofs.Remainders.{glue_left, glue_right, glue_lt, two_joined}
use Rattle.recurrence.proofs.Theorem.{reduced}
use Rattle.steps.specs.Sizes.{max_cells, max_terms}
use Rattle.steps.specs.declared.ring.Ring.{Ring}
use Rattle.steps.specs.Run.{Below, Result, first_row}
use Rattle.steps.specs.Log.{power_of}
use Rattle.synthesis.specs.Joining.{Joint, Glued, Raised, Extended}

-- ---- the join of two numbers

pub joint_joined : (q r x y z : ℕ) → zero < q → x < q → y < r → Coprime q r → z ≡ joined (q * r) (two q x r y) → Joint q r x y z
joint_joined q r x y z pos hx hy co h =
    subst (Joint q r x y) (two_joined q r x y hx hy v ∙ sym h)
    (record { below = glue_lt q r (omega arith) v x y hx; left = glue_left q r (omega arith) v x y; right = glue_right q r (omega arith) v x y })
  where
    v : Invertible r q
    v = coprime_invertible q r pos (omega arith) co

-- where both are the same number, it is that one
pub joint_same : (q r x y : ℕ) → x < q → y < r → x ≡ y → Joint q r x y x
joint_same q r x y hx hy e = record { below = omega (arith, mul-le-mul_left {m = 1} {n = r} q (omega arith)); left = rfl; right = of_eq e }

-- ---- the loops: the cells below i are done

pub record Gluing (q r : ℕ) (xs₀ ys xs : List ℕ) (i : ℕ) : Type 0 where
  pub long : length xs ≡ max_cells
  pub done : (j : ℕ) → j < i → Joint q r (at xs₀ j) (at ys j) (at xs j)
  pub todo : (j : ℕ) → i ≤ j → at xs j ≡ at xs₀ j

pub glue_next : {q r : ℕ} {xs₀ ys xs : List ℕ} {i : ℕ} → Gluing q r xs₀ ys xs i → (v : ℕ) (xs' : List ℕ) → xs' ≡ set xs i v → i < max_cells
    → Joint q r (at xs i) (at ys i) v → Gluing q r xs₀ ys xs' (i + 1)
glue_next {q} {r} {xs₀} {ys} {xs} {i} g v xs' e h k =
    subst (λ (zs : List ℕ). Gluing q r xs₀ ys zs (i + 1)) (sym e)
    (record {
      long = length-set xs i v ∙ g.long;
      done = each_next zero (λ (j : ℕ) (z : ℕ). Joint q r (at xs₀ j) (at ys j) z) xs i v g.done (omega (arith, g.long))
          (subst (λ (x : ℕ). Joint q r x (at ys i) v) (g.todo i (le_refl i)) k);
      todo = rest_next zero xs xs₀ i v g.todo;
    })

pub record Raising (xs₀ ys xs : List ℕ) (i : ℕ) : Type 0 where
  pub long : length xs ≡ max_cells
  pub done : (j : ℕ) → j < i → at xs j ≡ max (at xs₀ j) (at ys j)
  pub todo : (j : ℕ) → i ≤ j → at xs j ≡ at xs₀ j

-- ---- the steps at one more prime power

module _ (ring : Ring) (S : List ℕ) (n : ℕ) (few : n ≤ max_terms) (row lens : List ℕ) (r : Result (power_of ring) S n row lens) where
  pub ring_big : 1 < ring.q
  ring_big = omega (arith, ring.fit.whole, pow_lt ring.p ring.e ring.fit.prime.big ring.fit.pos, pow-zero ring.p)

  pub row_below : Below max_cells ring.q row
  row_below i h = omega (arith, r.cells_a i h, (reduced ring.p ring.e ring.fit.prime ring.fit.pos S zero n ring.fit.pos).0 i, ring.fit.whole)

  pub extended_is : (big : ℕ) (a lengths a' lengths' : List ℕ) → Glued big ring.q a row a' → Raised lengths lens lengths'
      → Extended (power_of ring) S n big a lengths a' lengths'
  extended_is big a lengths a' lengths' g u =
      record {
        long_a = g.long;
        long_lengths = u.long;
        cells = λ i h. subst (λ (x : ℕ). Joint big x (at a i) (at (first_row (power_of ring) S n).a i) (at a' i)) ring.fit.whole
            (subst (λ (y : ℕ). Joint big ring.q (at a i) y (at a' i)) (r.cells_a i h) (g.cells i h));
        sizes = λ k h. u.cells k (omega arith) ∙ ap (max (at lengths k)) (r.sizes k h);
        others = λ k h l. omega (arith, u.cells k l, r.others k h);
      }

  -- modulo 1 there is nothing to join
  pub extended_first : (big : ℕ) (a lengths lengths' : List ℕ) → big ≡ 1 → Raised lengths lens lengths' → Extended (power_of ring) S n big a lengths row lengths'
  extended_first big a lengths lengths' one u =
      record {
        long_a = r.long_a;
        long_lengths = u.long;
        cells = λ i h.
            record {
              below = omega (arith, row_below i h, ring.fit.whole, ap (λ (x : ℕ). x * ring.p ^ ring.e) one);
              left = subst (λ (x : ℕ). Cong x (at row i) (at a i)) (sym one) (record { same = mod-one (at row i) ∙ sym (mod-one (at a i)) });
              right = of_eq (r.cells_a i h);
            };
        sizes = λ k h. u.cells k (omega arith) ∙ ap (max (at lengths k)) (r.sizes k h);
        others = λ k h l. omega (arith, u.cells k l, r.others k h);
      }
