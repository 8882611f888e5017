-- Laws of the cells of a, read from the last one down: the first that is not 0 stands at the degree.
-- Assumes nothing.
use mathlib.Core.Path.{◌≡◌, sym, ◌∙◌}
use mathlib.Core.List.{List}
use Prim.Native.Nat.{ℕ, zero, ◌+◌, ◌-◌, ◌≤◌, ◌<◌}
use native.Mathlib.Decide.{ℕ_discrete}
use native.Mathlib.Omega.{arith}
use Rattle.lists.specs.Table.{at}
use Rattle.lists.proofs.Table.{at_past, length_tabulate}
use Rattle.cells.specs.Cell.{cell_at}
use Rattle.cells.proofs.Laws.{at_cells}
use Rattle.recurrence.specs.Polynomial.{degree}
use Rattle.recurrence.proofs.Polynomial.{degree_is, degree_most}
use Rattle.sequence.specs.Limits.{max_cells}
use Rattle.candidate.specs.Rules.{a_cells}

-- every cell from place i on is 0
pub record ZeroFrom (a : List ℕ) (i : ℕ) : Type 0 where
  pub zeros : (j : ℕ) → i ≤ j → at (a_cells a) j ≡ zero

module _ (a : List ℕ) where
  -- there are 129 cells
  pub zero_end : ZeroFrom a max_cells
  zero_end = record { zeros = λ j h. at_past (a_cells a) j (omega (arith, length_tabulate max_cells (λ i. cell_at a (0 + i)))) }

  pub degree_cells : degree (a_cells a) < max_cells
  degree_cells =
      let most : degree (a_cells a) ≤ max_cells - 1 = degree_most (a_cells a) (max_cells - 1) (λ j h. zero_end.zeros j (omega arith)) in
      omega arith

  -- the place before i is looked at
  module _ {i v : ℕ} (x : ZeroFrom a i) (some : zero < i) (low : i ≤ max_cells) (read : v ≡ cell_at a (i - 1)) where
    is_cell : at (a_cells a) (i - 1) ≡ v
    is_cell = at_cells a max_cells (i - 1) (omega arith) ∙ sym read

    pub zero_next : v ≡ zero → ZeroFrom a (i - 1)
    zero_next none = record { zeros = λ j h. at_or j h (ℕ_discrete j (i - 1)) }
      where
        at_or : (j : ℕ) → i - 1 ≤ j → Dec (j ≡ i - 1) → at (a_cells a) j ≡ zero
        at_or j h (yes e) = rw e (is_cell ∙ none)
        at_or j h (no e) = x.zeros j (omega (arith, e))

    pub zero_found : zero < v → i - 1 ≡ degree (a_cells a)
    zero_found full = sym (degree_is (a_cells a) (i - 1) (λ e. absurd (omega (arith, is_cell, e))) (λ j h. x.zeros j (omega arith)))

  pub zero_none : {i : ℕ} → ZeroFrom a i → i ≤ 1 → zero ≡ degree (a_cells a)
  zero_none {i} x none = omega (arith, degree_most (a_cells a) 0 (λ j h. x.zeros j (omega arith)))
