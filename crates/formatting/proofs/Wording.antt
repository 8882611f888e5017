-- Laws of the listing's lines: the pieces of each, and what a line depends on.
-- Assumes nothing.
use mathlib.Core.Path.{◌≡◌, refl, sym, ap, ap₂, ◌∙◌}
use mathlib.Core.List.{List, [], ◌∷◌, ◌++◌}
use Prim.Native.Nat.{ℕ, suc, ◌+◌}
use native.Mathlib.Numerals.{add-one}
use native.Mathlib.Omega.{arith}
use Rattle.std.specs.Prelude.{Option}
use Rattle.lists.specs.Table.{at, tabulate}
use Rattle.lists.specs.Text.{bytes}
use Rattle.lists.proofs.Table.{tabulate_eq}
use Rattle.cells.specs.Cell.{cell_at}
use Rattle.cells.proofs.Laws.{at_cells}
use Rattle.recurrence.specs.Polynomial.{degree}
use Rattle.recurrence.proofs.Polynomial.{degree_same}
use Rattle.sequence.specs.declared.Refusal.{Refusal}
use Rattle.sequence.specs.Limits.{max_cells}
use Rattle.sequence.specs.Answers.{refusal, placed}
use Rattle.candidate.specs.Rules.{a_cells}
use Rattle.formatting.specs.Text.{numeral, separated}
use Rattle.formatting.specs.Listing.{register_line, place_text, refusal_text}
use Rattle.formatting.proofs.Degree.{degree_cells}

-- the number that stands as the order is the degree, and the cells that are printed end there
pub register_told_lem : (m n order l : ℕ) (a : List ℕ) → order ≡ degree (a_cells a)
    → separated (bytes " ") (m ∷ n ∷ order ∷ l ∷ []) ++ bytes " " ++ separated (bytes ",") (tabulate (order + 1) (cell_at a)) ++ bytes "\n" ≡ register_line m n l (a_cells a)
unfolding register_line
register_told_lem m n order l a e =
    ap₂ (λ (x : ℕ) (ys : List ℕ). separated (bytes " ") (m ∷ n ∷ x ∷ l ∷ []) ++ bytes " " ++ separated (bytes ",") ys ++ bytes "\n") e same
  where
    same : tabulate (order + 1) (cell_at a) ≡ tabulate (suc (degree (a_cells a))) (at (a_cells a))
    same =
        ap (λ (c : ℕ). tabulate c (cell_at a)) (add-one order ∙ ap suc e)
        ∙ tabulate_eq (suc (degree (a_cells a))) (cell_at a) (at (a_cells a)) (λ i h. sym (at_cells a max_cells i (omega (arith, degree_cells a))))

pub refusal_pieces : (r : Refusal) (n : ℕ) (p : Option ℕ) → n ≡ (refusal r).number → placed p ≡ (refusal r).values
    → bytes "refused " ++ numeral n ++ place_text (placed p) ≡ refusal_text r
unfolding refusal_text
refusal_pieces r n p e f = ap₂ (λ (x : ℕ) (ys : List ℕ). bytes "refused " ++ numeral x ++ place_text ys) e f

-- the line depends on the coefficients only
pub line_same : (m n l : ℕ) (xs ys : List ℕ) → ((i : ℕ) → at xs i ≡ at ys i) → register_line m n l xs ≡ register_line m n l ys
unfolding register_line
line_same m n l xs ys same = rw (degree_same xs ys same, tabulate_eq (suc (degree ys)) (at xs) (at ys) (λ i h. same i)) refl
