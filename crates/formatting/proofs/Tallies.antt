-- Laws of the census's line: its pieces, and that what a tally fills is what it says.
-- Assumes nothing.
use mathlib.Core.Path.{◌≡◌, sym, ap, ◌∙◌}
use mathlib.Core.List.{List, [], ◌∷◌, ◌++◌}
use Prim.Native.Nat.{ℕ, ◌+◌, ◌<◌}
use native.Mathlib.Numerals.{add-one}
use lib.ListN.{length}
use borrow.Author.Tests.{eq-eqb}
use Rattle.std.specs.Prelude.{Ok, Err}
use Rattle.lists.specs.Table.{tabulate}
use Rattle.lists.specs.Text.{bytes}
use Rattle.cells.specs.Cell.{cell_at}
use Rattle.sequence.specs.declared.Refusal.{Refusal}
use Rattle.sequence.specs.Report.{filled}
use Rattle.sequence.proofs.Laws.{refused_done}
use Rattle.enumeration.specs.Rules.{lengths, tally_bytes, counted_of, tally_in, tally_of, tally_cells}
use Rattle.enumeration.proofs.Laws.{Count, modulus, count, many, fits, counting}
use Rattle.formatting.specs.Text.{separated}
use Rattle.formatting.specs.Listing.{refusal_line}
use Rattle.formatting.specs.Census.{tally_line, tallied_line, census_line}
use Rattle.sequence.specs.Answers.{Outcome}

-- the cells that are written are those of the lengths 0 to n
pub cells_told : (m n : ℕ) (cells : List ℕ)
    → separated (bytes " ") (m ∷ n ∷ []) ++ bytes " " ++ separated (bytes ",") (tabulate (n + 1) (cell_at cells)) ++ bytes "\n" ≡ tally_line m n cells
unfolding tally_line
cells_told m n cells = ap (λ (x : ℕ). separated (bytes " ") (m ∷ n ∷ []) ++ bytes " " ++ separated (bytes ",") (tabulate x (cell_at cells)) ++ bytes "\n") (add-one n)

-- a tally into a buffer of its length
module _ (m n : ℕ) (lent : List ℕ) (size : length lent ≡ tally_bytes) where
  replied : tally_of m n lent ≡ tally_in (counted_of m n)
  unfolding tally_of
  replied = rw (eq-eqb (length lent) tally_bytes size)

  pub line_refused : {r : Refusal} → tally_of m n lent ≡ Err r → refusal_line r ≡ census_line m n
  unfolding census_line
  line_refused h = sym (ap (λ (o : Outcome). tallied_line o m n) (sym replied ∙ h))

  pub line_made : (cells : List ℕ) {o : Outcome} → cells ≡ filled o (tally_cells m n) lent → o ≡ tally_of m n lent → o ≡ Ok tt → tally_line m n cells ≡ census_line m n
  unfolding census_line
  line_made cells {o} e f d =
      ap (tally_line m n) (e ∙ ap (λ (x : Outcome). filled x (tally_cells m n) lent) d)
      ∙ sym (ap (λ (x : Outcome). tallied_line x m n) (sym replied ∙ sym f ∙ d))

  -- where it is not refused, each length has its cell
  pub line_few : {o : Outcome} → o ≡ tally_of m n lent → o ≡ Ok tt → n < lengths
  line_few f d = go (counting m n)
    where
      done : tally_in (counted_of m n) ≡ Ok tt
      done = sym replied ∙ sym f ∙ d

      go : Count m n → n < lengths
      go (modulus a h) = refused_done (ap tally_in (sym h) ∙ done)
      go (count a b c h) = refused_done (ap tally_in (sym h) ∙ done)
      go (many a b c e h) = refused_done (ap tally_in (sym h) ∙ done)
      go (fits l h) = l.few
