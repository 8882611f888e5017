-- What `synthesize` and `trace` give: the definition's register, each list in full, the linear complexity of every beginning of the terms, and whether
-- the modulus is prime.
-- Assumes nothing.
use Rattle.std.specs.Prelude.{List, ℕ, zero, leb}
use Rattle.lists.specs.Choice.{pick}
use Rattle.lists.specs.Table.{at, tabulate}
use Rattle.residue.specs.Factors.{is_prime}
use Rattle.recurrence.specs.Register.{complexity, register}
use Rattle.steps.specs.Sizes.{max_cells, max_terms}
use Rattle.synthesis.specs.declared.Synthesis.{Synthesis}

-- the linear complexity of the first k of n terms; past n, 0
unfoldable pub length_at : ℕ → List ℕ → ℕ → ℕ → ℕ
length_at m S n k = pick (leb k n) (complexity m S k) zero

unfoldable pub synthesis_of : ℕ → List ℕ → ℕ → Synthesis
synthesis_of m S n =
    record {
      length = (register m S n).length;
      a = tabulate max_cells (at (register m S n).a);
      b = tabulate max_terms (at (register m S n).b);
      lengths = tabulate max_cells (length_at m S n);
      prime = is_prime m;
    }
