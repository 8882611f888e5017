-- What a loop that writes a query knows: the modulus, the count and the first j terms stand in its first cells.
-- Assumes nothing.
use mathlib.Core.Path.{◌≡◌, sym, ap, ◌∙◌, subst}
use mathlib.Core.List.{List, ◌∷◌}
use Prim.Native.Nat.{ℕ, suc, ◌+◌, ◌*◌, ◌≤◌, ◌<◌}
use native.Mathlib.Omega.{arith}
use lib.ListN.{length}
use Rattle.lists.specs.Table.{at, tabulate}
use Rattle.lists.proofs.Table.{length_tabulate, at_tabulate}
use Rattle.cells.specs.Cell.{put_cell, bytes_of}
use Rattle.cells.proofs.Laws.{Written, written_none, written_more, written_all}
use Rattle.sequence.specs.Limits.{max_terms, query_bytes}

-- the cells of the query whose term j is f j
abbrev pub values : ℕ → ℕ → (ℕ → ℕ) → List ℕ
values m n f = m ∷ n ∷ tabulate max_terms f

length_values : (m n : ℕ) (f : ℕ → ℕ) → length (values m n f) ≡ 130
length_values m n f = omega (arith, length_tabulate max_terms f)

pub record Writing (m n : ℕ) (f : ℕ → ℕ) (query : List ℕ) (j : ℕ) : Type 0 where
  pub lent : List ℕ
  pub size : length lent ≡ query_bytes
  pub written : Written (values m n f) lent (2 + j) query

fits : (m n : ℕ) (f : ℕ → ℕ) (q : List ℕ) → length q ≡ query_bytes → length q ≡ 2 * length (values m n f)
fits m n f q h = omega (arith, length_values m n f)

module _ {m n : ℕ} {f : ℕ → ℕ} where
  pub writing_start : (q q1 q2 : List ℕ) → length q ≡ query_bytes → q1 ≡ put_cell q 0 m → q2 ≡ put_cell q1 1 n → Writing m n f q2 0
  writing_start q q1 q2 h d e =
      let long = length_values m n f in
      record {
        lent = q;
        size = h;
        written = written_more (fits m n f q h) q2 (written_more (fits m n f q h) q1 (written_none (fits m n f q h)) (omega arith) d) (omega arith) e;
      }

  pub writing_more : {j : ℕ} {q : List ℕ} (q' : List ℕ) (r : ℕ) → Writing m n f q j → j < max_terms → r ≡ f j → q' ≡ put_cell q (2 + j) r → Writing m n f q' (j + 1)
  writing_more {j} {q} q' r w h d e =
      let long = length_values m n f in
      let two : 2 + j ≡ suc (suc j) = omega arith in
      let is : r ≡ at (values m n f) (2 + j) = d ∙ sym (at_tabulate max_terms f j h) ∙ ap (at (values m n f)) (sym two) in
      let one : 2 + j + 1 ≡ 2 + (j + 1) = omega arith in
      record {
        lent = w.lent;
        size = w.size;
        written = subst (λ (k : ℕ). Written (values m n f) w.lent k q') one
            (written_more (fits m n f w.lent w.size) q' w.written (omega arith) (e ∙ ap (put_cell q (2 + j)) is));
      }

  pub writing_end : {j : ℕ} {q : List ℕ} → Writing m n f q j → max_terms ≤ j → q ≡ bytes_of (values m n f)
  writing_end {j} w h = written_all (fits m n f w.lent w.size) w.written (omega (arith, length_values m n f))

  pub writing_size : {j : ℕ} {q : List ℕ} → Writing m n f q j → length q ≡ query_bytes
  writing_size w = w.written.size ∙ w.size
