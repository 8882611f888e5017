-- Records with the same body have the same parts; matching and the test behind 24 read nothing else.
-- Assumes nothing.
use mathlib.Core.Path.{◌≡◌, refl, sym, ap, ◌∙◌}
use mathlib.Core.List.{List, [], ◌∷◌}
use Prim.Native.Nat.{ℕ, zero, suc, ◌+◌, ◌*◌, ◌≤◌, ◌<◌}
use native.Mathlib.Omega.{arith}
use lib.ListN.{take, drop}
use lib.Seq.{take-take, get_or-take}
use Rattle.lists.specs.Table.{at}
use Rattle.lists.proofs.Search.{first_same}
use Rattle.cells.specs.Cell.{cell_at, equal}
use Rattle.sequence.specs.declared.Sequence.{Sequence}
use Rattle.sequence.specs.Limits.{query_bytes, a_bytes, b_bytes}
use Rattle.candidate.specs.Rules.{a_cells, b_cells, judge_of}
use Rattle.catalogue.specs.Rules.{body_bytes, body, a_place, b_place, length_cell, record_at, is_of, first_match, is_yes, passes}

-- ---- records with the same body

-- what lies before place a
take_within : (b m a : ℕ) (z : List ℕ) → b + m ≤ a → take m (drop b z) ≡ take m (drop b (take a z))
take_within zero m a z h = sym (take-take m a z (omega arith))
take_within (suc b) m zero z h = absurd (omega arith)
take_within (suc b) m (suc a) [] h = refl
take_within (suc b) m (suc a) (x ∷ z) h = take_within b m a z (omega arith)

pub part_same : (b m : ℕ) (e e' : List ℕ) → b + m ≤ body_bytes → body e ≡ body e' → take m (drop b e) ≡ take m (drop b e')
part_same b m e e' h s =
    take_within b m body_bytes e h ∙ ap (λ (z : List ℕ). take m (drop b z)) s ∙ sym (take_within b m body_bytes e' h)

pub cell_same : (i : ℕ) (e e' : List ℕ) → 2 * i + 1 < body_bytes → body e ≡ body e' → cell_at e i ≡ cell_at e' i
cell_same i e e' h s = omega (arith, byte (2 * i) (omega arith), byte (2 * i + 1) (omega arith))
  where
    byte : (j : ℕ) → j < body_bytes → at e j ≡ at e' j
    byte j l = sym (get_or-take body_bytes e j 0 l) ∙ ap (λ (z : List ℕ). at z j) s ∙ get_or-take body_bytes e' j 0 l

pub passes_same : (s : Sequence) (e e' : List ℕ) → body e ≡ body e' → passes s e ≡ passes s e'
unfolding passes
passes_same s e e' h =
    ap is_yes
    (ap (λ (z : List ℕ). judge_of s (a_cells z) (b_cells (take b_bytes (drop b_place e))) (cell_at e length_cell)) (part_same a_place a_bytes e e' (omega arith) h)
    ∙ ap (λ (z : List ℕ). judge_of s (a_cells (take a_bytes (drop a_place e'))) (b_cells z) (cell_at e length_cell)) (part_same b_place b_bytes e e' (omega arith) h)
    ∙ ap (judge_of s (a_cells (take a_bytes (drop a_place e'))) (b_cells (take b_bytes (drop b_place e')))) (cell_same length_cell e e' (omega arith) h))

pub of_same : (query e e' : List ℕ) → body e ≡ body e' → is_of query e ≡ is_of query e'
unfolding is_of
of_same query e e' h = ap (equal query) (part_same 0 query_bytes e e' (omega arith) h)

-- the first match in catalogues whose records have the same bodies
pub match_same : (query c c' : List ℕ) (n : ℕ) → ((i : ℕ) → i < n → body (record_at c i) ≡ body (record_at c' i)) → first_match query c n ≡ first_match query c' n
unfolding first_match
match_same query c c' n bodies = first_same n _ _ (λ i h. of_same query (record_at c i) (record_at c' i) (bodies i h))
