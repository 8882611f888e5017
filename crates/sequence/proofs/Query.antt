-- Laws of the query of some terms: what its cells are, and that nothing is wrong with it where the terms are below the modulus.
-- Assumes nothing.
use mathlib.Core.Path.{◌≡◌, sym, ap, ◌∙◌, subst}
use mathlib.Core.Logic.{◌⊎◌, inl, inr}
use mathlib.Core.List.{List, ◌∷◌}
use Prim.Native.Nat.{ℕ, suc, ◌+◌, ◌*◌, ◌≤◌, ◌<◌}
use native.Mathlib.Omega.{arith}
use lib.ListN.{length}
use Rattle.std.specs.Prelude.{Ok}
use Rattle.lists.specs.Table.{at, tabulate}
use Rattle.lists.proofs.Table.{length_tabulate, at_tabulate, at_past}
use Rattle.lists.proofs.Search.{lt_or_le}
use Rattle.cells.specs.Cell.{cell_at}
use Rattle.cells.proofs.Laws.{length_bytes_of, cell_at_bytes_of}
use Rattle.sequence.specs.Limits.{max_modulus, max_terms, query_bytes}
use Rattle.sequence.specs.Rules.{IsSound, query_of, sequence_of, check_of}
use Rattle.sequence.proofs.Laws.{term_cell, done_check}

abbrev cells : ℕ → List ℕ → List ℕ
cells m ts = m ∷ length ts ∷ tabulate max_terms (at ts)

pub query_size : (m : ℕ) (ts : List ℕ) → length (query_of m ts) ≡ query_bytes
query_size m ts = length_bytes_of (cells m ts) ∙ (let e : 2 * length (cells m ts) ≡ query_bytes = omega (arith, length_tabulate max_terms (at ts)) in e)

module _ (m : ℕ) (ts : List ℕ) (least : 2 ≤ m) (most : m ≤ max_modulus) (few : length ts ≤ max_terms) (below : (j : ℕ) → j < length ts → at ts j < m) where
  pub query_modulus : cell_at (query_of m ts) 0 ≡ m
  query_modulus = cell_at_bytes_of (cells m ts) 0 (let h : m < 65536 = omega arith in h)

  pub query_count : cell_at (query_of m ts) 1 ≡ length ts
  query_count = cell_at_bytes_of (cells m ts) 1 (let h : length ts < 65536 = omega arith in h)

  query_below : (j : ℕ) → at ts j < m
  query_below j = go (lt_or_le j (length ts))
    where
      go : (j < length ts) ⊎ (length ts ≤ j) → at ts j < m
      go (inl h) = below j h
      go (inr h) = omega (arith, at_past ts j h)

  pub query_term : (j : ℕ) → j < max_terms → cell_at (query_of m ts) (2 + j) ≡ at ts j
  query_term j h = cell_at_bytes_of (cells m ts) (2 + j) (subst (λ (x : ℕ). x < 65536) (sym is) (let b : at ts j < 65536 = omega (arith, query_below j) in b)) ∙ is
    where
      two : 2 + j ≡ suc (suc j)
      two = omega arith

      is : at (cells m ts) (2 + j) ≡ at ts j
      is = ap (at (cells m ts)) two ∙ at_tabulate max_terms (at ts) j h

  query_sound : IsSound (sequence_of (query_of m ts))
  unfolding sequence_of
  query_sound =
      record {
        least = subst (λ (x : ℕ). 2 ≤ x) (sym query_modulus) least;
        most = subst (λ (x : ℕ). x ≤ max_modulus) (sym query_modulus) most;
        count = subst (λ (x : ℕ). x ≤ max_terms) (sym query_count) few;
        below = λ j h. let k : j < max_terms = omega (arith, query_count) in omega (arith, term j k, query_below j, query_modulus);
        zeros = λ j h k. term j k ∙ at_past ts j (omega (arith, query_count));
      }
    where
      term : (j : ℕ) → j < max_terms → at (sequence_of (query_of m ts)).terms j ≡ at ts j
      term j h = term_cell (query_of m ts) j h ∙ query_term j h

  pub query_passes : check_of (query_of m ts) ≡ Ok tt
  query_passes = done_check (query_of m ts) (query_size m ts) query_sound
