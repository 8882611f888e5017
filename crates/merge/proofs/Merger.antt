-- What the merged query is: it passes its checks, each of its terms is the one number with both remainders, and its linear complexity is the larger
-- of the two for every number of terms.
-- Assumes nothing.
use mathlib.Core.Path.{◌≡◌, sym, ap, ◌∙◌, subst}
use mathlib.Core.List.{List}
use Prim.Native.Nat.{ℕ, ◌+◌, ◌%◌, ◌≤◌, ◌<◌, max}
use native.Mathlib.Nat.{mod-eq_of_lt}
use native.Mathlib.Omega.{arith}
use lib.ListN.{length}
use Rattle.std.specs.Prelude.{Ok}
use Rattle.lists.specs.Table.{at, tabulate}
use Rattle.lists.proofs.Table.{length_tabulate, at_tabulate}
use Rattle.recurrence.specs.Register.{complexity}
use Rattle.recurrence.proofs.Merged.{complexity_merged}
use Rattle.residue.proofs.Common.{multiple_above, leaves_agree, joined_both, joined_only}
use Rattle.cells.specs.Cell.{cell_at}
use Rattle.sequence.specs.declared.Sequence.{Sequence}
use Rattle.sequence.specs.Limits.{max_terms}
use Rattle.sequence.specs.Rules.{IsSound, sequence_of, check_of}
use Rattle.sequence.proofs.Laws.{term_cell}
use Rattle.sequence.proofs.Query.{query_modulus, query_count, query_term, query_passes}
use Rattle.merge.specs.Rules.{multiple_of, merged_term, merged_query}
use Rattle.merge.proofs.Laws.{AgreeAt, Mergeable, a_pos, b_pos}

module _ (s t : Sequence) (S : IsSound s) (T : IsSound t) where
  abbrev a : ℕ
  a = s.modulus

  abbrev b : ℕ
  b = t.modulus

  -- ---- one place

  module _ (i : ℕ) (hx : i < s.count) (hy : i < t.count) where
    -- a number that leaves both terms tells that they agree
    pub both_agree : (v : ℕ) → v % a ≡ at s.terms i → v % b ≡ at t.terms i → AgreeAt s t i
    both_agree v p q = leaves_agree a b (a_pos s t S T) (b_pos s t S T) (at s.terms i) (at t.terms i) v p q

    -- where they agree the merged term leaves both and is below the multiple
    pub term_both : AgreeAt s t i → (merged_term s t i < multiple_of s t) × (merged_term s t i % a ≡ at s.terms i) × (merged_term s t i % b ≡ at t.terms i)
    term_both h = joined_both a b (a_pos s t S T) (b_pos s t S T) (at s.terms i) (at t.terms i) (S.below i hx) (T.below i hy) h

    -- and no other number below it does
    pub term_only : (v : ℕ) → v < multiple_of s t → v % a ≡ at s.terms i → v % b ≡ at t.terms i → v ≡ merged_term s t i
    term_only v h p q = joined_only a b (a_pos s t S T) (b_pos s t S T) (at s.terms i) (at t.terms i) v h p q

  -- ---- the query

  module _ (x : Mergeable s t) where
    ts : List ℕ
    ts = tabulate s.count (merged_term s t)

    both_at : (i : ℕ) → i < s.count → (merged_term s t i < multiple_of s t) × (merged_term s t i % a ≡ at s.terms i) × (merged_term s t i % b ≡ at t.terms i)
    both_at i h = term_both i h (omega (arith, x.counts)) (x.agree i h)

    pub big : 2 ≤ multiple_of s t
    big = omega (arith, S.least, multiple_above a b (a_pos s t S T) (b_pos s t S T))

    long : length ts ≡ s.count
    unfolding ts
    long = length_tabulate s.count (merged_term s t)

    few : length ts ≤ max_terms
    few = omega (arith, long, S.count)

    small : (j : ℕ) → j < length ts → at ts j < multiple_of s t
    unfolding ts
    small j h =
        let k : j < s.count = omega (arith, long) in
        subst (λ (v : ℕ). v < multiple_of s t) (sym (at_tabulate s.count (merged_term s t) j k)) (both_at j k).0

    pub merged_modulus : cell_at (merged_query s t) 0 ≡ multiple_of s t
    unfolding merged_query ts
    merged_modulus = query_modulus (multiple_of s t) ts big x.within few small

    pub merged_count : cell_at (merged_query s t) 1 ≡ s.count
    unfolding merged_query ts
    merged_count = query_count (multiple_of s t) ts big x.within few small ∙ long

    pub merged_term_lem : (i : ℕ) → i < s.count → cell_at (merged_query s t) (2 + i) ≡ merged_term s t i
    unfolding merged_query ts
    merged_term_lem i h = query_term (multiple_of s t) ts big x.within few small i (omega (arith, S.count)) ∙ at_tabulate s.count (merged_term s t) i h

    pub merged_passes : check_of (merged_query s t) ≡ Ok tt
    unfolding merged_query ts
    merged_passes = query_passes (multiple_of s t) ts big x.within few small

    -- the linear complexity of its first k terms is the larger of the two, for every k
    pub merged_complexity :
        (k : ℕ) → k ≤ s.count
        → complexity (multiple_of s t) (sequence_of (merged_query s t)).terms k ≡ max (complexity a s.terms k) (complexity b t.terms k)
    merged_complexity k h =
        complexity_merged a b S.least T.least s.terms t.terms (sequence_of (merged_query s t)).terms k
        (λ j l. record { same = ap (λ (v : ℕ). v % a) (term j l) ∙ (both_at j (omega arith)).1 ∙ sym (mod-eq_of_lt (S.below j (omega arith))) })
        (λ j l. record { same = ap (λ (v : ℕ). v % b) (term j l) ∙ (both_at j (omega arith)).2 ∙ sym (mod-eq_of_lt (T.below j (omega (arith, x.counts)))) })
      where
        term : (j : ℕ) → j < k → at (sequence_of (merged_query s t)).terms j ≡ merged_term s t j
        term j l = term_cell (merged_query s t) j (omega (arith, S.count)) ∙ merged_term_lem j (omega arith)
