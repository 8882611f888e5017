-- Laws of the register and the profile: the lengths of what is written, and that a sound sequence may be solved.
-- Assumes nothing.
use mathlib.Core.Path.{◌≡◌, ap, ap₂, ◌∙◌}
use mathlib.Core.Logic.{◌⊎◌, inl, inr}
use mathlib.Core.List.{List, ◌++◌, append-nil}
use Prim.Native.Nat.{ℕ, ◌≤◌, ◌<◌}
use native.Mathlib.Omega.{arith}
use lib.ListN.{length, drop, length-drop, drop_of_length-le}
use lib.Seq.{take_at, drop_at}
use borrow.Rule.Slice.PartMut.{put_mid}
use Rattle.std.specs.Prelude.{Ok}
use Rattle.lists.specs.Table.{at}
use Rattle.lists.proofs.Table.{length_tabulate}
use Rattle.lists.proofs.Search.{lt_or_le}
use Rattle.recurrence.proofs.Register.{register_right}
use Rattle.synthesis.specs.declared.Synthesis.{Synthesis}
use Rattle.synthesis.specs.Synthesis.{synthesis_of}
use Rattle.sequence.specs.Limits.{max_cells, max_terms, a_bytes, b_bytes, register_bytes}
use Rattle.sequence.specs.declared.Sequence.{Sequence}
use Rattle.sequence.specs.declared.Report.{Report}
use Rattle.sequence.specs.Rules.{IsSound}
use Rattle.sequence.specs.Report.{uniqueness_by, register_told}
use Rattle.sequence.specs.Answers.{of_length}

module _ (x : Synthesis) (s : Sequence) (h : x ≡ synthesis_of s.modulus s.terms s.count) where
  pub long_a : length x.a ≡ max_cells
  unfolding synthesis_of
  long_a = ap (λ (z : Synthesis). length z.a) h ∙ length_tabulate max_cells _

  pub long_b : length x.b ≡ max_terms
  unfolding synthesis_of
  long_b = ap (λ (z : Synthesis). length z.b) h ∙ length_tabulate max_terms _

  pub long_lengths : length x.lengths ≡ max_cells
  unfolding synthesis_of
  long_lengths = ap (λ (z : Synthesis). length z.lengths) h ∙ length_tabulate max_cells _

  pub short_length : IsSound s → x.length ≤ max_terms
  unfolding synthesis_of
  short_length f = omega (arith, ap (λ (z : Synthesis). z.length) h, (register_right s.modulus f.least s.terms s.count).short, f.count)

  -- what is reported
  pub told : (r : Report) → r.length ≡ x.length → r.uniqueness ≡ uniqueness_by x.prime s.count x.length → Ok r ≡ register_told s
  unfolding synthesis_of
  told r k w = ap₂ of_length k w ∙ ap (λ (z : Synthesis). of_length z.length (uniqueness_by z.prime s.count z.length)) h

-- every cell of a sound sequence is small
pub small_terms : (s : Sequence) → IsSound s → (i : ℕ) → i < max_terms → at s.terms i < 65536
small_terms s h i l = go (lt_or_le i s.count)
  where
    go : (i < s.count) ⊎ (s.count ≤ i) → at s.terms i < 65536
    go (inl k) = omega (arith, h.below i k, h.most)
    go (inr k) = omega (arith, h.zeros i k l)

-- x where a stands, then y where b does
pub two_parts : (x y out : List ℕ) → length x ≡ a_bytes → length out ≡ register_bytes → put_mid a_bytes b_bytes (x ++ drop a_bytes out) y ≡ x ++ y
two_parts x y out hx ho =
    ap₂ (λ (t d : List ℕ). t ++ (y ++ drop b_bytes d)) (take_at x (drop a_bytes out) a_bytes hx) (drop_at x (drop a_bytes out) a_bytes hx)
    ∙ ap (λ (d : List ℕ). x ++ (y ++ d)) (drop_of_length-le (drop a_bytes out) {i = b_bytes} (omega (arith, length-drop a_bytes out)))
    ∙ ap (λ (d : List ℕ). x ++ d) (append-nil y)
