-- The rows of MergingRows, by computation. Where the multiple is large, its search is left out: the law for it gives the number.
-- Assumes nothing.
use mathlib.Core.Path.{◌≡◌, refl, sym, ap, ◌∙◌}
use mathlib.Core.List.{List, [], ◌∷◌}
use Prim.Native.Nat.{ℕ, ◌+◌, ◌%◌, ◌≤◌, ◌<◌}
use native.Mathlib.Nat.{mod-one}
use native.Mathlib.Omega.{arith}
use lib.ListN.{length-replicate}
use Rattle.std.specs.Prelude.{Ok, Err}
use Rattle.lists.specs.Table.{tabulate, largest}
use Rattle.lists.specs.Search.{first, all, every}
use Rattle.lists.specs.Sum.{sum_to}
use Rattle.cells.specs.Cell.{cell_at, bytes_of}
use Rattle.residue.specs.Congruence.{neg}
use Rattle.residue.specs.Units.{inverse}
use Rattle.residue.specs.Valuation.{valuation, cofactor}
use Rattle.residue.specs.Factors.{least_divisor, least_power, powers_up_to, prime_powers}
use Rattle.residue.specs.Remainders.{joined}
use Rattle.residue.specs.Common.{common_divisor, common_multiple}
use Rattle.residue.proofs.Common.{multiple_product}
use Rattle.recurrence.specs.Polynomial.{conv, plus, times, up, top, degree, len}
use Rattle.recurrence.specs.Steps.{discrepancy, case_of, partner, multiplier, change, remembered, older, no_older, next, history, row_at}
use Rattle.recurrence.specs.Register.{part, parts, complexity, register}
use Rattle.sequence.specs.declared.Refusal.TheVariants as R
use Rattle.sequence.specs.Limits.{max_modulus, query_bytes}
use Rattle.sequence.specs.Answers.{granted, refused, outcome_answer, first_of}
use Rattle.sequence.specs.Rules.{fault_of, check_of, open_of, push_of, query_of, sequence_of}
use Rattle.sequence.specs.Report.{uniqueness_by, report_of}
use Rattle.merge.specs.Rules.{merged_query, compared_of, merge_of, merge_answer}
use Rattle.guarantees.specs.Calls.{after_all}
use Rattle.codes.specs.Codes.{code_of}
use Rattle.guarantees.specs.Cases.{zeros, reply}
use Rattle.guarantees.specs.Merging as M
use Rattle.guarantees.specs.Merging.{Comparable, TwoQueries}
use Rattle.guarantees.specs.MergingRows.{answer_to, MergedRows}
use Rattle.guarantees.proofs.Refusals.{passed_clean}
use Rattle.guarantees.proofs.Merging.{divisor, multiple, two_queries}

-- ---- multiples that are too large to search for

module _ (x y : List ℕ) (fx : check_of x ≡ Ok tt) (fy : check_of y ≡ Ok tt) (counts : cell_at x 1 ≡ cell_at y 1) where
  held : Comparable x y (zeros query_bytes)
  held = record { first = passed_clean x fx; second = passed_clean y fy; buffer = length-replicate {A = ℕ} query_bytes 0 }

  above : max_modulus < common_multiple (cell_at x 0) (cell_at y 0) → answer_to x y ≡ refused 30
  unfolding TwoQueries
  above h =
      sym (two_queries x y (zeros query_bytes)).by_number
      ∙ ap outcome_answer ((two_queries x y (zeros query_bytes)).exactly (Err R.MultipleAbove)
      (M.multiple (common_multiple (cell_at x 0) (cell_at y 0)) held counts (multiple x y fx fy) h refl))

  within : common_multiple (cell_at x 0) (cell_at y 0) ≤ max_modulus → common_divisor (cell_at x 0) (cell_at y 0) ≡ 1 → answer_to x y ≡ granted []
  unfolding TwoQueries
  within h one =
      sym (two_queries x y (zeros query_bytes)).by_number
      ∙ ap outcome_answer ((two_queries x y (zeros query_bytes)).exactly (Ok tt)
      (M.done (common_multiple (cell_at x 0) (cell_at y 0)) (common_divisor (cell_at x 0) (cell_at y 0)) held counts (multiple x y fx fy) h (divisor x y fx fy)
      (λ j l. ap (λ (g : ℕ). cell_at x (2 + j) % g) one ∙ mod-one (cell_at x (2 + j)) ∙ sym (ap (λ (g : ℕ). cell_at y (2 + j) % g) one ∙ mod-one (cell_at y (2 + j)))) refl))

multiple_64_65 : common_multiple 64 65 ≡ 4160
unfolding first common_divisor
multiple_64_65 = sym (multiple_product 64 65 (omega arith) (omega arith))

multiple_512_513 : common_multiple 512 513 ≡ 262656
unfolding first common_divisor
multiple_512_513 = sym (multiple_product 512 513 (omega arith) (omega arith))

multiple_512_514 : common_multiple 512 514 ≡ 131584
unfolding first common_divisor
multiple_512_514 = sym (multiple_product 512 514 (omega arith) (omega arith))

multiple_63_65 : common_multiple 63 65 ≡ 4095
unfolding first common_divisor
multiple_63_65 = sym (multiple_product 63 65 (omega arith) (omega arith))

coprime_63_65 : common_divisor 63 65 ≡ 1
unfolding first common_divisor
coprime_63_65 = refl

above_none : answer_to (query_of 512 []) (query_of 513 []) ≡ refused 30
unfolding tabulate first all bytes_of fault_of sequence_of check_of
above_none = above (query_of 512 []) (query_of 513 []) refl refl refl (omega (arith, multiple_512_513))

above_one : answer_to (query_of 64 (3 ∷ [])) (query_of 65 (3 ∷ [])) ≡ refused 30
unfolding tabulate first all bytes_of fault_of sequence_of check_of
above_one = above (query_of 64 (3 ∷ [])) (query_of 65 (3 ∷ [])) refl refl refl (omega (arith, multiple_64_65))

above_apart : answer_to (query_of 512 (1 ∷ [])) (query_of 514 (2 ∷ [])) ≡ refused 30
unfolding tabulate first all bytes_of fault_of sequence_of check_of
above_apart = above (query_of 512 (1 ∷ [])) (query_of 514 (2 ∷ [])) refl refl refl (omega (arith, multiple_512_514))

at_the_limit : answer_to (query_of 63 (62 ∷ [])) (query_of 65 (64 ∷ [])) ≡ granted []
unfolding tabulate first all bytes_of fault_of sequence_of check_of
at_the_limit = within (query_of 63 (62 ∷ [])) (query_of 65 (64 ∷ [])) refl refl refl (omega (arith, multiple_63_65)) coprime_63_65

pub merged_rows : MergedRows
unfolding tabulate largest first all every sum_to bytes_of neg inverse valuation cofactor least_divisor least_power powers_up_to prime_powers joined common_divisor common_multiple conv plus times up top degree len discrepancy case_of partner multiplier change remembered older no_older next history row_at part parts complexity register first_of fault_of check_of open_of push_of sequence_of uniqueness_by report_of merged_query compared_of merge_of merge_answer after_all reply
merged_rows =
    record {
      example = refl;
      example_query = refl;
      turned_query = refl;
      agree_6_query = refl;
      twelve = refl;
      eighteen = refl;
      no_coefficient = refl;
      thirty_six = refl;
      thirty_six_query = refl;
      coprime_query = refl;
      equal_query = refl;
      divides_query = refl;
      divided_query = refl;
      none_query = refl;
      refused_query = refl;
      done_code = refl;
      counts_code = refl;
      above_code = ap code_of above_none;
      apart_code_0 = refl;
      apart_code_2 = refl;
      second_code_1 = refl;
      refused_1_first = refl;
      refused_1_second = refl;
      refused_2_first = refl;
      refused_2_second = refl;
      refused_3_first = refl;
      refused_3_second = refl;
      refused_4_first = refl;
      refused_4_second = refl;
      refused_5_first = refl;
      refused_5_second = refl;
      refused_5_buffer = refl;
      refused_29 = refl;
      refused_30 = above_one;
      largest = at_the_limit;
      refused_31_first = refl;
      order_5_1 = refl;
      order_second_5_first_1 = refl;
      order_1_2 = refl;
      order_first_2_second_1 = refl;
      order_first_3_second_1 = refl;
      order_first_4_second_1 = refl;
      order_second_1_29 = refl;
      order_second_4_29 = refl;
      order_29_30 = refl;
      order_29_31 = refl;
      order_30_31 = above_apart;
    }
