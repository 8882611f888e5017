-- The rows of CensusRows: by computation, and where there are thousands of sequences by what the claim says of the cells.
-- Assumes nothing.
use mathlib.Core.Path.{◌≡◌, refl}
use Prim.Native.Nat.{ℕ}
use native.Mathlib.Omega.{arith}
use lib.ListN.{length-replicate}
use Rattle.lists.specs.Sum.{sum_to}
use Rattle.lists.specs.Table.{tabulate, largest}
use Rattle.lists.specs.Search.{first, all, every}
use Rattle.lists.specs.Text.{bytes}
use Rattle.cells.specs.Cell.{cell_at, bytes_of}
use Rattle.residue.specs.Congruence.{neg}
use Rattle.residue.specs.Units.{inverse}
use Rattle.residue.specs.Valuation.{valuation, cofactor}
use Rattle.residue.specs.Factors.{least_divisor, least_power, powers_up_to, prime_powers}
use Rattle.residue.proofs.Factors.{test_prime}
use Rattle.recurrence.specs.Polynomial.{conv, plus, times, up, top, degree, len}
use Rattle.recurrence.specs.Steps.{discrepancy, case_of, partner, multiplier, change, remembered, older, no_older, next, history, row_at}
use Rattle.recurrence.specs.Register.{part, parts, complexity}
use Rattle.counting.specs.Numbering.{list_at, count_below}
use Rattle.counting.specs.Lengths.{with_length}
use Rattle.sequence.specs.Limits.{query_bytes}
use Rattle.sequence.specs.Answers.{first_of}
use Rattle.enumeration.specs.Rules.{tally_bytes, counted_of, enumerate_of, enumerate_answer, query_numbered, tally_of, tally_answer, tally_cells}
use Rattle.lines.specs.Form.{decimal}
use Rattle.formatting.specs.Text.{numeral, each_after, separated}
use Rattle.formatting.specs.Listing.{refusal_text}
use Rattle.formatting.specs.Census.{tally_line, census_line, number_of, blank_in, pair_in, pair_line}
use Rattle.guarantees.specs.Census.{Tally, Countable}
use Rattle.guarantees.specs.CensusRows.{sevens, cells_to, CensusRows}
use Rattle.guarantees.proofs.Census.{tallied}

-- what the claim says, of the buffers of the rows
claim : (m n : ℕ) → Countable m n → Tally m n (sevens query_bytes) (sevens tally_bytes)
claim m n c = tallied m n c (sevens query_bytes) (length-replicate {A = ℕ} query_bytes 7) (sevens tally_bytes) (length-replicate {A = ℕ} tally_bytes 7)

of_61 : Tally 61 2 (sevens query_bytes) (sevens tally_bytes)
of_61 = claim 61 2 (record { modulus = record { least = omega arith; most = omega arith }; count = omega arith; power = omega arith })

sixty_one_row : cell_at (cells_to 61 2) 1 ≡ 3660
unfolding first least_divisor
sixty_one_row = of_61.prime (test_prime 61 refl) 1 (omega arith) (omega arith)

sixty_one_last_row : cell_at (cells_to 61 2) 2 ≡ 60
unfolding first least_divisor
sixty_one_last_row = of_61.prime (test_prime 61 refl) 2 (omega arith) (omega arith)

of_2 : Tally 2 12 (sevens query_bytes) (sevens tally_bytes)
of_2 = claim 2 12 (record { modulus = record { least = omega arith; most = omega arith }; count = omega arith; power = omega arith })

twelve_row : cell_at (cells_to 2 12) 6 ≡ 2048
unfolding first least_divisor
twelve_row = of_2.prime (test_prime 2 refl) 6 (omega arith) (omega arith)

twelve_last_row : cell_at (cells_to 2 12) 12 ≡ 1
unfolding first least_divisor
twelve_last_row = of_2.prime (test_prime 2 refl) 12 (omega arith) (omega arith)

-- all but one sequence of one term have length 1
one_term_row : cell_at (cells_to 4095 1) 1 ≡ 4094
unfolding sum_to
one_term_row =
    let t = claim 4095 1 (record { modulus = record { least = omega arith; most = omega arith }; count = omega arith; power = omega arith }) in
    omega (
      arith,
      t.whole,
      t.none,
      t.past 2 (omega arith) (omega arith),
      t.past 3 (omega arith) (omega arith),
      t.past 4 (omega arith) (omega arith),
      t.past 5 (omega arith) (omega arith),
      t.past 6 (omega arith) (omega arith),
      t.past 7 (omega arith) (omega arith),
      t.past 8 (omega arith) (omega arith),
      t.past 9 (omega arith) (omega arith),
      t.past 10 (omega arith) (omega arith),
      t.past 11 (omega arith) (omega arith),
      t.past 12 (omega arith) (omega arith),
    )

pub census_rows : CensusRows
unfolding tabulate largest first all every sum_to bytes_of neg inverse valuation cofactor least_divisor least_power powers_up_to prime_powers conv plus times up top degree len discrepancy case_of partner multiplier change remembered older no_older next history row_at part parts complexity list_at count_below with_length first_of counted_of enumerate_of enumerate_answer query_numbered tally_of tally_answer tally_cells bytes numeral each_after separated refusal_text tally_line census_line decimal number_of blank_in pair_in pair_line
census_rows =
    record {
      two_three = refl;
      four_two = refl;
      four_two_done = refl;
      two_three_bytes = refl;
      two_three_done = refl;
      six_done = refl;
      three_three = refl;
      six_two = refl;
      eight_one = refl;
      none_left = refl;
      none_large = refl;
      sixty_one = sixty_one_row;
      sixty_one_last = sixty_one_last_row;
      twelve = twelve_row;
      twelve_last = twelve_last_row;
      one_term = one_term_row;
      six = refl;
      next = refl;
      decimal = refl;
      first = refl;
      last = refl;
      one = refl;
      empty = refl;
      last_done = refl;
      empty_done = refl;
      head = refl;
      printed = refl;
      printed_four = refl;
      printed_none = refl;
      printed_1 = refl;
      printed_2 = refl;
      printed_33 = refl;
      refused_goes_on = refl;
      other = refl;
      other_ends = refl;
      empty_line = refl;
      one_number = refl;
      two_blanks = refl;
      blank_first = refl;
      blank_last = refl;
      no_count = refl;
      minus = refl;
      too_large = refl;
      largest = refl;
      refused_query = refl;
      refused_cells = refl;
      number_code = refl;
      tally_code = refl;
      number_code_33 = refl;
      tally_code_33 = refl;
      number_5_short = refl;
      number_5_long = refl;
      tally_5_short = refl;
      tally_5_long = refl;
      tally_5_few = refl;
      number_1_below = refl;
      number_1_above = refl;
      tally_1_below = refl;
      tally_1_above = refl;
      number_2 = refl;
      tally_2 = refl;
      number_33_power = refl;
      number_33_most = refl;
      tally_33_power = refl;
      tally_33_most = refl;
      number_33_equal = refl;
      number_33_none = refl;
      number_33_wide = refl;
      sixty_four = refl;
      number_order_5_1 = refl;
      number_order_5_2 = refl;
      number_order_5_33 = refl;
      number_order_1_2 = refl;
      number_order_1_33 = refl;
      number_order_2_33 = refl;
      tally_order_5_1 = refl;
      tally_order_5_2 = refl;
      tally_order_5_33 = refl;
      tally_order_1_2 = refl;
      tally_order_1_33 = refl;
      tally_order_2_33 = refl;
    }
