-- The answers have these numbers and this order, by computation.
-- Assumes nothing.
use mathlib.Core.Path.{refl}
use Rattle.lists.specs.Table.{tabulate, largest}
use Rattle.lists.specs.Search.{first, all, every}
use Rattle.lists.specs.Sum.{sum_to}
use Rattle.cells.specs.Cell.{bytes_of, equal}
use Rattle.residue.specs.Congruence.{neg}
use Rattle.residue.specs.Units.{inverse}
use Rattle.residue.specs.Valuation.{valuation, cofactor}
use Rattle.residue.specs.Factors.{least_divisor, least_power, powers_up_to, prime_powers}
use Rattle.residue.specs.Remainders.{joined}
use Rattle.recurrence.specs.Polynomial.{conv, plus, times, up, top, degree, len}
use Rattle.recurrence.specs.Steps.{discrepancy, case_of, partner, multiplier, change, remembered, older, no_older, next, history, row_at}
use Rattle.recurrence.specs.Register.{part, parts, complexity, register}
use Rattle.recurrence.specs.Working.{case_number, partner_told, step_at, steps_at, steps_over, sheet_of, rows_over}
use Rattle.recurrence.specs.Running.{cell, generated, first_difference}
use Rattle.sequence.specs.Answers.{first_of}
use Rattle.sequence.specs.Rules.{fault_of, check_of, open_of, push_of, sequence_of}
use Rattle.sequence.specs.Report.{uniqueness_by}
use Rattle.sequence.specs.Trace.{trace_of}
use Rattle.column.specs.Rules.{each_of, push_all_of, each_answer}
use Rattle.candidate.specs.Rules.{flaw_of, judge_of, verify_answer, generate_answer}
use Rattle.catalogue.specs.Rules.{layout, record_of, synthesize_answer, is_of, first_match, passes, fetch_of, look_up_of, look_up_answer}
use Rattle.guarantees.specs.Calls.{after_all}
use Rattle.guarantees.specs.Numbers.{Numbers, Orders}

pub numbers : Numbers
unfolding tabulate largest first all every sum_to bytes_of equal neg inverse valuation cofactor least_divisor least_power powers_up_to prime_powers joined conv plus times up top degree len discrepancy case_of partner multiplier change remembered older no_older next history row_at part parts complexity register case_number partner_told step_at steps_at steps_over sheet_of rows_over uniqueness_by trace_of cell generated first_difference first_of fault_of check_of open_of push_of after_all sequence_of each_of push_all_of each_answer flaw_of judge_of verify_answer generate_answer layout record_of synthesize_answer is_of first_match passes fetch_of look_up_of look_up_answer
numbers =
    record {
      opened = refl;
      pushed = refl;
      pushed_all = refl;
      pushed_none = refl;
      pushed_128 = refl;
      column_stays = refl;
      column_whole = refl;
      column_bytes = refl;
      column_ends_full = refl;
      reported = refl;
      reported_sole = refl;
      reported_several = refl;
      profiled = refl;
      traced = refl;
      traced_sole = refl;
      traced_several = refl;
      traced_longer = refl;
      traced_sheet = refl;
      traced_short = refl;
      yes = refl;
      no_at_3 = refl;
      ran = refl;
      made = refl;
      made_none_found = refl;
      found_at_0 = refl;
      found_at_1 = refl;
      found_numbered = refl;
      shown_1 = refl;
      shown_1_high = refl;
      shown_0 = refl;
      shown_2 = refl;
      shown_2_high = refl;
      shown_257 = refl;
      shown_65537 = refl;
      shown_large = refl;
      shown_made_1 = refl;
      shown_made_2 = refl;
      shown_refused = refl;
      placed_code_0 = refl;
      placed_code_1 = refl;
      placed_code_127 = refl;
      plain_code = refl;
      refused_1_below = refl;
      refused_1_above = refl;
      refused_2 = refl;
      refused_2_cells = refl;
      refused_3_at_0 = refl;
      refused_3_first = refl;
      refused_3_last_place = refl;
      refused_3_verified = refl;
      refused_3_looked_up = refl;
      refused_3_pushed = refl;
      refused_3_column = refl;
      refused_3_column_first = refl;
      refused_4 = refl;
      refused_5 = refl;
      refused_5_record = refl;
      refused_5_served = refl;
      refused_5_odd = refl;
      refused_5_column = refl;
      refused_5_sheet = refl;
      refused_5_sheet_primes = refl;
      refused_6_a = refl;
      refused_6_b = refl;
      refused_6_past_a = refl;
      refused_6_past_b = refl;
      refused_6_lead_above = refl;
      refused_6_run = refl;
      refused_21_modulus = refl;
      refused_21_count = refl;
      refused_21_term = refl;
      refused_21_padding = refl;
      refused_21_traced = refl;
      refused_21_column = refl;
      refused_21_column_empty = refl;
      refused_22 = refl;
      refused_22_column = refl;
      refused_23 = refl;
      refused_23_body = refl;
      refused_24_long = refl;
      refused_24_coefficient = refl;
      refused_24_lead = refl;
      refused_24_no = refl;
      refused_25 = refl;
      refused_25_run = refl;
      refused_26 = refl;
      refused_26_zero = refl;
      refused_26_run = refl;
    }

pub orders : Orders
unfolding tabulate largest first all every sum_to bytes_of equal neg inverse valuation cofactor least_divisor least_power powers_up_to prime_powers joined conv plus times up top degree len discrepancy case_of partner multiplier change remembered older no_older next history row_at part parts complexity register case_number partner_told step_at steps_at steps_over sheet_of rows_over uniqueness_by trace_of cell generated first_difference first_of fault_of check_of open_of push_of after_all sequence_of each_of push_all_of each_answer flaw_of judge_of verify_answer generate_answer layout record_of synthesize_answer is_of first_match passes fetch_of look_up_of look_up_answer
orders =
    record {
      push_21_22 = refl;
      push_22_3 = refl;
      column_5_21 = refl;
      column_21_22 = refl;
      column_21_3 = refl;
      column_22_3 = refl;
      report_5_21 = refl;
      trace_5_21 = refl;
      trace_21_5 = refl;
      profile_5_21 = refl;
      query_5_1 = refl;
      query_1_2 = refl;
      query_2_3 = refl;
      query_3_4 = refl;
      verify_5_1 = refl;
      verify_4_25 = refl;
      verify_25_6 = refl;
      verify_25_26 = refl;
      verify_6_26 = refl;
      generate_5_1 = refl;
      generate_1_2 = refl;
      generate_2_25 = refl;
      generate_25_6 = refl;
      generate_6_26 = refl;
      look_up_5_1 = refl;
      look_up_4_23 = refl;
      look_up_23_24 = refl;
    }
