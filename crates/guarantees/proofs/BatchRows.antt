-- The rows of BatchRows, by computation.
-- Assumes nothing.
use mathlib.Core.Path.{refl}
use Rattle.lists.specs.Table.{tabulate, largest}
use Rattle.lists.specs.Search.{first, all, every}
use Rattle.lists.specs.Sum.{sum_to}
use Rattle.cells.specs.Cell.{bytes_of, equal}
use Rattle.residue.specs.Congruence.{neg}
use Rattle.residue.specs.Units.{inverse}
use Rattle.residue.specs.Valuation.{valuation, cofactor}
use Rattle.residue.specs.Factors.{least_divisor, least_power, powers_up_to, prime_powers}
use Rattle.residue.specs.Remainders.{joined}
use Rattle.recurrence.specs.Polynomial.{conv, plus, times, up, top, degree, len}
use Rattle.recurrence.specs.Steps.{discrepancy, case_of, partner, multiplier, change, remembered, older, no_older, next, history, row_at}
use Rattle.recurrence.specs.Register.{part, parts, complexity, register}
use Rattle.recurrence.specs.Running.{first_difference}
use Rattle.sequence.specs.Answers.{first_of}
use Rattle.sequence.specs.Rules.{fault_of, check_of, sequence_of}
use Rattle.candidate.specs.Rules.{flaw_of, judge_of}
use Rattle.catalogue.specs.Rules.{layout, record_of, is_of, first_match, passes, fetch_of, look_up_of}
use Rattle.batch.specs.Rules.{zero_record, alone_of, part_of, count_kind, refused_whole, look_up_batch_of, look_up_batch_answer, end_to_end}
use Rattle.batch.specs.Walk.{held_of}
use Rattle.guarantees.specs.BatchRows.{ServedRows, QueryRows, SizeRows, WholeRows, WalkRows}

pub served_rows : ServedRows
unfolding tabulate largest first all every sum_to bytes_of equal neg inverse valuation cofactor least_divisor least_power powers_up_to prime_powers joined conv plus times up top degree len discrepancy case_of partner multiplier change remembered older no_older next history row_at part parts complexity register first_difference first_of fault_of check_of sequence_of flaw_of judge_of layout record_of is_of first_match passes fetch_of look_up_of zero_record alone_of part_of count_kind refused_whole look_up_batch_of look_up_batch_answer end_to_end held_of
served_rows =
    record {
      mixed = refl;
      mixed_code = refl;
      mixed_replies = refl;
      mixed_editor = refl;
      mixed_visitor = refl;
      mixed_number = refl;
      failed = refl;
      failed_replies = refl;
      failed_records = refl;
    }

pub query_rows : QueryRows
unfolding tabulate largest first all every sum_to bytes_of equal neg inverse valuation cofactor least_divisor least_power powers_up_to prime_powers joined conv plus times up top degree len discrepancy case_of partner multiplier change remembered older no_older next history row_at part parts complexity register first_difference first_of fault_of check_of sequence_of flaw_of judge_of layout record_of is_of first_match passes fetch_of look_up_of zero_record alone_of part_of count_kind refused_whole look_up_batch_of look_up_batch_answer end_to_end held_of
query_rows =
    record {
      own = refl;
      own_replies = refl;
      own_records = refl;
      other_modulus = refl;
      other_count = refl;
    }

pub size_rows : SizeRows
unfolding tabulate largest first all every sum_to bytes_of equal neg inverse valuation cofactor least_divisor least_power powers_up_to prime_powers joined conv plus times up top degree len discrepancy case_of partner multiplier change remembered older no_older next history row_at part parts complexity register first_difference first_of fault_of check_of sequence_of flaw_of judge_of layout record_of is_of first_match passes fetch_of look_up_of zero_record alone_of part_of count_kind refused_whole look_up_batch_of look_up_batch_answer end_to_end held_of
size_rows =
    record {
      empty = refl;
      empty_code = refl;
      sixteen_made = refl;
      twice_found = refl;
      sixteen_code = refl;
    }

pub whole_rows : WholeRows
unfolding tabulate largest first all every sum_to bytes_of equal neg inverse valuation cofactor least_divisor least_power powers_up_to prime_powers joined conv plus times up top degree len discrepancy case_of partner multiplier change remembered older no_older next history row_at part parts complexity register first_difference first_of fault_of check_of sequence_of flaw_of judge_of layout record_of is_of first_match passes fetch_of look_up_of zero_record alone_of part_of count_kind refused_whole look_up_batch_of look_up_batch_answer end_to_end held_of
whole_rows =
    record {
      refused_34 = refl;
      refused_23 = refl;
      refused_23_empty = refl;
      refused_23_body = refl;
      refused_5_short = refl;
      refused_5_long = refl;
      refused_5_record = refl;
      refused_5_records = refl;
      refused_5_no_reply = refl;
      refused_5_replies = refl;
      refused_5_empty = refl;
      refused_5_code = refl;
      order_5_34 = refl;
      order_5_23 = refl;
      order_34_23 = refl;
      order_23_1 = refl;
      kept_34 = refl;
      kept_34_replies = refl;
      kept_23 = refl;
      kept_23_replies = refl;
      kept_5 = refl;
      kept_5_replies = refl;
    }

pub walk_rows : WalkRows
unfolding tabulate largest first all every sum_to bytes_of equal neg inverse valuation cofactor least_divisor least_power powers_up_to prime_powers joined conv plus times up top degree len discrepancy case_of partner multiplier change remembered older no_older next history row_at part parts complexity register first_difference first_of fault_of check_of sequence_of flaw_of judge_of layout record_of is_of first_match passes fetch_of look_up_of zero_record alone_of part_of count_kind refused_whole look_up_batch_of look_up_batch_answer end_to_end held_of
walk_rows =
    record {
      after_0 = refl;
      after_1 = refl;
      after_2 = refl;
      after_3 = refl;
    }
