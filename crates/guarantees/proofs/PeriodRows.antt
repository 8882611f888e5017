-- The rows of PeriodRows, by computation.
-- Assumes nothing.
use mathlib.Core.Path.{refl}
use Rattle.lists.specs.Table.{tabulate, largest}
use Rattle.lists.specs.Search.{first, all, every}
use Rattle.cells.specs.Cell.{bytes_of}
use Rattle.residue.specs.Congruence.{neg}
use Rattle.residue.specs.Units.{inverse}
use Rattle.residue.specs.Valuation.{valuation, cofactor}
use Rattle.residue.specs.Factors.{least_divisor, least_power, powers_up_to, prime_powers}
use Rattle.residue.specs.Remainders.{joined}
use Rattle.recurrence.specs.Polynomial.{conv, plus, times, up, top, degree, len}
use Rattle.recurrence.specs.Steps.{discrepancy, case_of, partner, multiplier, change, remembered, older, no_older, next, history, row_at}
use Rattle.recurrence.specs.Register.{part, parts, complexity, register}
use Rattle.counting.specs.Numbering.{list_at}
use Rattle.sequence.specs.Answers.{first_of}
use Rattle.sequence.specs.Rules.{fault_of, check_of, sequence_of}
use Rattle.catalogue.specs.Rules.{layout, record_of, synthesize_of}
use Rattle.period.specs.Halving.{halving}
use Rattle.period.specs.Rules.{exponent, period_length_answer}
use Rattle.guarantees.specs.PeriodRows.{halved, stepped, PeriodRows}

pub period_rows : PeriodRows
unfolding tabulate largest first all every bytes_of neg inverse valuation cofactor least_divisor least_power powers_up_to prime_powers joined conv plus times up top degree len discrepancy case_of partner multiplier change remembered older no_older next history row_at part parts complexity register list_at first_of fault_of check_of sequence_of layout record_of synthesize_of halving exponent period_length_answer halved stepped
period_rows =
    record {
      of_one = refl;
      of_two = refl;
      of_four = refl;
      one_steps = refl;
      two_steps = refl;
      four_steps = refl;
      one_period = refl;
      eight = refl;
      eight_made = refl;
      one = refl;
      none = refl;
      last_alone = refl;
      zeros_64 = refl;
      ones_64 = refl;
      halves_64 = refl;
      zero_code = refl;
      length_code = refl;
      period_code = refl;
      digit_code_0 = refl;
      digit_code_1 = refl;
      refused_5 = refl;
      refused_32_none = refl;
      refused_32_three = refl;
      refused_32_63 = refl;
      refused_32_65 = refl;
      refused_32_128 = refl;
      refused_3 = refl;
      refused_3_last = refl;
      refused_3_high = refl;
      order_5_32 = refl;
      order_5_3 = refl;
      order_32_3 = refl;
      order_32_3_128 = refl;
    }
