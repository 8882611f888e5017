-- Each line reads as it is written down, by computation.
-- Assumes nothing.
use mathlib.Core.Path.{refl}
use Rattle.lists.specs.Table.{tabulate, largest}
use Rattle.lists.specs.Search.{first, all, every}
use Rattle.lists.specs.Text.{bytes}
use Rattle.cells.specs.Cell.{bytes_of}
use Rattle.residue.specs.Congruence.{neg}
use Rattle.residue.specs.Units.{inverse}
use Rattle.residue.specs.Valuation.{valuation, cofactor}
use Rattle.residue.specs.Factors.{least_divisor, least_power, powers_up_to, prime_powers}
use Rattle.residue.specs.Remainders.{joined}
use Rattle.recurrence.specs.Polynomial.{conv, plus, times, up, top, degree, len}
use Rattle.recurrence.specs.Steps.{discrepancy, case_of, partner, multiplier, change, remembered, older, no_older, next, history, row_at}
use Rattle.recurrence.specs.Register.{part, parts, register}
use Rattle.sequence.specs.Rules.{fault_of, sequence_of, check_of}
use Rattle.lines.specs.Reading.{read_from}
use Rattle.formatting.specs.Text.{numeral, each_after, separated}
use Rattle.formatting.specs.Listing.{register_line, refusal_text, query_line, typed_line}
use Rattle.guarantees.specs.Listing.{Printed}

pub printed : Printed
unfolding tabulate largest first all every bytes_of bytes neg inverse valuation cofactor least_divisor least_power powers_up_to prime_powers joined conv plus times up top degree len discrepancy case_of partner multiplier change remembered older no_older next history row_at part parts register fault_of sequence_of check_of numeral each_after separated register_line refusal_text query_line read_from typed_line
printed =
    record {
      first_line = refl;
      sample = refl;
      order_zero = refl;
      order_between = refl;
      zero_inside = refl;
      two_primes = refl;
      no_terms = refl;
      zeros = refl;
      refused = refl;
      refused_at_lem = refl;
      cut_short = refl;
      word_sole = refl;
      word_several = refl;
      word_untold = refl;
      typed = refl;
      typed_27 = refl;
      typed_28 = refl;
      typed_1 = refl;
      number_zero = refl;
      number_ten = refl;
      number_largest = refl;
    }
