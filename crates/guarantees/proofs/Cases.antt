-- The fourteen cases hold, by computation.
-- Assumes nothing.
use mathlib.Core.Path.{refl}
use Rattle.lists.specs.Table.{tabulate, largest}
use Rattle.lists.specs.Search.{first, all, every}
use Rattle.lists.specs.Sum.{sum_to}
use Rattle.cells.specs.Cell.{bytes_of}
use Rattle.residue.specs.Congruence.{neg}
use Rattle.residue.specs.Units.{inverse}
use Rattle.residue.specs.Valuation.{valuation, cofactor}
use Rattle.residue.specs.Factors.{least_divisor, least_power, powers_up_to, prime_powers}
use Rattle.residue.specs.Remainders.{joined}
use Rattle.recurrence.specs.Polynomial.{conv, plus, times, up, top, degree, len}
use Rattle.recurrence.specs.Steps.{discrepancy, case_of, partner, multiplier, change, remembered, older, no_older, next, history, row_at}
use Rattle.recurrence.specs.Register.{part, parts, complexity, register}
use Rattle.recurrence.specs.Running.{cell, generated, first_difference}
use Rattle.synthesis.specs.Synthesis.{length_at}
use Rattle.sequence.specs.Rules.{fault_of, open_of, push_of, sequence_of, check_of}
use Rattle.sequence.specs.Report.{uniqueness_by, report_of, profile_of}
use Rattle.candidate.specs.Rules.{flaw_of, judge_of, verify_of, generate_of}
use Rattle.guarantees.specs.Calls.{after_all}
use Rattle.guarantees.specs.Cases.{reply, lengths, run, Cases}

pub cases : Cases
unfolding tabulate largest first all every sum_to bytes_of neg inverse valuation cofactor least_divisor least_power powers_up_to prime_powers joined conv plus times up top degree len discrepancy case_of partner multiplier change remembered older no_older next history row_at part parts complexity register cell generated first_difference fault_of open_of push_of sequence_of check_of uniqueness_by report_of profile_of length_at flaw_of judge_of verify_of generate_of after_all reply lengths run
cases =
    record {
      case1 = refl;
      case2 = refl;
      case3 = refl;
      case4 = refl;
      case5 = refl;
      case6 = refl;
      case7 = refl;
      case8 = refl;
      case9 = refl;
      case10 = refl;
      case11 = refl;
      case12 = refl;
      case13 = (refl, refl, refl);
      case14 = (refl, refl);
    }
