-- Each line has its answer and its query, by computation.
-- Assumes nothing.
use mathlib.Core.Path.{refl}
use Rattle.lists.specs.Table.{tabulate}
use Rattle.lists.specs.Text.{bytes}
use Rattle.cells.specs.Cell.{bytes_of}
use Rattle.sequence.specs.Answers.{first_of}
use Rattle.lines.specs.Reading.{read_from}
use Rattle.lines.specs.Reply.{read_of}
use Rattle.guarantees.specs.Typed.{times, Typed}

pub typed : Typed
unfolding tabulate bytes_of first_of read_from read_of bytes times
typed =
    record {
      example = refl;
      example_query = refl;
      minus_one = refl;
      minus_zero = refl;
      minus_modulus = refl;
      lowest = refl;
      highest = refl;
      zeros_in_front = refl;
      blanks_around = refl;
      no_terms = refl;
      only_blanks = refl;
      largest_modulus = refl;
      as_many_as_fit = refl;
      other_text = refl;
      capital = refl;
      second_blank = refl;
      no_modulus = refl;
      signed_modulus = refl;
      blank_before_colon = refl;
      comma_first = refl;
      blank_inside = refl;
      blank_after_minus = refl;
      two_minus = refl;
      plus = refl;
      two_commas = refl;
      minus_behind = refl;
      second_colon = refl;
      end_mark = refl;
      slash = refl;
      tab = refl;
      empty = refl;
      cut_text = refl;
      cut_modulus = refl;
      cut_comma = refl;
      cut_minus = refl;
      above = refl;
      below = refl;
      at_the_digit = refl;
      zeros_do_not_count = refl;
      modulus_above = refl;
      range_then_form = refl;
      form_then_range = refl;
      modulus_0 = refl;
      modulus_1 = refl;
      modulus_4096 = refl;
      modulus_most = refl;
      form_then_1 = refl;
      range_then_1 = refl;
      too_many = refl;
      far_too_many = refl;
      form_then_2 = refl;
      1-then-2 = refl;
      5-then-27 = refl;
      5-then-28 = refl;
      5-then-1 = refl;
      stays = refl;
      read_code = refl;
      form_code = refl;
      form_code_0 = refl;
      range_code = refl;
      last_code = refl;
      past_last_code = refl;
    }
