-- The claims about the listing: what the order and the start of a register are, and that a line shows the register that is reported and that
-- stands in records.
-- Assumes nothing.
use Rattle.std.specs.Prelude.{◌≡◌, List, [], ◌∷◌, true, ℕ, zero, suc, ◌≤◌, ◌<◌, length, take, Ok}
use Rattle.lists.specs.Table.{at, tabulate}
use Rattle.lists.specs.Search.{every}
use Rattle.lists.specs.Text.{bytes}
use Rattle.cells.specs.Cell.{cell_at}
use Rattle.residue.specs.Congruence.{Cong}
use Rattle.recurrence.specs.Polynomial.{conv, degree}
use Rattle.recurrence.specs.Least.{Least}
use Rattle.sequence.specs.declared.Sequence.{Sequence}
use Rattle.sequence.specs.declared.Uniqueness.TheVariants.{Sole, Several, NotTold}
use Rattle.sequence.specs.Limits.{max_modulus, a_bytes, b_bytes}
use Rattle.sequence.specs.Rules.{open_of, check_of, query_of}
use Rattle.sequence.specs.Report.{length_told, report_of, a_buffer, filled}
use Rattle.lines.specs.Form.{is_digit, decimal}
use Rattle.candidate.specs.Rules.{a_cells}
use Rattle.catalogue.specs.Rules.{record_bytes, record_of, synthesize_of, look_up_of, served_in}
use Rattle.formatting.specs.Text.{numeral}
use Rattle.formatting.specs.Listing.{header, register_line, record_line, query_line, reported_line, uniqueness_line, typed_line}
use Rattle.guarantees.specs.Calls.{Call, after_all, taken}
use Rattle.guarantees.specs.Claims.{MadeCatalogue, terms_of}
use Rattle.sequence.specs.Answers.{Reported, of_length}

-- The rule with the coefficients a holds from place s of the terms on: for every j from s to the last, a_0 S_j + a_1 S_(j-1) + a_2 S_(j-2) + .. is
-- 0 modulo m, where there are no terms before S_0.
abbrev pub HoldsFrom : ℕ → List ℕ → List ℕ → ℕ → Type 0
HoldsFrom m ts a s = (j : ℕ) → s ≤ j → j < length ts → Cong m (conv (at ts) (at a) j) zero

-- The order and the start of the register with coefficients a for the terms ts modulo m.
pub record OrderAndStart (m : ℕ) (ts a : List ℕ) (order start : ℕ) : Type 0 where
  pub one : at a 0 ≡ 1
  -- the order is the last place of a that is not 0
  pub last : at a order ≡ zero → ⊥
  pub past : (i : ℕ) → order < i → at a i ≡ zero
  -- so that a_0 up to the order are all of a
  pub whole : (i : ℕ) → at (tabulate (suc order) (at a)) i ≡ at a i
  -- the start is the least length
  pub least : Least m (at ts) (length ts) start
  -- it is the first place, not before the order, from which the rule holds
  pub within : order ≤ start
  pub holds : HoldsFrom m ts a start
  pub first : (s : ℕ) → order ≤ s → HoldsFrom m ts a s → start ≤ s

-- What a register of the terms ts must show: r is its reply, and a the lent buffer at exit.
pub record Ordered (m : ℕ) (ts : List ℕ) (r : Reported) (a : List ℕ) : Type 0 where
  pub start : ℕ
  pub reported : r ≡ length_told m (length ts) start
  pub means : OrderAndStart m ts (a_cells a) (degree (a_cells a)) start

-- the buffer a after a register of the sequence
abbrev pub a_after : Sequence → List ℕ → List ℕ → List ℕ
a_after s a b = filled (report_of s a b) (a_buffer s) a

-- For every modulus within the limits, after every list of calls, of the terms taken.
unfoldable pub EveryOrder : Type 0
EveryOrder =
    (m : ℕ) → 2 ≤ m → m ≤ max_modulus → (calls : List Call) (a b : List ℕ) → length a ≡ a_bytes → length b ≡ b_bytes
    → let s = after_all (open_of m).sequence calls in
    Ordered m (taken m calls) (report_of s a b) (a_after s a b)

-- The line of a query, with a register after calls that take its terms, lent buffers a and b, and its record made and served.
pub record Listed (query catalogue : List ℕ) (who : ℕ) (out : List ℕ) (s : Sequence) (a b : List ℕ) : Type 0 where
  -- it is the line of what is reported: the length replied as the start, and of the coefficients that are written those up to the order
  pub ordered : Ordered (cell_at query 0) (terms_of query) (report_of s a b) (a_after s a b)
  pub line : query_line query ≡ register_line (cell_at query 0) (cell_at query 1) ordered.start (a_cells (a_after s a b))
  pub reported : query_line query ≡ reported_line s (report_of s a b) (a_after s a b)
  -- it is the line of the record made, and of the record served to who asks
  pub made : query_line query ≡ record_line (filled (synthesize_of query out) (record_of query) out)
  pub served : query_line query ≡ record_line (served_in who (look_up_of query catalogue out) query catalogue out)

-- For a query that meets no refusal of its own, a catalogue made by this software, and any calls that take the query's terms.
unfoldable pub TheListing : Type 0
TheListing =
    (query catalogue : List ℕ) (who : ℕ) (out : List ℕ) → check_of query ≡ Ok tt → MadeCatalogue catalogue → length out ≡ record_bytes
    → (calls : List Call) (a b : List ℕ)
    → taken (cell_at query 0) calls ≡ terms_of query → length a ≡ a_bytes → length b ≡ b_bytes
    → Listed query catalogue who out (after_all (open_of (cell_at query 0)).sequence calls) a b

-- A number is printed in digits, one or more, that a typed line may have for it, with no zero in front of other digits.
pub record NumeralOf (n : ℕ) (text : List ℕ) : Type 0 where
  pub some : zero < length text
  pub digits : every is_digit text ≡ true
  pub value : decimal text ≡ n
  pub front : 1 < length text → at text 0 ≡ 48 → ⊥

unfoldable pub Numerals : Type 0
Numerals = (n : ℕ) → NumeralOf n (numeral n)

-- ---- lines as they are printed

-- the line of the query with these terms
abbrev pub line_for : ℕ → List ℕ → List ℕ
line_for m ts = query_line (query_of m ts)

pub record Printed : Type 0 where
  pub first_line : header ≡ bytes "modulus count order start register\n"
  pub sample : line_for 9 (6 ∷ 3 ∷ 1 ∷ 5 ∷ 6 ∷ []) ≡ bytes "9 5 3 3 1,4,7,1\n"
  -- 02's example, where the order is 0 and the start 2
  pub order_zero : line_for 4 (2 ∷ 1 ∷ []) ≡ bytes "4 2 0 2 1\n"
  pub order_between : line_for 2 (0 ∷ 0 ∷ 1 ∷ 1 ∷ []) ≡ bytes "2 4 1 3 1,1\n"
  pub zero_inside : line_for 2 (1 ∷ 0 ∷ 1 ∷ []) ≡ bytes "2 3 2 2 1,0,1\n"
  -- the order from one prime, the start from the other
  pub two_primes : line_for 6 (3 ∷ 1 ∷ []) ≡ bytes "6 2 1 2 1,3\n"
  pub no_terms : line_for 2 [] ≡ bytes "2 0 0 0 1\n"
  pub zeros : line_for 5 (0 ∷ 0 ∷ 0 ∷ []) ≡ bytes "5 3 0 0 1\n"
  pub refused : line_for 1 [] ≡ bytes "refused 1\n"
  pub refused_at_lem : line_for 9 (6 ∷ 3 ∷ 1 ∷ 5 ∷ 6 ∷ 6 ∷ 3 ∷ 9 ∷ 8 ∷ 10 ∷ 9 ∷ []) ≡ bytes "refused 3 at 7\n"
  pub cut_short : query_line (take 100 (query_of 9 (6 ∷ 3 ∷ []))) ≡ bytes "refused 5\n"
  pub word_sole : uniqueness_line (of_length 2 Sole) ≡ bytes "sole\n"
  pub word_several : uniqueness_line (of_length 3 Several) ≡ bytes "several\n"
  pub word_untold : uniqueness_line (of_length 3 NotTold) ≡ bytes "not told\n"
  pub typed : typed_line (bytes "mod 4: -2,5") ≡ bytes "4 2 0 2 1\n"
  pub typed_27 : typed_line (bytes "mod 9:x") ≡ bytes "refused 27 at 6\n"
  pub typed_28 : typed_line (bytes "mod 9:2147483648x") ≡ bytes "refused 28 at 15\n"
  pub typed_1 : typed_line (bytes "mod 1:") ≡ bytes "refused 1\n"
  pub number_zero : numeral 0 ≡ bytes "0"
  pub number_ten : numeral 10 ≡ bytes "10"
  pub number_largest : numeral 4095 ≡ bytes "4095"
