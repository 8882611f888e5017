-- The claims about the census: when each refusal is given, that every sequence has exactly one number, in dictionary order, and that the tally counts the
-- least lengths that the calls show.
-- Assumes nothing.
use Rattle.std.specs.Prelude.{◌≡◌, true, false, List, ◌∷◌, ◌++◌, ℕ, zero, ◌*◌, ◌-◌, ◌^◌, ◌≤◌, ◌<◌, min, eqb, length, Ok, Err}
use Rattle.lists.specs.Sum.{sum_to}
use Rattle.lists.specs.Table.{at}
use Rattle.cells.specs.Cell.{cell_at}
use Rattle.residue.specs.Units.{Prime}
use Rattle.recurrence.specs.Least.{Least}
use Rattle.counting.specs.Numbering.{ListOf, Before, count_below}
use Rattle.sequence.specs.declared.Refusal.{Refusal}
use Rattle.sequence.specs.declared.Refusal.TheVariants as R
use Rattle.sequence.specs.Limits.{max_terms, query_bytes, profile_bytes}
use Rattle.sequence.specs.Answers.{outcome_answer, Outcome}
use Rattle.sequence.specs.Rules.{query_of, check_of}
use Rattle.sequence.specs.Report.{filled}
use Rattle.catalogue.specs.Rules.{record_bytes}
use Rattle.enumeration.specs.Rules.{max_sequences, lengths, tally_bytes, enumerate_of, enumerate_answer, query_numbered, tally_of, tally_answer, tally_cells}
use Rattle.formatting.specs.Text.{numeral}
use Rattle.formatting.specs.Listing.{refusal_line}
use Rattle.formatting.specs.Census.{number_limit, tally_line, census_line, pair_in, no_pair_line, pair_line, is_pair}
use Rattle.guarantees.specs.Calls.{Call, taken}
use Rattle.guarantees.specs.Claims.{terms_of, profile_cell, length_made}
use Rattle.guarantees.specs.Lines.{Inside}

-- the query buffer and the tally's cells after the calls, lent a buffer
abbrev pub query_after : ℕ → ℕ → ℕ → List ℕ → List ℕ
query_after m n x query = filled (enumerate_of m n x query) (query_numbered m n x) query

abbrev pub cells_after : ℕ → ℕ → List ℕ → List ℕ
cells_after m n cells = filled (tally_of m n cells) (tally_cells m n) cells

-- ---- when each refusal is given

-- the sequences are counted: the modulus and the count are within the limits, and so is the power
pub record Countable (m n : ℕ) : Type 0 where
  pub modulus : Inside m
  pub count : n ≤ max_terms
  pub power : m ^ n ≤ max_sequences

-- why they are not, for both calls: 1, 2, 33
pub data Uncounted (m n : ℕ) (r : Refusal) : Type 0 where
  modulus : (Inside m → ⊥) → r ≡ R.Modulus → Uncounted m n r
  count : Inside m → max_terms < n → r ≡ R.Count → Uncounted m n r
  power : Inside m → n ≤ max_terms → max_sequences < m ^ n → r ≡ R.Census → Uncounted m n r

-- The reason of a reply: for each reply the condition under which it is given. Of a number:
pub data NumberReason (m n x : ℕ) (query : List ℕ) (o : Outcome) : Type 0 where
  -- 5: another length of the buffer
  buffer : (length query ≡ query_bytes → ⊥) → o ≡ Err R.Buffer → NumberReason m n x query o
  uncounted : (r : Refusal) → length query ≡ query_bytes → Uncounted m n r → o ≡ Err r → NumberReason m n x query o
  -- 33: the number is not below the power
  large : length query ≡ query_bytes → Countable m n → m ^ n ≤ x → o ≡ Err R.Census → NumberReason m n x query o
  done : length query ≡ query_bytes → Countable m n → x < m ^ n → o ≡ Ok tt → NumberReason m n x query o

-- of a tally
pub data TallyReason (m n : ℕ) (cells : List ℕ) (o : Outcome) : Type 0 where
  buffer : (length cells ≡ tally_bytes → ⊥) → o ≡ Err R.Buffer → TallyReason m n cells o
  uncounted : (r : Refusal) → length cells ≡ tally_bytes → Uncounted m n r → o ≡ Err r → TallyReason m n cells o
  done : length cells ≡ tally_bytes → Countable m n → o ≡ Ok tt → TallyReason m n cells o

-- Every reply to a number and to a tally.
pub record EveryReply (m n x : ℕ) (query cells : List ℕ) : Type 0 where
  -- what is replied has its reason, and what has a reason is replied
  pub number_reason : NumberReason m n x query (enumerate_of m n x query)
  pub number_exactly : (o : Outcome) → NumberReason m n x query o → enumerate_of m n x query ≡ o
  pub tally_reason : TallyReason m n cells (tally_of m n cells)
  pub tally_exactly : (o : Outcome) → TallyReason m n cells o → tally_of m n cells ≡ o
  -- by number it is the answer that the calls promise, for C too
  pub number_by_number : outcome_answer (enumerate_of m n x query) ≡ enumerate_answer m n x query
  pub tally_by_number : outcome_answer (tally_of m n cells) ≡ tally_answer m n cells
  -- on a refusal the buffer is as lent
  pub query_kept : (enumerate_of m n x query ≡ Ok tt → ⊥) → query_after m n x query ≡ query
  pub cells_kept : (tally_of m n cells ≡ Ok tt → ⊥) → cells_after m n cells ≡ cells

-- ---- the numbers

-- What is written for the numbers below m^n, lent a query buffer each.
pub record Numbered (m n : ℕ) (query : List ℕ) : Type 0 where
  -- the query meets no refusal of its own, and is the one written by hand for n terms modulo m
  pub passes : (x : ℕ) → x < m ^ n → check_of (query_after m n x query) ≡ Ok tt
  pub by_hand : (x : ℕ) → x < m ^ n → query_after m n x query ≡ query_of m (terms_of (query_after m n x query))
  pub terms : (x : ℕ) → x < m ^ n → ListOf m n (terms_of (query_after m n x query))
  -- every sequence of n terms below m has exactly one number
  pub some : (ts : List ℕ) → ListOf m n ts → (x : ℕ) × ((x < m ^ n) × (terms_of (query_after m n x query) ≡ ts))
  pub only : (x y : ℕ) → x < m ^ n → y < m ^ n → terms_of (query_after m n x query) ≡ terms_of (query_after m n y query) → x ≡ y
  -- and the numbers are in dictionary order
  pub ordered : (x y : ℕ) → x < y → y < m ^ n → Before (terms_of (query_after m n x query)) (terms_of (query_after m n y query))

-- ---- the tally

-- How many of these m^n queries have the length l, by a rule that gives each number a length.
abbrev pub count_of : ℕ → ℕ → (ℕ → ℕ) → ℕ → ℕ
count_of m n length_at l = count_below (m ^ n) (λ x. eqb (length_at x) l)

-- What stands in the cells, lent a buffer for them and one for each query.
pub record Tally (m n : ℕ) (query cells : List ℕ) : Type 0 where
  -- cell l is how many of the sequences have the least length l, whatever rule gives their least lengths
  pub counts :
      (length_at : ℕ → ℕ) → ((x : ℕ) → x < m ^ n → Least m (at (terms_of (query_after m n x query))) n (length_at x))
      → (l : ℕ) → l < lengths → cell_at (cells_after m n cells) l ≡ count_of m n length_at l
  -- so the lengths in the records that are made of them
  pub records :
      (out : List ℕ) → length out ≡ record_bytes
      → (l : ℕ) → l < lengths → cell_at (cells_after m n cells) l ≡ count_of m n (λ x. length_made (query_after m n x query) out) l
  -- and the last cells of the profiles after any calls that take their terms
  pub profiles :
      (calls : ℕ → List Call) (lent : List ℕ) → ((x : ℕ) → x < m ^ n → taken m (calls x) ≡ terms_of (query_after m n x query)) → length lent ≡ profile_bytes
      → (l : ℕ) → l < lengths → cell_at (cells_after m n cells) l ≡ count_of m n (λ x. profile_cell m (calls x) lent n) l
  -- no length is above n; the cells add up to m^n; only zeros have length 0
  pub short : n < lengths
  pub past : (l : ℕ) → n < l → l < lengths → cell_at (cells_after m n cells) l ≡ zero
  pub whole : sum_to lengths (cell_at (cells_after m n cells)) ≡ m ^ n
  pub none : cell_at (cells_after m n cells) 0 ≡ 1
  -- for a prime m: (m - 1) times m to the smaller of 2n - 2l and 2l - 1
  pub prime : Prime m → (l : ℕ) → 1 ≤ l → l ≤ n → cell_at (cells_after m n cells) l ≡ (m - 1) * m ^ min (2 * n - 2 * l) (2 * l - 1)

-- ---- the program's lines

-- What `census` writes for a line: a modulus and a count as they are printed are read as themselves, and answered by what the tally replies and writes,
-- lent 13 cells: its refusal, or modulus, count and the cells 0 to n. Any other line is answered by another text, and ends it.
pub record PrintedLines (m n : ℕ) (cells : List ℕ) : Type 0 where
  pub answered : m < number_limit → n < number_limit → pair_line (numeral m ++ 32 ∷ numeral n) ≡ census_line m n
  pub going : m < number_limit → n < number_limit → is_pair (pair_in (numeral m ++ 32 ∷ numeral n)) ≡ true
  pub refused : (r : Refusal) → tally_of m n cells ≡ Err r → census_line m n ≡ refusal_line r
  pub tallied : tally_of m n cells ≡ Ok tt → census_line m n ≡ tally_line m n (cells_after m n cells)
  pub other : (line : List ℕ) → is_pair (pair_in line) ≡ false → pair_line line ≡ no_pair_line

-- For every m, n, number and buffer; and, where m to the power n is at most 4,096, for buffers of the right length.
pub record Census (m n : ℕ) (query cells : List ℕ) : Type 0 where
  pub replies : (x : ℕ) → EveryReply m n x query cells
  pub numbers : Countable m n → length query ≡ query_bytes → Numbered m n query
  pub tally : Countable m n → length query ≡ query_bytes → length cells ≡ tally_bytes → Tally m n query cells
  pub lines : length cells ≡ tally_bytes → PrintedLines m n cells

unfoldable pub TheCensus : Type 0
TheCensus = (m n : ℕ) (query cells : List ℕ) → Census m n query cells
