-- The census as bytes: its first line, the line of a tally, what a typed line says, and the line that answers it.
-- Assumes nothing.
use Rattle.std.specs.Prelude.{Bool, true, false, List, [], ◌∷◌, ◌++◌, ℕ, suc, eqb, ltb, length, take, drop, Option, Some, None, Ok, Err}
use Rattle.lists.specs.Choice.{pick, both}
use Rattle.lists.specs.Search.{first, every}
use Rattle.lists.specs.Table.{at, tabulate}
use Rattle.lists.specs.Text.{bytes}
use Rattle.cells.specs.Cell.{cell_at}
use Rattle.lines.specs.Form.{is_digit, decimal}
use Rattle.enumeration.specs.Rules.{counted_of, tally_in, tally_cells}
use Rattle.formatting.specs.Text.{separated}
use Rattle.formatting.specs.Listing.{refusal_line}
use Rattle.sequence.specs.Answers.{Outcome}

abbrev pub census_header : List ℕ
census_header = bytes "modulus count tally\n"

-- the line of a tally by its cells: modulus, count, and how many have the length 0, 1, .., n
unfoldable pub tally_line : ℕ → ℕ → List ℕ → List ℕ
tally_line m n cells =
    separated (bytes " ") (m ∷ n ∷ [])
    ++ bytes " "
    ++ separated (bytes ",") (tabulate (suc n) (cell_at cells))
    ++ bytes "\n"

-- by the reply of a tally: its refusal, or its line
abbrev pub tallied_line : Outcome → ℕ → ℕ → List ℕ
tallied_line (Ok _) m n = tally_line m n (tally_cells m n)
tallied_line (Err r) m n = refusal_line r

-- tally_in (counted_of m n) is what a tally into a buffer of its length replies
unfoldable pub census_line : ℕ → ℕ → List ℕ
census_line m n = tallied_line (tally_in (counted_of m n)) m n

-- ---- what a typed line says

-- the numbers of a line are below 2^32
abbrev pub number_limit : ℕ
number_limit = 4294967296

-- one digit or more, of a value below that
abbrev pub is_number : List ℕ → Bool
is_number bs = both (ltb 0 (length bs)) (both (every is_digit bs) (ltb (decimal bs) number_limit))

unfoldable pub number_of : List ℕ → Option ℕ
number_of bs = pick (is_number bs) (Some (decimal bs)) None

-- the place of the first blank, byte 32; the length where there is none
unfoldable pub blank_in : List ℕ → ℕ
blank_in line = first (length line) (λ i. eqb (at line i) 32)

abbrev pub pair_of : Option ℕ → Option ℕ → Option (ℕ × ℕ)
pair_of (Some m) (Some n) = Some (m, n)
pair_of (Some m) None = None
pair_of None n = None

-- the number before the first blank and the number behind it
unfoldable pub pair_in : List ℕ → Option (ℕ × ℕ)
pair_in line = pair_of (number_of (take (blank_in line) line)) (number_of (drop (suc (blank_in line)) line))

-- ---- the line that answers it

abbrev pub no_pair_line : List ℕ
no_pair_line = bytes "not a modulus and a count\n"

abbrev pub answer_of : Option (ℕ × ℕ) → List ℕ
answer_of (Some (m, n)) = census_line m n
answer_of None = no_pair_line

unfoldable pub pair_line : List ℕ → List ℕ
pair_line line = answer_of (pair_in line)

-- the census goes on
abbrev pub is_pair : Option (ℕ × ℕ) → Bool
is_pair (Some (m, n)) = true
is_pair None = false
