-- The sequences of n terms modulo m: what is replied to the number of one, and to how many of them have each length.
-- Assumes nothing.
use Rattle.std.specs.Prelude.{Bool, not, List, [], ◌∷◌, ℕ, ◌^◌, eqb, ltb, length, Ok, Err, Result}
use Rattle.lists.specs.Choice.{pick}
use Rattle.lists.specs.Table.{tabulate}
use Rattle.cells.specs.Cell.{bytes_of}
use Rattle.counting.specs.Numbering.{list_at}
use Rattle.counting.specs.Lengths.{with_length}
use Rattle.sequence.specs.declared.Refusal.{Refusal}
use Rattle.sequence.specs.declared.Refusal.TheVariants as R
use Rattle.sequence.specs.Limits.{max_terms, query_bytes}
use Rattle.sequence.specs.Answers.{Answer, granted, refused, first_of, Outcome}
use Rattle.sequence.specs.Rules.{outside, query_of}

-- no more sequences are counted than these, whatever the largest modulus is
abbrev pub max_sequences : ℕ
max_sequences = 4096

-- the lengths 0 to 12: 2^13 sequences would be too many
abbrev pub lengths : ℕ
lengths = 13

-- a cell for each length, two bytes each
abbrev pub tally_bytes : ℕ
tally_bytes = 26

-- ---- the replies

abbrev pub Counted : Type 0
Counted = Result ℕ Refusal

-- how many sequences of n terms modulo m there are; 1, 2, 33, in this order, outside the limits
unfoldable pub counted_of : ℕ → ℕ → Counted
counted_of m n =
    pick (outside m) (Err R.Modulus)
    (pick (ltb max_terms n) (Err R.Count)
    (pick (ltb max_sequences (m ^ n)) (Err R.Census) (Ok (m ^ n))))

-- 33 where the number x is not below their number
abbrev pub number_in : Counted → ℕ → Outcome
number_in (Ok k) x = pick (ltb x k) (Ok tt) (Err R.Census)
number_in (Err r) x = Err r

abbrev pub tally_in : Counted → Outcome
tally_in (Ok k) = Ok tt
tally_in (Err r) = Err r

-- 5 for the buffer comes before them
unfoldable pub enumerate_of : ℕ → ℕ → ℕ → List ℕ → Outcome
enumerate_of m n x query = pick (eqb (length query) query_bytes) (number_in (counted_of m n) x) (Err R.Buffer)

unfoldable pub tally_of : ℕ → ℕ → List ℕ → Outcome
tally_of m n cells = pick (eqb (length cells) tally_bytes) (tally_in (counted_of m n)) (Err R.Buffer)

-- the same by number: what both calls refuse of m and n, then a number that is not below m^n
abbrev pub census_refusals : Bool → ℕ → ℕ → List (Bool × Answer) → List (Bool × Answer)
census_refusals sized m n rest =
    (not sized, refused 5) ∷ (outside m, refused 1) ∷ (ltb max_terms n, refused 2) ∷ (ltb max_sequences (m ^ n), refused 33) ∷ rest

unfoldable pub enumerate_answer : ℕ → ℕ → ℕ → List ℕ → Answer
enumerate_answer m n x query = first_of (census_refusals (eqb (length query) query_bytes) m n ((not (ltb x (m ^ n)), refused 33) ∷ [])) (granted [])

unfoldable pub tally_answer : ℕ → ℕ → List ℕ → Answer
tally_answer m n cells = first_of (census_refusals (eqb (length cells) tally_bytes) m n []) (granted [])

-- ---- what is written; a buffer is as lent where the call is refused

-- the query of the sequence with number x
unfoldable pub query_numbered : ℕ → ℕ → ℕ → List ℕ
query_numbered m n x = query_of m (list_at m n x)

-- how many sequences have the length 0, 1, .., 12
unfoldable pub tally_cells : ℕ → ℕ → List ℕ
tally_cells m n = bytes_of (tabulate lengths (with_length m n))
