-- The listing as bytes: its first line, and the lines of queries, of registers that are reported and of typed lines; and whether a register is the only
-- one, as a line of a working.
-- Assumes nothing.
use Rattle.std.specs.Prelude.{List, [], ◌∷◌, ◌++◌, ℕ, suc, take, drop, Ok, Err}
use Rattle.lists.specs.Table.{at, tabulate}
use Rattle.lists.specs.Text.{bytes}
use Rattle.cells.specs.Cell.{cell_at}
use Rattle.recurrence.specs.Polynomial.{degree}
use Rattle.sequence.specs.declared.Sequence.{Sequence}
use Rattle.sequence.specs.declared.Refusal.{Refusal}
use Rattle.sequence.specs.declared.Uniqueness.{Uniqueness}
use Rattle.sequence.specs.declared.Uniqueness.TheVariants as U
use Rattle.sequence.specs.Limits.{a_bytes}
use Rattle.sequence.specs.Answers.{refusal, Outcome, Reported}
use Rattle.sequence.specs.Rules.{sequence_of, check_of}
use Rattle.sequence.specs.Report.{register_of}
use Rattle.lines.specs.Reading.{Found, found_in}
use Rattle.lines.specs.Reply.{reply_of, query_in}
use Rattle.candidate.specs.Rules.{a_cells}
use Rattle.catalogue.specs.Rules.{a_place, length_cell}
use Rattle.formatting.specs.Text.{numeral, separated}

-- room for the longest line: four numbers and the 129 coefficients, each with at most 20 digits and a byte beside them
abbrev pub line_bytes : ℕ
line_bytes = 2793

abbrev pub header : List ℕ
header = bytes "modulus count order start register\n"

-- The line of the register a_0, a_1, .. of length l for n terms modulo m: modulus, count, order, start, and a_0 up to the order. The order
-- is the degree of a, the start is the length.
unfoldable pub register_line : ℕ → ℕ → ℕ → List ℕ → List ℕ
register_line m n l a =
    separated (bytes " ") (m ∷ n ∷ degree a ∷ l ∷ [])
    ++ bytes " "
    ++ separated (bytes ",") (tabulate (suc (degree a)) (at a))
    ++ bytes "\n"

-- the line of the register in a record
abbrev pub record_line : List ℕ → List ℕ
record_line entry = register_line (cell_at entry 0) (cell_at entry 1) (cell_at entry length_cell) (a_cells (take a_bytes (drop a_place entry)))

-- a refusal by its number, and the place that it carries
abbrev pub place_text : List ℕ → List ℕ
place_text [] = []
place_text (i ∷ is) = bytes " at " ++ numeral i

unfoldable pub refusal_text : Refusal → List ℕ
refusal_text r = bytes "refused " ++ numeral (refusal r).number ++ place_text (refusal r).values

abbrev pub refusal_line : Refusal → List ℕ
refusal_line r = refusal_text r ++ bytes "\n"

-- the line of a query with this outcome of its checks: its refusal, or the line of its register
abbrev pub line_of : Outcome → Sequence → List ℕ
line_of (Ok _) s = register_line s.modulus s.count (register_of s).length (register_of s).a
line_of (Err r) s = refusal_line r

unfoldable pub query_line : List ℕ → List ℕ
query_line query = line_of (check_of query) (sequence_of query)

-- the line of a register that is reported for a sequence: by the length replied and the cells of a
abbrev pub reported_line : Sequence → Reported → List ℕ → List ℕ
reported_line s (Ok x) a = register_line s.modulus s.count x.length (a_cells a)
reported_line s (Err r) a = refusal_line r

-- whether a register is the only one, in words
abbrev pub uniqueness_text : Uniqueness → List ℕ
uniqueness_text U.Sole = bytes "sole"
uniqueness_text U.Several = bytes "several"
uniqueness_text U.NotTold = bytes "not told"

-- the line below that of a register that is reported, in a working; none below a refusal
abbrev pub uniqueness_line : Reported → List ℕ
uniqueness_line (Ok x) = uniqueness_text x.uniqueness ++ bytes "\n"
uniqueness_line (Err r) = []

-- the line that answers a typed line: its refusal, or the line of the query that it becomes
abbrev pub answer_line : Outcome → Found → List ℕ
answer_line (Ok _) found = query_line (query_in found)
answer_line (Err r) found = refusal_line r

unfoldable pub typed_line : List ℕ → List ℕ
typed_line line = answer_line (reply_of (found_in line)) (found_in line)
