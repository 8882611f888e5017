-- Where a line ends, and how long it is; what a chunk still has, and what a line takes of it.
-- Assumes nothing.
use Rattle.std.specs.Prelude.{Bool, true, not, List, [], ℕ, ◌+◌, ◌-◌, eqb, leb, ltb, length, take, drop}
use Rattle.lists.specs.Choice.{pick, both}
use Rattle.lists.specs.Search.{first}
use Rattle.lists.specs.Table.{at}
use Rattle.input.specs.declared.Source.{Source}

-- the longest line, without its end mark
abbrev pub longest : ℕ
longest = 65536

-- the place of the first line feed, byte 10; the length where there is none
unfoldable pub mark_in : List ℕ → ℕ
mark_in xs = first (length xs) (λ i. eqb (at xs i) 10)

-- how many of the bytes before a line feed, or before the end of the input, are the line's: a carriage return, byte 13, is not where a line
-- feed follows
abbrev pub length_of : List ℕ → Bool → ℕ
length_of xs marked = pick (both marked (eqb (at xs (length xs - 1)) 13)) (length xs - 1) (length xs)

-- the bytes of a chunk that are still to be taken; none where the source is not of this chunk
unfoldable pub rest_of : Source → List ℕ → List ℕ
rest_of s chunk =
    pick (both (ltb s.from s.end) (leb s.end (length chunk))) (take (s.end - s.from) (drop s.from chunk)) []

-- a line takes those before the first line feed; what follows that is left
abbrev pub piece_of : List ℕ → List ℕ
piece_of rest = take (mark_in rest) rest

abbrev pub left_of : List ℕ → List ℕ
left_of rest = drop (mark_in rest + 1) rest

abbrev pub is_marked : List ℕ → Bool
is_marked rest = ltb (mark_in rest) (length rest)

-- the next line is known without a read: a line feed is there, or no more can come
abbrev pub is_known : Source → List ℕ → Bool
is_known s chunk = pick (is_marked (rest_of s chunk)) true (not s.open)
