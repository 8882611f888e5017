-- A line in a buffer that may be too small for it, and what is replied of it.
-- Assumes nothing.
use Rattle.std.specs.Prelude.{◌≡◌, Bool, true, false, not, ◌⊎◌, List, [], ◌++◌, ℕ, ◌+◌, ◌≤◌, ◌<◌, min, eqb, ltb, length, take, Option}
use Rattle.std.specs.Io.KnownBytes.{Consumes}
use Rattle.lists.specs.Choice.{pick, both}
use Rattle.lists.specs.Table.{at}
use Rattle.input.specs.declared.Source.{Source}
use Rattle.input.specs.declared.Taken.{Taken}
use Rattle.input.specs.declared.Taken.TheVariants.{Line, TooLong, Ended}
use Rattle.input.specs.Marks.{longest, mark_in, length_of, rest_of, piece_of, left_of, is_marked, is_known}

-- The buffer holds these bytes as far as they fit; n is their number, or one more than fit where there are more.
pub record Holds (buffer : List ℕ) (n : ℕ) (xs : List ℕ) : Type 0 where
  pub count : n ≡ min (length xs) (length buffer + 1)
  pub bytes : (i : ℕ) → i < length xs → i < length buffer → at buffer i ≡ at xs i

-- what is replied of the bytes before a line feed, or before the end of the input, where no bytes are no line
abbrev pub taken_of : List ℕ → Bool → Taken
taken_of xs marked =
    pick (both (eqb (length xs) 0) (not marked)) Ended
    (pick (ltb longest (length_of xs marked)) TooLong (Line (length_of xs marked)))

-- a line is within a buffer of n bytes
abbrev pub within : Taken → ℕ → Type 0
within (Line k) n = k ≤ n
within TooLong n = Unit {0}
within Ended n = Unit {0}

-- A line feed is among the first n bytes of a chunk, those of one read: what the reads gave to the line ends with the bytes before it, and
-- the bytes after it are left.
pub record Fed (chunk given left : List ℕ) : Type 0 where
  pub n : ℕ
  pub fed : is_marked (take n chunk) ≡ true
  pub early : List ℕ
  pub ends : given ≡ early ++ piece_of (take n chunk)
  pub next : left ≡ left_of (take n chunk)

-- The reply is that of some bytes without a line feed, which the buffer holds: those of the chunk, and where a read is needed more. Which
-- bytes a read gives is not said here; but a line stops only at a line feed, at the end of the input, or where it is too long whatever follows.
pub record Told (s : Source) (chunk : List ℕ) (reply : Taken) (s' : Source) (chunk' buffer : List ℕ) : Type 0 where
  pub xs : List ℕ
  pub unbroken : mark_in xs ≡ length xs
  pub more : List ℕ
  pub begins : xs ≡ piece_of (rest_of s chunk) ++ more
  pub n : ℕ
  pub holds : Holds buffer n xs
  pub marked : Bool
  pub told : longest < length buffer → reply ≡ taken_of xs marked
  pub known : is_known s chunk ≡ true → (more ≡ []) × (marked ≡ is_marked (rest_of s chunk))
  pub read : is_known s chunk ≡ false → marked ≡ true → Fed chunk' more (rest_of s' chunk')
  pub whole : (marked ≡ true) ⊎ (((s'.open ≡ false) × (rest_of s' chunk' ≡ [])) ⊎ (longest + 1 < length xs))

-- A read that fails came where no line was at hand. The buffer holds some bytes without a line feed, which begin with the chunk's piece;
-- which bytes other reads gave, and what the chunk holds then, is not said here.
pub record CutOff (s : Source) (chunk buffer : List ℕ) : Type 0 where
  pub unknown : is_known s chunk ≡ false
  pub xs : List ℕ
  pub unbroken : mark_in xs ≡ length xs
  pub more : List ℕ
  pub begins : xs ≡ piece_of (rest_of s chunk) ++ more
  pub n : ℕ
  pub holds : Holds buffer n xs

-- what was read of a reader, of which `before` was to come and `after` is still to come, stands at the start of a buffer that it does not fill
abbrev pub StandsIn : Option (List ℕ) → Option (List ℕ) → List ℕ → Type 0
StandsIn before after buffer = (n : ℕ) × (n < length buffer) × Consumes before after (take n buffer)
