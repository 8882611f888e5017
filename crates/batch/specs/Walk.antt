-- The walk: what is held for each query after the first j records of the catalogue.
-- Assumes nothing.
use Rattle.std.specs.Prelude.{◌≡◌, List, ℕ, ◌*◌, ◌<◌, ltb, length, Some, None, Ok, Err}
use Rattle.lists.specs.Choice.{pick}
use Rattle.lists.specs.Table.{at}
use Rattle.sequence.specs.Rules.{check_of}
use Rattle.catalogue.specs.Rules.{record_bytes, record_at, first_match, seen_by, LookedUp}
use Rattle.batch.specs.Rules.{query_at, queries_in, zero_record, reply_code}
use Rattle.sequence.specs.Answers.{and_then}

-- What is held for a query after the first j records: its refusal, or the first match among them, or none. A match is held as found, and none as a record that
-- is to be made.
unfoldable pub held_of : List ℕ → List ℕ → ℕ → LookedUp
held_of query catalogue j = let i = first_match query catalogue j in and_then (check_of query) (pick (ltb i j) (Ok (Some i)) (Ok None))

-- and in its part: the record that it met, as who asks sees it, or zeros
abbrev pub held_part : (who : ℕ) → LookedUp → (catalogue : List ℕ) → List ℕ
held_part who (Ok (Some i)) catalogue = seen_by who (record_at catalogue i)
held_part who (Ok None) catalogue = zero_record
held_part who (Err r) catalogue = zero_record

-- n parts and n replies, each as a rule says
pub record Standing (n : ℕ) (part : ℕ → List ℕ) (reply : ℕ → ℕ) (out replies : List ℕ) : Type 0 where
  pub wide : length out ≡ n * record_bytes
  pub many : length replies ≡ n
  pub shown : (i : ℕ) → i < n → record_at out i ≡ part i
  pub told : (i : ℕ) → i < n → at replies i ≡ reply i

-- after the first j records the walk holds this for every query
abbrev pub Holding : (who : ℕ) (queries catalogue : List ℕ) (j : ℕ) (out replies : List ℕ) → Type 0
Holding who queries catalogue j =
    Standing (queries_in queries)
    (λ i. held_part who (held_of (query_at queries i) catalogue j) catalogue)
    (λ i. reply_code (held_of (query_at queries i) catalogue j))
