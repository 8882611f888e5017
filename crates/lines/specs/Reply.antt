-- What reading a line replies, and the query that it writes.
-- Assumes nothing.
use Rattle.std.specs.Prelude.{not, List, [], ◌∷◌, map, ℕ, eqb, ltb, length, Ok, Err}
use Rattle.lists.specs.Choice.{pick}
use Rattle.residue.specs.Signed.{residue_of}
use Rattle.sequence.specs.declared.Refusal.TheVariants as R
use Rattle.sequence.specs.Limits.{max_terms, query_bytes}
use Rattle.sequence.specs.Answers.{Answer, granted, refused, refused_at, first_of, Outcome}
use Rattle.sequence.specs.Rules.{outside, query_of}
use Rattle.lines.specs.Reading.{Found, broken, past, read, found_in}

-- a line that reads well still meets 1 and 2, in this order
abbrev pub reply_to : ℕ → ℕ → Outcome
reply_to m n = pick (outside m) (Err R.Modulus) (pick (ltb max_terms n) (Err R.Count) (Ok tt))

abbrev pub reply_of : Found → Outcome
reply_of (broken i) = Err (R.LineForm i)
reply_of (past i) = Err (R.LineRange i)
reply_of (read m ts) = reply_to m (length ts)

-- 5, then 27 or 28, then 1, 2
unfoldable pub read_of : List ℕ → List ℕ → Outcome
read_of line query = pick (eqb (length query) query_bytes) (reply_of (found_in line)) (Err R.Buffer)

-- the same by number
abbrev pub answer_of : Found → Answer
answer_of (broken i) = refused_at 27 i
answer_of (past i) = refused_at 28 i
answer_of (read m ts) = first_of ((outside m, refused 1) ∷ (ltb max_terms (length ts), refused 2) ∷ []) (granted [])

abbrev pub read_answer : List ℕ → List ℕ → Answer
read_answer line query = first_of ((not (eqb (length query) query_bytes), refused 5) ∷ []) (answer_of (found_in line))

-- the query of a line: each term stands as its remainder from 0 to m - 1
abbrev pub query_in : Found → List ℕ
query_in (broken i) = []
query_in (past i) = []
query_in (read m ts) = query_of m (map (residue_of m) ts)
