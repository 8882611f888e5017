-- Two queries of the same sequence modulo two moduli, merged to one modulo the least common multiple: the reply, and the query.
-- Assumes nothing.
use Rattle.std.specs.Prelude.{Bool, not, List, [], ◌∷◌, ◌++◌, ℕ, ◌%◌, eqb, ltb, length, Ok, Err}
use Rattle.lists.specs.Choice.{pick}
use Rattle.lists.specs.Table.{at, tabulate}
use Rattle.lists.specs.Search.{first}
use Rattle.residue.specs.Common.{common_divisor, common_multiple}
use Rattle.residue.specs.Remainders.{joined, two}
use Rattle.sequence.specs.declared.Sequence.{Sequence}
use Rattle.sequence.specs.declared.Refusal.TheVariants as R
use Rattle.sequence.specs.Limits.{max_modulus, query_bytes}
use Rattle.sequence.specs.Answers.{Answer, granted, refused, refused_at, first_of, Outcome, and_then}
use Rattle.sequence.specs.Report.{filled}
use Rattle.sequence.specs.Rules.{query_of, sequence_of, check_of, query_refusals}

-- ---- the merged query

-- the greatest common divisor and the least common multiple of the two moduli
abbrev pub divisor_of : Sequence → Sequence → ℕ
divisor_of s t = common_divisor s.modulus t.modulus

abbrev pub multiple_of : Sequence → Sequence → ℕ
multiple_of s t = common_multiple s.modulus t.modulus

-- the one number below the multiple that leaves both terms at place i
abbrev pub merged_term : Sequence → Sequence → ℕ → ℕ
merged_term s t i = joined (multiple_of s t) (two s.modulus (at s.terms i) t.modulus (at t.terms i))

unfoldable pub merged_query : Sequence → Sequence → List ℕ
merged_query s t = query_of (multiple_of s t) (tabulate s.count (merged_term s t))

-- ---- the reply

-- the first of n places where the terms disagree modulo g; n where there is none
abbrev pub first_apart : ℕ → List ℕ → List ℕ → ℕ → ℕ
first_apart g xs ys n = first n (λ i. not (eqb (at xs i % g) (at ys i % g)))

-- 29, 30, 31 with its place, in this order
abbrev pub compared_by : Bool → Bool → Bool → ℕ → Outcome
compared_by differ above apart i =
    pick differ (Err R.CountsDiffer) (pick above (Err R.MultipleAbove) (pick apart (Err (R.TermsDisagree i)) (Ok tt)))

-- of two sequences that meet no refusal of their own
unfoldable pub compared_of : Sequence → Sequence → Outcome
compared_of s t =
    let i = first_apart (divisor_of s t) s.terms t.terms s.count in
    compared_by (not (eqb s.count t.count)) (ltb max_modulus (multiple_of s t)) (ltb i s.count) i

-- the first query's own refusals, the second's, then 29, 30, 31
abbrev pub past_buffers : List ℕ → List ℕ → Outcome
past_buffers x y = and_then (check_of x) (and_then (check_of y) (compared_of (sequence_of x) (sequence_of y)))

-- 5 for the three buffers comes before them
unfoldable pub merge_of : List ℕ → List ℕ → List ℕ → Outcome
merge_of x y query =
    pick (eqb (length x) query_bytes)
    (pick (eqb (length y) query_bytes) (pick (eqb (length query) query_bytes) (past_buffers x y) (Err R.Buffer)) (Err R.Buffer))
    (Err R.Buffer)

-- the same by number
unfoldable pub merge_answer : List ℕ → List ℕ → List ℕ → Answer
merge_answer x y query =
    let s = sequence_of x in
    let t = sequence_of y in
    let i = first_apart (divisor_of s t) s.terms t.terms s.count in
    first_of
    ((not (eqb (length x) query_bytes), refused 5)
    ∷ (not (eqb (length y) query_bytes), refused 5)
    ∷ (not (eqb (length query) query_bytes), refused 5)
    ∷ (query_refusals x
    ++ (query_refusals y
    ++ ((not (eqb s.count t.count), refused 29)
    ∷ (ltb max_modulus (multiple_of s t), refused 30)
    ∷ (ltb i s.count, refused_at 31 i)
    ∷ []))))
    (granted [])

-- ---- the query buffer at exit: the merged query, or as lent

abbrev pub merged_in : Outcome → List ℕ → List ℕ → List ℕ → List ℕ
merged_in reply x y query = filled reply (merged_query (sequence_of x) (sequence_of y)) query
