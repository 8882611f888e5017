-- Candidate registers (the paper's claims): when one is malformed, what testing one against a query replies, and what running one gives.
-- Assumes nothing.
use Rattle.std.specs.Prelude.{◌≡◌, Bool, not, List, [], ◌∷◌, ◌++◌, ℕ, zero, ◌+◌, ◌/◌, ◌%◌, ◌≤◌, ◌<◌, ltb, eqb, length, Some, None, Ok, Err, Option, Result}
use Rattle.lists.specs.Choice.{pick, both}
use Rattle.lists.specs.Table.{at}
use Rattle.lists.specs.Search.{all}
use Rattle.cells.specs.Cell.{cells_from, bytes_of}
use Rattle.recurrence.specs.Running.{generated, first_difference}
use Rattle.sequence.specs.declared.Sequence.{Sequence}
use Rattle.sequence.specs.declared.Refusal.{Refusal}
use Rattle.sequence.specs.declared.Refusal.TheVariants as R
use Rattle.sequence.specs.Limits.{max_terms, max_cells, a_bytes, b_bytes}
use Rattle.sequence.specs.Answers.{Answer, granted, refused, refusal, first_of, Outcome, and_then}
use Rattle.sequence.specs.Rules.{outside, zero_from, sequence_of, check_of, query_refusals}

-- the coefficients in a lent buffer: a_0 .. a_128, b_0 .. b_127
abbrev pub a_cells : List ℕ → List ℕ
a_cells a = cells_from a 0 max_cells

abbrev pub b_cells : List ℕ → List ℕ
b_cells b = cells_from b 0 max_terms

-- each of the first n numbers is below m
abbrev pub all_below : ℕ → ℕ → List ℕ → Bool
all_below m n xs = all n (λ i. ltb (at xs i) m)

-- each coefficient of a candidate of length l is below m, and zero past its end
abbrev pub fits : ℕ → ℕ → List ℕ → List ℕ → Bool
fits m l a b = both (all_below m max_cells a) (both (all_below m max_terms b) (both (zero_from (l + 1) max_cells a) (zero_from l max_terms b)))

-- the first thing wrong with a candidate, by its tests: 25 where it is too long, 6 where a coefficient does not fit, 26 where a_0 is not 1
abbrev pub flaw_by : Bool → Bool → Bool → Outcome
flaw_by long coefficient lead = pick long (Err R.CandidateLength) (pick coefficient (Err R.CandidateCoefficient) (pick lead (Err R.CandidateLead) (Ok tt)))

unfoldable pub flaw_of : ℕ → ℕ → List ℕ → List ℕ → Outcome
flaw_of m l a b = flaw_by (ltb max_terms l) (not (fits m l a b)) (not (eqb (at a 0) 1))

-- the same by number, for the calls that are handed a candidate
abbrev pub candidate_refusals : ℕ → ℕ → List ℕ → List ℕ → List (Bool × Answer)
candidate_refusals m l a b =
    (ltb max_terms l, refused 25)
    ∷ (not (fits m l a b), refused 6)
    ∷ (not (eqb (at a 0) 1), refused 26)
    ∷ []

-- the first place where a candidate fails, or none: that is yes
abbrev pub Verdict : Type 0
Verdict = Result (Option ℕ) Refusal

-- yes has no value, no the place
abbrev pub verdict_answer : Verdict → Answer
verdict_answer (Ok None) = granted []
verdict_answer (Ok (Some i)) = granted (i ∷ [])
verdict_answer (Err r) = refusal r

-- ---- testing

-- yes, or no with the first place where the product and b differ
abbrev pub verdict_of : ℕ → ℕ → Verdict
verdict_of n i = pick (ltb i n) (Ok (Some i)) (Ok None)

-- the test against a sound sequence: 25, 6, 26, or the verdict
unfoldable pub judge_of : Sequence → List ℕ → List ℕ → ℕ → Verdict
judge_of s a b l =
    and_then (flaw_of s.modulus l a b) (verdict_of s.count (first_difference s.modulus s.terms a b s.count))

-- 5 (query, a, b), 1, 2, 3, 4, 25, 6, 26, in this order; else the verdict
unfoldable pub verify_of : List ℕ → List ℕ → List ℕ → ℕ → Verdict
verify_of query a b l =
    pick (eqb (length a) a_bytes)
    (pick (eqb (length b) b_bytes) (and_then (check_of query) (judge_of (sequence_of query) (a_cells a) (b_cells b) l)) (Err R.Buffer))
    (Err R.Buffer)

unfoldable pub verify_answer : List ℕ → List ℕ → List ℕ → ℕ → Answer
verify_answer query a b l =
    let s = sequence_of query in
    first_of
    ((not (eqb (length a) a_bytes), refused 5)
    ∷ (not (eqb (length b) b_bytes), refused 5)
    ∷ (query_refusals query
    ++ candidate_refusals s.modulus l (a_cells a) (b_cells b)))
    (verdict_answer (verdict_of s.count (first_difference s.modulus s.terms (a_cells a) (b_cells b) s.count)))

-- ---- running

-- 5 (a, b, an odd number of bytes), 1, 2, 25, 6, 26, in this order
unfoldable pub generate_of : ℕ → List ℕ → List ℕ → ℕ → List ℕ → Outcome
generate_of m a b l cells =
    pick (eqb (length a) a_bytes)
    (pick (eqb (length b) b_bytes)
    (pick (eqb (length cells % 2) 0)
    (pick (outside m) (Err R.Modulus)
    (pick (ltb max_terms (length cells / 2)) (Err R.Count)
    (flaw_of m l (a_cells a) (b_cells b))))
    (Err R.Buffer))
    (Err R.Buffer))
    (Err R.Buffer)

unfoldable pub generate_answer : ℕ → List ℕ → List ℕ → ℕ → List ℕ → Answer
generate_answer m a b l cells =
    first_of
    ((not (eqb (length a) a_bytes), refused 5)
    ∷ (not (eqb (length b) b_bytes), refused 5)
    ∷ (not (eqb (length cells % 2) 0), refused 5)
    ∷ (outside m, refused 1)
    ∷ (ltb max_terms (length cells / 2), refused 2)
    ∷ candidate_refusals m l (a_cells a) (b_cells b))
    (granted [])

-- the cells at exit: run whole, or as lent
abbrev pub generated_in : Outcome → ℕ → List ℕ → List ℕ → ℕ → List ℕ → List ℕ
generated_in (Ok _) m a b l cells = bytes_of (generated m l (a_cells a) (b_cells b) (length cells / 2))
generated_in (Err r) m a b l cells = cells

-- what 6 asks of a candidate of length l modulo m
pub record Fits (m l : ℕ) (a b : List ℕ) : Type 0 where
  pub below_a : (i : ℕ) → i < max_cells → at a i < m
  pub below_b : (i : ℕ) → i < max_terms → at b i < m
  pub past_a : (i : ℕ) → l < i → i < max_cells → at a i ≡ zero
  pub past_b : (i : ℕ) → l ≤ i → i < max_terms → at b i ≡ zero

-- a well-formed candidate: what 25, 6 and 26 ask
pub record IsFine (m l : ℕ) (a b : List ℕ) : Type 0 where
  pub short : l ≤ max_terms
  pub coefficients : Fits m l a b
  pub lead : at a 0 ≡ 1
