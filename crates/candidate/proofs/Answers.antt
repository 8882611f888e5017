-- Laws of answers: for `verify` and `generate` the numbers in the order of their tests are those of the replies.
-- Assumes nothing.
use mathlib.Core.Path.{◌≡◌, refl, ap, ◌∙◌}
use mathlib.Core.Bool.{Bool, true, false, not}
use mathlib.Core.List.{List, [], ◌++◌}
use Prim.Native.Nat.{ℕ, ◌/◌, ◌%◌}
use lib.Dec.{ltb, eqb}
use lib.ListN.{length}
use Rattle.std.specs.Prelude.{Ok, Err}
use Rattle.lists.specs.Choice.{pick}
use Rattle.lists.specs.Table.{at}
use Rattle.recurrence.specs.Running.{first_difference}
use Rattle.sequence.specs.declared.Sequence.{Sequence}
use Rattle.sequence.specs.declared.Refusal.TheVariants as R
use Rattle.sequence.specs.Limits.{max_terms, a_bytes, b_bytes}
use Rattle.sequence.specs.Answers.{Answer, granted, refused, outcome_answer, first_of, Outcome, and_then}
use Rattle.sequence.specs.Rules.{outside, sequence_of, check_of, query_refusals}
use Rattle.sequence.proofs.Answers.{or_refused, query_told}
use Rattle.candidate.specs.Rules.{a_cells, b_cells, fits, flaw_by, flaw_of, candidate_refusals, verdict_of, verdict_answer, judge_of, verify_of, verify_answer, generate_of, generate_answer, Verdict}

-- the refusals of a candidate, by their tests
pub candidate_told :
    (m l : ℕ) (a b : List ℕ) (x : Answer) → or_refused (flaw_of m l a b) x ≡ first_of (candidate_refusals m l a b) x
unfolding flaw_of first_of
candidate_told m l a b x = go (ltb max_terms l) (not (fits m l a b)) (not (eqb (at a 0) 1))
  where
    go : (p q r : Bool) → or_refused (flaw_by p q r) x ≡ pick p (refused 25) (pick q (refused 6) (pick r (refused 26) x))
    go true q r = refl
    go false true r = refl
    go false false true = refl
    go false false false = refl

-- Each law takes the equation of a reply, and what is promised beside it, and adds the answer: the whole promise of the call.
pub verify_told : (query a b : List ℕ) (l : ℕ) {r : Verdict} → r ≡ verify_of query a b l → record { value : r ≡ verify_of query a b l; result_value : verdict_answer r ≡ verify_answer query a b l }
unfolding verify_of verify_answer judge_of first_of
verify_told query a b l e =
    record { value = e; result_value = ap verdict_answer e ∙ go (eqb (length a) a_bytes) (eqb (length b) b_bytes) (query_told query rest v) }
  where
    s : Sequence
    s = sequence_of query

    flaw : Outcome
    flaw = flaw_of s.modulus l (a_cells a) (b_cells b)

    verdict : Verdict
    verdict = verdict_of s.count (first_difference s.modulus s.terms (a_cells a) (b_cells b) s.count)

    v : Answer
    v = verdict_answer verdict

    rest : List (Bool × Answer)
    rest = candidate_refusals s.modulus l (a_cells a) (b_cells b)

    judged : (o : Outcome) → verdict_answer (and_then o verdict) ≡ or_refused o v
    judged (Ok _) = refl
    judged (Err r) = refl

    after : (o : Outcome) → verdict_answer (and_then o (and_then flaw verdict)) ≡ or_refused o (first_of rest v)
    after (Ok _) = judged flaw ∙ candidate_told s.modulus l (a_cells a) (b_cells b) v
    after (Err r) = refl

    go :
        (x y : Bool) → or_refused (check_of query) (first_of rest v) ≡ first_of (query_refusals query ++ rest) v
        → verdict_answer (pick x (pick y (and_then (check_of query) (and_then flaw verdict)) (Err R.Buffer)) (Err R.Buffer))
        ≡ pick (not x) (refused 5) (pick (not y) (refused 5) (first_of (query_refusals query ++ rest) v))
    go false y h = refl
    go true false h = refl
    go true true h = after (check_of query) ∙ h

pub generate_told :
    (m : ℕ) (a b : List ℕ) (l : ℕ) (cells : List ℕ) {r : Outcome} {A : Type 0} → r ≡ generate_of m a b l cells → A
    → record { value : r ≡ generate_of m a b l cells; out_after : A; result_value : outcome_answer r ≡ generate_answer m a b l cells }
unfolding generate_of generate_answer first_of
generate_told m a b l cells e x =
    record { value = e; out_after = x; result_value = ap outcome_answer e ∙ go (eqb (length a) a_bytes) (eqb (length b) b_bytes) (eqb (length cells % 2) 0) (outside m) (ltb max_terms (length cells / 2)) }
  where
    flaw : Outcome
    flaw = flaw_of m l (a_cells a) (b_cells b)

    rest : List (Bool × Answer)
    rest = candidate_refusals m l (a_cells a) (b_cells b)

    found : (o : Outcome) → outcome_answer o ≡ or_refused o (granted [])
    found (Ok _) = refl
    found (Err r) = refl

    go :
        (p q r s t : Bool)
        → outcome_answer (pick p (pick q (pick r (pick s (Err R.Modulus) (pick t (Err R.Count) flaw)) (Err R.Buffer)) (Err R.Buffer)) (Err R.Buffer))
        ≡ pick (not p) (refused 5) (pick (not q) (refused 5) (pick (not r) (refused 5) (pick s (refused 1) (pick t (refused 2) (first_of rest (granted []))))))
    go false q r s t = refl
    go true false r s t = refl
    go true true false s t = refl
    go true true true true t = refl
    go true true true false true = refl
    go true true true false false = found flaw ∙ candidate_told m l (a_cells a) (b_cells b) (granted [])
