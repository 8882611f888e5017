-- The answer to a merger by number is that of its reply.
-- Assumes nothing.
use mathlib.Core.Path.{◌≡◌, refl, ap, ◌∙◌}
use mathlib.Core.Bool.{Bool, true, false, not}
use mathlib.Core.List.{List, [], ◌∷◌, ◌++◌}
use Prim.Native.Nat.{ℕ}
use lib.Dec.{eqb, ltb}
use lib.ListN.{length}
use Rattle.std.specs.Prelude.{Ok, Err}
use Rattle.lists.specs.Choice.{pick}
use Rattle.sequence.specs.declared.Sequence.{Sequence}
use Rattle.sequence.specs.declared.Refusal.TheVariants as R
use Rattle.sequence.specs.Limits.{max_modulus, query_bytes}
use Rattle.sequence.specs.Answers.{Answer, granted, refused, refused_at, outcome_answer, first_of, Outcome, and_then}
use Rattle.sequence.specs.Rules.{sequence_of, check_of, query_refusals}
use Rattle.sequence.proofs.Answers.{or_refused, query_told}
use Rattle.merge.specs.Rules.{divisor_of, multiple_of, first_apart, compared_by, compared_of, merge_of, merge_answer}

-- the whole promise of the call, as `push_told` (sequence) gives that of a push
pub merge_told : (x y query : List ℕ) {r : Outcome} {A : Type 0} → r ≡ merge_of x y query → A → record { value : r ≡ merge_of x y query; query_after : A; result_value : outcome_answer r ≡ merge_answer x y query }
unfolding merge_of merge_answer compared_of first_of
merge_told x y query e z =
    record { value = e; query_after = z; result_value = ap outcome_answer e ∙ go (eqb (length x) query_bytes) (eqb (length y) query_bytes) (eqb (length query) query_bytes) }
  where
    s : Sequence
    s = sequence_of x

    t : Sequence
    t = sequence_of y

    i : ℕ
    i = first_apart (divisor_of s t) s.terms t.terms s.count

    rest : List (Bool × Answer)
    rest = (not (eqb s.count t.count), refused 29) ∷ (ltb max_modulus (multiple_of s t), refused 30) ∷ (ltb i s.count, refused_at 31 i) ∷ []

    compared : (d e f : Bool) → outcome_answer (compared_by d e f i) ≡ pick d (refused 29) (pick e (refused 30) (pick f (refused_at 31 i) (granted [])))
    compared true e f = refl
    compared false true f = refl
    compared false false true = refl
    compared false false false = refl

    -- a refusal of a query's own, or what is answered after it
    after : (o p : Outcome) (v : Answer) → outcome_answer p ≡ v → outcome_answer (and_then o p) ≡ or_refused o v
    after (Ok _) p v h = h
    after (Err r) p v h = refl

    both : outcome_answer (and_then (check_of x) (and_then (check_of y) (compared_of s t))) ≡ first_of (query_refusals x ++ (query_refusals y ++ rest)) (granted [])
    both =
        after (check_of x) (and_then (check_of y) (compared_of s t)) (first_of (query_refusals y ++ rest) (granted []))
        (after (check_of y) (compared_of s t) (first_of rest (granted [])) (compared (not (eqb s.count t.count)) (ltb max_modulus (multiple_of s t)) (ltb i s.count))
        ∙ query_told y rest (granted []))
        ∙ query_told x (query_refusals y ++ rest) (granted [])

    go :
        (a b d : Bool)
        → outcome_answer (pick a (pick b (pick d (and_then (check_of x) (and_then (check_of y) (compared_of s t))) (Err R.Buffer)) (Err R.Buffer)) (Err R.Buffer))
        ≡ pick (not a) (refused 5) (pick (not b) (refused 5) (pick (not d) (refused 5) (first_of (query_refusals x ++ (query_refusals y ++ rest)) (granted []))))
    go false b d = refl
    go true false d = refl
    go true true false = refl
    go true true true = both
