-- The answers to a number and to a tally are those of their replies.
-- Assumes nothing.
use mathlib.Core.Path.{◌≡◌, refl, ap, ◌∙◌}
use mathlib.Core.Bool.{Bool, true, false, not}
use mathlib.Core.List.{List, []}
use Prim.Native.Nat.{ℕ, ◌^◌}
use lib.Dec.{eqb, ltb}
use lib.ListN.{length}
use Rattle.std.specs.Prelude.{Ok, Err}
use Rattle.lists.specs.Choice.{pick}
use Rattle.sequence.specs.declared.Refusal.TheVariants as R
use Rattle.sequence.specs.Limits.{max_terms, query_bytes}
use Rattle.sequence.specs.Answers.{granted, refused, outcome_answer, first_of, Outcome}
use Rattle.sequence.specs.Rules.{outside}
use Rattle.enumeration.specs.Rules.{max_sequences, tally_bytes, counted_of, number_in, tally_in, enumerate_of, enumerate_answer, tally_of, tally_answer}

-- the whole promise of each call, as `push_told` (sequence) gives that of a push
pub enumerate_told :
    (m n x : ℕ) (query : List ℕ) {r : Outcome} {A : Type 0} → r ≡ enumerate_of m n x query → A
    → record { value : r ≡ enumerate_of m n x query; query_after : A; result_value : outcome_answer r ≡ enumerate_answer m n x query }
unfolding enumerate_of enumerate_answer counted_of first_of
enumerate_told m n x query e z =
    record { value = e; query_after = z; result_value = ap outcome_answer e ∙ go (eqb (length query) query_bytes) (outside m) (ltb max_terms n) (ltb max_sequences (m ^ n)) }
  where
    number : (f : Bool) → outcome_answer (pick f (Ok tt) (Err R.Census)) ≡ pick (not f) (refused 33) (granted [])
    number true = refl
    number false = refl

    go :
        (a b c d : Bool)
        → outcome_answer (pick a (number_in (pick b (Err R.Modulus) (pick c (Err R.Count) (pick d (Err R.Census) (Ok (m ^ n))))) x) (Err R.Buffer))
        ≡ pick (not a) (refused 5) (pick b (refused 1) (pick c (refused 2) (pick d (refused 33) (pick (not (ltb x (m ^ n))) (refused 33) (granted [])))))
    go false b c d = refl
    go true true c d = refl
    go true false true d = refl
    go true false false true = refl
    go true false false false = number (ltb x (m ^ n))

pub tally_told :
    (m n : ℕ) (cells : List ℕ) {r : Outcome} {A : Type 0} → r ≡ tally_of m n cells → A
    → record { value : r ≡ tally_of m n cells; cells_after : A; result_value : outcome_answer r ≡ tally_answer m n cells }
unfolding tally_of tally_answer counted_of first_of
tally_told m n cells e z =
    record { value = e; cells_after = z; result_value = ap outcome_answer e ∙ go (eqb (length cells) tally_bytes) (outside m) (ltb max_terms n) (ltb max_sequences (m ^ n)) }
  where
    go :
        (a b c d : Bool)
        → outcome_answer (pick a (tally_in (pick b (Err R.Modulus) (pick c (Err R.Count) (pick d (Err R.Census) (Ok (m ^ n)))))) (Err R.Buffer))
        ≡ pick (not a) (refused 5) (pick b (refused 1) (pick c (refused 2) (pick d (refused 33) (granted []))))
    go false b c d = refl
    go true true c d = refl
    go true false true d = refl
    go true false false true = refl
    go true false false false = refl
