-- The answer to a line by number is that of its reply.
-- Assumes nothing.
use mathlib.Core.Path.{◌≡◌, refl, ap, ◌∙◌}
use mathlib.Core.Bool.{Bool, true, false, not}
use mathlib.Core.List.{List, []}
use Prim.Native.Nat.{ℕ}
use lib.Dec.{eqb, ltb}
use lib.ListN.{length}
use Rattle.std.specs.Prelude.{Ok, Err}
use Rattle.lists.specs.Choice.{pick}
use Rattle.sequence.specs.declared.Refusal.TheVariants as R
use Rattle.sequence.specs.Limits.{max_terms, query_bytes}
use Rattle.sequence.specs.Answers.{granted, refused, outcome_answer, first_of, Outcome}
use Rattle.sequence.specs.Rules.{outside}
use Rattle.lines.specs.Reading.{Found, broken, past, read, found_in}
use Rattle.lines.specs.Reply.{reply_of, answer_of, read_of, read_answer}

found_told : (f : Found) → outcome_answer (reply_of f) ≡ answer_of f
unfolding first_of
found_told (broken i) = refl
found_told (past i) = refl
found_told (read m ts) = go (outside m) (ltb max_terms (length ts))
  where
    go : (a b : Bool) → outcome_answer (pick a (Err R.Modulus) (pick b (Err R.Count) (Ok tt))) ≡ pick a (refused 1) (pick b (refused 2) (granted []))
    go true b = refl
    go false true = refl
    go false false = refl

-- the whole promise of the call, as `push_told` (sequence) gives that of a push
pub read_told : (line query : List ℕ) {r : Outcome} {A : Type 0} → r ≡ read_of line query → A → record { value : r ≡ read_of line query; query_after : A; result_value : outcome_answer r ≡ read_answer line query }
unfolding read_of first_of
read_told line query e x = record { value = e; query_after = x; result_value = ap outcome_answer e ∙ go (eqb (length query) query_bytes) }
  where
    go :
        (a : Bool)
        → outcome_answer (pick a (reply_of (found_in line)) (Err R.Buffer))
        ≡ pick (not a) (refused 5) (answer_of (found_in line))
    go true = found_told (found_in line)
    go false = refl
