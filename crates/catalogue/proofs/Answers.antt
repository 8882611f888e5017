-- Laws of answers: for `synthesize` and `look_up` the numbers in the order of their tests are those of the replies.
-- Assumes nothing.
use mathlib.Core.Path.{◌≡◌, refl, ap, ◌∙◌}
use mathlib.Core.Bool.{Bool, true, false, not}
use mathlib.Core.List.{List, [], ◌∷◌, ◌++◌}
use Prim.Native.Nat.{ℕ, ◌%◌}
use lib.Dec.{ltb, eqb}
use lib.ListN.{length}
use Rattle.std.specs.Prelude.{Some, None, Ok, Err}
use Rattle.lists.specs.Choice.{pick, both}
use Rattle.sequence.specs.declared.Refusal.TheVariants as R
use Rattle.sequence.specs.Answers.{Answer, granted, refused, outcome_answer, first_of, Outcome, and_then}
use Rattle.sequence.specs.Rules.{sequence_of, check_of, query_refusals}
use Rattle.sequence.proofs.Answers.{or_refused, query_told}
use Rattle.catalogue.specs.Rules.{record_bytes, synthesize_of, synthesize_answer, records, record_at, first_match, match_of, passes, serve_of, fetch_of, looked_up_answer, look_up_of, look_up_answer, LookedUp}

-- Each law takes the equation of a reply, and what is promised beside it, and adds the answer: the whole promise of the call.
pub synthesize_told :
    (query out : List ℕ) {r : Outcome} {A : Type 0} → r ≡ synthesize_of query out → A
    → record { value : r ≡ synthesize_of query out; out_after : A; result_value : outcome_answer r ≡ synthesize_answer query out }
unfolding synthesize_of synthesize_answer first_of
synthesize_told query out e x = record { value = e; out_after = x; result_value = ap outcome_answer e ∙ go (eqb (length out) record_bytes) }
  where
    after : (o : Outcome) → outcome_answer o ≡ or_refused o (granted [])
    after (Ok _) = refl
    after (Err r) = refl

    checked : outcome_answer (check_of query) ≡ first_of (query_refusals query) (granted [])
    checked = after (check_of query) ∙ query_told query [] (granted [])

    go : (t : Bool) → outcome_answer (pick t (check_of query) (Err R.Buffer)) ≡ pick (not t) (refused 5) (first_of (query_refusals query) (granted []))
    go false = refl
    go true = checked

pub look_up_told :
    (query catalogue out : List ℕ) {r : LookedUp} {A : Type 0} → r ≡ look_up_of query catalogue out → A
    → record { value : r ≡ look_up_of query catalogue out; out_after : A; result_value : looked_up_answer r ≡ look_up_answer query catalogue out }
unfolding look_up_of look_up_answer fetch_of first_of
look_up_told query catalogue out e x = record { value = e; out_after = x; result_value = ap looked_up_answer e ∙ go (eqb (length out) record_bytes) }
  where
    i : ℕ
    i = first_match query catalogue (records catalogue)

    good : Bool
    good = passes (sequence_of query) (record_at catalogue i)

    whole : Bool
    whole = eqb (length catalogue % record_bytes) 0

    met : Bool
    met = ltb i (records catalogue)

    v : Answer
    v = pick met (granted (i ∷ [])) (granted [])

    rest : List (Bool × Answer)
    rest = (not whole, refused 23) ∷ (both met (not good), refused 24) ∷ []

    -- the reply behind the query's own checks
    fetched : LookedUp
    fetched = pick whole (serve_of (sequence_of query) catalogue (match_of (records catalogue) i)) (Err R.Catalogue)

    served : (g : Bool) → looked_up_answer (pick g (Ok (Some i)) (Err R.Record)) ≡ pick (not g) (refused 24) (granted (i ∷ []))
    served true = refl
    served false = refl

    looked :
        (t f : Bool)
        → looked_up_answer (pick t (serve_of (sequence_of query) catalogue (pick f (Some i) None)) (Err R.Catalogue))
        ≡ pick (not t) (refused 23) (pick (both f (not good)) (refused 24) (pick f (granted (i ∷ [])) (granted [])))
    looked false f = refl
    looked true false = refl
    looked true true = served good

    after : (o : Outcome) → looked_up_answer (and_then o fetched) ≡ or_refused o (first_of rest v)
    after (Ok _) = looked whole met
    after (Err r) = refl

    go :
        (t : Bool)
        → looked_up_answer (pick t (and_then (check_of query) fetched) (Err R.Buffer)) ≡ pick (not t) (refused 5) (first_of (query_refusals query ++ rest) v)
    go false = refl
    go true = after (check_of query) ∙ query_told query rest v
