-- Laws of answers: for `open`, `push`, `register`, `profile` and the checks of a query the numbers in the order of their tests are those of the replies.
-- Assumes nothing.
use mathlib.Core.Path.{◌≡◌, refl, ap, ◌∙◌}
use mathlib.Core.Bool.{Bool, true, false, not}
use mathlib.Core.List.{List, [], ◌++◌}
use Prim.Native.Nat.{ℕ}
use lib.Dec.{ltb, leb, eqb}
use lib.ListN.{length}
use Rattle.std.specs.Prelude.{Ok, Err}
use Rattle.lists.specs.Choice.{pick}
use Rattle.sequence.specs.declared.Sequence.{Sequence}
use Rattle.sequence.specs.declared.Refusal.TheVariants as R
use Rattle.sequence.specs.declared.Opened.{Opened}
use Rattle.sequence.specs.Limits.{max_terms, query_bytes, a_bytes, b_bytes, profile_bytes}
use Rattle.sequence.specs.Answers.{Answer, granted, refused, refused_at, refusal, outcome_answer, reported_answer, first_of, Outcome, Reported}
use Rattle.sequence.specs.Rules.{outside, first_large, zero_from, fault_of, is_sound, fresh, open_of, open_answer, longer, push_of, push_answer, sequence_of, check_of, query_refusals, Pushed}
use Rattle.sequence.specs.Report.{register_told, register_answer, report_of, report_answer, profile_of, profile_answer}

-- ---- the calls that hold a sequence

-- Each law takes the equation of a reply, and what is promised beside it, and adds the answer: the whole promise of the call.

pub open_told : (m : ℕ) {r : Opened} → r ≡ open_of m → record { value : r ≡ open_of m; outcome_value : outcome_answer r.outcome ≡ open_answer m }
unfolding open_of first_of
open_told m e = record { value = e; outcome_value = ap (λ (x : Opened). outcome_answer x.outcome) e ∙ go (outside m) }
  where
    bad : Opened
    bad = record { sequence = fresh 0; outcome = Err R.Modulus }

    good : Opened
    good = record { sequence = fresh m; outcome = Ok tt }

    go : (t : Bool) → outcome_answer (pick t bad good).outcome ≡ pick t (refused 1) (granted [])
    go true = refl
    go false = refl

pub push_told : (s : Sequence) (t : ℕ) {r : Outcome} {s' : Sequence} → record { sequence = s'; outcome = r } ≡ push_of s t
    → record { value : r ≡ (push_of s t).outcome; self_after : s' ≡ (push_of s t).sequence; result_value : outcome_answer r ≡ push_answer s t }
unfolding push_of first_of
push_told s t e =
    record {
      value = ap (λ (x : Pushed). x.outcome) e;
      self_after = ap (λ (x : Pushed). x.sequence) e;
      result_value = ap (λ (x : Pushed). outcome_answer x.outcome) e ∙ go (is_sound (fault_of s)) (eqb s.count max_terms) (leb s.modulus t);
    }
  where
    with : Sequence → Outcome → Pushed
    with x o = record { sequence = x; outcome = o }

    go :
        (a b d : Bool)
        → outcome_answer (pick a (pick b (with s (Err R.Full)) (pick d (with s (Err (R.Term s.count))) (with (longer s t) (Ok tt)))) (with s (Err R.Sequence))).outcome
        ≡ pick (not a) (refused 21) (pick b (refused 22) (pick d (refused_at 3 s.count) (granted [])))
    go false b d = refl
    go true true d = refl
    go true false true = refl
    go true false false = refl

pub report_told : (s : Sequence) (a b : List ℕ) {r : Reported} {A B : Type 0} → r ≡ report_of s a b → A → B → record { value : r ≡ report_of s a b; a_after : A; b_after : B; result_value : reported_answer r ≡ report_answer s a b }
unfolding report_of first_of
report_told s a b e x y = record { value = e; a_after = x; b_after = y; result_value = ap reported_answer e ∙ go (eqb (length a) a_bytes) (eqb (length b) b_bytes) (is_sound (fault_of s)) }
  where
    go :
        (x y z : Bool)
        → reported_answer (pick x (pick y (pick z (register_told s) (Err R.Sequence)) (Err R.Buffer)) (Err R.Buffer))
        ≡ pick (not x) (refused 5) (pick (not y) (refused 5) (pick (not z) (refused 21) (register_answer s)))
    go false y z = refl
    go true false z = refl
    go true true false = refl
    go true true true = refl

pub profile_told : (s : Sequence) (cells : List ℕ) {r : Outcome} {A : Type 0} → r ≡ profile_of s cells → A → record { value : r ≡ profile_of s cells; cells_after : A; result_value : outcome_answer r ≡ profile_answer s cells }
unfolding profile_of first_of
profile_told s cells e x = record { value = e; cells_after = x; result_value = ap outcome_answer e ∙ go (eqb (length cells) profile_bytes) (is_sound (fault_of s)) }
  where
    go :
        (x z : Bool)
        → outcome_answer (pick x (pick z (Ok tt) (Err R.Sequence)) (Err R.Buffer))
        ≡ pick (not x) (refused 5) (pick (not z) (refused 21) (granted []))
    go false z = refl
    go true false = refl
    go true true = refl

-- ---- the calls that are handed a query

-- the answer where the query is not refused
abbrev pub or_refused : Outcome → Answer → Answer
or_refused (Ok _) x = x
or_refused (Err r) x = refusal r

-- the query's refusals come first, then those behind them
pub query_told : (query : List ℕ) (rest : List (Bool × Answer)) (x : Answer) → or_refused (check_of query) (first_of rest x) ≡ first_of (query_refusals query ++ rest) x
unfolding check_of fault_of first_of
query_told query rest x =
    go (eqb (length query) query_bytes) (outside s.modulus) (ltb max_terms s.count) (ltb i s.count) (zero_from s.count max_terms s.terms)
  where
    s : Sequence
    s = sequence_of query

    i : ℕ
    i = first_large s.modulus s.terms s.count

    go :
        (a b d f z : Bool)
        → or_refused (pick a (pick b (Err R.Modulus) (pick d (Err R.Count) (pick f (Err (R.Term i)) (pick z (Ok tt) (Err R.Padding))))) (Err R.Buffer)) (first_of rest x)
        ≡ pick (not a) (refused 5) (pick b (refused 1) (pick d (refused 2) (pick f (refused_at 3 i) (pick (not z) (refused 4) (first_of rest x)))))
    go false b d f z = refl
    go true true d f z = refl
    go true false true f z = refl
    go true false false true z = refl
    go true false false false false = refl
    go true false false false true = refl
