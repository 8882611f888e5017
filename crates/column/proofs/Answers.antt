-- Laws of answers: for a column the numbers in the order of their tests are those of the replies.
-- Assumes nothing.
use mathlib.Core.Path.{◌≡◌, refl, ap, ◌∙◌}
use mathlib.Core.Bool.{Bool, true, false, not}
use mathlib.Core.List.{List}
use Prim.Native.Nat.{ℕ, zero, ◌%◌}
use native.Mathlib.Omega.{arith}
use lib.Dec.{eqb}
use lib.ListN.{length}
use borrow.Author.Tests.{lt-leb, le-leb, eq-eqb, ne_eqb}
use Rattle.std.specs.Prelude.{Err}
use Rattle.lists.specs.Choice.{pick}
use Rattle.sequence.specs.declared.Sequence.{Sequence}
use Rattle.sequence.specs.declared.Refusal.TheVariants as R
use Rattle.sequence.specs.Limits.{max_terms}
use Rattle.sequence.specs.Answers.{refused, outcome_answer, first_of}
use Rattle.sequence.specs.Rules.{fault_of, is_sound, IsSound}
use Rattle.sequence.proofs.Laws.{sound_of}
use Rattle.column.specs.declared.PushedAll.{PushedAll}
use Rattle.column.specs.Rules.{terms_in, took, each_of, each_answer, push_all_of, push_all_answer}
use Rattle.column.proofs.Laws.{each_by}

each_told : (s : Sequence) (ts : List ℕ) → IsSound s → outcome_answer (each_of s ts).outcome ≡ each_answer s ts
unfolding each_answer first_of
each_told =
    each_by (λ s ts r. outcome_answer r.outcome ≡ each_answer s ts)
    (λ s h. refl)
    (λ s t ts h e. rw (eq-eqb s.count max_terms e))
    (λ s t ts h room l. rw (ne_eqb s.count max_terms (λ e. omega arith), le-leb s.modulus t l))
    (λ s t ts r h room l k. rw (ne_eqb s.count max_terms (λ e. omega arith), lt-leb s.modulus t l) k)

-- it takes the equation of the reply and gives the whole promise
pub push_all_told : (s : Sequence) (list : List ℕ) {r : PushedAll} → r ≡ push_all_of s list → record { value : r ≡ push_all_of s list; outcome_value : outcome_answer r.outcome ≡ push_all_answer s list }
unfolding push_all_of first_of
push_all_told s list e = record { value = e; outcome_value = ap (λ (r : PushedAll). outcome_answer r.outcome) e ∙ go (eqb (length list % 2) 0) (is_sound (fault_of s)) refl }
  where
    go :
        (a b : Bool) → is_sound (fault_of s) ≡ b
        → outcome_answer (pick a (pick b (each_of s (terms_in list)) (took zero s (Err R.Sequence))) (took zero s (Err R.Buffer))).outcome
        ≡ pick (not a) (refused 5) (pick (not b) (refused 21) (each_answer s (terms_in list)))
    go false b h = refl
    go true false h = refl
    go true true h = each_told s (terms_in list) (sound_of s h)
