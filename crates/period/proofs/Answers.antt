-- The answer to a period by number is that of its reply.
-- Assumes nothing.
use mathlib.Core.Path.{◌≡◌, refl, ap, ◌∙◌}
use mathlib.Core.Bool.{Bool, true, false, not}
use mathlib.Core.List.{List, [], ◌∷◌}
use Prim.Native.Nat.{ℕ, zero, ◌/◌, ◌%◌}
use lib.Dec.{eqb, ltb}
use lib.ListN.{length}
use Rattle.std.specs.Prelude.{Ok, Err}
use Rattle.lists.specs.Choice.{pick}
use Rattle.sequence.specs.declared.Refusal.TheVariants as R
use Rattle.sequence.specs.Answers.{granted, refused, refused_at, first_of}
use Rattle.sequence.specs.Rules.{first_large}
use Rattle.period.specs.Halving.{halving}
use Rattle.period.specs.Rules.{periods, exponent, digits_in, measured_answer, period_length_of, period_length_answer, Measured}

-- the whole promise of the call
pub period_told : (cells : List ℕ) {r : Measured} → r ≡ period_length_of cells → record { value : r ≡ period_length_of cells; result_value : measured_answer r ≡ period_length_answer cells }
unfolding period_length_of period_length_answer first_of
period_told cells e =
    record { value = e; result_value = ap measured_answer e ∙ go (eqb (length cells % 2) zero) (ltb (exponent n) periods) (ltb i n) }
  where
    n : ℕ
    n = length cells / 2

    i : ℕ
    i = first_large 2 (digits_in cells) n

    l : ℕ
    l = halving (exponent n) (digits_in cells)

    go :
        (a b c : Bool)
        → measured_answer (pick a (pick b (pick c (Err (R.Term i)) (Ok l)) (Err R.Period)) (Err R.Buffer))
        ≡ pick (not a) (refused 5) (pick (not b) (refused 32) (pick c (refused_at 3 i) (granted (l ∷ []))))
    go false b c = refl
    go true false c = refl
    go true true true = refl
    go true true false = refl
