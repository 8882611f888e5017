-- The rows of the word beside the length hold: by computation, and for every list of one number by the test that computes.
-- Assumes nothing.
use mathlib.Core.Path.{◌≡◌, refl, sym, subst}
use mathlib.Core.Logic.{inl, inr}
use mathlib.Core.Bool.{true}
use mathlib.Core.List.{List, [], ◌∷◌}
use Prim.Native.Nat.{ℕ, zero, suc, ◌<◌}
use native.Mathlib.Omega.{arith}
use Rattle.lists.specs.Table.{tabulate, largest}
use Rattle.lists.specs.Search.{first, all, every}
use Rattle.lists.specs.Sum.{sum_to}
use Rattle.lists.proofs.Search.{false_true}
use Rattle.cells.specs.Cell.{bytes_of}
use Rattle.residue.specs.Congruence.{neg}
use Rattle.residue.specs.Units.{inverse}
use Rattle.residue.specs.Valuation.{valuation, cofactor}
use Rattle.residue.specs.Factors.{least_divisor, least_power, powers_up_to, prime_powers}
use Rattle.residue.specs.Remainders.{joined}
use Rattle.recurrence.specs.Polynomial.{conv, plus, times, up, top, degree, len}
use Rattle.recurrence.specs.Steps.{discrepancy, case_of, partner, multiplier, change, remembered, older, no_older, next, history, row_at}
use Rattle.recurrence.specs.Register.{part, parts, complexity, register}
use Rattle.counting.specs.Numbering.{list_at, count_below}
use Rattle.counting.specs.Solutions.{solving, solutions, CountsLists}
use Rattle.counting.proofs.Solutions.{counts_lists}
use Rattle.sequence.specs.Rules.{fault_of, open_of, push_of}
use Rattle.sequence.specs.Report.{uniqueness_by, report_of}
use Rattle.guarantees.specs.Calls.{after_all}
use Rattle.guarantees.specs.Cases.{reply}
use Rattle.guarantees.specs.Only.{OneOf036, OnlyRows}

abbrev three : List ℕ
three = 3 ∷ 0 ∷ []

tested : CountsLists 9 three 2 1
tested = counts_lists 9 (omega arith) three 2 1

-- the test, at each number below 9
which : (c : ℕ) → c < 9 → solving 9 three 2 (c ∷ []) ≡ true → OneOf036 c
unfolding solving all conv
which zero k h = inl refl
which (suc zero) k h = false_true h
which (suc (suc zero)) k h = false_true h
which (suc (suc (suc zero))) k h = inr (inl refl)
which (suc (suc (suc (suc zero)))) k h = false_true h
which (suc (suc (suc (suc (suc zero))))) k h = false_true h
which (suc (suc (suc (suc (suc (suc zero)))))) k h = inr (inr refl)
which (suc (suc (suc (suc (suc (suc (suc zero))))))) k h = false_true h
which (suc (suc (suc (suc (suc (suc (suc (suc zero)))))))) k h = false_true h
which (suc (suc (suc (suc (suc (suc (suc (suc (suc c))))))))) k h = absurd (omega arith)

passes : (c : ℕ) → OneOf036 c → solving 9 three 2 (c ∷ []) ≡ true
unfolding solving all conv
passes c (inl e) = subst (λ (x : ℕ). solving 9 three 2 (x ∷ []) ≡ true) (sym e) refl
passes c (inr (inl e)) = subst (λ (x : ℕ). solving 9 three 2 (x ∷ []) ≡ true) (sym e) refl
passes c (inr (inr e)) = subst (λ (x : ℕ). solving 9 three 2 (x ∷ []) ≡ true) (sym e) refl

pub only_rows : OnlyRows
unfolding tabulate largest first all every sum_to bytes_of neg inverse valuation cofactor least_divisor least_power powers_up_to prime_powers joined conv plus times up top degree len discrepancy case_of partner multiplier change remembered older no_older next history row_at part parts complexity register list_at count_below solving solutions fault_of open_of push_of uniqueness_by report_of after_all reply
only_rows =
    record {
      nine = refl;
      nine_three = refl;
      nine_which = λ c k h. which c k (tested.passes (c ∷ []) h);
      which_nine = λ c h. tested.solves (c ∷ []) (passes c h);
      six = refl;
      six_one = refl;
      none = refl;
      zeros = refl;
      even = refl;
      even_one = refl;
      odd = refl;
      odd_five = refl;
      two = refl;
      two_whole = refl;
      two_eight = refl;
      largest = refl;
    }
