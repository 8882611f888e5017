-- What fits has a ring for the steps, and what the steps give there is what is written. The numbers of a trace's records, added up.
-- Assumes nothing.
use mathlib.Core.Path.{◌≡◌, refl, sym, ap, ◌∙◌}
use mathlib.Core.Bool.{Bool, true, false, not, ◌&&◌}
use mathlib.Core.List.{List, [], ◌∷◌, ◌++◌, append-nil}
use Prim.Native.Nat.{ℕ, zero, suc, ◌≤◌, ◌<◌}
use native.Mathlib.Decide.{dec_le}
use native.Mathlib.Omega.{arith}
use lib.Dec.{leb, ltb}
use lib.ListN.{length, drop}
use lib.Seq.{drop-nil}
use borrow.Author.Tests.{ltb-true, leb-true, le-leb, lt-leb}
use Rattle.std.specs.Prelude.{Ok}
use Rattle.std.specs.List.{list_all}
use Rattle.lists.specs.Choice.{pick}
use Rattle.lists.specs.Search.{all}
use Rattle.lists.specs.Sum.{sum_to}
use Rattle.lists.specs.Table.{at, tabulate}
use Rattle.lists.proofs.Sum.{sum_to_head}
use Rattle.lists.proofs.Search.{both_left, both_right, all_at}
use Rattle.lists.proofs.Table.{is_tabulate}
use Rattle.residue.specs.Factors.{divisors_end, least_power}
use Rattle.recurrence.specs.Polynomial.{len}
use Rattle.steps.specs.Sizes.{max_terms, max_cells}
use Rattle.steps.specs.declared.StepRecord.{StepRecord}
use Rattle.steps.specs.Log.{unpacked}
use Rattle.steps.specs.Run.{Below, Result}
use Rattle.sequence.specs.declared.Sequence.{Sequence}
use Rattle.sequence.specs.declared.Worked.{Worked}
use Rattle.sequence.specs.Rules.{outside}
use Rattle.sequence.specs.Trace.{records_of, sheet_filled, words_of, trace_of, work_of}
use Rattle.sequence.proofs.Laws.{inside}
use Rattle.sequence.proofs.Tracing.{zeros, entry_of, filling_all, reply_told}
use Rattle.timing.specs.Entries.{low, fits, row_of, row_cells, row_lengths, numbers_of, all_numbers, sum_of}
use Rattle.sequence.specs.Answers.{Reported}

-- a test of every term of a list, as one of every place
pub all_listed : (p : ℕ → Bool) (S : List ℕ) → list_all p S ≡ all (length S) (λ i. p (at S i))
unfolding all
all_listed p [] = refl
all_listed p (x ∷ S) = go (p x) (all_listed p S)
  where
    go : (b : Bool) → list_all p S ≡ all (length S) (λ i. p (at S i)) → (b && list_all p S) ≡ elim b as (λ _. Bool) [ true ↦ all (length S) (λ i. p (at S i)) | false ↦ false ]
    go true h = h
    go false h = refl

pub low_listed : (S : List ℕ) → length S ≡ max_terms → list_all (λ t. ltb t 65536) S ≡ low S
unfolding low
low_listed S h = all_listed (λ t. ltb t 65536) S ∙ ap (λ (n : ℕ). all n (λ i. ltb (at S i) 65536)) h

-- what the test of the inputs says
pub record Fit (m n : ℕ) (S : List ℕ) : Type 0 where
  pub least : 2 ≤ m
  pub most : m < divisors_end
  pub few : n ≤ max_terms
  pub terms : Below max_terms 65536 S

pub fit : (m n : ℕ) (S : List ℕ) → fits m n S ≡ true → Fit m n S
unfolding fits low
fit m n S h =
    let k = both_right (not (outside m)) _ h in
    let limits = inside m (not_true (outside m) (both_left _ _ h)) in
    record {
      least = limits.0;
      most = omega (arith, limits.1);
      few = leb-true n max_terms (both_left _ _ k);
      terms = λ i b. ltb-true (at S i) 65536 (all_at max_terms _ (both_right (leb n max_terms) _ k) i b);
    }
  where
    not_true : (t : Bool) → not t ≡ true → t ≡ false
    not_true true e = sym e
    not_true false e = refl

-- the lists that the steps give
module _ (m : ℕ) {n : ℕ} {S a lens : List ℕ} (r : Result (least_power m) S n a lens) where
  pub cells_are : a ≡ row_cells m S n
  unfolding row_cells
  cells_are = is_tabulate max_cells _ zero a r.long_a r.cells_a

  pub lengths_are : lens ≡ row_lengths m S n
  unfolding row_lengths
  lengths_are = is_tabulate max_cells _ zero lens r.long_lens (λ k h. go k (dec_le k n))
    where
      go : (k : ℕ) → Dec (k ≤ n) → at lens k ≡ pick (leb k n) (len (row_of m S k)) zero
      go k (yes l) = rw (le-leb k n l) (r.sizes k l)
      go k (no l) = rw (lt-leb k n (omega arith)) (r.others k (omega arith))

-- ---- the numbers of a trace

numbers_tabulate : (n : ℕ) (f : ℕ → StepRecord) → sum_to n (λ i. numbers_of (f i)) ≡ all_numbers (tabulate n f)
unfolding sum_to tabulate all_numbers
numbers_tabulate zero f = refl
numbers_tabulate (suc n) f = omega (arith, sum_to_head n (λ i. numbers_of (f i)), numbers_tabulate n (λ i. f (suc i)))

-- nothing behind the records of an empty sheet
bare : {A : Type 0} (xs : List A) (k : ℕ) → xs ++ drop k [] ≡ xs
bare xs k = ap (λ (ys : List _). xs ++ ys) (drop-nil k) ∙ append-nil xs

-- what the log of a trace adds up to: the records that `trace` would store in place of a sheet of none
pub sum_told : (s : Sequence) (a b : List ℕ) (n : ℕ) (y : Worked) → Ok y ≡ work_of s a b n → (log : List ℕ) → log ≡ sheet_filled (Ok y) (words_of s) zeros
    → sum_to y.count (λ i. numbers_of (unpacked (at log i))) ≡ sum_of (trace_of s a b n) s
unfolding all_numbers
sum_told s a b n y e log w =
    numbers_tabulate y.count (entry_of log)
    ∙ ap all_numbers (sym (bare (tabulate y.count (entry_of log)) y.count) ∙ filling_all s a b n y e log w [] ∙ bare (records_of s) (length (records_of s)))
    ∙ ap (λ (r : Reported). sum_of r s) (sym (reply_told s a b n y e))
