-- The claims about columns: how each one ends, that it does what pushing its terms singly does, and what it stands for in a list of calls.
-- Assumes nothing.
use Rattle.std.specs.Prelude.{◌≡◌, ◌⊎◌, List, [], ◌∷◌, ◌++◌, map, ℕ, zero, ◌+◌, ◌%◌, ◌≤◌, ◌<◌, length, take, Ok, Err}
use Rattle.lists.specs.Table.{at}
use Rattle.cells.specs.Cell.{bytes_of}
use Rattle.sequence.specs.declared.Sequence.{Sequence}
use Rattle.sequence.specs.declared.Refusal.TheVariants as R
use Rattle.sequence.specs.Limits.{max_modulus, max_terms}
use Rattle.sequence.specs.Rules.{IsSound, open_of, push_of}
use Rattle.column.specs.declared.PushedAll.{PushedAll}
use Rattle.column.specs.Rules.{terms_in, took, push_all_of}
use Rattle.guarantees.specs.Calls.{Call, push, push_all, after_all, taken}

-- ---- by the terms: r is the reply to a column of terms ts that is pushed to the sound sequence s

-- where it ends: no two of these hold together
pub data Ends (s : Sequence) (ts : List ℕ) (r : PushedAll) : Type 0 where
  -- all terms are taken
  all : r.taken ≡ length ts → r.outcome ≡ Ok tt → Ends s ts r
  -- the next one is reached when 128 are held
  full : r.taken < length ts → s.count + r.taken ≡ max_terms → r.outcome ≡ Err R.Full → Ends s ts r
  -- the next one is not below the modulus; 3 carries the number of terms held then
  large : r.taken < length ts → s.count + r.taken < max_terms → s.modulus ≤ at ts r.taken → r.outcome ≡ Err (R.Term (s.count + r.taken)) → Ends s ts r

pub record Takes (s : Sequence) (ts : List ℕ) (r : PushedAll) : Type 0 where
  -- each term taken is below the modulus, and there is room for it
  pub below : (i : ℕ) → i < r.taken → at ts i < s.modulus
  pub room : s.count + r.taken ≤ max_terms
  -- the sequence holds as many more, and is sound
  pub modulus : r.sequence.modulus ≡ s.modulus
  pub count : r.sequence.count ≡ s.count + r.taken
  pub sound : IsSound r.sequence
  pub ends : Ends s ts r

-- ---- by single pushes

-- the sequence after the first n terms are pushed singly
abbrev pub after_first : Sequence → List ℕ → ℕ → Sequence
after_first s ts n = after_all s (map push (take n ts))

-- how single pushes go on: there is no other term, or the next one is refused, and the column is refused as it is
abbrev pub EndsSingly : List ℕ → PushedAll → Type 0
EndsSingly ts r =
    ((r.taken ≡ length ts) × (r.outcome ≡ Ok tt))
    ⊎ ((r.taken < length ts) × (r.outcome ≡ (push_of r.sequence (at ts r.taken)).outcome) × (r.outcome ≡ Ok tt → ⊥))

pub record Singly (s : Sequence) (ts : List ℕ) (r : PushedAll) : Type 0 where
  -- each term taken is taken when it is pushed, and the sequence is the one that these pushes leave
  pub each : (i : ℕ) → i < r.taken → (push_of (after_first s ts i) (at ts i)).outcome ≡ Ok tt
  pub sequence : r.sequence ≡ after_first s ts r.taken
  pub ends : EndsSingly ts r

-- ---- in a list of calls

-- how many terms of a column are taken after the calls
abbrev pub taken_then : ℕ → List Call → List ℕ → ℕ
taken_then m calls list = (push_all_of (after_all (open_of m).sequence calls) list).taken

-- a column behind a list of calls is handed a sound sequence, which holds as many terms as were taken; those of its own that are taken join them at the
-- end, in order
pub record Joins (m : ℕ) (calls : List Call) (list : List ℕ) : Type 0 where
  pub sound : IsSound (after_all (open_of m).sequence calls)
  pub count : (after_all (open_of m).sequence calls).count ≡ length (taken m calls)
  pub joined : taken m (calls ++ (push_all list ∷ [])) ≡ taken m calls ++ take (taken_then m calls list) (terms_in list)

-- a column between two lists of calls stands for the pushes of its terms that are taken
pub record StandsFor (m : ℕ) (calls : List Call) (list : List ℕ) (rest : List Call) : Type 0 where
  pub sequence :
      after_all (open_of m).sequence (calls ++ (push_all list ∷ rest))
      ≡ after_all (open_of m).sequence (calls ++ (map push (take (taken_then m calls list) (terms_in list)) ++ rest))
  pub terms :
      taken m (calls ++ (push_all list ∷ rest))
      ≡ taken m (calls ++ (map push (take (taken_then m calls list) (terms_in list)) ++ rest))

pub record EveryColumn : Type 0 where
  -- 5 for an odd number of bytes, else 21 for a sequence that is not sound, also where the column is empty: none is taken, and the sequence is as it came
  pub odd : (s : Sequence) (list : List ℕ) → (length list % 2 ≡ zero → ⊥) → push_all_of s list ≡ took zero s (Err R.Buffer)
  pub unsound : (s : Sequence) (list : List ℕ) → length list % 2 ≡ zero → (IsSound s → ⊥) → push_all_of s list ≡ took zero s (Err R.Sequence)
  -- any other, of whatever length
  pub takes : (s : Sequence) (list : List ℕ) → length list % 2 ≡ zero → IsSound s → Takes s (terms_in list) (push_all_of s list)
  pub singly : (s : Sequence) (list : List ℕ) → length list % 2 ≡ zero → IsSound s → Singly s (terms_in list) (push_all_of s list)
  pub joins : (m : ℕ) → 2 ≤ m → m ≤ max_modulus → (calls : List Call) (list : List ℕ) → Joins m calls list
  pub stands : (m : ℕ) → 2 ≤ m → m ≤ max_modulus → (calls : List Call) (list : List ℕ) (rest : List Call) → StandsFor m calls list rest
  -- at most 128 terms, each below m, are taken whole as one column of cells
  pub whole :
      (m : ℕ) → 2 ≤ m → m ≤ max_modulus → (ts : List ℕ) → length ts ≤ max_terms → ((j : ℕ) → j < length ts → at ts j < m)
      → taken m (push_all (bytes_of ts) ∷ []) ≡ ts
