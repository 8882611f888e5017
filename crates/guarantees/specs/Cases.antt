-- The fourteen marked cases of the scope, as replies of the calls.
-- Assumes nothing.
use Rattle.std.specs.Prelude.{◌≡◌, List, [], ◌∷◌, map, ℕ, suc, ◌+◌, length, replicate, Some, Ok}
use Rattle.lists.specs.Table.{at, tabulate}
use Rattle.cells.specs.Cell.{cells_from, bytes_of}
use Rattle.sequence.specs.Limits.{max_cells, max_terms, a_bytes, b_bytes, profile_bytes}
use Rattle.sequence.specs.declared.Sequence.{Sequence}
use Rattle.sequence.specs.declared.Uniqueness.TheVariants.{Sole, Several, NotTold}
use Rattle.sequence.specs.Answers.{granted, refused, refused_at, outcome_answer, Reported, of_length}
use Rattle.sequence.specs.Rules.{open_of, push_of, query_of}
use Rattle.sequence.specs.Report.{report_of, a_buffer, b_buffer, profile_of, profile_buffer, filled}
use Rattle.candidate.specs.Rules.{verify_of, generate_of, generated_in}
use Rattle.guarantees.specs.Calls.{push, after_all}

-- the sequence for m after pushing the terms
abbrev pub after : ℕ → List ℕ → Sequence
after m ts = after_all (open_of m).sequence (map push ts)

-- lent buffers of zeros
abbrev pub zeros : ℕ → List ℕ
zeros n = replicate n 0

-- what the register replies and writes: its length and whether it is the only one, the first cells of a and of b
pub record Reply : Type 0 where
  pub answer : Reported
  pub a : List ℕ
  pub b : List ℕ

unfoldable pub reply : ℕ → List ℕ → ℕ → Reply
reply m ts l =
    let s = after m ts in
    let r = report_of s (zeros a_bytes) (zeros b_bytes) in
    record {
      answer = r;
      a = cells_from (filled r (a_buffer s) (zeros a_bytes)) 0 (suc l);
      b = cells_from (filled r (b_buffer s) (zeros b_bytes)) 0 l;
    }

-- the first n + 1 cells of the profile of n terms
unfoldable pub lengths : ℕ → List ℕ → List ℕ
lengths m ts = let s = after m ts in cells_from (filled (profile_of s (zeros profile_bytes)) (profile_buffer s) (zeros profile_bytes)) 0 (suc (length ts))

-- coefficients as a lent buffer
abbrev pub a_of : List ℕ → List ℕ
a_of xs = bytes_of (tabulate max_cells (at xs))

abbrev pub b_of : List ℕ → List ℕ
b_of xs = bytes_of (tabulate max_terms (at xs))

-- the first cells that running gives
unfoldable pub run : ℕ → List ℕ → List ℕ → ℕ → ℕ → List ℕ
run m a b l c = cells_from (generated_in (generate_of m (a_of a) (b_of b) l (zeros (c + c))) m (a_of a) (b_of b) l (zeros (c + c))) 0 c

pub record Cases : Type 0 where
  pub case1 : reply 2 [] 0 ≡ record { answer = of_length 0 Sole; a = 1 ∷ []; b = [] }
  pub case2 : reply 5 (0 ∷ 0 ∷ 0 ∷ []) 0 ≡ record { answer = of_length 0 Sole; a = 1 ∷ []; b = [] }
  pub case3 : reply 9 (6 ∷ 3 ∷ 1 ∷ 5 ∷ 6 ∷ []) 3 ≡ record { answer = of_length 3 NotTold; a = 1 ∷ 4 ∷ 7 ∷ 1 ∷ []; b = 6 ∷ 0 ∷ 1 ∷ [] }
  pub case4 : lengths 9 (6 ∷ 3 ∷ 1 ∷ 5 ∷ 6 ∷ []) ≡ 0 ∷ 1 ∷ 1 ∷ 3 ∷ 3 ∷ 3 ∷ []
  pub case5 : reply 4 (2 ∷ 2 ∷ []) 1 ≡ record { answer = of_length 1 NotTold; a = 1 ∷ 3 ∷ []; b = 2 ∷ [] }
  pub case6 : reply 4 (2 ∷ 1 ∷ []) 2 ≡ record { answer = of_length 2 NotTold; a = 1 ∷ 0 ∷ 0 ∷ []; b = 2 ∷ 1 ∷ [] }
  pub case7 : reply 2 (0 ∷ 0 ∷ 1 ∷ []) 3 ≡ record { answer = of_length 3 Several; a = 1 ∷ 0 ∷ 0 ∷ 0 ∷ []; b = 0 ∷ 0 ∷ 1 ∷ [] }
  pub case8 : reply 6 (3 ∷ 3 ∷ []) 1 ≡ record { answer = of_length 1 NotTold; a = 1 ∷ 3 ∷ []; b = 3 ∷ [] }
  pub case9 : reply 7 (1 ∷ 1 ∷ 2 ∷ 3 ∷ 5 ∷ 1 ∷ []) 2 ≡ record { answer = of_length 2 Sole; a = 1 ∷ 6 ∷ 6 ∷ []; b = 1 ∷ 0 ∷ [] }
  pub case10 : run 7 (1 ∷ 6 ∷ 6 ∷ []) (1 ∷ 0 ∷ []) 2 6 ≡ 1 ∷ 1 ∷ 2 ∷ 3 ∷ 5 ∷ 1 ∷ []
  pub case11 : verify_of (query_of 9 (6 ∷ 3 ∷ 1 ∷ 5 ∷ 6 ∷ [])) (a_of (1 ∷ 4 ∷ 7 ∷ 2 ∷ [])) (b_of (6 ∷ 0 ∷ 1 ∷ [])) 3 ≡ Ok (Some 3)
  pub case12 : reply 6 (1 ∷ 0 ∷ []) 1 ≡ record { answer = of_length 1 NotTold; a = 1 ∷ 0 ∷ []; b = 1 ∷ [] }
  pub case13 :
      (outcome_answer (push_of (open_of 4095).sequence 4094).outcome ≡ granted [])
      × (outcome_answer (push_of (open_of 4095).sequence 4095).outcome ≡ refused_at 3 0)
      × (outcome_answer (push_of (after 4095 (4094 ∷ [])) 4095).outcome ≡ refused_at 3 1)
  pub case14 : (outcome_answer (open_of 4096).outcome ≡ refused 1) × (outcome_answer (open_of 1).outcome ≡ refused 1)
