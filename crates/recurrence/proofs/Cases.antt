-- The definitions held against numbers of the papers, by computation: the worked example of Reeds and Sloane (Tables 1 and 2), and the
-- scope's example of the compact version of the steps; and sheets replayed.
-- Assumes nothing.
use mathlib.Core.Path.{◌≡◌, refl}
use mathlib.Core.List.{List, [], ◌∷◌, map}
use Prim.Native.Nat.{ℕ}
use lib.ListN.{length}
use Rattle.lists.specs.Table.{at, tabulate, largest}
use Rattle.lists.specs.Search.{first, every}
use Rattle.residue.specs.Congruence.{neg}
use Rattle.residue.specs.Units.{inverse}
use Rattle.residue.specs.Factors.{least_divisor, least_power, powers_up_to, prime_powers}
use Rattle.residue.specs.Remainders.{joined}
use Rattle.residue.specs.Valuation.{valuation, cofactor}
use Rattle.recurrence.specs.Polynomial.{conv, plus, times, up, top, degree, Pair, len}
use Rattle.recurrence.specs.Steps.{discrepancy, case_of, partner, multiplier, change, remembered, older, no_older, next, history, row_at}
use Rattle.recurrence.specs.Register.{Register}
use Rattle.recurrence.specs.Working.{Step, case_number, partner_told, step_at, steps_at, steps_over, sheet_of, case_numbered, recalled, applied, retold, replayed, replay}

-- row η before step k of the steps at p^e, ready to compute
unfoldable pub pair_at : ℕ → ℕ → List ℕ → ℕ → ℕ → Pair
unfolding tabulate first conv plus times up top degree len discrepancy case_of partner multiplier change remembered older no_older next history row_at neg inverse valuation cofactor
pair_at p e S η k = row_at p e S η k

-- a polynomial without zeros past its degree
unfoldable pub trimmed : List ℕ → List ℕ
unfolding pair_at
trimmed xs = tabulate (top xs) (at xs)

-- the compact version of the steps on 6, 4 modulo 8: a is 1, 6, where the longer version has 1, 2
pub compact : trimmed (pair_at 2 3 (6 ∷ 4 ∷ []) 0 2).a ≡ 1 ∷ 6 ∷ []
unfolding trimmed
compact = refl

-- ---- Tables 1 and 2 of Reeds and Sloane

abbrev terms : List ℕ
terms = 6 ∷ 3 ∷ 1 ∷ 5 ∷ 6 ∷ []

-- the pair of row η before step k, modulo 9
unfoldable pub table1 : ℕ → ℕ → Pair
unfolding trimmed
table1 η k = let w = pair_at 3 2 terms η k in record { a = trimmed w.a; b = trimmed w.b }

pub record Table1 : Type 0 where
  pub row00 : table1 0 0 ≡ record { a = 1 ∷ []; b = [] }
  pub row01 : table1 0 1 ≡ record { a = 1 ∷ []; b = 6 ∷ [] }
  pub row02 : table1 0 2 ≡ record { a = 1 ∷ 4 ∷ []; b = 6 ∷ [] }
  pub row03 : table1 0 3 ≡ record { a = 1 ∷ 4 ∷ []; b = 6 ∷ 0 ∷ 4 ∷ [] }
  pub row04 : table1 0 4 ≡ record { a = 1 ∷ 4 ∷ []; b = 6 ∷ 0 ∷ 4 ∷ [] }
  pub row05 : table1 0 5 ≡ record { a = 1 ∷ 4 ∷ 7 ∷ 1 ∷ []; b = 6 ∷ 0 ∷ 1 ∷ [] }
  pub row10 : table1 1 0 ≡ record { a = 3 ∷ []; b = [] }
  pub row11 : table1 1 1 ≡ record { a = 3 ∷ []; b = [] }
  pub row12 : table1 1 2 ≡ record { a = 3 ∷ []; b = [] }
  pub row13 : table1 1 3 ≡ record { a = 3 ∷ 0 ∷ 4 ∷ []; b = [] }
  pub row14 : table1 1 4 ≡ record { a = 3 ∷ 0 ∷ 4 ∷ []; b = [] }
  pub row15 : table1 1 5 ≡ record { a = 3 ∷ 0 ∷ 3 ∷ 5 ∷ []; b = 0 ∷ 0 ∷ 3 ∷ [] }

pub first_table : Table1
unfolding table1
first_table = record { row00 = refl; row01 = refl; row02 = refl; row03 = refl; row04 = refl; row05 = refl; row10 = refl; row11 = refl; row12 = refl; row13 = refl; row14 = refl; row15 = refl }

-- the sheet of all of the terms, and what replaying it gives, ready to compute
unfoldable pub sheet : ℕ → List ℕ → List Step
unfolding pair_at joined largest least_divisor least_power powers_up_to prime_powers case_number partner_told step_at steps_at steps_over sheet_of
sheet m S = sheet_of m S (length S)

unfoldable pub again : ℕ → List ℕ → Register
unfolding sheet every case_numbered recalled applied retold replayed replay
again m S = replay m (length S) (sheet m S)

abbrev step : ℕ → ℕ → ℕ → ℕ → ℕ → ℕ → ℕ → ℕ → Step
step q k η l u θ g c = record { power = q; k = k; η = η; length = l; u = u; θ = θ; g = g; case = c }

unfoldable pub lengths : ℕ → List ℕ
unfolding pair_at
lengths k = map (λ η. len (pair_at 3 2 terms η k)) (0 ∷ 1 ∷ [])

pub record Sheets : Type 0 where
  -- Table 2: q, k, η, l, u, θ, g, case. The table has a star for the case at k = 0 and for f where the row stays, and there the longer version's f at k = 0.
  pub table2 :
      sheet 9 terms
      ≡ step 9 0 0 0 1 2 0 2 ∷ step 9 0 1 0 2 1 2 1
      ∷ step 9 1 0 1 1 1 0 3 ∷ step 9 1 1 0 2 1 2 1
      ∷ step 9 2 0 1 0 4 1 2 ∷ step 9 2 1 0 1 1 0 3
      ∷ step 9 3 0 3 2 1 2 1 ∷ step 9 3 1 2 2 1 2 1
      ∷ step 9 4 0 3 0 8 1 3 ∷ step 9 4 1 2 0 4 1 3 ∷ []
  -- its last column has lengths alone
  pub last : lengths 5 ≡ 3 ∷ 3 ∷ []
  pub replay9 : again 9 terms ≡ record { length = 3; a = 1 ∷ 4 ∷ 7 ∷ 1 ∷ []; b = 6 ∷ 0 ∷ 1 ∷ [] }
  pub none : sheet 9 [] ≡ []
  -- several primes: the least one's records first
  pub sheet6 : sheet 6 (3 ∷ 3 ∷ []) ≡ step 2 0 0 0 0 1 0 2 ∷ step 2 1 0 1 0 1 0 3 ∷ step 3 0 0 0 1 1 1 1 ∷ step 3 1 0 0 1 1 1 1 ∷ []
  pub replay6 : again 6 (3 ∷ 3 ∷ []) ≡ record { length = 1; a = 1 ∷ 3 ∷ []; b = 3 ∷ [] }
  -- a power and a prime
  pub sheet12 :
      sheet 12 (7 ∷ 2 ∷ 5 ∷ [])
      ≡ step 4 0 0 0 0 3 1 2 ∷ step 4 0 1 0 1 1 0 2
      ∷ step 4 1 0 1 1 1 0 3 ∷ step 4 1 1 1 2 1 2 1
      ∷ step 4 2 0 1 0 1 1 3 ∷ step 4 2 1 1 1 1 0 3
      ∷ step 3 0 0 0 0 1 0 2 ∷ step 3 1 0 1 0 2 0 3 ∷ step 3 2 0 1 0 1 0 3 ∷ []
  pub replay12 : again 12 (7 ∷ 2 ∷ 5 ∷ []) ≡ record { length = 2; a = 1 ∷ 10 ∷ 5 ∷ []; b = 7 ∷ 0 ∷ [] }
  pub replay8 : again 8 (6 ∷ 4 ∷ []) ≡ record { length = 1; a = 1 ∷ 6 ∷ []; b = 6 ∷ [] }

pub second_table : Sheets
unfolding again lengths
second_table = record { table2 = refl; last = refl; replay9 = refl; none = refl; sheet6 = refl; replay6 = refl; sheet12 = refl; replay12 = refl; replay8 = refl }
