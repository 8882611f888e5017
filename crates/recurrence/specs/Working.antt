-- The working of a register: one record for each row at each step, in the manner of Table 2 of Reeds and Sloane, and what applying them gives.
-- Assumes nothing.
use Rattle.std.specs.Prelude.{true, false, List, [], ◌∷◌, ◌++◌, ℕ, zero, suc, ◌+◌, ◌*◌, ◌^◌, ltb, length, get_or, drop}
use Rattle.lists.specs.Table.{tabulate}
use Rattle.residue.specs.Factors.{PrimePower, value, prime_powers}
use Rattle.recurrence.specs.Polynomial.{Pair}
use Rattle.recurrence.specs.Steps.{Rows, row, Case, stays, added, cancelled, case_of, Older, no_older, History, partner, change, d_at, u_at, θ-at, L-at}
use Rattle.recurrence.specs.Register.{Register, Part, register_from}

-- One row at one step: the prime power, k, η, the row's L before the step, u, θ, g (e where the row stays) and the number of the case.
pub record Step : Type 0 where
  pub power : ℕ
  pub k : ℕ
  pub η : ℕ
  pub length : ℕ
  pub u : ℕ
  pub θ : ℕ
  pub g : ℕ
  pub case : ℕ

-- 1 the row stays, 2 d is added to b, 3 an older row cancels d
unfoldable pub case_number : Case → ℕ
case_number stays = 1
case_number added = 2
case_number cancelled = 3

-- what a record tells as g: e where the row stays
unfoldable pub partner_told : Case → ℕ → ℕ → ℕ
partner_told stays e g = e
partner_told added e g = g
partner_told cancelled e g = g

-- ---- the sheet

module _ (S : List ℕ) (f : PrimePower) where
  -- the record of row η at step k
  unfoldable pub step_at : ℕ → ℕ → Step
  step_at k η =
      let p = f.prime in
      let e = f.exponent in
      let g = partner p e (d_at p e S η k) in
      let c = case_of e (u_at p e S η k) (L-at p e S g k) in
      record {
        power = value f;
        k = k;
        η = η;
        length = L-at p e S η k;
        u = u_at p e S η k;
        θ = θ-at p e S η k;
        g = partner_told c e g;
        case = case_number c;
      }

  -- the first n steps at a prime power: k rising, then η
  unfoldable pub steps_at : ℕ → List Step
  steps_at zero = []
  steps_at (suc n) = steps_at n ++ tabulate f.exponent (step_at n)

-- the same at each of the prime powers
unfoldable pub steps_over : List ℕ → ℕ → List PrimePower → List Step
steps_over S n [] = []
steps_over S n (f ∷ fs) = steps_at S f n ++ steps_over S n fs

-- the sheet of the first n terms modulo m: primes rising
unfoldable pub sheet_of : ℕ → List ℕ → ℕ → List Step
sheet_of m S n = steps_over S n (prime_powers m)

-- the sum of the exponents: a sheet has n records for each of these rows
unfoldable pub rows_over : List PrimePower → ℕ
rows_over [] = zero
rows_over (f ∷ fs) = f.exponent + rows_over fs

-- ---- applying a sheet's cases in order; no terms are read

unfoldable pub case_numbered : ℕ → Case
case_numbered zero = stays
case_numbered (suc zero) = stays
case_numbered (suc (suc zero)) = added
case_numbered (suc (suc (suc n))) = cancelled

-- at a prime power, from its records: told k η is the one of row η at step k
module _ (p e : ℕ) (told : ℕ → ℕ → Step) where
  -- Row h as it was before step r, the last step at which row g's L grew: r is read off the lengths in the sheet, h off g of row g at r.
  unfoldable pub recalled : ℕ → List Rows → Older
  recalled g [] = no_older
  recalled g (rows ∷ earlier) =
      let r = length earlier in
      let h = (told r g).g in
      elim (ltb (told r g).length (told (suc r) g).length) [
        | true ↦ record { pair = row rows h; u = (told r h).u; θ = (told r h).θ; r = r }
        | false ↦ recalled g earlier
      ]

  -- row η after step k: its case, with d = θ p^u
  unfoldable pub applied : ℕ → Rows → List Rows → ℕ → Pair
  applied k now before η =
      let x = told k η in
      change p e (case_numbered x.case) k (x.θ * p ^ x.u) (row now η) (recalled x.g before)

  -- the rows before step k, and before the steps before it
  unfoldable pub retold : ℕ → History
  retold zero = record { now = tabulate e (λ η. record { a = p ^ η ∷ []; b = [] }); before = [] }
  retold (suc k) =
      let t = retold k in
      record { now = tabulate e (applied k t.now t.before); before = t.now ∷ t.before }

-- what is read past the end of a sheet
abbrev pub no_step : Step
no_step = record { power = zero; k = zero; η = zero; length = zero; u = zero; θ = zero; g = zero; case = zero }

-- record (k, η) of a sheet that begins with e rows
abbrev pub record_in : List Step → ℕ → ℕ → ℕ → Step
record_in sheet e k η = get_or sheet (k * e + η) no_step

-- row 0 at each prime power after n steps
unfoldable pub replayed : ℕ → List PrimePower → List Step → List Part
replayed n [] sheet = []
replayed n (f ∷ fs) sheet =
    record { modulus = value f; pair = row (retold f.prime f.exponent (record_in sheet f.exponent) n).now zero }
    ∷ replayed n fs (drop (n * f.exponent) sheet)

-- what applying the sheet of n terms gives: row 0 of each prime power, joined by remainders
unfoldable pub replay : ℕ → ℕ → List Step → Register
replay m n sheet = register_from m (replayed n (prime_powers m) sheet)
