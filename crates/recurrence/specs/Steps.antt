-- The steps at a prime power p^e (Reeds and Sloane, section 4) by their full history. Letters are the paper's.
-- Assumes nothing.
use Rattle.std.specs.Prelude.{true, false, List, [], ◌∷◌, ℕ, zero, suc, ◌+◌, ◌*◌, ◌-◌, ◌%◌, ◌^◌, leb, ltb, length, get_or}
use Rattle.lists.specs.Table.{at, tabulate}
use Rattle.residue.specs.Congruence.{neg}
use Rattle.residue.specs.Units.{inverse}
use Rattle.residue.specs.Valuation.{valuation, cofactor}
use Rattle.recurrence.specs.Polynomial.{conv, plus, times, up, Pair, len}

-- The rows before a step: for each η from 0 to e-1 a pair, in this order.
abbrev pub Rows : Type 0
Rows = List Pair

abbrev pub row : Rows → ℕ → Pair
row rows η = get_or rows η (record { a = []; b = [] })

-- d of a pair at step k: coefficient k of S × a less coefficient k of b, modulo q
unfoldable pub discrepancy : ℕ → List ℕ → ℕ → Pair → ℕ
discrepancy q S k w = (conv (at S) (at w.a) k + neg q (at w.b k)) % q

-- What a step does to a row: it stays; d is added to b; an older row cancels d.
pub data Case : Type 0 where
  stays : Case
  added : Case
  cancelled : Case

-- the case, from u and from L of row g
unfoldable pub case_of : ℕ → ℕ → ℕ → Case
case_of e u l = elim (leb e u) [ true ↦ stays | false ↦ elim l [ zero ↦ added | suc n ↦ cancelled ] ]

-- A row before step r, with its u and θ there.
pub record Older : Type 0 where
  pub pair : Pair
  pub u : ℕ
  pub θ : ℕ
  pub r : ℕ

-- before any growth; no step uses it
unfoldable pub no_older : Older
no_older = record { pair = record { a = []; b = [] }; u = zero; θ = 1; r = zero }

-- The rows before a step, and before each earlier step, the last one first.
pub record History : Type 0 where
  pub now : Rows
  pub before : List Rows

module _ (p e : ℕ) where
  -- the number of the row that answers to a discrepancy d: g = e - 1 - u
  unfoldable pub partner : ℕ → ℕ
  partner d = e - 1 - valuation e p d

  -- minus θ × (inverse of the older θ) × p^(u minus the older u)
  unfoldable pub multiplier : ℕ → Older → ℕ
  multiplier d o = neg (p ^ e) (cofactor e p d * inverse (p ^ e) o.θ * p ^ (valuation e p d - o.u))

  -- the pair of a row with discrepancy d after step k
  unfoldable pub change : Case → ℕ → ℕ → Pair → Older → Pair
  change stays k d w o = w
  change added k d w o = record { a = w.a; b = plus (p ^ e) w.b (up k (d ∷ [])) }
  change cancelled k d w o =
      record {
        a = plus (p ^ e) w.a (times (p ^ e) (multiplier d o) (up (k - o.r) o.pair.a));
        b = plus (p ^ e) w.b (times (p ^ e) (multiplier d o) (up (k - o.r) o.pair.b));
      }

  module _ (S : List ℕ) where
    -- Row h = e - 1 - u of row g, as it was before step r.
    unfoldable pub remembered : Rows → ℕ → ℕ → Older
    remembered rows r g =
        let h = partner (discrepancy (p ^ e) S r (row rows g)) in
        let d = discrepancy (p ^ e) S r (row rows h) in
        record { pair = row rows h; u = valuation e p d; θ = cofactor e p d; r = r }

    -- That row at the last step r at which row g's L grew.
    unfoldable pub older : ℕ → Rows → List Rows → Older
    older g now [] = no_older
    older g now (rows ∷ earlier) =
        elim (ltb (len (row rows g)) (len (row now g))) [
          | true ↦ remembered rows (length earlier) g
          | false ↦ older g rows earlier
        ]

    -- row η after step k, from the rows now and before
    unfoldable pub next : ℕ → Rows → List Rows → ℕ → Pair
    next k now before η =
        let w = row now η in
        let d = discrepancy (p ^ e) S k w in
        let g = partner d in
        change (case_of e (valuation e p d) (len (row now g))) k d w (older g now before)

    -- the rows before step k, and before the steps before it: all rows are made from the rows before the step
    unfoldable pub history : ℕ → History
    history zero = record { now = tabulate e (λ η. record { a = p ^ η ∷ []; b = [] }); before = [] }
    history (suc k) =
        let t = history k in
        record { now = tabulate e (next k t.now t.before); before = t.now ∷ t.before }

    -- row η before step k, that is after k steps
    unfoldable pub row_at : ℕ → ℕ → Pair
    row_at η k = row (history k).now η

    -- d of row η at step k, its u and θ
    abbrev pub d_at : ℕ → ℕ → ℕ
    d_at η k = discrepancy (p ^ e) S k (row_at η k)

    abbrev pub u_at : ℕ → ℕ → ℕ
    u_at η k = valuation e p (d_at η k)

    abbrev pub θ-at : ℕ → ℕ → ℕ
    θ-at η k = cofactor e p (d_at η k)

    -- L of row η before step k
    abbrev pub L-at : ℕ → ℕ → ℕ
    L-at η k = len (row_at η k)

    -- what row g remembers before step k
    unfoldable pub older_at : ℕ → ℕ → Older
    older_at g k = older g (history k).now (history k).before
