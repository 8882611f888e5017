-- What the passes of a step do to the arrays: facts of lists, in which no row of the definition occurs.
-- Assumes nothing.
use Rattle.std.specs.Prelude.{◌≡◌, List, [], ◌∷◌, ℕ, zero, ◌+◌, ◌*◌, ◌-◌, ◌%◌, ◌^◌, ◌≤◌, ◌<◌, leb, ltb, length, get_or}
use Rattle.lists.specs.Table.{at}
use Rattle.lists.specs.Choice.{pick}
use Rattle.residue.specs.Units.{Coprime, inverse}
use Rattle.recurrence.specs.Polynomial.{up}
use Rattle.steps.specs.Sizes.{max_cells, max_rows}
use Rattle.steps.specs.declared.ring.Ring.{Ring}
use Rattle.steps.specs.declared.Rows.{Rows}
use Rattle.steps.specs.declared.Memory.{Memory}
use Rattle.steps.specs.declared.Seen.{Seen}
use Rattle.steps.specs.declared.Plan.{Plan}
use Rattle.steps.specs.Run.{Below}

-- the cells from l to n are 0
abbrev pub Clear : ℕ → ℕ → List ℕ → Type 0
Clear l n x = (i : ℕ) → l ≤ i → i < n → at x i ≡ zero

-- z is x with f times y, moved up s places, added modulo q, in the first n cells
pub record Added (n q f s : ℕ) (x y z : List ℕ) : Type 0 where
  pub long : length z ≡ length x
  pub cells : (i : ℕ) → i < n → at z i ≡ (at x i + f * at (up s y) i) % q

-- 15 rows of 129 cells
pub record Shape (rows : List (List ℕ)) : Type 0 where
  pub many : length rows ≡ max_rows
  pub wide : (η : ℕ) → η < max_rows → length (get_or rows η []) ≡ max_cells

-- every cell is 0
abbrev pub Blank : List (List ℕ) → Type 0
Blank cur = (η j : ℕ) → at (get_or cur η []) j ≡ zero

-- the first i rows are as before any term
pub record Starting (p : ℕ) (cur₀ cur : List (List ℕ)) (i : ℕ) : Type 0 where
  pub shape : Shape cur
  pub done : (η j : ℕ) → η < i → at (get_or cur η []) j ≡ at (p ^ η ∷ []) j
  pub todo : (η : ℕ) → i ≤ η → get_or cur η [] ≡ get_or cur₀ η []

-- the rows before step k, and what is seen of them, are small enough for it
pub record Ready (ring : Ring) (k : ℕ) (rows : Rows) (seen : Seen) : Type 0 where
  pub shape : Shape rows.a
  pub low : (η : ℕ) → η < ring.e → Below max_cells ring.q (get_or rows.a η [])
  pub early : (η : ℕ) → η < ring.e → at rows.length η ≤ k
  pub powers : (η : ℕ) → η < ring.e → at seen.u η ≤ ring.e
  pub rests : (η : ℕ) → η < ring.e → at seen.theta η ≤ ring.q

-- ---- the lengths after a step

-- by the law of lengths, from the row's length l and u, and the length m of row e - 1 - u
unfoldable pub next_of : ℕ → ℕ → ℕ → ℕ → ℕ → ℕ
next_of l u m k e = pick (ltb u e) (pick (leb (l + m) k) (k + 1 - m) l) l

abbrev pub next_at : List ℕ → List ℕ → ℕ → ℕ → ℕ → ℕ
next_at len us k e η = next_of (at len η) (at us η) (at len (e - 1 - at us η)) k e

-- the lengths after step k, and of each row that grows the row that it is to remember, for the first i rows
pub record Planned (ring : Ring) (k : ℕ) (rows : Rows) (seen : Seen) (plan : Plan) (i : ℕ) : Type 0 where
  pub long : length plan.length ≡ max_rows
  pub many : length plan.aside ≡ max_rows
  pub lens : (η : ℕ) → η < i → at plan.length η ≡ next_at rows.length seen.u k ring.e η
  pub aside : (η : ℕ) → η < i → at rows.length η < next_at rows.length seen.u k ring.e η
      → get_or plan.aside η [] ≡ get_or rows.a (ring.e - 1 - at seen.u η) []

-- ---- what a step does to a row

-- what the rows remember is fit for use
pub record Stocked (ring : Ring) (k : ℕ) (len : List ℕ) (memory : Memory) : Type 0 where
  pub early : (g : ℕ) → g < ring.e → zero < at len g → at memory.when g < k
  pub short : (g : ℕ) → g < ring.e → zero < at len g → at memory.reach g ≤ at memory.when g
  pub clear : (g : ℕ) → g < ring.e → zero < at len g → Clear (at memory.reach g + 1) max_cells (get_or memory.a g [])
  pub low : (g : ℕ) → g < ring.e → zero < at len g → Below max_cells ring.q (get_or memory.a g [])
  pub mults : (g : ℕ) → g < ring.e → zero < at len g → at memory.mult g < ring.q

-- y is the row x after step k, from its u and θ
pub record Changed (ring : Ring) (k : ℕ) (len : List ℕ) (memory : Memory) (u θ : ℕ) (x y : List ℕ) : Type 0 where
  pub long : length y ≡ length x
  pub stay : ring.e ≤ u → y ≡ x
  pub fresh : u < ring.e → at len (ring.e - 1 - u) ≡ zero → y ≡ x
  pub moved : u < ring.e → zero < at len (ring.e - 1 - u)
      → Added max_cells ring.q (ring.q - θ * at memory.mult (ring.e - 1 - u) % ring.q) (k - at memory.when (ring.e - 1 - u)) x
      (get_or memory.a (ring.e - 1 - u) []) y

-- the first i rows are changed
pub record Changing (ring : Ring) (k : ℕ) (memory : Memory) (seen : Seen) (rows₀ rows : Rows) (i : ℕ) : Type 0 where
  pub lens : rows.length ≡ rows₀.length
  pub shape : Shape rows.a
  pub done : (η : ℕ) → η < i → Changed ring k rows₀.length memory (at seen.u η) (at seen.theta η) (get_or rows₀.a η []) (get_or rows.a η [])
  pub todo : (η : ℕ) → i ≤ η → get_or rows.a η [] ≡ get_or rows₀.a η []

-- ---- what the rows remember after it

-- a row that grew remembers anew
pub record Settled (ring : Ring) (k : ℕ) (plan : Plan) (seen : Seen) (len : List ℕ) (η : ℕ) (row : List ℕ) (n when reach mult : ℕ) : Type 0 where
  pub grown : n ≡ at plan.length η
  pub row_new : at len η < at plan.length η → row ≡ get_or plan.aside η []
  pub when_new : at len η < at plan.length η → when ≡ k
  pub reach_new : at len η < at plan.length η → reach ≡ k + 1 - at plan.length η
  pub mult_new : at len η < at plan.length η
      → mult ≡ inverse ring.q (at seen.theta (ring.e - 1 - at seen.u η)) * ring.p ^ (ring.e - 1 - η - at seen.u (ring.e - 1 - at seen.u η)) % ring.q

-- and any other what it did
pub record Remembers (ring : Ring) (k : ℕ) (plan : Plan) (seen : Seen) (memory₀ : Memory) (len : List ℕ) (η : ℕ) (row : List ℕ)
    (n when reach mult : ℕ) : Type 0 where
  pub new : Settled ring k plan seen len η row n when reach mult
  pub row_old : at plan.length η ≤ at len η → row ≡ get_or memory₀.a η []
  pub when_old : at plan.length η ≤ at len η → when ≡ at memory₀.when η
  pub reach_old : at plan.length η ≤ at len η → reach ≡ at memory₀.reach η
  pub mult_old : at plan.length η ≤ at len η → mult ≡ at memory₀.mult η

-- the first i rows are settled
pub record Settling (ring : Ring) (k : ℕ) (plan : Plan) (seen : Seen) (memory₀ : Memory) (len₀ : List ℕ) (memory : Memory) (len : List ℕ) (i : ℕ) : Type 0 where
  pub shape : Shape memory.a
  pub long_len : length len ≡ max_rows
  pub long_when : length memory.when ≡ max_rows
  pub long_reach : length memory.reach ≡ max_rows
  pub long_mult : length memory.mult ≡ max_rows
  pub done : (η : ℕ) → η < i
      → Remembers ring k plan seen memory₀ len₀ η (get_or memory.a η []) (at len η) (at memory.when η) (at memory.reach η) (at memory.mult η)
  pub todo_row : (η : ℕ) → i ≤ η → get_or memory.a η [] ≡ get_or memory₀.a η []
  pub todo_len : (η : ℕ) → i ≤ η → at len η ≡ at len₀ η
  pub todo_when : (η : ℕ) → i ≤ η → at memory.when η ≡ at memory₀.when η
  pub todo_reach : (η : ℕ) → i ≤ η → at memory.reach η ≡ at memory₀.reach η
  pub todo_mult : (η : ℕ) → i ≤ η → at memory.mult η ≡ at memory₀.mult η

-- what `settle` has to be handed for row η
pub record Grows (ring : Ring) (k : ℕ) (len : List ℕ) (plan : Plan) (seen : Seen) (η : ℕ) : Type 0 where
  pub up : at len η ≤ at plan.length η
  pub most : at plan.length η ≤ k + 1
  pub wide : at len η < at plan.length η → length (get_or plan.aside η []) ≡ max_cells
  pub some : at len η < at plan.length η → at seen.u η < ring.e
  pub fits : at len η < at plan.length η → η + at seen.u (ring.e - 1 - at seen.u η) < ring.e
  pub unit : at len η < at plan.length η → at seen.theta (ring.e - 1 - at seen.u η) < ring.q
  pub some_unit : at len η < at plan.length η → zero < at seen.theta (ring.e - 1 - at seen.u η)
  pub coprime : at len η < at plan.length η → Coprime (at seen.theta (ring.e - 1 - at seen.u η)) ring.q
