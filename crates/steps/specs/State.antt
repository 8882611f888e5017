-- The state before step k: the arrays hold the definition's rows, their lengths, and what they remember.
-- Assumes nothing.
use Rattle.std.specs.Prelude.{◌≡◌, List, [], ℕ, zero, ◌*◌, ◌-◌, ◌%◌, ◌^◌, ◌≤◌, ◌<◌, get_or}
use Rattle.lists.specs.Table.{at}
use Rattle.residue.specs.Units.{inverse}
use Rattle.recurrence.specs.Steps.{Older, row_at, u_at, θ-at, L-at, older_at}
use Rattle.steps.specs.Sizes.{max_cells}
use Rattle.steps.specs.declared.ring.Ring.{Ring}
use Rattle.steps.specs.declared.Rows.{Rows}
use Rattle.steps.specs.declared.Memory.{Memory}
use Rattle.steps.specs.declared.Seen.{Seen}
use Rattle.steps.specs.declared.Machine.{Machine}
use Rattle.steps.specs.Passes.{Shape}

-- the a of each row, and the lengths
pub record RowsAt (ring : Ring) (S : List ℕ) (k : ℕ) (rows : Rows) : Type 0 where
  pub cells : (η i : ℕ) → η < ring.e → i < max_cells → at (get_or rows.a η []) i ≡ at (row_at ring.p ring.e S η k).a i
  pub sizes : (η : ℕ) → η < ring.e → at rows.length η ≡ L-at ring.p ring.e S η k

-- u and θ of their discrepancies at step k
pub record Looks (ring : Ring) (S : List ℕ) (k : ℕ) (seen : Seen) : Type 0 where
  pub powers : (η : ℕ) → η < ring.e → at seen.u η ≡ u_at ring.p ring.e S η k
  pub rests : (η : ℕ) → η < ring.e → at seen.theta η ≡ θ-at ring.p ring.e S η k

-- what row g remembers before step k, the definition's o: reach is a bound on its length, mult the inverse of its θ times the power
-- of p that every row needs which asks g, for such a row has u = e - 1 - g
pub record Kept (ring : Ring) (k g : ℕ) (o : Older) (old : List ℕ) (when reach mult : ℕ) : Type 0 where
  pub same : (i : ℕ) → i < max_cells → at old i ≡ at o.pair.a i
  pub time : when ≡ o.r
  pub early : when < k
  pub short : reach ≤ when
  pub past : (i : ℕ) → reach < i → at o.pair.a i ≡ zero
  pub low : (i : ℕ) → at o.pair.a i < ring.p ^ ring.e
  pub scale : mult ≡ inverse (ring.p ^ ring.e) o.θ * ring.p ^ (ring.e - 1 - g - o.u) % ring.p ^ ring.e

-- a row of length 0 has not grown yet and remembers nothing
pub record Keeps (ring : Ring) (S : List ℕ) (k : ℕ) (memory : Memory) : Type 0 where
  pub kept : (η : ℕ) → η < ring.e → zero < L-at ring.p ring.e S η k
      → Kept ring k η (older_at ring.p ring.e S η k) (get_or memory.a η []) (at memory.when η) (at memory.reach η) (at memory.mult η)

pub record State (ring : Ring) (S : List ℕ) (k : ℕ) (machine : Machine) : Type 0 where
  pub rows : RowsAt ring S k machine.rows
  pub keeps : Keeps ring S k machine.memory
  pub shape_rows : Shape machine.rows.a
  pub shape_memory : Shape machine.memory.a
