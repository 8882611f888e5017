-- A cell is two bytes, low byte first. A buffer is the list of its bytes.
-- Assumes nothing.
use Rattle.std.specs.Prelude.{Bool, true, false, List, [], ◌∷◌, ℕ, ◌+◌, ◌*◌, ◌/◌, ◌%◌, eqb, set}
use Rattle.lists.specs.Choice.{both}
use Rattle.lists.specs.Table.{at, tabulate}

-- cell i of a buffer
abbrev pub cell_at : List ℕ → ℕ → ℕ
cell_at s i = at s (2 * i) + 256 * at s (2 * i + 1)

-- cells k, k + 1, .., k + n - 1 of a buffer
abbrev pub cells_from : List ℕ → ℕ → ℕ → List ℕ
cells_from s k n = tabulate n (λ i. cell_at s (k + i))

-- a buffer with v, modulo 65,536, in cell i
abbrev pub put_cell : List ℕ → ℕ → ℕ → List ℕ
put_cell s i v = set (set s (2 * i) (v % 256)) (2 * i + 1) (v / 256 % 256)

-- numbers as cells, one after the other
unfoldable pub bytes_of : List ℕ → List ℕ
bytes_of [] = []
bytes_of (v ∷ vs) = v % 256 ∷ v / 256 % 256 ∷ bytes_of vs

-- two buffers hold the same bytes
unfoldable pub equal : List ℕ → List ℕ → Bool
equal [] [] = true
equal [] (y ∷ ys) = false
equal (x ∷ xs) [] = false
equal (x ∷ xs) (y ∷ ys) = both (eqb x y) (equal xs ys)
