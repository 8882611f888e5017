-- A buffer that holds a line, as the line grows.
-- Assumes nothing.
use mathlib.Core.Path.{◌≡◌, ◌∙◌}
use mathlib.Core.List.{List, []}
use Prim.Native.Nat.{ℕ, ◌≤◌}
use native.Mathlib.Omega.{arith}
use lib.ListN.{length, take}
use lib.Seq.{ext_get_or, get_or-take, length-take-le}
use Rattle.input.specs.Held.{Holds}

pub holds_none : (buffer : List ℕ) → Holds buffer 0 []
holds_none buffer = record { count = omega arith; bytes = λ i h k. absurd (omega arith) }

-- the bytes held are all of them, where there is room
pub held_all : (buffer : List ℕ) (n : ℕ) (xs : List ℕ) → Holds buffer n xs → n ≤ length buffer → (n ≡ length xs) × (take n buffer ≡ xs)
held_all buffer n xs h k =
    let end : n ≡ length xs = omega (arith, h.count) in
    let size : length (take n buffer) ≡ n = length-take-le n buffer k in (
      end,
      ext_get_or 0 (take n buffer) xs (size ∙ end)
          (λ i l. get_or-take n buffer i 0 (omega (arith, size)) ∙ h.bytes i (omega (arith, size, end)) (omega (arith, size))),
    )
