-- The number with given remainders (Chinese remainders).
-- Assumes nothing.
use Rattle.std.specs.Prelude.{List, [], ◌∷◌, ℕ, ◌%◌, eqb}
use Rattle.lists.specs.Search.{first, every}

-- a modulus and the remainder wanted there
pub record Remainder : Type 0 where
  pub modulus : ℕ
  pub rest : ℕ

-- the one number below m that leaves each of the remainders; m where there is none
unfoldable pub joined : ℕ → List Remainder → ℕ
joined m rs = first m (λ x. every (λ r. eqb (x % r.modulus) r.rest) rs)

-- the remainders x modulo q and y modulo r
abbrev pub two : ℕ → ℕ → ℕ → ℕ → List Remainder
two q x r y = record { modulus = q; rest = x } ∷ record { modulus = r; rest = y } ∷ []
