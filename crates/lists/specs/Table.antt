-- Lists read and made by place.
-- Assumes nothing.
use Rattle.std.specs.Prelude.{List, [], ◌∷◌, ℕ, zero, suc, max, get_or}

-- entry i of a list of numbers; past its end, 0
abbrev pub at : List ℕ → ℕ → ℕ
at xs i = get_or xs i zero

-- the list f 0, f 1, .., f (n - 1)
unfoldable pub tabulate {ℓ} : {A : Type ℓ} → ℕ → (ℕ → A) → List A
tabulate zero f = []
tabulate (suc n) f = f zero ∷ tabulate n (λ i. f (suc i))

-- the largest of a list of numbers; of none, 0
unfoldable pub largest : List ℕ → ℕ
largest [] = zero
largest (x ∷ xs) = max x (largest xs)
