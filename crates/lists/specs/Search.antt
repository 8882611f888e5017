-- Searches over the numbers 0, 1, .., n - 1.
-- Assumes nothing.
use Rattle.std.specs.Prelude.{Bool, true, false, List, [], ◌∷◌, ℕ, zero, suc}

-- the first number below n that passes the test; n where none does
unfoldable pub first : ℕ → (ℕ → Bool) → ℕ
first zero p = zero
first (suc n) p = elim (p zero) [ true ↦ zero | false ↦ suc (first n (λ i. p (suc i))) ]

-- every number below n passes the test
unfoldable pub all : ℕ → (ℕ → Bool) → Bool
all zero p = true
all (suc n) p = elim (p zero) [ true ↦ all n (λ i. p (suc i)) | false ↦ false ]

-- every entry of the list passes the test
unfoldable pub every {ℓ} : {A : Type ℓ} → (A → Bool) → List A → Bool
every p [] = true
every p (x ∷ xs) = elim (p x) [ true ↦ every p xs | false ↦ false ]
