-- A number as θ p^u.
-- Assumes nothing.
use Rattle.std.specs.Prelude.{ℕ, zero, suc, ◌/◌, ◌%◌, ◌^◌}

-- u: the highest power with p^u dividing d, at most f; so f where d is 0
unfoldable pub valuation : ℕ → ℕ → ℕ → ℕ
valuation zero p d = zero
valuation (suc f) p d = elim (d % p) [ zero ↦ suc (valuation f p (d / p)) | suc r ↦ zero ]

-- θ: the whole number d / p^u; 1 where d is 0
unfoldable pub cofactor : ℕ → ℕ → ℕ → ℕ
cofactor f p zero = 1
cofactor f p (suc d) = suc d / p ^ valuation f p (suc d)
