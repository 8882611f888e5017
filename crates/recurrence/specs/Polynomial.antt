-- Polynomials and pairs of them. A polynomial is the list of its coefficients, lowest first; those past its end are 0.
-- Assumes nothing.
use Rattle.std.specs.Prelude.{List, [], ◌∷◌, ℕ, zero, suc, ◌+◌, ◌*◌, ◌-◌, ◌%◌, ◌<◌, max}
use Rattle.lists.specs.Table.{at}
use Rattle.residue.specs.Congruence.{Cong}

-- coefficient n of the product of two power series: f_0 g_n + f_1 g_(n-1) + .. + f_n g_0
unfoldable pub conv : (ℕ → ℕ) → (ℕ → ℕ) → ℕ → ℕ
conv f g zero = f zero * g zero
conv f g (suc n) = f zero * g (suc n) + conv (λ i. f (suc i)) g n

-- the sum of two polynomials, a multiple, and x^s times a polynomial, modulo q
unfoldable pub plus : ℕ → List ℕ → List ℕ → List ℕ
plus q [] ys = ys
plus q (x ∷ xs) [] = x ∷ xs
plus q (x ∷ xs) (y ∷ ys) = (x + y) % q ∷ plus q xs ys

unfoldable pub times : ℕ → ℕ → List ℕ → List ℕ
times q c [] = []
times q c (x ∷ xs) = c * x % q ∷ times q c xs

unfoldable pub up : ℕ → List ℕ → List ℕ
up zero xs = xs
up (suc s) xs = zero ∷ up s xs

-- 1 + the degree; 0 for the zero polynomial
unfoldable pub top : List ℕ → ℕ
top [] = zero
top (x ∷ xs) = elim (top xs) [ zero ↦ elim x [ zero ↦ zero | suc y ↦ 1 ] | suc n ↦ suc (suc n) ]

-- the degree, the last place that is not 0; 0 for a constant and for the zero polynomial
unfoldable pub degree : List ℕ → ℕ
degree xs = top xs - 1

-- a pair (a, b): of a register, a has the coefficients of the recurrence and b those with which S × a begins
pub record Pair : Type 0 where
  pub a : List ℕ
  pub b : List ℕ

-- L of a pair: the larger of the degree of a and 1 + the degree of b, where b = 0 adds nothing
unfoldable pub len : Pair → ℕ
len w = max (degree w.a) (top w.b)

-- the pair generates the first n terms modulo m: S × a and b agree in every coefficient 0 to n-1
abbrev pub Generates : ℕ → List ℕ → ℕ → Pair → Type 0
Generates m S n w = (j : ℕ) → j < n → Cong m (conv (at S) (at w.a) j) (at w.b j)
