-- Which lists of coefficients generate the terms, and how many there are.
-- Assumes nothing.
use Rattle.std.specs.Prelude.{◌≡◌, ◌≢◌, Bool, true, List, ◌∷◌, ℕ, zero, ◌+◌, ◌-◌, ◌%◌, ◌^◌, ◌<◌, eqb, length}
use Rattle.lists.specs.Table.{at}
use Rattle.lists.specs.Search.{all}
use Rattle.recurrence.specs.Polynomial.{conv, Generates}
use Rattle.counting.specs.Numbering.{ListOf, NumberOf, list_at, count_below}

-- The list c = c_1, .., c_l generates the first n terms modulo m: with a = 1, c_1, .., c_l and some b = b_0, .., b_(l-1), S × a and b agree in
-- every coefficient 0 to n-1.
pub record Solves (m : ℕ) (S : List ℕ) (n : ℕ) (c : List ℕ) : Type 0 where
  pub b : List ℕ
  pub size : length b ≡ length c
  pub generates : Generates m S n (record { a = 1 ∷ c; b = b })

-- the same as a test: coefficients l to n-1 of S × a are 0 modulo m
unfoldable pub solving : ℕ → List ℕ → ℕ → List ℕ → Bool
solving m S n c = all (n - length c) (λ i. eqb (conv (at S) (at (1 ∷ c)) (length c + i) % m) zero)

-- how many of the m^l lists of l numbers below m generate the first n terms
unfoldable pub solutions : ℕ → List ℕ → ℕ → ℕ → ℕ
solutions m S n l = count_below (m ^ l) (λ x. solving m S n (list_at m l x))

-- That this counts lists, each once: a number below m^l is that of a list of l numbers below m, every such list has exactly one, and the test
-- says which lists generate the terms.
pub record CountsLists (m : ℕ) (S : List ℕ) (n l : ℕ) : Type 0 where
  pub lists : (x : ℕ) → x < m ^ l → ListOf m l (list_at m l x)
  pub numbered : (c : List ℕ) → ListOf m l c → (x : ℕ) × NumberOf m l c x
  pub passes : (c : List ℕ) → Solves m S n c → solving m S n c ≡ true
  pub solves : (c : List ℕ) → solving m S n c ≡ true → Solves m S n c

-- no second list of as many numbers below m as c has generates the first n terms
abbrev pub NoSecond : ℕ → List ℕ → ℕ → List ℕ → Type 0
NoSecond m S n c = (d : List ℕ) → ListOf m (length c) d → Solves m S n d → d ≡ c

-- a second list does
pub record Second (m : ℕ) (S : List ℕ) (n : ℕ) (c : List ℕ) : Type 0 where
  pub list : List ℕ
  pub list_of : ListOf m (length c) list
  pub solves : Solves m S n list
  pub differs : list ≢ c
