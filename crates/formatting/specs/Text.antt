-- Numbers as text.
-- Assumes nothing.
use Rattle.std.specs.Prelude.{List, [], ◌∷◌, ◌++◌, ℕ, suc, ◌^◌, ltb}
use Rattle.io.specs.Digits.{last_digits}
use Rattle.lists.specs.Search.{first}

-- a number in decimal, with the fewest digits
unfoldable pub numeral : ℕ → List ℕ
numeral n = last_digits 10 (suc (first n (λ k. ltb n (10 ^ suc k)))) n

-- numbers, each behind the mark
unfoldable pub each_after : List ℕ → List ℕ → List ℕ
each_after mark [] = []
each_after mark (x ∷ xs) = mark ++ numeral x ++ each_after mark xs

-- numbers with the mark between them
unfoldable pub separated : List ℕ → List ℕ → List ℕ
separated mark [] = []
separated mark (x ∷ xs) = numeral x ++ each_after mark xs
