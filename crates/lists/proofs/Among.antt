-- Entries of a list, and what holds of each of them.
-- Assumes nothing.
use mathlib.Core.Path.{◌≡◌, refl, ap₂}
use mathlib.Core.List.{List, [], ◌∷◌, map}
use Prim.Native.Nat.{ℕ, ◌≤◌}
use native.Mathlib.Omega.{arith}
use Rattle.lists.specs.Table.{largest}

-- x is an entry of the list
pub data Among {A : Type 0} (x : A) : List A → Type 0 where
  here : {xs : List A} → Among x (x ∷ xs)
  there : {y : A} {xs : List A} → Among x xs → Among x (y ∷ xs)

-- a rule after a rule
pub map_map : {A B C : Type 0} (g : B → C) (f : A → B) (xs : List A) → map g (map f xs) ≡ map (λ x. g (f x)) xs
map_map g f [] = refl
map_map g f (x ∷ xs) = ap₂ (λ y ys. y ∷ ys) refl (map_map g f xs)

module _ {A : Type 0} (f : A → ℕ) where
  -- no entry is above the largest
  pub largest_most : {x : A} {xs : List A} → Among x xs → f x ≤ largest (map f xs)
  unfolding largest
  largest_most here = omega arith
  largest_most (there h) = omega (arith, largest_most h)

  -- and it is below what is above each
  pub largest_least : (l : ℕ) (xs : List A) → ((x : A) → Among x xs → f x ≤ l) → largest (map f xs) ≤ l
  unfolding largest
  largest_least l [] h = omega arith
  largest_least l (x ∷ xs) h = omega (arith, h x here, largest_least l xs (λ y k. h y (there k)))
