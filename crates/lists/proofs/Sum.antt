-- Laws of sums.
-- Assumes nothing.
use mathlib.Core.Path.{◌≡◌, refl, sym, ap, ap₂, ◌∙◌}
use mathlib.Core.Logic.{◌⊎◌, inl, inr, ◌≢◌}
use Prim.Native.Nat.{ℕ, zero, suc, ◌+◌, ◌*◌, ◌≤◌, ◌<◌}
use native.Mathlib.Nat.{eq-or-lt_of_le}
use native.Mathlib.Decide.{dec_lt}
use native.Mathlib.Numerals.{add-one}
use native.Mathlib.Omega.{arith}
use Rattle.lists.specs.Sum.{sum_to}

pub sum_to_more : (n : ℕ) (f : ℕ → ℕ) → sum_to (n + 1) f ≡ sum_to n f + f n
unfolding sum_to
sum_to_more n f = rw add-one

-- equal summands, equal sums
pub sum_to_eq : (n : ℕ) (f g : ℕ → ℕ) → ((i : ℕ) → i < n → f i ≡ g i) → sum_to n f ≡ sum_to n g
unfolding sum_to
sum_to_eq zero f g h = refl
sum_to_eq (suc n) f g h = ap₂ ◌+◌ (sum_to_eq n f g (λ i k. h i (omega arith))) (h n (omega arith))

-- from the front
pub sum_to_head : (n : ℕ) (f : ℕ → ℕ) → sum_to (suc n) f ≡ f zero + sum_to n (λ i. f (suc i))
unfolding sum_to
sum_to_head zero f = omega arith
sum_to_head (suc n) f = omega (arith, sum_to_head n f)

-- summands that are 0 from place l on
pub sum_to_cut : (n l : ℕ) (f : ℕ → ℕ) → l ≤ n → ((i : ℕ) → l ≤ i → i < n → f i ≡ zero) → sum_to n f ≡ sum_to l f
unfolding sum_to
sum_to_cut zero l f h z = ap (λ k. sum_to k f) (let e : zero ≡ l = omega arith in e)
sum_to_cut (suc n) l f h z = go (eq-or-lt_of_le h) (λ k. sum_to_cut n l f k (λ i a b. z i a (omega arith)))
  where
    go : (l ≡ suc n) ⊎ (l < suc n) → (l ≤ n → sum_to n f ≡ sum_to l f) → sum_to (suc n) f ≡ sum_to l f
    go (inl e) ih = ap (λ k. sum_to k f) (sym e)
    go (inr k) ih = omega (arith, ih (omega arith), z n (omega arith) (omega arith))

-- a bound
pub sum_to_le : (n c : ℕ) (f : ℕ → ℕ) → ((i : ℕ) → i < n → f i ≤ c) → sum_to n f ≤ n * c
unfolding sum_to
sum_to_le zero c f h = omega arith
sum_to_le (suc n) c f h = omega (arith, sum_to_le n c f (λ i k. h i (omega arith)), h n (omega arith))

pub sum_to_add : (n : ℕ) (f g : ℕ → ℕ) → sum_to n (λ i. f i + g i) ≡ sum_to n f + sum_to n g
unfolding sum_to
sum_to_add zero f g = refl
sum_to_add (suc n) f g = omega (arith, sum_to_add n f g)

pub sum_to_ones : (n : ℕ) → sum_to n (λ i. 1) ≡ n
unfolding sum_to
sum_to_ones zero = refl
sum_to_ones (suc n) = omega (arith, sum_to_ones n)

-- all summands are 0, or all but one
pub sum_to_zeros : (n : ℕ) (f : ℕ → ℕ) → ((i : ℕ) → i < n → f i ≡ zero) → sum_to n f ≡ zero
unfolding sum_to
sum_to_zeros zero f h = refl
sum_to_zeros (suc n) f h = omega (arith, sum_to_zeros n f (λ i k. h i (omega arith)), h n (omega arith))

pub sum_to_single : (n s : ℕ) (f : ℕ → ℕ) → s < n → ((i : ℕ) → i < n → i ≢ s → f i ≡ zero) → sum_to n f ≡ f s
unfolding sum_to
sum_to_single zero s f h g = absurd (omega arith)
sum_to_single (suc n) s f h g = go (dec_lt s n) (λ l. sum_to_single n s f l (λ i k ne. g i (omega arith) ne))
  where
    go : Dec (s < n) → (s < n → sum_to n f ≡ f s) → sum_to n f + f n ≡ f s
    go (yes l) ih = omega (arith, ih l, g n (omega arith) (λ z. omega arith))
    go (no l) ih =
        let e : n ≡ s = omega arith in
        omega (arith, sum_to_zeros n f (λ i k. g i (omega arith) (λ z. omega arith)), ap f e)

-- a sum of sums in the other order
pub sum_to_swap : (n m : ℕ) (f : ℕ → ℕ → ℕ) → sum_to n (λ i. sum_to m (f i)) ≡ sum_to m (λ j. sum_to n (λ i. f i j))
unfolding sum_to
sum_to_swap zero m f = sym (sum_to_zeros m (λ j. zero) (λ i h. refl))
sum_to_swap (suc n) m f = omega (arith, sum_to_swap n m f, sum_to_add m (λ j. sum_to n (λ i. f i j)) (f n))

pub sum_to_times : (n c : ℕ) (f : ℕ → ℕ) → sum_to n (λ i. c * f i) ≡ c * sum_to n f
unfolding sum_to
sum_to_times zero c f = omega arith
sum_to_times (suc n) c f = omega (arith, sum_to_times n c f)

-- the first a summands, and the b after them
sum_to_split : (a b n : ℕ) (f : ℕ → ℕ) → n ≡ a + b → sum_to n f ≡ sum_to a f + sum_to b (λ i. f (a + i))
unfolding sum_to
sum_to_split a zero n f e = ap (λ (z : ℕ). sum_to z f) (let w : n ≡ a = omega arith in w) ∙ omega arith
sum_to_split a (suc b) zero f e = absurd (omega arith)
sum_to_split a (suc b) (suc n) f e = let w : n ≡ a + b = omega arith in omega (arith, sum_to_split a b n f w, ap f w)

-- m summands at a time
pub sum_to_rows : (a m n : ℕ) (f : ℕ → ℕ) → n ≡ a * m → sum_to n f ≡ sum_to a (λ y. sum_to m (λ s. f (y * m + s)))
unfolding sum_to
sum_to_rows zero m n f e = ap (λ (z : ℕ). sum_to z f) (let w : n ≡ zero = omega arith in w)
sum_to_rows (suc a) m n f e = sum_to_split (a * m) m n f (let w : n ≡ a * m + m = omega arith in w) ∙ omega (arith, sum_to_rows a m (a * m) f refl)

-- all summands are v but one, which is x
pub sum_to_but_one : (m s x v : ℕ) (f : ℕ → ℕ) → s < m → f s ≡ x → ((i : ℕ) → i < m → i ≢ s → f i ≡ v) → sum_to m f + v ≡ x + m * v
unfolding sum_to
sum_to_but_one zero s x v f h e g = absurd (omega arith)
sum_to_but_one (suc m) s x v f h e g = go (dec_lt s m) (λ l. sum_to_but_one m s x v f l e (λ i k ne. g i (omega arith) ne))
  where
    same : (n : ℕ) → n ≤ m → s ≡ m → sum_to n f ≡ n * v
    same zero k q = omega arith
    same (suc n) k q = omega (arith, same n (omega arith) q, g n (omega arith) (λ z. omega arith))

    go : Dec (s < m) → (s < m → sum_to m f + v ≡ x + m * v) → sum_to m f + f m + v ≡ x + suc m * v
    go (yes l) ih = omega (arith, ih l, g m (omega arith) (λ z. omega arith))
    go (no l) ih = let q : s ≡ m = omega arith in omega (arith, same m (omega arith) q, ap f q, e)
