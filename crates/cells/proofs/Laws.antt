-- Laws of cells: reading what was written, writing what was read, and equal buffers.
-- Assumes nothing.
use mathlib.Core.Path.{◌≡◌, refl, sym, ap, ap₂, ◌∙◌}
use mathlib.Core.Bool.{Bool, true, false}
use mathlib.Core.List.{List, [], ◌∷◌, ◌++◌, append_assoc, append-nil}
use Prim.Native.Nat.{ℕ, zero, suc, ◌+◌, ◌*◌, ◌-◌, ◌/◌, ◌%◌, ◌≤◌, ◌<◌}
use native.Mathlib.Nat.{mod-eq_of_lt}
use native.Mathlib.Numerals.{add-one}
use native.Mathlib.Omega.{arith}
use lib.Dec.{eqb}
use lib.ListN.{length, take, drop, set, length-append, length-set, drop_of_length-le, get_or-append}
use lib.Seq.{take-suc, drop-cons, set_at, take_all, length-take-le, get_or-take}
use borrow.Rule.Slice.PartMut.{put_mid, post_of, Post-is}
use borrow.Author.Tests.{eqb-true, eq-eqb}
use Rattle.std.specs.Cmp.Lexicographic.{pointwise}
use Rattle.lists.specs.Choice.{both}
use Rattle.lists.specs.Table.{at, tabulate}
use Rattle.lists.proofs.Search.{false_true, both_left, both_right, both_true}
use Rattle.lists.proofs.Table.{tabulate_eq, at_tabulate}
use Rattle.cells.specs.Cell.{cell_at, cells_from, put_cell, bytes_of, equal}

-- ---- numbers as cells

pub length_bytes_of : (xs : List ℕ) → length (bytes_of xs) ≡ 2 * length xs
unfolding bytes_of
length_bytes_of [] = refl
length_bytes_of (x ∷ xs) = omega (arith, length_bytes_of xs)

pub bytes_of_append : (xs ys : List ℕ) → bytes_of (xs ++ ys) ≡ bytes_of xs ++ bytes_of ys
unfolding bytes_of
bytes_of_append [] ys = refl
bytes_of_append (x ∷ xs) ys = ap (λ (l : List ℕ). x % 256 ∷ x / 256 % 256 ∷ l) (bytes_of_append xs ys)

-- the low byte of entry i
pub at_low : (xs : List ℕ) (i : ℕ) → at (bytes_of xs) (2 * i) ≡ at xs i % 256
unfolding bytes_of
at_low [] i = refl
at_low (x ∷ xs) zero = refl
at_low (x ∷ xs) (suc i) =
    let e : 2 * suc i ≡ suc (suc (2 * i)) = omega arith in
    rw e (at_low xs i)

-- its high byte
pub at_high : (xs : List ℕ) (i : ℕ) → at (bytes_of xs) (2 * i + 1) ≡ at xs i / 256 % 256
unfolding bytes_of
at_high [] i = refl
at_high (x ∷ xs) zero = refl
at_high (x ∷ xs) (suc i) =
    let e : 2 * suc i + 1 ≡ suc (suc (2 * i + 1)) = omega arith in
    rw e (at_high xs i)

-- a number that was written is read again
pub cell_at_bytes_of : (xs : List ℕ) (i : ℕ) → at xs i < 65536 → cell_at (bytes_of xs) i ≡ at xs i
cell_at_bytes_of xs i small = omega (arith, at_low xs i, at_high xs i)

-- ---- cells of a buffer

-- cell i among the first n
pub at_cells : (s : List ℕ) (n i : ℕ) → i < n → at (cells_from s 0 n) i ≡ cell_at s i
at_cells s n i h =
    let z : 0 + i ≡ i = omega arith in
    at_tabulate n (λ i. cell_at s (0 + i)) i h ∙ ap (cell_at s) z

-- a cell that was written holds its number
pub cell_of : (n : ℕ) (f : ℕ → ℕ) (k : ℕ) → k < n → f k < 65536 → cell_at (bytes_of (tabulate n f)) k ≡ f k
cell_of n f k h s =
    let e : at (tabulate n f) k ≡ f k = at_tabulate n f k h in
    cell_at_bytes_of (tabulate n f) k (omega arith) ∙ e

-- the numbers that were written are read back
pub cells_back : (n : ℕ) (f : ℕ → ℕ) → ((i : ℕ) → i < n → f i < 65536) → cells_from (bytes_of (tabulate n f)) 0 n ≡ tabulate n f
cells_back n f small =
    tabulate_eq n (λ i. cell_at (bytes_of (tabulate n f)) (0 + i)) f
    (λ i h. ap (cell_at (bytes_of (tabulate n f))) (let e : 0 + i ≡ i = omega arith in e) ∙ cell_of n f i h (small i h))

-- what was read is written again
pub bytes_of_cells : (s : List ℕ) (n : ℕ) → length s ≡ 2 * n → ((j : ℕ) → at s j < 256) → bytes_of (cells_from s 0 n) ≡ s
unfolding bytes_of tabulate
bytes_of_cells [] zero l h = refl
bytes_of_cells [] (suc n) l h = absurd (omega arith)
bytes_of_cells (x ∷ []) n l h = absurd (omega arith)
bytes_of_cells (x ∷ y ∷ s) zero l h = absurd (omega arith)
bytes_of_cells (x ∷ y ∷ s) (suc n) l h =
    let hx : x < 256 = h zero in
    let hy : y < 256 = h (suc zero) in
    let low : (x + 256 * y) % 256 ≡ x = omega arith in
    let part : (x + 256 * y) / 256 ≡ y = omega arith in
    let high : (x + 256 * y) / 256 % 256 ≡ y = ap (λ z. z % 256) part ∙ mod-eq_of_lt hy in
    let rest = ap bytes_of (tabulate_eq n (λ i. cell_at (x ∷ y ∷ s) (0 + suc i)) (λ i. cell_at s (0 + i)) (λ i k. past i)) ∙ bytes_of_cells s n (omega arith) (λ j. h (suc (suc j))) in
    λ i. low i ∷ high i ∷ rest i
  where
    past : (i : ℕ) → cell_at (x ∷ y ∷ s) (0 + suc i) ≡ cell_at s (0 + i)
    past i =
        let e : 2 * (0 + suc i) ≡ suc (suc (2 * (0 + i))) = omega arith in
        let f : 2 * (0 + suc i) + 1 ≡ suc (suc (2 * (0 + i) + 1)) = omega arith in
        rw (f, e)

-- ---- equal buffers

pub equal_eq : (xs ys : List ℕ) → equal xs ys ≡ true → xs ≡ ys
unfolding equal
equal_eq [] [] h = refl
equal_eq [] (y ∷ ys) h = false_true h
equal_eq (x ∷ xs) [] h = false_true h
equal_eq (x ∷ xs) (y ∷ ys) h =
    ap₂ (λ z zs. z ∷ zs) (eqb-true x y (both_left _ _ h)) (equal_eq xs ys (both_right (eqb x y) _ h))

pub equal_self : (xs : List ℕ) → equal xs xs ≡ true
unfolding equal
equal_self [] = refl
equal_self (x ∷ xs) = both_true (eq-eqb x x refl) (equal_self xs)

pub equal_ne : (xs ys : List ℕ) → (xs ≡ ys → ⊥) → equal xs ys ≡ false
equal_ne xs ys h = go (equal xs ys) refl
  where
    go : (b : Bool) → equal xs ys ≡ b → b ≡ false
    go true e = absurd (h (equal_eq xs ys e))
    go false e = refl

-- what `==` answers for two slices of bytes
pub equal_pointwise : (xs ys : List ℕ) → pointwise eqb xs ys ≡ equal xs ys
unfolding equal
equal_pointwise [] [] = refl
equal_pointwise [] (y ∷ ys) = refl
equal_pointwise (x ∷ xs) [] = refl
equal_pointwise (x ∷ xs) (y ∷ ys) = ap (both (eqb x y)) (equal_pointwise xs ys)

-- ---- the loop that writes cells

-- two stores side by side
store2 : (p : List ℕ) (x y lo hi n : ℕ) (ys : List ℕ) → length p ≡ n → set (set (p ++ x ∷ y ∷ ys) n lo) (n + 1) hi ≡ p ++ lo ∷ hi ∷ ys
store2 p x y lo hi n ys e =
    ap (λ (l : List ℕ). set l (n + 1) hi) (set_at p x (y ∷ ys) lo n e ∙ sym (append_assoc p (lo ∷ []) (y ∷ ys)))
    ∙ set_at (p ++ lo ∷ []) y ys hi (n + 1) (omega (arith, length-append p (lo ∷ []), e))
    ∙ append_assoc p (lo ∷ []) (hi ∷ ys)

-- out₀ with the first i of the numbers in its first cells
pub record Written (values out₀ : List ℕ) (i : ℕ) (out : List ℕ) : Type 0 where
  pub within : i ≤ length values
  pub size : length out ≡ length out₀
  pub is : out ≡ bytes_of (take i values) ++ drop (2 * i) out₀

module _ {values out₀ : List ℕ} (fits : length out₀ ≡ 2 * length values) where
  pub written_none : Written values out₀ 0 out₀
  unfolding bytes_of
  written_none = record { within = omega arith; size = refl; is = refl }

  pub written_more : {i : ℕ} {out : List ℕ} (out' : List ℕ) → Written values out₀ i out → i < length values → out' ≡ put_cell out i (at values i) → Written values out₀ (i + 1) out'
  unfolding bytes_of
  written_more {i} {out} out' w h e =
      record {
        within = omega arith;
        size = ap length e ∙ simp length-set w.size;
        is = e
            ∙ ap (λ o. put_cell o i (at values i)) (w.is ∙ ap (λ d. bytes_of (take i values) ++ d) two)
            ∙ store2 (bytes_of (take i values)) (at out₀ (2 * i)) (at out₀ (suc (2 * i))) (at values i % 256) (at values i / 256 % 256) (2 * i) (drop (suc (suc (2 * i))) out₀)
            (length_bytes_of (take i values) ∙ omega (arith, length-take-le i values (omega arith)))
            ∙ sym (ap₂ (λ (b d : List ℕ). b ++ d) more past ∙ append_assoc (bytes_of (take i values)) (bytes_of (at values i ∷ [])) (drop (suc (suc (2 * i))) out₀));
      }
    where
      past : drop (2 * (i + 1)) out₀ ≡ drop (suc (suc (2 * i))) out₀
      past =
          let n : 2 * (i + 1) ≡ suc (suc (2 * i)) = omega arith in
          ap (λ (k : ℕ). drop k out₀) n

      more : bytes_of (take (i + 1) values) ≡ bytes_of (take i values) ++ bytes_of (at values i ∷ [])
      more = ap (λ (n : ℕ). bytes_of (take n values)) (add-one i) ∙ ap bytes_of (take-suc values i 0 h) ∙ bytes_of_append (take i values) (at values i ∷ [])

      two : drop (2 * i) out₀ ≡ at out₀ (2 * i) ∷ at out₀ (suc (2 * i)) ∷ drop (suc (suc (2 * i))) out₀
      two = drop-cons out₀ (2 * i) 0 (omega arith) ∙ ap (λ (d : List ℕ). at out₀ (2 * i) ∷ d) (drop-cons out₀ (suc (2 * i)) 0 (omega arith))

  pub written_all : {i : ℕ} {out : List ℕ} → Written values out₀ i out → length values ≤ i → out ≡ bytes_of values
  written_all {i} w h =
      w.is ∙ ap₂ (λ (c d : List ℕ). bytes_of c ++ d) (take_all i values h) (drop_of_length-le out₀ {i = 2 * i} (omega arith)) ∙ append-nil (bytes_of values)

  -- a number that the loop has written is read again
  pub written_at : {i : ℕ} {out : List ℕ} (k : ℕ) → Written values out₀ i out → k < i → at values k < 65536 → cell_at out k ≡ at values k
  written_at {i} {out} k w h small = omega (arith, low, high)
    where
      long : length (bytes_of (take i values)) ≡ 2 * i
      long = length_bytes_of (take i values) ∙ ap (λ (n : ℕ). 2 * n) (length-take-le i values w.within)

      read : (j : ℕ) → j < 2 * i → at out j ≡ at (bytes_of (take i values)) j
      read j l = ap (λ (o : List ℕ). at o j) w.is ∙ get_or-append (bytes_of (take i values)) (drop (2 * i) out₀) zero j (omega (arith, long))

      low : at out (2 * k) ≡ at values k % 256
      low = read (2 * k) (omega arith) ∙ at_low (take i values) k ∙ ap (λ (x : ℕ). x % 256) (get_or-take i values k zero h)

      high : at out (2 * k + 1) ≡ at values k / 256 % 256
      high = read (2 * k + 1) (omega arith) ∙ at_high (take i values) k ∙ ap (λ (x : ℕ). x / 256 % 256) (get_or-take i values k zero h)

-- two cells, and then the numbers written as the rest
pub headed :
    (m n : ℕ) (ts q q1 q2 : List ℕ) → length q ≡ 2 * length (m ∷ n ∷ ts) → q1 ≡ put_cell q 0 m → q2 ≡ put_cell q1 1 n
    → put_mid 4 (length q2 - 4) q2 (bytes_of ts) ≡ bytes_of (m ∷ n ∷ ts)
unfolding bytes_of
headed m n ts q q1 q2 fits d e =
    ap (λ (p : List ℕ). take 4 q2 ++ (bytes_of ts ++ p)) nothing
    ∙ ap (λ (p : List ℕ). take 4 q2 ++ p) (append-nil (bytes_of ts))
    ∙ ap (λ (p : List ℕ). take 4 p ++ bytes_of ts) two.is
  where
    two : Written (m ∷ n ∷ ts) q 2 q2
    two = written_more fits q2 (written_more fits q1 (written_none fits) (omega arith) d) (omega arith) e

    nothing : post_of 4 (length q2 - 4) q2 ≡ []
    nothing = Post-is 4 (length q2) q2 (omega (arith, two.size)) ∙ drop_of_length-le q2 {i = length q2} (omega arith)
