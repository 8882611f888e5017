-- Laws of polynomials as lists: their coefficients, that these stay below q, and L of a pair as the least bound on its degrees.
-- Assumes nothing.
use mathlib.Core.Path.{◌≡◌, refl, sym, ap, ◌∙◌, fun_ext}
use mathlib.Core.List.{List, [], ◌∷◌}
use Prim.Native.Nat.{ℕ, zero, suc, ◌+◌, ◌*◌, ◌≤◌, ◌<◌}
use native.Mathlib.Nat.{mod-lt}
use native.Mathlib.Decide.{ℕ_discrete, dec_lt}
use native.Mathlib.Omega.{arith}
use Rattle.lists.specs.Table.{at}
use Rattle.residue.specs.Congruence.{Cong}
use Rattle.residue.proofs.Congruence.{rfl, of_eq, tr, add, modulo, same_below}
use Rattle.recurrence.specs.Polynomial.{plus, times, up, top, degree, Pair, len}
use Rattle.recurrence.proofs.Series.{shift, const}
use Rattle.recurrence.proofs.Pairs.{Deg}

-- every coefficient is below q
abbrev pub Reduced : ℕ → List ℕ → Type 0
Reduced q xs = (i : ℕ) → at xs i < q

-- ---- the coefficients of a sum, a multiple, a shift

pub at_plus : (q : ℕ) (xs ys : List ℕ) (i : ℕ) → Cong q (at (plus q xs ys) i) (at xs i + at ys i)
unfolding plus
at_plus q [] ys i = of_eq (omega arith)
at_plus q (x ∷ xs) [] i = of_eq (omega arith)
at_plus q (x ∷ xs) (y ∷ ys) zero = modulo (x + y)
at_plus q (x ∷ xs) (y ∷ ys) (suc i) = at_plus q xs ys i

pub at_times : (q c : ℕ) (xs : List ℕ) (i : ℕ) → Cong q (at (times q c xs) i) (c * at xs i)
unfolding times
at_times q c [] i = of_eq (omega arith)
at_times q c (x ∷ xs) zero = modulo (c * x)
at_times q c (x ∷ xs) (suc i) = at_times q c xs i

pub at_up : (s : ℕ) (xs : List ℕ) (i : ℕ) → at (up s xs) i ≡ shift s (at xs) i
unfolding up shift
at_up zero xs i = refl
at_up (suc s) xs zero = refl
at_up (suc s) xs (suc i) = at_up s xs i

-- one coefficient, at place 0
pub at_single : (d i : ℕ) → at (d ∷ []) i ≡ const d i
unfolding const
at_single d zero = refl
at_single d (suc i) = refl

-- a multiple of c, moved up s places, added to a
pub at_combine : (q n s : ℕ) (a c : List ℕ) (i : ℕ) → Cong q (at (plus q a (times q n (up s c))) i) (at a i + n * shift s (at c) i)
at_combine q n s a c i =
    tr (at_plus q a (times q n (up s c)) i) (add rfl (tr (at_times q n (up s c) i) (of_eq (ap (λ (x : ℕ). n * x) (at_up s c i)))))

-- d added at place k
pub at_add : (q d k : ℕ) (b : List ℕ) (i : ℕ) → Cong q (at (plus q b (up k (d ∷ []))) i) (at b i + shift k (const d) i)
at_add q d k b i =
    tr (at_plus q b (up k (d ∷ [])) i)
    (of_eq (ap (λ (x : ℕ). at b i + x) (at_up k (d ∷ []) i ∙ ap (λ (f : ℕ → ℕ). shift k f i) (fun_ext (at_single d)))))

-- ---- coefficients below q

pub reduced_plus : (q : ℕ) → zero < q → (xs ys : List ℕ) → Reduced q xs → Reduced q ys → Reduced q (plus q xs ys)
unfolding plus
reduced_plus q h [] ys hx hy i = hy i
reduced_plus q h (x ∷ xs) [] hx hy i = hx i
reduced_plus q h (x ∷ xs) (y ∷ ys) hx hy zero = mod-lt (x + y) h
reduced_plus q h (x ∷ xs) (y ∷ ys) hx hy (suc i) = reduced_plus q h xs ys (λ j. hx (suc j)) (λ j. hy (suc j)) i

pub reduced_times : (q c : ℕ) → zero < q → (xs : List ℕ) → Reduced q (times q c xs)
unfolding times
reduced_times q c h [] i = h
reduced_times q c h (x ∷ xs) zero = mod-lt (c * x) h
reduced_times q c h (x ∷ xs) (suc i) = reduced_times q c h xs i

pub reduced_up : (q s : ℕ) → zero < q → (xs : List ℕ) → Reduced q xs → Reduced q (up s xs)
unfolding up
reduced_up q zero h xs hx i = hx i
reduced_up q (suc s) h xs hx zero = h
reduced_up q (suc s) h xs hx (suc i) = reduced_up q s h xs hx i

pub reduced_single : (q d : ℕ) → zero < q → d < q → Reduced q (d ∷ [])
reduced_single q d pos h zero = h
reduced_single q d pos h (suc i) = pos

-- ---- the degree

pub top_from : (xs : List ℕ) (i : ℕ) → top xs ≤ i → at xs i ≡ zero
unfolding top
top_from [] i h = refl
top_from (x ∷ xs) i h = go (top xs) refl x refl i h (λ j. top_from xs j)
  where
    go : (n : ℕ) → top xs ≡ n → (y : ℕ) → x ≡ y → (i : ℕ)
        → elim n as (λ z. ℕ) [ zero ↦ elim y as (λ z. ℕ) [ zero ↦ zero | suc y ↦ 1 ] | suc n ↦ suc (suc n) ] ≤ i
        → ((j : ℕ) → top xs ≤ j → at xs j ≡ zero) → at (x ∷ xs) i ≡ zero
    go zero e zero f zero h ih = f
    go zero e zero f (suc i) h ih = ih i (omega arith)
    go zero e (suc y) f zero h ih = absurd (omega arith)
    go zero e (suc y) f (suc i) h ih = ih i (omega arith)
    go (suc n) e y f zero h ih = absurd (omega arith)
    go (suc n) e y f (suc i) h ih = ih i (omega arith)

pub top_least : (xs : List ℕ) (l : ℕ) → ((i : ℕ) → l ≤ i → at xs i ≡ zero) → top xs ≤ l
unfolding top
top_least [] l h = omega arith
top_least (x ∷ xs) l h = go (top xs) refl x refl l h (λ m. top_least xs m)
  where
    go : (n : ℕ) → top xs ≡ n → (y : ℕ) → x ≡ y → (l : ℕ) → ((i : ℕ) → l ≤ i → at (x ∷ xs) i ≡ zero)
        → ((m : ℕ) → ((i : ℕ) → m ≤ i → at xs i ≡ zero) → top xs ≤ m)
        → elim n as (λ z. ℕ) [ zero ↦ elim y as (λ z. ℕ) [ zero ↦ zero | suc y ↦ 1 ] | suc n ↦ suc (suc n) ] ≤ l
    go zero e zero f l h ih = omega arith
    go zero e (suc y) f zero h ih = absurd (omega (arith, h zero (omega arith)))
    go zero e (suc y) f (suc l) h ih = omega arith
    go (suc n) e y f zero h ih = absurd (omega (arith, ih zero (λ i z. h (suc i) (omega arith))))
    go (suc n) e y f (suc l) h ih = omega (arith, ih l (λ i z. h (suc i) (omega arith)))

-- it is the last place that is not 0
pub degree_past : (xs : List ℕ) (i : ℕ) → degree xs < i → at xs i ≡ zero
unfolding degree
degree_past xs i h = top_from xs i (omega arith)

pub degree_most : (xs : List ℕ) (l : ℕ) → ((i : ℕ) → l < i → at xs i ≡ zero) → degree xs ≤ l
unfolding degree
degree_most xs l h = omega (arith, top_least xs (suc l) h)

pub degree_is : (xs : List ℕ) (i : ℕ) → (at xs i ≡ zero → ⊥) → ((j : ℕ) → i < j → at xs j ≡ zero) → degree xs ≡ i
degree_is xs i nonzero past = go (dec_lt (degree xs) i)
  where
    go : Dec (degree xs < i) → degree xs ≡ i
    go (yes h) = absurd (nonzero (degree_past xs i h))
    go (no h) = omega (arith, degree_most xs i past)

pub degree_last : (xs : List ℕ) → (at xs zero ≡ zero → ⊥) → at xs (degree xs) ≡ zero → ⊥
unfolding degree
degree_last xs nonzero last = go (top xs) refl
  where
    go : (n : ℕ) → top xs ≡ n → ⊥
    go zero e = nonzero (top_from xs zero (omega arith))
    go (suc n) e =
        let most : top xs ≤ n = top_least xs n (λ i h. past i h (ℕ_discrete i n)) in
        absurd (omega arith)
      where
        past : (i : ℕ) → n ≤ i → Dec (i ≡ n) → at xs i ≡ zero
        past i h (yes f) = ap (at xs) (f ∙ omega arith) ∙ last
        past i h (no f) = top_from xs i (omega (arith, f))

-- and depends on the coefficients only
pub degree_same : (xs ys : List ℕ) → ((i : ℕ) → at xs i ≡ at ys i) → degree xs ≡ degree ys
degree_same xs ys same =
    omega (arith, degree_most xs (degree ys) (λ i h. same i ∙ degree_past ys i h), degree_most ys (degree xs) (λ i h. sym (same i) ∙ degree_past xs i h))

-- L bounds the degrees of its pair
pub len_deg : (q : ℕ) (w : Pair) → Deg q (len w) (at w.a) (at w.b)
unfolding len degree
len_deg q w =
    record {
      top_a = λ i h. of_eq (top_from w.a i (omega arith));
      top_b = λ i h. of_eq (top_from w.b i (omega arith));
    }

-- and is the least such bound, where coefficients are below q
pub len_least : (q l : ℕ) (w : Pair) → zero < q → Reduced q w.a → Reduced q w.b → Deg q l (at w.a) (at w.b) → len w ≤ l
unfolding len degree
len_least q l w pos ra rb x =
    omega (arith, top_least w.a (suc l) (λ i h. same_below (ra i) pos (x.top_a i h)), top_least w.b l (λ i h. same_below (rb i) pos (x.top_b i h)))
