-- Modulo a prime, m to the power 2l - n lists of l coefficients generate n terms of linear complexity l: one for each way to go on to
-- 2l terms.
-- Assumes nothing.
use mathlib.Core.Path.{◌≡◌, refl, sym, ap, ◌∙◌, subst}
use mathlib.Core.Logic.{◌≢◌}
use mathlib.Core.Bool.{true}
use mathlib.Core.List.{List, [], ◌∷◌, ◌++◌}
use Prim.Native.Nat.{ℕ, zero, suc, ◌+◌, ◌*◌, ◌-◌, ◌%◌, ◌^◌, ◌≤◌, ◌<◌}
use native.Mathlib.Nat.{le_refl, mod-lt, zero-mod, pow-zero}
use native.Mathlib.Decide.{ℕ_discrete, dec_lt, dec_le}
use native.Mathlib.Omega.{arith}
use lib.ListN.{length, get_or-append}
use lib.Seq.{ext_get_or, get_or-append-add}
use borrow.Author.Tests.{eq-eqb, eqb-true}
use Rattle.lists.specs.Table.{at, tabulate}
use Rattle.lists.proofs.Table.{length_tabulate, at_tabulate, at_past, length_snoc, at_front, at_last}
use Rattle.lists.proofs.Search.{all_true, all_at}
use Rattle.residue.specs.Congruence.{Cong, neg}
use Rattle.residue.specs.Units.{Prime}
use Rattle.residue.proofs.Congruence.{rfl, of_eq, sy, tr, add, modulo, same_below, add_neg, pow_lt}
use Rattle.recurrence.specs.Polynomial.{conv}
use Rattle.recurrence.specs.Register.{complexity, register}
use Rattle.recurrence.proofs.Pairs.{conv_cong}
use Rattle.recurrence.proofs.Steps.{Alike}
use Rattle.recurrence.proofs.Register.{Right, register_right, register_length}
use Rattle.counting.specs.Numbering.{list_at, ListOf}
use Rattle.counting.specs.Solutions.{Solves, solving, solutions, CountsLists, NoSecond, Second}
use Rattle.counting.proofs.Prime.{length_short, length_extended}
use Rattle.counting.proofs.Counts.{count_by}
use Rattle.counting.proofs.Numbering.{list_at_length, list_at_below, list_at_of, number, number_eq, number_below, list_at_number, number_list_at, list_at_inj, numbered}
use Rattle.counting.proofs.Terms.{conv_more, last_alike}
use Rattle.counting.proofs.Sole.{start, start_agrees, Solution, sole}

-- ---- to generate the terms is to have a product that is 0 from place l on

-- coefficients l to n-1 of S × (1, c_1, .., c_l) are 0
abbrev Zeros : ℕ → List ℕ → ℕ → List ℕ → Type 0
Zeros m S n c = (j : ℕ) → length c ≤ j → j < n → Cong m (conv (at S) (at (1 ∷ c)) j) zero

module _ (m : ℕ) (S : List ℕ) (n : ℕ) (c : List ℕ) where
  solves_zeros : Solves m S n c → Zeros m S n c
  solves_zeros x j h k = tr (x.generates j k) (of_eq (at_past x.b j (omega (arith, x.size))))

  zeros_solves : Zeros m S n c → Solves m S n c
  zeros_solves h =
      record {
        b = start (at S) (at (1 ∷ c)) (length c);
        size = length_tabulate (length c) (conv (at S) (at (1 ∷ c)));
        generates = start_agrees (at S) (at (1 ∷ c)) n (length c) h;
      }

  solving_zeros : solving m S n c ≡ true → Zeros m S n c
  unfolding solving
  solving_zeros h j l k =
      subst (λ (i : ℕ). Cong m (conv (at S) (at (1 ∷ c)) i) zero) (let e : length c + (j - length c) ≡ j = omega arith in e)
      (record { same = eqb-true (conv (at S) (at (1 ∷ c)) (length c + (j - length c)) % m) zero (all_at (n - length c) _ h (j - length c) (omega arith)) ∙ sym (zero-mod m) })

  zeros_solving : Zeros m S n c → solving m S n c ≡ true
  unfolding solving
  zeros_solving h =
      all_true (n - length c) _ (λ i k. eq-eqb (conv (at S) (at (1 ∷ c)) (length c + i) % m) zero ((h (length c + i) (omega arith) (omega arith)).same ∙ zero-mod m))

-- for every modulus and length, what is counted are the lists that generate the terms
pub counts_lists : (m : ℕ) → zero < m → (S : List ℕ) (n l : ℕ) → CountsLists m S n l
counts_lists m pos S n l =
    record {
      lists = λ x h. list_at_of m pos l x;
      numbered = λ c h. (number m l (at c), numbered m pos l c h);
      passes = λ c x. zeros_solving m S n c (solves_zeros m S n c x);
      solves = λ c h. zeros_solves m S n c (solving_zeros m S n c h);
    }

-- ---- the register's own list, for every modulus

-- a_1, .., a_l
unfoldable pub own : ℕ → List ℕ → ℕ → List ℕ
own m S n = tabulate (complexity m S n) (λ i. at (register m S n).a (suc i))

module _ (m : ℕ) (big : 1 < m) (S : List ℕ) (n : ℕ) where
  right : Right m S n (register m S n)
  right = register_right m big S n

  own_at : (i : ℕ) → at (1 ∷ own m S n) i ≡ at (register m S n).a i
  unfolding own
  own_at zero = sym right.one
  own_at (suc i) = go (dec_lt i (complexity m S n))
    where
      f : ℕ → ℕ
      f i = at (register m S n).a (suc i)

      go : Dec (i < complexity m S n) → at (tabulate (complexity m S n) f) i ≡ f i
      go (yes h) = at_tabulate (complexity m S n) f i h
      go (no h) =
          at_past (tabulate (complexity m S n) f) i (omega (arith, length_tabulate (complexity m S n) f))
          ∙ sym (right.past_a (suc i) (omega (arith, register_length m big S n)))

  pub own_is : ListOf m (complexity m S n) (own m S n)
  unfolding own
  own_is =
      record {
        size = length_tabulate (complexity m S n) (λ i. at (register m S n).a (suc i));
        below = λ i h. subst (λ (x : ℕ). x < m) (sym (own_at (suc i))) (right.small_a (suc i));
      }

  -- the coefficients of the register
  register_solution : Solution m (at S) n (complexity m S n) (at (register m S n).a)
  register_solution =
      record {
        one = right.one;
        small = right.small_a;
        past = λ i h. right.past_a i (omega (arith, register_length m big S n));
        zeros = λ j h k. tr (right.generates j k) (of_eq (right.past_b j (omega (arith, register_length m big S n))));
      }

  pub own_solution : Solves m S n (own m S n)
  own_solution =
      zeros_solves m S n (own m S n)
      (λ j h k. tr (conv_cong (at S) (at S) (at (1 ∷ own m S n)) (at (register m S n).a) j (λ i z. rfl) (λ i z. of_eq (own_at i)))
      (register_solution.zeros j (omega (arith, own_is.size)) k))

-- a list of l numbers that generates the terms, as a series
list_solution : (m : ℕ) → 1 < m → (S : List ℕ) (n l : ℕ) (c : List ℕ) → ListOf m l c → Zeros m S n c → Solution m (at S) n l (at (1 ∷ c))
list_solution m big S n l c of z =
    record { one = refl; small = small; past = past; zeros = λ j h k. z j (omega (arith, of.size)) k }
  where
    small : (i : ℕ) → at (1 ∷ c) i < m
    small zero = big
    small (suc i) = go (dec_lt i l)
      where
        go : Dec (i < l) → at c i < m
        go (yes h) = of.below i h
        go (no h) = omega (arith, at_past c i (omega (arith, of.size)))

    past : (i : ℕ) → l < i → at (1 ∷ c) i ≡ zero
    past zero h = absurd (omega arith)
    past (suc i) h = at_past c i (omega (arith, of.size))

-- ---- the count

module _ (p : ℕ) (P : Prime p) (S : List ℕ) (n : ℕ) where
  pos : zero < p
  pos = omega (arith, P.big)

  abbrev l : ℕ
  l = complexity p S n

  -- how many terms more make 2l, and how many there are then
  abbrev more : ℕ
  more = 2 * l - n

  abbrev all_terms : ℕ
  all_terms = more + n

  l_le : l ≤ n
  l_le = length_short p P S n

  known : List ℕ
  known = tabulate n (λ j. at S j % p)

  known_length : length known ≡ n
  unfolding known
  known_length = length_tabulate n (λ j. at S j % p)

  known_at : (j : ℕ) → j < n → at known j ≡ at S j % p
  unfolding known
  known_at j h = at_tabulate n (λ j. at S j % p) j h

  known_small : (j : ℕ) → at known j < p
  known_small j = go (dec_lt j n)
    where
      go : Dec (j < n) → at known j < p
      go (yes h) = omega (arith, known_at j h, mod-lt (at S j) pos)
      go (no h) = omega (arith, at_past known j (omega (arith, known_length)))

  -- the terms, and after them the list with number x
  ext : ℕ → List ℕ
  ext x = known ++ list_at p more x

  ext_front : (x j : ℕ) → j < n → at (ext x) j ≡ at known j
  unfolding ext
  ext_front x j h = get_or-append known (list_at p more x) zero j (omega (arith, known_length))

  ext_back : (x i : ℕ) → at (ext x) (n + i) ≡ at (list_at p more x) i
  unfolding ext
  ext_back x i =
      ap (λ (z : ℕ). at (known ++ list_at p more x) (z + i)) (sym known_length) ∙ get_or-append-add known (list_at p more x) i zero

  ext_small : (x j : ℕ) → at (ext x) j < p
  ext_small x j = go (dec_lt j n)
    where
      go : Dec (j < n) → at (ext x) j < p
      go (yes h) = omega (arith, ext_front x j h, known_small j)
      go (no h) =
          omega (arith, ap (at (ext x)) (let e : j ≡ n + (j - n) = omega arith in e), ext_back x (j - n), list_at_below p pos more x (j - n))

  alike : (x : ℕ) → Alike p S (ext x) n
  alike x j h = sy (tr (of_eq (ext_front x j h ∙ known_at j h)) (modulo (at S j)))

  keeps : (x : ℕ) → complexity p (ext x) all_terms ≡ l
  keeps x = length_extended p P S (ext x) n (alike x) more (omega arith)

  coef : ℕ → ℕ → ℕ
  coef x = at (register p (ext x) all_terms).a

  coef_solution : (x : ℕ) → Solution p (at (ext x)) all_terms l (coef x)
  unfolding coef
  coef_solution x =
      subst (λ (z : ℕ). Solution p (at (ext x)) all_terms z (at (register p (ext x) all_terms).a)) (keeps x)
      (register_solution p P.big (ext x) all_terms)

  -- the number of the list of coefficients that belongs to x
  F : ℕ → ℕ
  F x = number p l (λ j. coef x (suc j))

  F-below : (x : ℕ) → F x < p ^ l
  unfolding F
  F-below x = number_below p l (λ j. coef x (suc j)) (λ i h. (coef_solution x).small (suc i))

  -- 1 and the list with number y
  abbrev A : ℕ → ℕ → ℕ
  A y = at (1 ∷ list_at p l y)

  A-F : (x i : ℕ) → A (F x) i ≡ coef x i
  unfolding F
  A-F x zero = sym (coef_solution x).one
  A-F x (suc i) = go (dec_lt i l)
    where
      go : Dec (i < l) → at (list_at p l (F x)) i ≡ coef x (suc i)
      go (yes h) = list_at_number p l (λ j. coef x (suc j)) (λ j k. (coef_solution x).small (suc j)) i h
      go (no h) = at_past (list_at p l (F x)) i (omega (arith, list_at_length p l (F x))) ∙ sym ((coef_solution x).past (suc i) (omega arith))

  F-zeros : (x : ℕ) → Zeros p S n (list_at p l (F x))
  F-zeros x j h k =
      tr (conv_cong (at S) (at (ext x)) (A (F x)) (coef x) j (λ i z. alike x i (omega arith)) (λ i z. of_eq (A-F x i)))
      ((coef_solution x).zeros j (omega (arith, list_at_length p l (F x))) (omega arith))

  F-inj : (x y : ℕ) → x < p ^ more → y < p ^ more → F x ≡ F y → x ≡ y
  F-inj x y hx hy e = list_at_inj p pos more x y hx hy (λ i h. sym (ext_back x i) ∙ equal (n + i) (omega arith) ∙ ext_back y i)
    where
      same : (i : ℕ) → coef x i ≡ coef y i
      same i = sym (A-F x i) ∙ ap (λ (z : ℕ). A z i) e ∙ A-F y i

      below : (k : ℕ) → k ≤ all_terms → (i : ℕ) → i < k → at (ext x) i ≡ at (ext y) i
      below zero h i z = absurd (omega arith)
      below (suc k) h i z = go (dec_lt i k) (below k (omega arith))
        where
          at_k : ((i : ℕ) → i < k → at (ext x) i ≡ at (ext y) i) → Dec (k < n) → at (ext x) k ≡ at (ext y) k
          at_k ih (yes w) = ext_front x k w ∙ sym (ext_front y k w)
          at_k ih (no w) =
              same_below (ext_small x k) (ext_small y k)
              (last_alike (at (ext x)) (at (ext y)) (coef x) k pos (of_eq (coef_solution x).one) (λ i v. of_eq (ih i v))
              (tr ((coef_solution x).zeros k (omega (arith, l_le)) (omega arith))
              (sy (tr (conv_cong (at (ext y)) (at (ext y)) (coef x) (coef y) k (λ i v. rfl) (λ i v. of_eq (same i)))
              ((coef_solution y).zeros k (omega (arith, l_le)) (omega arith))))))

          go : Dec (i < k) → ((i : ℕ) → i < k → at (ext x) i ≡ at (ext y) i) → at (ext x) i ≡ at (ext y) i
          go (yes w) ih = ih i w
          go (no w) ih = subst (λ (j : ℕ). at (ext x) j ≡ at (ext y) j) (let q : k ≡ i = omega arith in q) (at_k ih (dec_lt k n))

      equal : (i : ℕ) → i < all_terms → at (ext x) i ≡ at (ext y) i
      equal i h = below all_terms (le_refl all_terms) i h

  -- every list that generates the terms is met: let it go on to all_terms
  module _ (y : ℕ) (hy : y < p ^ l) (zeros : Zeros p S n (list_at p l y)) where
    next : List ℕ → ℕ → ℕ
    next ts k = neg p (conv (at ts) (A y) k) % p

    grown : ℕ → List ℕ
    grown zero = known
    grown (suc d) = grown d ++ (next (grown d) (d + n) ∷ [])

    grown_length : (d : ℕ) → length (grown d) ≡ d + n
    unfolding grown
    grown_length zero = known_length ∙ omega arith
    grown_length (suc d) = length_snoc (grown d) (next (grown d) (d + n)) ∙ omega (arith, grown_length d)

    grown_at : (d j : ℕ) → j < d + n → at (grown (suc d)) j ≡ at (grown d) j
    unfolding grown
    grown_at d j h = at_front (grown d) (next (grown d) (d + n)) j (omega (arith, grown_length d))

    grown_front : (d j : ℕ) → j < n → at (grown d) j ≡ at known j
    unfolding grown
    grown_front zero j h = refl
    grown_front (suc d) j h = grown_at d j (omega arith) ∙ grown_front d j h

    grown_small : (d j : ℕ) → at (grown d) j < p
    unfolding grown next
    grown_small zero j = known_small j
    grown_small (suc d) j = go (dec_lt j (d + n)) (dec_le j (d + n)) (grown_small d j)
      where
        go : Dec (j < d + n) → Dec (j ≤ d + n) → at (grown d) j < p → at (grown (suc d)) j < p
        go (yes h) k ih = omega (arith, grown_at d j h)
        go (no h) (yes k) ih =
            omega (arith, at_last (grown d) (next (grown d) (d + n)) j (grown_length d ∙ let e : d + n ≡ j = omega arith in e), mod-lt (neg p (conv (at (grown d)) (A y) (d + n))) pos)
        go (no h) (no k) ih = omega (arith, at_past (grown (suc d)) j (omega (arith, grown_length (suc d))))

    grown_zeros : (d j : ℕ) → l ≤ j → j < d + n → Cong p (conv (at (grown d)) (A y) j) zero
    unfolding grown next
    grown_zeros zero j h k =
        tr (conv_cong (at known) (at S) (A y) (A y) j (λ i z. tr (of_eq (known_at i (omega arith))) (modulo (at S i))) (λ i z. rfl))
        (zeros j (omega (arith, list_at_length p l y)) (omega arith))
    grown_zeros (suc d) j h k = go (dec_lt j (d + n)) (λ z. grown_zeros d j h z)
      where
        c : ℕ
        c = conv (at (grown d)) (A y) (d + n)

        go : Dec (j < d + n) → (j < d + n → Cong p (conv (at (grown d)) (A y) j) zero) → Cong p (conv (at (grown (suc d))) (A y) j) zero
        go (yes z) ih =
            tr (conv_cong (at (grown (suc d))) (at (grown d)) (A y) (A y) j (λ i w. of_eq (grown_at d i (omega arith))) (λ i w. rfl)) (ih z)
        go (no z) ih =
            subst (λ (i : ℕ). Cong p (conv (at (grown (suc d))) (A y) i) zero) (let e : d + n ≡ j = omega arith in e)
            (tr (conv_more (grown d) (neg p c % p) (d + n) (A y) (grown_length d))
            (tr (add rfl (tr (of_eq (let e : 1 * (neg p c % p) ≡ neg p c % p = omega arith in e)) (modulo (neg p c)))) (add_neg c pos)))

    X : ℕ
    X = number p more (λ i. at (grown more) (n + i))

    X-below : X < p ^ more
    unfolding X
    X-below = number_below p more (λ i. at (grown more) (n + i)) (λ i h. grown_small more (n + i))

    ext_x : (j : ℕ) → j < all_terms → at (ext X) j ≡ at (grown more) j
    unfolding X
    ext_x j h = go (dec_lt j n)
      where
        go : Dec (j < n) → at (ext X) j ≡ at (grown more) j
        go (yes k) = ext_front X j k ∙ sym (grown_front more j k)
        go (no k) =
            let e : n + (j - n) ≡ j = omega arith in
            ap (at (ext X)) (sym e) ∙ ext_back X (j - n)
            ∙ list_at_number p more (λ i. at (grown more) (n + i)) (λ i z. grown_small more (n + i)) (j - n) (omega arith)
            ∙ ap (at (grown more)) e

    found : F X ≡ y
    unfolding F
    found = number_eq p l (λ j. coef X (suc j)) (at (list_at p l y)) (λ j h. equal (suc j)) ∙ number_list_at p pos l y hy
      where
        there : (a : ℕ → ℕ) → Solution p (at (ext X)) all_terms l a → Solution p (at (ext X)) all_terms (complexity p (ext X) all_terms) a
        there a s = subst (λ (z : ℕ). Solution p (at (ext X)) all_terms z a) (sym (keeps X)) s

        equal : (i : ℕ) → coef X i ≡ A y i
        equal =
            sole p P (ext X) all_terms (omega (arith, keeps X)) (coef X) (A y) (there (coef X) (coef_solution X))
            (there (A y) (list_solution p P.big (ext X) all_terms l (list_at p l y) (list_at_of p pos l y)
            (λ j h k. tr (conv_cong (at (ext X)) (at (grown more)) (A y) (A y) j (λ i z. of_eq (ext_x i (omega arith))) (λ i z. rfl))
            (grown_zeros more j (omega (arith, list_at_length p l y)) k))))

  -- how many lists of l numbers below p generate the terms
  pub how_many : solutions p S n (complexity p S n) ≡ p ^ (2 * complexity p S n - n)
  unfolding solutions
  how_many =
      count_by (p ^ more) (p ^ l) F (λ x. solving p S n (list_at p l x)) (λ x h. F-below x) F-inj
      (λ x h. zeros_solving p S n (list_at p l (F x)) (F-zeros x))
      (λ y h t. let z = solving_zeros p S n (list_at p l y) t in (X y h z, X-below y h z, found y h z))

  own_size : length (own p S n) ≡ l
  own_size = (own_is p P.big S n).size

  -- with at least 2l terms there is no second list
  pub own_only : 2 * complexity p S n ≤ n → NoSecond p S n (own p S n)
  own_only two d of x = ext_get_or zero d (own p S n) of.size (λ i h. equal (suc i))
    where
      list_of : ListOf p l d
      list_of = subst (λ (k : ℕ). ListOf p k d) own_size of

      equal : (i : ℕ) → at (1 ∷ d) i ≡ at (1 ∷ own p S n) i
      equal =
          sole p P S n (omega arith) (at (1 ∷ d)) (at (1 ∷ own p S n)) (list_solution p P.big S n l d list_of (solves_zeros p S n d x))
          (list_solution p P.big S n l (own p S n) (own_is p P.big S n) (solves_zeros p S n (own p S n) (own_solution p P.big S n)))

  -- with fewer there is one: two ways to go on give two lists
  pub second : n < 2 * complexity p S n → Second p S n (own p S n)
  second h = go (ℕ_discrete (F zero) y)
    where
      y : ℕ
      y = number p l (at (own p S n))

      -- the list that belongs to x, where it is not the register's own
      other : (x : ℕ) → F x ≢ y → Second p S n (own p S n)
      other x ne =
          record {
            list = list_at p l (F x);
            list_of = subst (λ (k : ℕ). ListOf p k (list_at p l (F x))) (sym own_size) (list_at_of p pos l (F x));
            solves = zeros_solves p S n (list_at p l (F x)) (F-zeros x);
            differs = λ e. ne (sym (number_list_at p pos l (F x) (F-below x)) ∙ ap (λ (c : List ℕ). number p l (at c)) e);
          }

      go : Dec (F zero ≡ y) → Second p S n (own p S n)
      go (no ne) = other zero ne
      go (yes e) =
          let big : 1 < p ^ more = omega (arith, pow_lt p more P.big {w = zero} (omega arith), pow-zero p) in
          other 1 (λ z. let w : zero ≡ 1 = F-inj zero 1 (omega arith) big (e ∙ sym z) in omega arith)
