-- What the loop along a line knows: where the reading stands, and the terms so far, of which the array holds the first 128.
-- Assumes nothing.
use mathlib.Core.Path.{◌≡◌, refl, sym, ap, ap₂, ◌∙◌, subst}
use mathlib.Core.Bool.{Bool, true, false}
use mathlib.Core.Logic.{◌⊎◌, inl, inr}
use mathlib.Core.List.{List, [], ◌∷◌, ◌++◌}
use Prim.Native.Nat.{ℕ, ◌+◌, ◌≤◌, ◌<◌}
use native.Mathlib.Decide.{ℕ_discrete}
use native.Mathlib.Nat.{le_antisymm}
use native.Mathlib.Numerals.{add-one}
use native.Mathlib.Omega.{arith}
use lib.IntN.{ℤ, pos}
use lib.ListN.{length, get_or, drop, set, replicate, length-set, length-append, drop_of_length-le, get_or-append, get_or-eq_default}
use lib.Seq.{drop-cons, get_or-set_same, get_or-set_other, get_or-append_seam}
use borrow.Author.Tests.{ltb-false}
use Rattle.lists.specs.Choice.{pick}
use Rattle.lists.specs.Table.{at, tabulate}
use Rattle.lists.proofs.Choice.{picked, passed}
use Rattle.lists.proofs.Search.{false_true, lt_or_le}
use Rattle.lists.proofs.Table.{length_tabulate, get_d_tabulate, is_tabulate}
use Rattle.sequence.specs.Limits.{max_terms}
use Rattle.lines.specs.declared.Cursor.{Cursor}
use Rattle.lines.specs.Form.{is_digit, signed, limit}
use Rattle.lines.specs.Reading.{state_after, may_end, is_wrong, in_term, step_of, terms_ended, terms_after, Found, broken, past, read, read_from, start, found_in}
use Rattle.lines.specs.Scan.{first_terms, count_ended, array_ended, Kept}
use Rattle.lines.proofs.Numbers.{over}

-- ---- the first 128 terms

first_more : (ts : List ℤ) (t : ℤ) → set (first_terms ts) (length ts) t ≡ first_terms (ts ++ t ∷ [])
first_more ts t =
    is_tabulate max_terms (λ j. get_or (ts ++ t ∷ []) j (pos 0)) (pos 0) (set (first_terms ts) (length ts) t)
    (length-set (first_terms ts) (length ts) t ∙ length_tabulate max_terms (λ j. get_or ts j (pos 0))) each
  where
    other : (i : ℕ) → (i < length ts) ⊎ (length ts ≤ i) → (i ≡ length ts → ⊥) → get_or ts i (pos 0) ≡ get_or (ts ++ t ∷ []) i (pos 0)
    other i (inl h) differ = sym (get_or-append ts (t ∷ []) (pos 0) i h)
    other i (inr h) differ =
        get_or-eq_default ts (pos 0) h ∙ sym (get_or-eq_default (ts ++ t ∷ []) (pos 0) (let k : length ts < i = omega (arith, differ) in omega (arith, length-append ts (t ∷ []))))

    each : (i : ℕ) → i < max_terms → get_or (set (first_terms ts) (length ts) t) i (pos 0) ≡ get_or (ts ++ t ∷ []) i (pos 0)
    each i h = go (ℕ_discrete i (length ts))
      where
        go : Dec (i ≡ length ts) → get_or (set (first_terms ts) (length ts) t) i (pos 0) ≡ get_or (ts ++ t ∷ []) i (pos 0)
        go (yes e) =
            ap (λ (k : ℕ). get_or (set (first_terms ts) (length ts) t) k (pos 0)) e
            ∙ get_or-set_same (first_terms ts) (length ts) t (pos 0) (omega (arith, length_tabulate max_terms (λ j. get_or ts j (pos 0))))
            ∙ sym (get_or-append_seam ts t [] (pos 0)) ∙ ap (λ (k : ℕ). get_or (ts ++ t ∷ []) k (pos 0)) (sym e)
        go (no f) =
            get_or-set_other (first_terms ts) (length ts) i t (pos 0) f
            ∙ get_d_tabulate max_terms (λ j. get_or ts j (pos 0)) i (pos 0) h ∙ other i (lt_or_le i (length ts)) f

ended_count : (c : Cursor) (ts : List ℤ) → count_ended c (length ts) ≡ length (terms_ended c ts)
ended_count c ts = go (in_term c.state)
  where
    go : (t : Bool) → pick t (length ts + 1) (length ts) ≡ length (pick t (ts ++ signed c.minus c.size ∷ []) ts)
    go true = sym (length-append ts (signed c.minus c.size ∷ []))
    go false = refl

ended_array : (c : Cursor) (ts : List ℤ) → array_ended c (length ts) (first_terms ts) ≡ first_terms (terms_ended c ts)
ended_array c ts = go (in_term c.state)
  where
    go : (t : Bool) → pick t (set (first_terms ts) (length ts) (signed c.minus c.size)) (first_terms ts) ≡ first_terms (pick t (ts ++ signed c.minus c.size ∷ []) ts)
    go true = first_more ts (signed c.minus c.size)
    go false = refl

-- ---- the loop

pub record Scanning (line : List ℕ) (c : Cursor) (n i : ℕ) (xs : List ℤ) : Type 0 where
  pub terms : List ℤ
  pub within : i ≤ length line
  pub few : n ≤ i
  pub fits : c.size ≤ limit c.minus
  pub found : found_in line ≡ read_from c terms (drop i line) i
  pub count : n ≡ length terms
  pub array : xs ≡ first_terms terms

pub scanning_start : (line : List ℕ) (xs : List ℤ) → xs ≡ replicate max_terms (pos 0) → Scanning line start 0 0 xs
unfolding tabulate
scanning_start line xs h = record { terms = []; within = omega arith; few = omega arith; fits = omega arith; found = refl; count = refl; array = h }

module _ {line : List ℕ} {c : Cursor} {n i : ℕ} {xs : List ℤ} (s : Scanning line c n i xs) where
  turn : i < length line
      → found_in line ≡ pick (is_wrong (state_after c.state (at line i))) (broken i) (pick (over (step_of c (at line i))) (past i) (read_from (step_of c (at line i)) (terms_after c (at line i) s.terms) (drop (i + 1) line) (i + 1)))
  unfolding read_from
  turn h = s.found ∙ rw (drop-cons line i 0 h, add-one i)

  pub length_array : length xs ≡ max_terms
  length_array = ap length s.array ∙ length_tabulate max_terms (λ j. get_or s.terms j (pos 0))

  -- at a byte b, with the cursor after it
  module _ (h : i < length line) {b : ℕ} (is : b ≡ at line i) {next : Cursor} (after : next ≡ step_of c b) where
    next_is : next ≡ step_of c (at line i)
    next_is = after ∙ ap (step_of c) is

    pub scanning_broken : is_wrong next.state ≡ true → found_in line ≡ broken i
    scanning_broken e = turn h ∙ picked _ _ (sym (ap (λ (d : Cursor). is_wrong d.state) next_is) ∙ e)

    pub scanning_past : is_wrong next.state ≡ false → over next ≡ true → found_in line ≡ past i
    scanning_past e o = turn h ∙ passed _ _ (sym (ap (λ (d : Cursor). is_wrong d.state) next_is) ∙ e) ∙ picked _ _ (sym (ap over next_is) ∙ o)

    few_more : n + 1 ≤ i + 1 → pick (is_digit b) n (count_ended c n) ≤ i + 1
    few_more l = go (is_digit b) (in_term c.state)
      where
        go : (t u : Bool) → pick t n (pick u (n + 1) n) ≤ i + 1
        go true u = omega arith
        go false true = l
        go false false = omega arith

    pub scanning_next : is_wrong next.state ≡ false → over next ≡ false → (n' : ℕ) → n' ≡ pick (is_digit b) n (count_ended c n) → (xs' : List ℤ) → xs' ≡ pick (is_digit b) xs (array_ended c n xs)
        → Scanning line next n' (i + 1) xs'
    scanning_next e o n' en xs' ex =
        record {
          terms = terms_after c b s.terms;
          within = omega arith;
          few = subst (λ (k : ℕ). k ≤ i + 1) (sym en) (few_more (omega (arith, s.few)));
          fits = ltb-false _ _ o;
          found = turn h ∙ passed _ _ (sym (ap (λ (d : Cursor). is_wrong d.state) next_is) ∙ e) ∙ passed _ _ (sym (ap over next_is) ∙ o)
              ∙ ap₂ (λ (d : Cursor) (x : ℕ). read_from d (terms_after c x s.terms) (drop (i + 1) line) (i + 1)) (sym next_is) (sym is);
          count = en ∙ ap (λ (k : ℕ). pick (is_digit b) k (count_ended c k)) s.count ∙ counted (is_digit b);
          array = ex ∙ ap₂ (λ (k : ℕ) (ys : List ℤ). pick (is_digit b) ys (array_ended c k ys)) s.count s.array ∙ kept (is_digit b);
        }
      where
        counted : (t : Bool) → pick t (length s.terms) (count_ended c (length s.terms)) ≡ length (pick t s.terms (terms_ended c s.terms))
        counted true = refl
        counted false = ended_count c s.terms

        kept : (t : Bool) → pick t (first_terms s.terms) (array_ended c (length s.terms) (first_terms s.terms)) ≡ first_terms (pick t s.terms (terms_ended c s.terms))
        kept true = refl
        kept false = ended_array c s.terms

  -- at the end
  module _ (h : length line ≤ i) where
    last : found_in line ≡ pick (may_end c.state) (read c.modulus (terms_ended c s.terms)) (broken i)
    unfolding read_from
    last = s.found ∙ ap (λ (v : List ℕ). read_from c s.terms v i) (drop_of_length-le line h)

    pub scanning_cut : may_end c.state ≡ false → found_in line ≡ broken (length line)
    scanning_cut e = last ∙ passed _ _ e ∙ ap broken (le_antisymm s.within h)

    pub scanning_end : may_end c.state ≡ true → found_in line ≡ read c.modulus (terms_ended c s.terms)
    scanning_end e = last ∙ picked _ _ e

    pub end_count : (n' : ℕ) → n' ≡ count_ended c n → n' ≡ length (terms_ended c s.terms)
    end_count n' e = e ∙ ap (count_ended c) s.count ∙ ended_count c s.terms

    pub end_array : (xs' : List ℤ) → xs' ≡ array_ended c n xs → xs' ≡ first_terms (terms_ended c s.terms)
    end_array xs' e = e ∙ ap₂ (array_ended c) s.count s.array ∙ ended_array c s.terms

-- ---- what is kept

read_terms : {m k : ℕ} {ts us : List ℤ} → read m ts ≡ read k us → ts ≡ us
read_terms e = cc

pub keeps_read : {f : Found} {m : ℕ} {ts : List ℤ} {xs : List ℤ} → f ≡ read m ts → xs ≡ first_terms ts → Kept f xs
keeps_read e h = λ k us q. h ∙ ap first_terms (read_terms (sym e ∙ q))

pub keeps_broken : {f : Found} {i : ℕ} {xs : List ℤ} → f ≡ broken i → Kept f xs
keeps_broken e = λ k us q. let z : ◌≡◌ {A = Bool} false true = cc in false_true z

pub keeps_past : {f : Found} {i : ℕ} {xs : List ℤ} → f ≡ past i → Kept f xs
keeps_past e = λ k us q. let z : ◌≡◌ {A = Bool} false true = cc in false_true z
