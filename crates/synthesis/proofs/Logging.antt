-- The loops over the prime powers for a sheet: how many rows there are, and which words are in the log so far.
-- Assumes nothing.
use mathlib.Core.Path.{◌≡◌, refl, sym, ap, ◌∙◌, subst}
use mathlib.Core.List.{List, [], ◌∷◌, ◌++◌}
use Prim.Native.Nat.{ℕ, zero, suc, ◌+◌, ◌*◌, ◌/◌, ◌≤◌, ◌<◌}
use native.Mathlib.Nat.{le_refl, mul-le-mul, mul-le-mul_left, mul-le-mul_right}
use native.Mathlib.Omega.{arith}
use lib.ListN.{length, get_or, drop, length-map, get_or-append}
use lib.Seq.{get_or-drop, drop-drop, drop_at}
use Rattle.lists.specs.Table.{at}
use Rattle.residue.specs.Factors.{PrimePower, value, least_power, prime_powers}
use Rattle.residue.proofs.Congruence.{q_pos}
use Rattle.residue.proofs.Factors.{Factored, one, more, factored, rest_pos, rest_lt}
use Rattle.recurrence.specs.Working.{Step, no_step, steps_at, steps_over, sheet_of, rows_over}
use Rattle.recurrence.proofs.Working.{length_steps_at, length_sheet, rows_low, rows_few, rows_more, rows_none, steps_more}
use Rattle.steps.specs.Sizes.{max_terms, max_rows, log_words}
use Rattle.steps.specs.Log.{step_record, packed, words, overlaid, Noted}
use Rattle.steps.proofs.Log.{noted_none, noted_more, word_at, overlaid_is, Read, read_append, read_steps}

-- ---- the rows

-- the rows of what is left are still to be counted
pub record Counting (m sum R : ℕ) : Type 0 where
  pub more : zero < R
  pub most : R ≤ m
  pub whole : sum + rows_over (prime_powers R) ≡ rows_over (prime_powers m)

module _ {m sum R : ℕ} (c : Counting m sum R) where
  pub counting_next : (e r : ℕ) → 1 < R → e ≡ (least_power R).exponent → r ≡ R / value (least_power R) → Counting m (sum + e) r
  counting_next e r big he hr =
      subst (λ (x : ℕ). Counting m (sum + e) x) (sym hr)
      (record { more = rest_pos R big; most = omega (arith, rest_lt R big, c.most); whole = omega (arith, c.whole, rows_more R big) })

  pub counting_fits : (e : ℕ) → 1 < R → e ≡ (least_power R).exponent → m < 65536 → sum + e ≤ max_rows
  counting_fits e big he small = omega (arith, c.whole, rows_more R big, rows_few m (omega (arith, c.most)) small)

  pub counting_end : R ≤ 1 → sum ≡ rows_over (prime_powers m)
  counting_end h = omega (arith, c.whole, rows_none R h)

-- ---- the words

abbrev pub sheet_word : ℕ → List ℕ → ℕ → ℕ → ℕ
sheet_word m S n i = packed (step_record (get_or (sheet_of m S n) i no_step))

-- the log has the words of the first prime powers, `base` of them, and the sheet goes on with the records of R
pub record Logging (m : ℕ) (S : List ℕ) (n base R : ℕ) (log₀ log : List ℕ) : Type 0 where
  pub most : R ≤ m
  pub whole : base + n * rows_over (prime_powers R) ≡ n * rows_over (prime_powers m)
  pub left : drop base (sheet_of m S n) ≡ steps_over S n (prime_powers R)
  pub noted : Noted zero base (sheet_word m S n) log₀ log

pub logging_start : (m : ℕ) (S : List ℕ) (n : ℕ) (log : List ℕ) → Logging m S n zero m log log
unfolding sheet_of
logging_start m S n log = record { most = le_refl m; whole = omega arith; left = refl; noted = noted_none zero (sheet_word m S n) log }

module _ {m : ℕ} {S : List ℕ} {n base R : ℕ} {log₀ log : List ℕ} (g : Logging m S n base R log₀ log) where
  -- the words of one more prime power fit
  pub logging_fits : (e : ℕ) → 1 < R → e ≡ (least_power R).exponent → n ≤ max_terms → m < 65536 → base + n * e ≤ log_words
  logging_fits e big he few small =
      let rows : rows_over (prime_powers m) ≤ max_rows = rows_few m (omega (arith, g.most)) small in
      omega (arith, g.whole, ap (λ (x : ℕ). n * x) (rows_more R big), ap (λ (x : ℕ). n * x) he, mul-le-mul few rows)

  module _ (big : 1 < R) where
    abbrev f : PrimePower
    f = least_power R

    abbrev R' : ℕ
    R' = R / value (least_power R)

    next_left : drop base (sheet_of m S n) ≡ steps_at S f n ++ steps_over S n (prime_powers R')
    next_left = g.left ∙ steps_more R S n big

    next_word : (i : ℕ) → i < n * f.exponent → word_at f S n i ≡ sheet_word m S n (base + i)
    next_word i h =
        ap (λ x. packed (step_record x)) (sym (get_or-append (steps_at S f n) (steps_over S n (prime_powers R')) no_step i (omega (arith, length_steps_at S f n)))
        ∙ ap (λ (xs : List Step). get_or xs i no_step) (sym next_left) ∙ get_or-drop base (sheet_of m S n) i no_step)

    next_rest : drop (base + n * f.exponent) (sheet_of m S n) ≡ steps_over S n (prime_powers R')
    next_rest =
        sym (drop-drop (n * f.exponent) base (sheet_of m S n)) ∙ ap (drop (n * f.exponent)) next_left
        ∙ drop_at (steps_at S f n) (steps_over S n (prime_powers R')) (n * f.exponent) (length_steps_at S f n)

    -- for the code's prime power, its exponent and the rest
    pub logging_next : {log' : List ℕ} (h : PrimePower) (e r : ℕ) → h ≡ f → e ≡ f.exponent → r ≡ R' → Noted base (n * h.exponent) (word_at h S n) log log'
        → Logging m S n (base + n * e) r log₀ log'
    logging_next {log'} h e r same he hr x =
        subst (λ (y : ℕ). Logging m S n (base + n * y) r log₀ log') (sym he)
        (subst (λ (y : ℕ). Logging m S n (base + n * f.exponent) y log₀ log') (sym hr)
        (record {
          most = omega (arith, rest_lt R big, g.most);
          whole = omega (arith, g.whole, ap (λ (y : ℕ). n * y) (rows_more R big));
          left = next_rest;
          noted = noted_more zero base (n * f.exponent) (sheet_word m S n) (word_at f S n) (sheet_word m S n) base (base + n * f.exponent)
              (omega arith) refl (λ i h. refl) next_word g.noted (subst (λ (y : PrimePower). Noted base (n * y.exponent) (word_at y S n) log log') same x);
        }))

  pub logging_end : R ≤ 1 → log ≡ overlaid (words (sheet_of m S n)) log₀
  logging_end h =
      overlaid_is (words (sheet_of m S n)) log₀ log g.noted.long
      (λ i a b. ap (at log) (let z : i ≡ zero + i = omega arith in z) ∙ g.noted.new i (omega (arith, all, long)) (omega (arith, b)) ∙ sym (word_at_lem (sheet_of m S n) i (omega (arith, long)))) (λ i a. g.noted.behind i (omega (arith, all, long)))
    where
      long : length (words (sheet_of m S n)) ≡ length (sheet_of m S n)
      long = length-map (sheet_of m S n) (λ x. packed (step_record x))

      all : base ≡ length (sheet_of m S n)
      all = omega (arith, g.whole, ap (λ (x : ℕ). n * x) (rows_none R h), length_sheet m S n)

      word_at_lem : (xs : List Step) (i : ℕ) → i < length xs → at (words xs) i ≡ packed (step_record (get_or xs i no_step))
      word_at_lem [] i l = absurd (omega arith)
      word_at_lem (x ∷ xs) zero l = refl
      word_at_lem (x ∷ xs) (suc i) l = word_at_lem xs i (omega arith)

-- ---- the words can be read back

read_over : (S : List ℕ) (n : ℕ) → n ≤ max_terms → {r : ℕ} {fs : List PrimePower} → Factored r fs → r < 65536 → Read (steps_over S n fs)
unfolding steps_over rows_over
read_over S n few one small = refl
read_over S n few (more {rest = R} {f = f} {fs = fs} P pos bare some F) small =
    let whole : Factored (value f * R) (f ∷ fs) = more P pos bare some F in
    read_append (steps_at S f n) (steps_over S n fs)
    (read_steps S f P pos (omega (arith, rows_low whole small)) (omega (arith, mul-le-mul_left {m = 1} {n = R} (value f) some)) n few)
    (read_over S n few F (omega (arith, mul-le-mul_right {m = 1} {n = value f} R (q_pos f.prime f.exponent P.big))))

pub read_sheet : (m : ℕ) (S : List ℕ) (n : ℕ) → zero < m → m < 65536 → n ≤ max_terms → Read (sheet_of m S n)
unfolding sheet_of
read_sheet m S n pos small few = read_over S n few (factored m pos) small
