-- Laws of a log: a record can be read back from its word, words are noted one after the other, and a step's records are the definition's.
-- Assumes nothing.
use mathlib.Core.Path.{◌≡◌, refl, sym, ap, ap₂, subst, ◌∙◌}
use mathlib.Core.Logic.{◌⊎◌, inl, inr}
use mathlib.Core.List.{List, [], ◌∷◌, ◌++◌, map, map-append}
use Prim.Native.Nat.{ℕ, zero, suc, ◌+◌, ◌*◌, ◌-◌, ◌/◌, ◌%◌, ◌^◌, ◌≤◌, ◌<◌}
use native.Mathlib.Nat.{mul-le-mul_right, pow-zero}
use native.Mathlib.Omega.{arith}
use lib.Arith.{digits_div, digits_mod}
use lib.ListN.{length, set, get_or, drop, length-set}
use lib.Seq.{get_or-set_same, get_or-set_other, ext_get_or}
use Rattle.lists.specs.Table.{at, tabulate}
use Rattle.lists.proofs.Search.{lt_or_le}
use Rattle.residue.specs.Units.{Prime}
use Rattle.residue.specs.Factors.{PrimePower, value}
use Rattle.residue.proofs.Congruence.{q_pos, pow_lt}
use Rattle.residue.proofs.Valuation.{valuation_le, cofactor_le}
use Rattle.recurrence.specs.Steps.{Case, stays, added, cancelled, case_of, partner, d_at, u_at, θ-at, L-at}
use Rattle.recurrence.specs.Working.{Step, no_step, case_number, partner_told, step_at, steps_at}
use Rattle.recurrence.proofs.Steps.{case_stays, case_added, case_cancelled, g_at}
use Rattle.recurrence.proofs.Theorem.{d_lt, length_le}
use Rattle.recurrence.proofs.Working.{steps_at_at}
use Rattle.steps.specs.Sizes.{max_terms, max_rows}
use Rattle.steps.specs.declared.ring.Ring.{Ring}
use Rattle.steps.specs.declared.Rows.{Rows}
use Rattle.steps.specs.declared.Seen.{Seen}
use Rattle.steps.specs.declared.StepRecord.{StepRecord}
use Rattle.steps.specs.declared.Told.{Told}
use Rattle.steps.specs.Passes.{Ready}
use Rattle.steps.specs.State.{RowsAt, Looks}
use Rattle.steps.specs.Log.{step_record, packed, unpacked, words, overlaid, Narrow, Noted, power_of, told_of, described_of}

-- records are equal by their fields
same_record : {a a' b b' c c' d d' e e' f f' g g' h h' : ℕ} → a ≡ a' → b ≡ b' → c ≡ c' → d ≡ d' → e ≡ e' → f ≡ f' → g ≡ g' → h ≡ h'
    → ◌≡◌ {A = StepRecord} (record { power = a; k = b; row = c; length = d; u = e; theta = f; g = g; case = h })
    (record { power = a'; k = b'; row = c'; length = d'; u = e'; theta = f'; g = g'; case = h' })
same_record pa pb pc pd pe pf pg ph = λ i. record { power = pa i; k = pb i; row = pc i; length = pd i; u = pe i; theta = pf i; g = pg i; case = ph i }

-- ---- a record and its word

pub unpacked_packed : (x : StepRecord) → Narrow x → unpacked (packed x) ≡ x
unfolding packed unpacked
unpacked_packed x n =
    same_record (ap (λ w. w / 128) k_up ∙ digits_div x.power n.k) (ap (λ w. w % 128) k_up ∙ digits_mod x.power n.k)
    (ap (λ w. w % 16) η-up ∙ digits_mod k_digits n.row) (ap (λ w. w % 256) l_up ∙ digits_mod η-digits n.length)
    (ap (λ w. w % 16) u_up ∙ digits_mod l_digits n.u) (ap (λ w. w % 65536) θ-up ∙ digits_mod u_digits n.theta)
    (ap (λ w. w % 16) g_up ∙ digits_mod θ-digits n.g) (digits_mod g_digits n.case)
  where
    -- the number up to each of its digits
    k_digits : ℕ
    k_digits = x.power * 128 + x.k

    η-digits : ℕ
    η-digits = k_digits * 16 + x.row

    l_digits : ℕ
    l_digits = η-digits * 256 + x.length

    u_digits : ℕ
    u_digits = l_digits * 16 + x.u

    θ-digits : ℕ
    θ-digits = u_digits * 65536 + x.theta

    g_digits : ℕ
    g_digits = θ-digits * 16 + x.g

    -- which dividing gives
    g_up : packed x / 4 ≡ g_digits
    g_up = digits_div g_digits n.case

    θ-up : packed x / 4 / 16 ≡ θ-digits
    θ-up = ap (λ w. w / 16) g_up ∙ digits_div θ-digits n.g

    u_up : packed x / 4 / 16 / 65536 ≡ u_digits
    u_up = ap (λ w. w / 65536) θ-up ∙ digits_div u_digits n.theta

    l_up : packed x / 4 / 16 / 65536 / 16 ≡ l_digits
    l_up = ap (λ w. w / 16) u_up ∙ digits_div l_digits n.u

    η-up : packed x / 4 / 16 / 65536 / 16 / 256 ≡ η-digits
    η-up = ap (λ w. w / 256) l_up ∙ digits_div η-digits n.length

    k_up : packed x / 4 / 16 / 65536 / 16 / 256 / 16 ≡ k_digits
    k_up = ap (λ w. w / 16) η-up ∙ digits_div k_digits n.row

-- ---- words noted one after the other

pub noted_none : (first : ℕ) (x : ℕ → ℕ) (log : List ℕ) → Noted first zero x log log
noted_none first x log = record { long = refl; new = λ i l h. absurd (omega arith); before = λ i l. refl; behind = λ i l. refl }

module _ (first : ℕ) (x : ℕ → ℕ) (log₀ log : List ℕ) where
  -- one word more
  pub noted_next : (n w : ℕ) → w ≡ x n → Noted first n x log₀ log → first + n < length log → Noted first (n + 1) x log₀ (set log (first + n) w)
  noted_next n w is t room =
      record {
        long = length-set log (first + n) w ∙ t.long;
        new = λ i l h. go i l h (lt_or_le i n);
        before = λ i l. get_or-set_other log (first + n) i w zero (λ e. omega arith) ∙ t.before i l;
        behind = λ i l. get_or-set_other log (first + n) i w zero (λ e. omega arith) ∙ t.behind i (omega arith);
      }
    where
      go : (i : ℕ) → i < n + 1 → first + i < length log₀ → (i < n) ⊎ (n ≤ i) → at (set log (first + n) w) (first + i) ≡ x i
      go i l h (inl a) = get_or-set_other log (first + n) (first + i) w zero (λ e. omega arith) ∙ t.new i a h
      go i l h (inr a) =
          let same : i ≡ n = omega arith in
          ap (λ (j : ℕ). at (set log (first + n) w) (first + j)) same ∙ get_or-set_same log (first + n) w zero room ∙ is ∙ ap x (sym same)

  pub noted_at : {n m : ℕ} → n ≡ m → Noted first n x log₀ log → Noted first m x log₀ log
  noted_at e t = subst (λ (n : ℕ). Noted first n x log₀ log) e t

  -- a log without a place for the next has all that it can take
  pub noted_all : (n m : ℕ) → Noted first n x log₀ log → n ≤ m → length log ≤ first + n → Noted first m x log₀ log
  noted_all n m t more full =
      record {
        long = t.long;
        new = λ i l h. t.new i (omega (arith, t.long)) h;
        before = t.before;
        behind = λ i l. t.behind i (omega arith);
      }

-- two parts that follow each other
pub noted_more : {x y z : List ℕ} (first n m : ℕ) (r s t : ℕ → ℕ) (place total : ℕ) → place ≡ first + n → total ≡ n + m
    → ((i : ℕ) → i < n → r i ≡ t i) → ((i : ℕ) → i < m → s i ≡ t (n + i)) → Noted first n r x y → Noted place m s y z → Noted first total t x z
noted_more {x} {y} {z} first n m r s t place total hp ht hr hs a b =
    record {
      long = b.long ∙ a.long;
      new = λ i l h. go i l h (lt_or_le i n);
      before = λ i l. b.before i (omega arith) ∙ a.before i l;
      behind = λ i l. b.behind i (omega arith) ∙ a.behind i (omega arith);
    }
  where
    go : (i : ℕ) → i < total → first + i < length x → (i < n) ⊎ (n ≤ i) → at z (first + i) ≡ t i
    go i l h (inl c) = b.before (first + i) (omega arith) ∙ a.new i c h ∙ hr i c
    go i l h (inr c) =
        ap (at z) (let e : first + i ≡ place + (i - n) = omega arith in e) ∙ b.new (i - n) (omega arith) (omega (arith, a.long)) ∙ hs (i - n) (omega arith)
        ∙ ap t (let e : n + (i - n) ≡ i = omega arith in e)

-- the rows of step k are within those of n steps
pub rows_fit : (k n e : ℕ) → k < n → k * e + e ≤ n * e
rows_fit k n e h = omega (arith, mul-le-mul_right {m = suc k} {n = n} e h)

-- ---- the records of a step

module _ (e : ℕ) (len : List ℕ) (u : ℕ) where
  abbrev g : ℕ
  g = e - 1 - u

  in_case : Case → Told
  in_case c = record { g = partner_told c e g; case = case_number c }

  pub told_stays : e ≤ u → record { g = e; case = 1 } ≡ told_of e len u
  unfolding in_case case_number partner_told told_of
  told_stays h = ap in_case (sym (case_stays e u (at len g) h))

  pub told_added : u < e → at len g ≡ zero → record { g = g; case = 2 } ≡ told_of e len u
  unfolding in_case case_number partner_told told_of
  told_added h z = ap in_case (sym (case_added e u (at len g) h z))

  pub told_cancelled : u < e → zero < at len g → record { g = g; case = 3 } ≡ told_of e len u
  unfolding in_case case_number partner_told told_of
  told_cancelled h z = ap in_case (sym (case_cancelled e u (at len g) h z))

told_low : (c : Case) (e g : ℕ) → g ≤ e → partner_told c e g ≤ e
unfolding partner_told
told_low stays e g h = omega arith
told_low added e g h = h
told_low cancelled e g h = h

-- so that g fits a word
pub told_g : (e : ℕ) (len : List ℕ) (u : ℕ) → (told_of e len u).g ≤ e
unfolding told_of
told_g e len u = told_low (case_of e u (at len (e - 1 - u))) e (e - 1 - u) (omega arith)

number_low : (c : Case) → case_number c < 4
unfolding case_number
number_low stays = omega arith
number_low added = omega arith
number_low cancelled = omega arith

told_case : (e : ℕ) (len : List ℕ) (u : ℕ) → (told_of e len u).case < 4
unfolding told_of
told_case e len u = number_low (case_of e u (at len (e - 1 - u)))

-- the least that makes a record's numbers small enough for a word
pub narrow_described : (ring : Ring) (rows : Rows) (seen : Seen) (k i : ℕ) → k < max_terms → i < ring.e → Ready ring k rows seen
    → Narrow (described_of ring rows seen k i)
unfolding described_of
narrow_described ring rows seen k i early inside ready =
    record {
      power = ring.fit.small;
      k = early;
      row = omega (arith, ring.fit.few);
      length = omega (arith, ready.early i inside);
      u = omega (arith, ready.powers i inside, ring.fit.few);
      theta = omega (arith, ready.rests i inside, ring.fit.small);
      g = omega (arith, told_g ring.e rows.length (at seen.u i), ring.fit.few);
      case = told_case ring.e rows.length (at seen.u i);
    }

module _ (ring : Ring) (S : List ℕ) (k : ℕ) (rows : Rows) (seen : Seen) (rs : RowsAt ring S k rows) (lk : Looks ring S k seen) where
  pub described_is : (i : ℕ) → i < ring.e → described_of ring rows seen k i ≡ step_record (step_at S (power_of ring) k i)
  unfolding step_at partner described_of told_of
  described_is i h =
      same_record ring.fit.whole refl refl (rs.sizes i h) u_is (lk.rests i h) (ap₂ (λ (c : Case) (x : ℕ). partner_told c ring.e x) case_is g_is) (ap case_number case_is)
    where
      u_is : at seen.u i ≡ u_at ring.p ring.e S i k
      u_is = lk.powers i h

      g_is : ring.e - 1 - at seen.u i ≡ g_at ring.p ring.e S i k
      g_is = ap (λ (x : ℕ). ring.e - 1 - x) u_is

      case_is : case_of ring.e (at seen.u i) (at rows.length (ring.e - 1 - at seen.u i)) ≡ case_of ring.e (u_at ring.p ring.e S i k) (L-at ring.p ring.e S (g_at ring.p ring.e S i k) k)
      case_is = ap₂ (case_of ring.e) u_is (rs.sizes (ring.e - 1 - at seen.u i) (omega arith) ∙ ap (λ (x : ℕ). L-at ring.p ring.e S x k) g_is)

  -- so are the words noted in a step
  pub noted_described : (first : ℕ) (log log' : List ℕ) → Noted first ring.e (λ i. packed (described_of ring rows seen k i)) log log'
      → Noted first ring.e (λ i. packed (step_record (step_at S (power_of ring) k i))) log log'
  noted_described first log log' t =
      record { long = t.long; new = λ i l h. t.new i l h ∙ ap packed (described_is i l); before = t.before; behind = t.behind }

-- ---- the records of n steps

abbrev pub word_at : PrimePower → List ℕ → ℕ → ℕ → ℕ
word_at f S n i = packed (step_record (get_or (steps_at S f n) i no_step))

-- those of one step more
pub noted_step : (f : PrimePower) (S : List ℕ) (n k first place : ℕ) (x y z : List ℕ) → k < n → place ≡ first + k * f.exponent
    → Noted first (k * f.exponent) (word_at f S n) x y → Noted place f.exponent (λ i. packed (step_record (step_at S f k i))) y z
    → Noted first ((k + 1) * f.exponent) (word_at f S n) x z
noted_step f S n k first place x y z l at_place a b =
    noted_more first (k * f.exponent) f.exponent (word_at f S n) (λ i. packed (step_record (step_at S f k i))) (word_at f S n) place ((k + 1) * f.exponent) at_place
    (omega arith) (λ i h. refl) (λ i h. ap (λ s. packed (step_record s)) (sym (steps_at_at S f n k i no_step l h))) a b

-- ---- a sheet's words can be read back

abbrev pub Read : List Step → Type 0
Read sheet = map unpacked (words sheet) ≡ map step_record sheet

pub read_append : (xs ys : List Step) → Read xs → Read ys → Read (xs ++ ys)
read_append xs ys hx hy =
    ap (map unpacked) (map-append (λ x. packed (step_record x)) xs ys) ∙ map-append unpacked (words xs) (words ys)
    ∙ ap₂ (λ (a b : List StepRecord). a ++ b) hx hy ∙ sym (map-append step_record xs ys)

module _ (S : List ℕ) (f : PrimePower) (P : Prime f.prime) (pos : zero < f.exponent) (few : f.exponent ≤ max_rows) (small : value f < 65536) where
  abbrev p : ℕ
  p = f.prime

  abbrev e : ℕ
  e = f.exponent

  θ-low : (k η : ℕ) → θ-at p e S η k < p ^ e
  θ-low k η =
      omega (arith, cofactor_le e p (d_at p e S η k) (p ^ e - 1) (omega (arith, pow_lt p e P.big pos, pow-zero p)) (omega (arith, d_lt p e P pos S η k)), q_pos p e P.big)

  narrow_step : (k η : ℕ) → k < max_terms → η < e → Narrow (step_record (step_at S f k η))
  unfolding step_at partner
  narrow_step k η early inside =
      record {
        power = small;
        k = early;
        row = omega arith;
        length = omega (arith, length_le p e P pos S η k inside);
        u = omega (arith, valuation_le e p (d_at p e S η k));
        theta = omega (arith, θ-low k η);
        g = omega (arith, told_low (case_of e (u_at p e S η k) (L-at p e S (g_at p e S η k) k)) e (g_at p e S η k) (omega arith));
        case = number_low (case_of e (u_at p e S η k) (L-at p e S (g_at p e S η k) k));
      }

  read_row : (k : ℕ) (g : ℕ → Step) → ((η : ℕ) → η < k → Narrow (step_record (g η))) → Read (tabulate k g)
  unfolding tabulate
  read_row zero g narrow = refl
  read_row (suc k) g narrow =
      ap₂ (λ (x : StepRecord) (xs : List StepRecord). x ∷ xs) (unpacked_packed (step_record (g zero)) (narrow zero (omega arith)))
      (read_row k (λ η. g (suc η)) (λ η l. narrow (suc η) (omega arith)))

  pub read_steps : (n : ℕ) → n ≤ max_terms → Read (steps_at S f n)
  unfolding steps_at
  read_steps zero h = refl
  read_steps (suc n) h = read_append (steps_at S f n) (tabulate e (step_at S f n)) (read_steps n (omega arith)) (read_row e (step_at S f n) (λ η l. narrow_step n η h l))

-- ---- words over the beginning of a log

pub overlaid_is : (ws log log' : List ℕ) → length log' ≡ length log → ((i : ℕ) → i < length ws → i < length log → at log' i ≡ at ws i)
    → ((i : ℕ) → length ws ≤ i → at log' i ≡ at log i) → log' ≡ overlaid ws log
unfolding overlaid
overlaid_is [] log log' long new rest = ext_get_or zero log' log long (λ i h. rest i (omega arith))
overlaid_is (w ∷ ws) [] [] long new rest = refl
overlaid_is (w ∷ ws) [] (y ∷ log') long new rest = absurd (omega arith)
overlaid_is (w ∷ ws) (x ∷ log) [] long new rest = absurd (omega arith)
overlaid_is (w ∷ ws) (x ∷ log) (y ∷ log') long new rest =
    ap₂ (λ (z : ℕ) (zs : List ℕ). z ∷ zs) (new zero (omega arith) (omega arith))
    (overlaid_is ws log log' (omega arith) (λ i a b. new (suc i) (omega arith) (omega arith)) (λ i a. rest (suc i) (omega arith)))

pub overlaid_long : (ws log : List ℕ) → length (overlaid ws log) ≡ length log
unfolding overlaid
overlaid_long [] log = refl
overlaid_long (w ∷ ws) [] = refl
overlaid_long (w ∷ ws) (x ∷ log) = ap suc (overlaid_long ws log)

-- a log without places stays
pub overlaid_none : (ws : List ℕ) → overlaid ws [] ≡ []
unfolding overlaid
overlaid_none [] = refl
overlaid_none (w ∷ ws) = refl

-- one with enough of them has all the words
pub overlaid_all : (ws log : List ℕ) → length ws ≤ length log → overlaid ws log ≡ ws ++ drop (length ws) log
unfolding overlaid
overlaid_all [] log h = refl
overlaid_all (w ∷ ws) [] h = absurd (omega arith)
overlaid_all (w ∷ ws) (x ∷ log) h = ap (λ (zs : List ℕ). w ∷ zs) (overlaid_all ws log (omega arith))
