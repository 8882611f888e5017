-- Laws of the working: applying the cases of a sheet in order gives the register, and a sheet has n records for each row.
-- Assumes nothing.
use mathlib.Core.Path.{◌≡◌, refl, sym, ap, ap₂, ◌∙◌, subst, fun_ext}
use mathlib.Core.Logic.{◌⊎◌, inl, inr}
use mathlib.Core.List.{List, [], ◌∷◌, ◌++◌, map, append_assoc, append-nil}
use Prim.Native.Nat.{ℕ, zero, suc, ◌+◌, ◌*◌, ◌/◌, ◌^◌, ◌≤◌, ◌<◌}
use native.Mathlib.Nat.{pos_of_ne-zero, mod-lt, pow-zero, pow-le-pow_left, pow-le-pow_right, mul-le-mul_left, mul-le-mul_right}
use native.Mathlib.Decide.{dec_le}
use native.Mathlib.Omega.{arith}
use lib.ListN.{length, get_or, length-append, get_or-append}
use lib.Pow.{pow-add}
use lib.Seq.{drop_at, get_or-append-add}
use borrow.Author.Tests.{lt-ltb, le-ltb}
use Rattle.lists.specs.Table.{tabulate}
use Rattle.lists.proofs.Table.{length_tabulate, get_d_tabulate, tabulate_eq}
use Rattle.lists.proofs.Search.{lt_or_le}
use Rattle.residue.specs.Units.{Prime}
use Rattle.residue.specs.Valuation.{valuation, cofactor}
use Rattle.residue.specs.Factors.{PrimePower, value, least_power, prime_powers}
use Rattle.residue.proofs.Congruence.{q_pos, cong_left, cong_right}
use Rattle.residue.proofs.Valuation.{valuation_zero, valuation_parts, cofactor_of}
use Rattle.residue.proofs.Factors.{Factored, one, more, factored, powers_more, powers_none}
use Rattle.recurrence.specs.Polynomial.{Pair, len}
use Rattle.recurrence.specs.Steps.{Rows, row, discrepancy, Case, stays, added, cancelled, case_of, Older, History, partner, change, older, next, history, row_at, d_at, u_at, θ-at, L-at, older_at}
use Rattle.recurrence.specs.Register.{Part, part, parts, register, register_from}
use Rattle.recurrence.specs.Working.{Step, case_number, partner_told, step_at, steps_at, steps_over, sheet_of, rows_over, case_numbered, recalled, applied, retold, record_in, replayed, replay}
use Rattle.recurrence.proofs.Steps.{case_stays, case_added, case_cancelled, g_at, steps_before, older_kept, older_grown, entry, next_stays, Alike, discrepancy_same, history_same}

-- ---- the length of a sheet

pub length_steps_at : (S : List ℕ) (f : PrimePower) (n : ℕ) → length (steps_at S f n) ≡ n * f.exponent
unfolding steps_at
length_steps_at S f zero = omega arith
length_steps_at S f (suc n) =
    omega (arith, length-append (steps_at S f n) (tabulate f.exponent (step_at S f n)), length_steps_at S f n, length_tabulate f.exponent (step_at S f n))

pub length_steps_over : (S : List ℕ) (n : ℕ) (fs : List PrimePower) → length (steps_over S n fs) ≡ n * rows_over fs
unfolding steps_over rows_over
length_steps_over S n [] = omega arith
length_steps_over S n (f ∷ fs) = omega (arith, length-append (steps_at S f n) (steps_over S n fs), length_steps_at S f n, length_steps_over S n fs)

-- it is n times the sum of the exponents
pub length_sheet : (m : ℕ) (S : List ℕ) (n : ℕ) → length (sheet_of m S n) ≡ n * rows_over (prime_powers m)
unfolding sheet_of
length_sheet m S n = length_steps_over S n (prime_powers m)

-- there are at most as many rows as m has digits to base 2
pub rows_most : {m : ℕ} {fs : List PrimePower} → Factored m fs → 2 ^ rows_over fs ≤ m
unfolding rows_over
rows_most one = omega (arith, pow-zero 2)
rows_most (more {rest = R} {f = f} {fs = fs} P pos bare some F) =
    let up : 2 ^ f.exponent ≤ value f = pow-le-pow_left P.big f.exponent in
    let on : 2 ^ rows_over fs ≤ R = rows_most F in
    omega (arith, pow-add 2 f.exponent (rows_over fs), mul-le-mul_right {m = 2 ^ f.exponent} {n = value f} (2 ^ rows_over fs) up, mul-le-mul_left (value f) on)

pub rows_low : {m : ℕ} {fs : List PrimePower} → Factored m fs → m < 65536 → rows_over fs ≤ 15
rows_low {m} {fs} F small = go (dec_le (rows_over fs) 15)
  where
    go : Dec (rows_over fs ≤ 15) → rows_over fs ≤ 15
    go (yes h) = h
    go (no h) = absurd (omega (arith, rows_most F, pow-le-pow_right {n = 2} (omega arith) {i = 16} {j = rows_over fs} (omega arith)))

pub rows_few : (m : ℕ) → zero < m → m < 65536 → rows_over (prime_powers m) ≤ 15
rows_few m pos small = rows_low (factored m pos) small

-- the least prime's rows first
pub rows_more : (m : ℕ) → 1 < m → rows_over (prime_powers m) ≡ (least_power m).exponent + rows_over (prime_powers (m / value (least_power m)))
unfolding rows_over
rows_more m h = ap rows_over (powers_more m h)

pub rows_none : (m : ℕ) → m ≤ 1 → rows_over (prime_powers m) ≡ zero
unfolding rows_over
rows_none m h = ap rows_over (powers_none m h)

pub steps_more : (m : ℕ) (S : List ℕ) (n : ℕ) → 1 < m
    → steps_over S n (prime_powers m) ≡ steps_at S (least_power m) n ++ steps_over S n (prime_powers (m / value (least_power m)))
unfolding steps_over
steps_more m S n h = ap (steps_over S n) (powers_more m h)

-- ---- a record by its place

module _ (S : List ℕ) (f : PrimePower) where
  -- the place of a row in the block of its step
  place_lt : (n k η : ℕ) → k < n → η < f.exponent → k * f.exponent + η < n * f.exponent
  place_lt (suc n) k η a b = go (λ l. place_lt n k η l b) (lt_or_le k n)
    where
      go : (k < n → k * f.exponent + η < n * f.exponent) → (k < n) ⊎ (n ≤ k) → k * f.exponent + η < suc n * f.exponent
      go ih (inl l) = omega (arith, ih l)
      go ih (inr l) = let z : k ≡ n = omega arith in omega (arith, ap (λ (x : ℕ). x * f.exponent) z)
  place_lt zero k η a b = absurd (omega arith)

  pub steps_at_at : (n k η : ℕ) (d : Step) → k < n → η < f.exponent → get_or (steps_at S f n) (k * f.exponent + η) d ≡ step_at S f k η
  unfolding steps_at
  steps_at_at zero k η d a b = absurd (omega arith)
  steps_at_at (suc n) k η d a b = go (λ l. steps_at_at n k η d l b) (lt_or_le k n)
    where
      go : (k < n → get_or (steps_at S f n) (k * f.exponent + η) d ≡ step_at S f k η) → (k < n) ⊎ (n ≤ k) → get_or (steps_at S f n ++ tabulate f.exponent (step_at S f n)) (k * f.exponent + η) d ≡ step_at S f k η
      go ih (inl l) = get_or-append (steps_at S f n) _ d (k * f.exponent + η) (omega (arith, length_steps_at S f n, place_lt n k η l b)) ∙ ih l
      go ih (inr l) =
          let z : k ≡ n = omega arith in
          let e : k * f.exponent + η ≡ length (steps_at S f n) + η = omega (arith, length_steps_at S f n, ap (λ (x : ℕ). x * f.exponent) z) in
          ap (λ (j : ℕ). get_or (steps_at S f n ++ tabulate f.exponent (step_at S f n)) j d) e
          ∙ get_or-append-add (steps_at S f n) _ η d ∙ get_d_tabulate f.exponent (step_at S f n) η d b ∙ ap (λ (j : ℕ). step_at S f j η) (sym z)

  -- and before anything else
  pub record_in_at : (n : ℕ) (others : List Step) (k η : ℕ) → k < n → η < f.exponent
      → record_in (steps_at S f n ++ others) f.exponent k η ≡ step_at S f k η
  record_in_at n others k η a b =
      get_or-append (steps_at S f n) others _ (k * f.exponent + η) (omega (arith, length_steps_at S f n, place_lt n k η a b)) ∙ steps_at_at n k η _ a b

-- ---- the steps at a prime power, retold

numbered : (c : Case) → case_numbered (case_number c) ≡ c
unfolding case_numbered case_number
numbered stays = refl
numbered added = refl
numbered cancelled = refl

module _ (S : List ℕ) (f : PrimePower) (P : Prime f.prime) where
  abbrev p : ℕ
  p = f.prime

  abbrev e : ℕ
  e = f.exponent

  -- the number g of a row that does not stay
  told_partner : (η k : ℕ) → u_at p e S η k < e → (step_at S f k η).g ≡ g_at p e S η k
  unfolding step_at partner_told partner
  told_partner η k l = go (lt_or_le zero (L-at p e S (g_at p e S η k) k))
    where
      at : Case → ℕ
      at c = partner_told c e (g_at p e S η k)

      go : (zero < L-at p e S (g_at p e S η k) k) ⊎ (L-at p e S (g_at p e S η k) k ≤ zero) → (step_at S f k η).g ≡ g_at p e S η k
      go (inl z) = ap at (case_cancelled e (u_at p e S η k) (L-at p e S (g_at p e S η k) k) l z)
      go (inr z) = ap at (case_added e (u_at p e S η k) (L-at p e S (g_at p e S η k) k) l (omega arith))

  -- where a row does not stay, d is θ p^u
  told_d : (η k : ℕ) → u_at p e S η k < e → θ-at p e S η k * p ^ u_at p e S η k ≡ d_at p e S η k
  unfolding discrepancy
  told_d η k l =
      let pos : zero < d_at p e S η k = pos_of_ne-zero (λ z. let y : u_at p e S η k ≡ e = ap (valuation e p) z ∙ valuation_zero e p in omega arith) in
      ap (λ (x : ℕ). x * p ^ u_at p e S η k) (cofactor_of e p (d_at p e S η k) pos)
      ∙ sym (valuation_parts e p (d_at p e S η k) P.big pos small).whole
    where
      small : d_at p e S η k < p ^ e
      small = mod-lt _ (q_pos p e P.big)

  module _ (n : ℕ) (told : ℕ → ℕ → Step) (same : (k η : ℕ) → k < n → η < e → told k η ≡ step_at S f k η) where
    told_length : (k η : ℕ) → k < n → η < e → (told k η).length ≡ L-at p e S η k
    unfolding step_at
    told_length k η a b = ap (λ (x : Step). x.length) (same k η a b)

    -- the older row of a step at which row g grew
    abbrev made : Rows → ℕ → ℕ → Older
    made rows r g = record { pair = row rows (told r g).g; u = (told r (told r g).g).u; θ = (told r (told r g).g).θ; r = r }

    recalled_grown : (g : ℕ) (rows : Rows) (earlier : List Rows) (k : ℕ) → length earlier ≡ k → (told k g).length < (told (suc k) g).length
        → recalled p e told g (rows ∷ earlier) ≡ made rows k g
    unfolding recalled
    recalled_grown g rows earlier k z =
        subst (λ (r : ℕ). (told r g).length < (told (suc r) g).length → recalled p e told g (rows ∷ earlier) ≡ made rows r g) z
        (λ h. rw (lt-ltb (told (length earlier) g).length (told (suc (length earlier)) g).length h, recalled))

    recalled_kept : (g : ℕ) (rows : Rows) (earlier : List Rows) (k : ℕ) → length earlier ≡ k → (told (suc k) g).length ≤ (told k g).length
        → recalled p e told g (rows ∷ earlier) ≡ recalled p e told g earlier
    unfolding recalled
    recalled_kept g rows earlier k z =
        subst (λ (r : ℕ). (told (suc r) g).length ≤ (told r g).length → recalled p e told g (rows ∷ earlier) ≡ recalled p e told g earlier) z
        (λ h. rw (le-ltb (told (length earlier) g).length (told (suc (length earlier)) g).length h, recalled))

    made_same : (g k : ℕ) → g < e → k < n → u_at p e S g k < e → made (history p e S k).now k g ≡ entry p e S g k
    unfolding step_at row_at
    made_same g k a b l =
        ap (λ (h : ℕ). record { pair = row (history p e S k).now h; u = (told k h).u; θ = (told k h).θ; r = k }) (ap (λ (x : Step). x.g) (same k g b a) ∙ told_partner g k l)
        ∙ ap (λ (x : Step). record { pair = row_at p e S (g_at p e S g k) k; u = x.u; θ = x.θ; r = k }) (same k (g_at p e S g k) b (omega arith))

    -- what a row remembers can be read off the sheet
    recalled_same : (g k : ℕ) → g < e → k < n → recalled p e told g (history p e S k).before ≡ older_at p e S g k
    unfolding history recalled older_at older
    recalled_same g zero a b = refl
    recalled_same g (suc k) a b = go (recalled_same g k a (omega arith)) (lt_or_le (L-at p e S g k) (L-at p e S g (suc k)))
      where
        now' : (told k g).length ≡ L-at p e S g k
        now' = told_length k g (omega arith) a

        after : (told (suc k) g).length ≡ L-at p e S g (suc k)
        after = told_length (suc k) g b a

        go : recalled p e told g (history p e S k).before ≡ older_at p e S g k → (L-at p e S g k < L-at p e S g (suc k)) ⊎ (L-at p e S g (suc k) ≤ L-at p e S g k)
            → recalled p e told g ((history p e S k).now ∷ (history p e S k).before) ≡ older_at p e S g (suc k)
        go ih (inl l) =
            recalled_grown g (history p e S k).now (history p e S k).before k (steps_before p e S k) (omega (arith, now', after)) ∙ made_same g k a (omega arith) moves ∙ sym (older_grown p e S g k l)
          where
            moves : u_at p e S g k < e
            moves = pick (lt_or_le (u_at p e S g k) e)
              where
                pick : (u_at p e S g k < e) ⊎ (e ≤ u_at p e S g k) → u_at p e S g k < e
                pick (inl h) = h
                pick (inr h) = absurd (omega (arith, ap len (next_stays p e S g k a h)))
        go ih (inr l) = recalled_kept g (history p e S k).now (history p e S k).before k (steps_before p e S k) (omega (arith, now', after)) ∙ ih ∙ sym (older_kept p e S g k l)

    applied_same : (k η : ℕ) → k < n → η < e
        → applied p e told k (history p e S k).now (history p e S k).before η ≡ next p e S k (history p e S k).now (history p e S k).before η
    unfolding applied next step_at partner row_at older_at change
    applied_same k η a b = ap by (same k η a b) ∙ go (lt_or_le u e)
      where
        w : Pair
        w = row_at p e S η k

        u : ℕ
        u = u_at p e S η k

        l : ℕ
        l = L-at p e S (g_at p e S η k) k

        d : ℕ
        d = d_at p e S η k

        by : Step → Pair
        by x = change p e (case_numbered x.case) k (x.θ * p ^ x.u) (row (history p e S k).now η) (recalled p e told x.g (history p e S k).before)

        go : (u < e) ⊎ (e ≤ u) → by (step_at S f k η) ≡ change p e (case_of e u l) k d w (older p e S (g_at p e S η k) (history p e S k).now (history p e S k).before)
        go (inl h) =
            ap (λ (c : Case). change p e c k (θ-at p e S η k * p ^ u) w (recalled p e told (step_at S f k η).g (history p e S k).before)) (numbered (case_of e u l))
            ∙ ap (λ (x : ℕ). change p e (case_of e u l) k x w (recalled p e told (step_at S f k η).g (history p e S k).before)) (told_d η k h)
            ∙ ap (λ (x : ℕ). change p e (case_of e u l) k d w (recalled p e told x (history p e S k).before)) (told_partner η k h)
            ∙ ap (change p e (case_of e u l) k d w) (recalled_same (g_at p e S η k) k (omega arith) a)
        go (inr h) =
            ap (λ (c : Case). change p e c k (θ-at p e S η k * p ^ u) w (recalled p e told (step_at S f k η).g (history p e S k).before))
            (numbered (case_of e u l) ∙ case_stays e u l h)
            ∙ stay (older p e S (g_at p e S η k) (history p e S k).now (history p e S k).before)
            ∙ ap (λ (c : Case). change p e c k d w (older p e S (g_at p e S η k) (history p e S k).now (history p e S k).before)) (sym (case_stays e u l h))
          where
            stay : (o : Older) → change p e stays k (θ-at p e S η k * p ^ u) w (recalled p e told (step_at S f k η).g (history p e S k).before) ≡ change p e stays k d w o
            stay o = refl

    -- the rows are the rows of the steps
    retold_same : (k : ℕ) → k ≤ n → retold p e told k ≡ history p e S k
    unfolding retold history
    retold_same zero h = refl
    retold_same (suc k) h =
        ap grow (retold_same k (omega arith))
        ∙ ap (λ (rows : Rows). record { now = rows; before = (history p e S k).now ∷ (history p e S k).before }) (tabulate_eq e _ _ (λ η l. applied_same k η h l))
      where
        grow : History → History
        grow t = record { now = tabulate e (applied p e told k t.now t.before); before = t.now ∷ t.before }

-- ---- all prime powers

module _ (m : ℕ) (S : List ℕ) (n : ℕ) where
  abbrev parts_of : List PrimePower → List Part
  parts_of fs = map (part m S n) fs

  -- whatever stands behind the records
  replayed_same : {r : ℕ} {fs : List PrimePower} → Factored r fs → (behind : List Step) → replayed n fs (steps_over S n fs ++ behind) ≡ parts_of fs
  unfolding replayed steps_over part row_at
  replayed_same one behind = refl
  replayed_same (more {f = f} {fs = fs} P pos bare some F) behind =
      ap (replayed n (f ∷ fs)) (append_assoc (steps_at S f n) (steps_over S n fs) behind)
      ∙ ap₂ (λ (x : Part) (xs : List Part). x ∷ xs)
      (ap (λ (t : History). record { modulus = value f; pair = row t.now zero })
      (retold_same S f P n (record_in (steps_at S f n ++ (steps_over S n fs ++ behind)) f.exponent) (λ k η a b. record_in_at S f n (steps_over S n fs ++ behind) k η a b) n (omega arith)))
      (ap (replayed n fs) (drop_at (steps_at S f n) (steps_over S n fs ++ behind) (n * f.exponent) (length_steps_at S f n)) ∙ replayed_same F behind)

  -- applying the sheet's cases in order gives the register, whatever stands behind its records
  pub replay_behind : zero < m → (behind : List Step) → replay m n (sheet_of m S n ++ behind) ≡ register m S n
  unfolding replay sheet_of parts register
  replay_behind pos behind = ap (register_from m) (replayed_same (factored m pos) behind)

  pub replay_register : zero < m → replay m n (sheet_of m S n) ≡ register m S n
  replay_register pos = ap (replay m n) (sym (append-nil (sheet_of m S n))) ∙ replay_behind pos []

-- ---- a sheet of n terms depends on these only, and on them only modulo m

module _ (S T : List ℕ) where
  step_same : (f : PrimePower) (k η : ℕ) → Alike (value f) S T (suc k) → step_at S f k η ≡ step_at T f k η
  unfolding step_at row_at
  step_same f k η h =
      ap₂ told (fun_ext (discrepancy_same (value f) S T k h)) (history_same f.prime f.exponent S T k (λ j l. h j (omega arith)))
    where
      told : (Pair → ℕ) → History → Step
      told δ t =
          let p = f.prime in
          let e = f.exponent in
          let d = δ (row t.now η) in
          let g = partner p e d in
          let c = case_of e (valuation e p d) (len (row t.now g)) in
          record {
            power = value f;
            k = k;
            η = η;
            length = len (row t.now η);
            u = valuation e p d;
            θ = cofactor e p d;
            g = partner_told c e g;
            case = case_number c;
          }

  steps_at_same : (f : PrimePower) (n : ℕ) → Alike (value f) S T n → steps_at S f n ≡ steps_at T f n
  unfolding steps_at
  steps_at_same f zero h = refl
  steps_at_same f (suc n) h =
      ap₂ (λ (xs ys : List Step). xs ++ ys) (steps_at_same f n (λ j l. h j (omega arith))) (tabulate_eq f.exponent _ _ (λ η l. step_same f n η h))

  steps_over_same : (n : ℕ) {r : ℕ} {fs : List PrimePower} → Factored r fs → Alike r S T n → steps_over S n fs ≡ steps_over T n fs
  unfolding steps_over
  steps_over_same n one h = refl
  steps_over_same n (more {rest = R} {f = f} {fs = fs} P pos bare some F) h =
      ap₂ (λ (xs ys : List Step). xs ++ ys) (steps_at_same f n (λ j l. cong_left (value f) R (h j l))) (steps_over_same n F (λ j l. cong_right (value f) R (h j l)))

  pub sheet_same : (m n : ℕ) → zero < m → Alike m S T n → sheet_of m S n ≡ sheet_of m T n
  unfolding sheet_of
  sheet_same m n pos h = steps_over_same n (factored m pos) h
