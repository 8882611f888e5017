-- Laws of the steps as they are defined: a row and what it remembers after a step, from the rows and what they remember before it.
-- Nothing here is number theory.
-- Assumes nothing.
use mathlib.Core.Path.{◌≡◌, refl, sym, ap, ap₂, ◌∙◌, fun_ext}
use mathlib.Core.Bool.{Bool, true, false}
use mathlib.Core.List.{List, [], ◌∷◌}
use Prim.Native.Nat.{ℕ, zero, suc, ◌-◌, ◌^◌, ◌≤◌, ◌<◌}
use native.Mathlib.Omega.{arith}
use lib.Dec.{ltb}
use lib.ListN.{length, get_or}
use borrow.Author.Tests.{le-leb, lt-leb, lt-ltb, le-ltb}
use Rattle.lists.specs.Table.{at, tabulate}
use Rattle.lists.proofs.Table.{get_d_tabulate, tabulate_eq}
use Rattle.residue.specs.Congruence.{Cong}
use Rattle.residue.specs.Valuation.{valuation, cofactor}
use Rattle.residue.proofs.Congruence.{rfl, add}
use Rattle.recurrence.specs.Polynomial.{plus, times, up, Pair, len}
use Rattle.recurrence.specs.Steps.{Rows, row, discrepancy, Case, stays, added, cancelled, case_of, Older, no_older, History, partner, multiplier, change, remembered, older, next, history, row_at, d_at, u_at, θ-at, L-at, older_at}
use Rattle.recurrence.proofs.Pairs.{conv_cong}

-- ---- the case

pub case_stays : (e u l : ℕ) → e ≤ u → case_of e u l ≡ stays
unfolding case_of
case_stays e u l h = rw (le-leb e u h, case_of)

pub case_added : (e u l : ℕ) → u < e → l ≡ zero → case_of e u l ≡ added
unfolding case_of
case_added e u l h z = rw (lt-leb e u h, z, case_of)

pub case_cancelled : (e u l : ℕ) → u < e → zero < l → case_of e u l ≡ cancelled
unfolding case_of
case_cancelled e u zero h z = absurd (omega arith)
case_cancelled e u (suc l) h z = rw (lt-leb e u h, case_of)

pub partner_le : (p e d : ℕ) → partner p e d ≤ e - 1
unfolding partner
partner_le p e d = omega arith

module _ (p e : ℕ) (S : List ℕ) where
  -- the number of the row that answers row η at step k
  abbrev pub g_at : ℕ → ℕ → ℕ
  g_at η k = e - 1 - u_at p e S η k

  pub steps_before : (k : ℕ) → length (history p e S k).before ≡ k
  unfolding history
  steps_before zero = refl
  steps_before (suc k) = ap suc (steps_before k)

  -- ---- the rows

  pub row_start : (η : ℕ) → η < e → row_at p e S η zero ≡ record { a = p ^ η ∷ []; b = [] }
  unfolding row_at history
  row_start η h = get_d_tabulate e (λ η. record { a = p ^ η ∷ []; b = [] }) η _ h

  pub row_next : (η k : ℕ) → η < e
      → row_at p e S η (suc k) ≡ change p e (case_of e (u_at p e S η k) (L-at p e S (g_at η k) k)) k (d_at p e S η k) (row_at p e S η k) (older_at p e S (g_at η k) k)
  unfolding row_at history next older_at partner
  row_next η k h = get_d_tabulate e (next p e S k (history p e S k).now (history p e S k).before) η _ h

  -- ---- what is remembered

  pub older_kept : (g k : ℕ) → L-at p e S g (suc k) ≤ L-at p e S g k → older_at p e S g (suc k) ≡ older_at p e S g k
  unfolding older_at older history row_at
  older_kept g k h = rw (le-ltb (L-at p e S g k) (L-at p e S g (suc k)) h, older)

  -- the pair, u and θ of the row that answered row g at step k
  abbrev pub entry : ℕ → ℕ → Older
  entry g k = record { pair = row_at p e S (g_at g k) k; u = u_at p e S (g_at g k) k; θ = θ-at p e S (g_at g k) k; r = k }

  pub older_grown : (g k : ℕ) → L-at p e S g k < L-at p e S g (suc k) → older_at p e S g (suc k) ≡ entry g k
  unfolding older_at older history row_at remembered partner
  older_grown g k h =
      rw (lt-ltb (L-at p e S g k) (L-at p e S g (suc k)) h, older)
      (ap (λ (r : ℕ). remembered p e S (history p e S k).now r g) (steps_before k))

  -- ---- a step by cases

  module _ (η k : ℕ) (h : η < e) where
    pub next_stays : e ≤ u_at p e S η k → row_at p e S η (suc k) ≡ row_at p e S η k
    unfolding change
    next_stays l =
        row_next η k h
        ∙ ap (λ (c : Case). change p e c k (d_at p e S η k) (row_at p e S η k) (older_at p e S (g_at η k) k)) (case_stays e (u_at p e S η k) (L-at p e S (g_at η k) k) l)

    pub next_added : u_at p e S η k < e → L-at p e S (g_at η k) k ≡ zero
        → row_at p e S η (suc k) ≡ record { a = (row_at p e S η k).a; b = plus (p ^ e) (row_at p e S η k).b (up k (d_at p e S η k ∷ [])) }
    unfolding change
    next_added l z =
        row_next η k h
        ∙ ap (λ (c : Case). change p e c k (d_at p e S η k) (row_at p e S η k) (older_at p e S (g_at η k) k)) (case_added e (u_at p e S η k) (L-at p e S (g_at η k) k) l z)

    pub next_cancelled : u_at p e S η k < e → zero < L-at p e S (g_at η k) k
        → let o = older_at p e S (g_at η k) k in
        let f = multiplier p e (d_at p e S η k) o in
        row_at p e S η (suc k) ≡ record {
          a = plus (p ^ e) (row_at p e S η k).a (times (p ^ e) f (up (k - o.r) o.pair.a));
          b = plus (p ^ e) (row_at p e S η k).b (times (p ^ e) f (up (k - o.r) o.pair.b));
        }
    unfolding change
    next_cancelled l z =
        row_next η k h
        ∙ ap (λ (c : Case). change p e c k (d_at p e S η k) (row_at p e S η k) (older_at p e S (g_at η k) k)) (case_cancelled e (u_at p e S η k) (L-at p e S (g_at η k) k) l z)

-- ---- the first k terms, modulo p^e, are all that k steps read

-- two lists of terms agree modulo q below place k
abbrev pub Alike : ℕ → List ℕ → List ℕ → ℕ → Type 0
Alike q S T k = (j : ℕ) → j < k → Cong q (at S j) (at T j)

pub discrepancy_same : (q : ℕ) (S T : List ℕ) (k : ℕ) → Alike q S T (suc k) → (w : Pair) → discrepancy q S k w ≡ discrepancy q T k w
unfolding discrepancy
discrepancy_same q S T k h w =
    (add (conv_cong (at S) (at T) (at w.a) (at w.a) k (λ i l. h i (omega arith)) (λ i l. rfl)) rfl).same

module _ (p e : ℕ) (S T : List ℕ) where
  remembered_same : (rows : Rows) (r g : ℕ) → Alike (p ^ e) S T (suc r) → remembered p e S rows r g ≡ remembered p e T rows r g
  unfolding remembered
  remembered_same rows r g h = ap (λ (δ : Pair → ℕ). made δ) (fun_ext (discrepancy_same (p ^ e) S T r h))
    where
      made : (Pair → ℕ) → Older
      made δ =
          let x = partner p e (δ (row rows g)) in
          record { pair = row rows x; u = valuation e p (δ (row rows x)); θ = cofactor e p (δ (row rows x)); r = r }

  older_same : (g : ℕ) (now : Rows) (before : List Rows) → Alike (p ^ e) S T (length before) → older p e S g now before ≡ older p e T g now before
  unfolding older
  older_same g now [] h = refl
  older_same g now (rows ∷ earlier) h = go (ltb (len (row rows g)) (len (row now g))) (older_same g rows earlier (λ j l. h j (omega arith)))
    where
      go : (t : Bool) → older p e S g rows earlier ≡ older p e T g rows earlier
          → ◌≡◌ {A = Older} (elim t [ true ↦ remembered p e S rows (length earlier) g | false ↦ older p e S g rows earlier ])
          (elim t [ true ↦ remembered p e T rows (length earlier) g | false ↦ older p e T g rows earlier ])
      go true ih = remembered_same rows (length earlier) g h
      go false ih = ih

  next_same : (k : ℕ) (now : Rows) (before : List Rows) → length before ≡ k → Alike (p ^ e) S T (suc k) → (η : ℕ)
      → next p e S k now before η ≡ next p e T k now before η
  unfolding next
  next_same k now before z h η =
      ap (λ (d : ℕ). change p e (case_of e (valuation e p d) (len (row now (partner p e d)))) k d (row now η) (older p e S (partner p e d) now before))
      (discrepancy_same (p ^ e) S T k h (row now η))
      ∙ ap (change p e (case_of e (valuation e p d') (len (row now (partner p e d')))) k d' (row now η))
      (older_same (partner p e d') now before (λ j l. h j (omega arith)))
    where
      d' : ℕ
      d' = discrepancy (p ^ e) T k (row now η)

  -- the rows after k steps depend on the first k terms only, and on these only modulo p^e
  pub history_same : (k : ℕ) → Alike (p ^ e) S T k → history p e S k ≡ history p e T k
  unfolding history
  history_same zero h = refl
  history_same (suc k) h =
      ap grow (history_same k (λ j l. h j (omega arith)))
      ∙ ap (λ (rows : Rows). record { now = rows; before = (history p e T k).now ∷ (history p e T k).before })
      (tabulate_eq e _ _ (λ η l. next_same k (history p e T k).now (history p e T k).before (steps_before p e T k) h η))
    where
      grow : History → History
      grow t = record { now = tabulate e (next p e S k t.now t.before); before = t.now ∷ t.before }

  pub row_same : (η k : ℕ) → Alike (p ^ e) S T k → row_at p e S η k ≡ row_at p e T η k
  unfolding row_at
  row_same η k h = ap (λ (t : History). row t.now η) (history_same k h)

-- ---- the state that a program keeps: each row with what it remembers, and no history

pub record State : Type 0 where
  pub rows : Rows
  pub olders : List Older

module _ (p e : ℕ) (S : List ℕ) where
  -- row η, and what it remembers, from the state before step k
  abbrev pub advance_row : ℕ → State → ℕ → Pair
  advance_row k σ η =
      let d = discrepancy (p ^ e) S k (row σ.rows η) in
      change p e (case_of e (valuation e p d) (len (row σ.rows (partner p e d)))) k d (row σ.rows η) (get_or σ.olders (partner p e d) no_older)

  abbrev pub advance_older : ℕ → State → ℕ → Older
  advance_older k σ g =
      elim (ltb (len (row σ.rows g)) (len (advance_row k σ g))) [
        | true ↦ remembered p e S σ.rows k g
        | false ↦ get_or σ.olders g no_older
      ]

  unfoldable pub advance : ℕ → State → State
  advance k σ = record { rows = tabulate e (advance_row k σ); olders = tabulate e (advance_older k σ) }

  unfoldable pub compact : ℕ → State
  compact zero = record { rows = tabulate e (λ η. record { a = p ^ η ∷ []; b = [] }); olders = tabulate e (λ g. no_older) }
  compact (suc k) = advance k (compact k)

  abbrev pub told : ℕ → State
  told k = record { rows = (history p e S k).now; olders = tabulate e (λ g. older_at p e S g k) }

  -- it has the same rows, and remembers what the history tells
  pub compact_told : (k : ℕ) → compact k ≡ told k
  unfolding compact history advance older_at older next
  compact_told zero = refl
  compact_told (suc k) =
      ap (advance k) (compact_told k)
      ∙ ap₂ (λ (x : Rows) (y : List Older). record { rows = x; olders = y }) (tabulate_eq e _ _ rows_told)
      (tabulate_eq e _ _ (λ g l. olders_told g l))
    where
      now : Rows
      now = (history p e S k).now

      before : List Rows
      before = (history p e S k).before

      read : (g : ℕ) → g < e → get_or (tabulate e (λ g. older_at p e S g k)) g no_older ≡ older p e S g now before
      read g l = get_d_tabulate e (λ g. older_at p e S g k) g no_older l

      rows_told : (η : ℕ) → η < e → advance_row k (told k) η ≡ next p e S k now before η
      rows_told η l =
          ap (change p e (case_of e (valuation e p d) (len (row now (partner p e d)))) k d (row now η)) (read (partner p e d) near)
        where
          d : ℕ
          d = discrepancy (p ^ e) S k (row now η)

          near : partner p e d < e
          near = omega (arith, partner_le p e d)

      olders_told : (g : ℕ) → g < e → advance_older k (told k) g ≡ older_at p e S g (suc k)
      olders_told g l =
          ap (λ (x : ℕ). made x k (get_or (tabulate e (λ g. older_at p e S g k)) g no_older)) (ap len (rows_told g l ∙ sym made_row))
          ∙ ap₂ (made (len (row (tabulate e (next p e S k now before)) g))) (sym (steps_before p e S k)) (read g l)
        where
          made : ℕ → ℕ → Older → Older
          made x r o = elim (ltb (len (row now g)) x) [ true ↦ remembered p e S now r g | false ↦ o ]

          made_row : row (tabulate e (next p e S k now before)) g ≡ next p e S k now before g
          made_row = get_d_tabulate e (next p e S k now before) g _ l
