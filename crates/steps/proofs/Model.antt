-- One step of the code's rows is one step of the definition's.
-- Assumes nothing.
use mathlib.Core.Path.{◌≡◌, refl, sym, ap, ap₂, ◌∙◌, subst}
use mathlib.Core.Logic.{◌≢◌}
use mathlib.Core.List.{List, []}
use Prim.Native.Nat.{ℕ, zero, suc, ◌+◌, ◌*◌, ◌-◌, ◌%◌, ◌^◌, ◌≤◌, ◌<◌}
use native.Mathlib.Nat.{mod-lt, pow-zero, pow-le-pow_left, pow-le-pow_right, pos_of_ne-zero, mul_assoc}
use native.Mathlib.Numerals.{add-one}
use native.Mathlib.Decide.{dec_le, dec_lt}
use native.Mathlib.Omega.{arith}
use lib.ListN.{length, get_or, set}
use Rattle.lists.specs.Table.{at}
use Rattle.lists.proofs.Table.{each_next}
use Rattle.residue.specs.Congruence.{neg}
use Rattle.residue.specs.Units.{Coprime, inverse}
use Rattle.residue.specs.Valuation.{valuation, cofactor}
use Rattle.residue.proofs.Congruence.{rfl, of_eq, sy, tr, mul, modulo, same_below, q_pos, pow_lt}
use Rattle.residue.proofs.Units.{nonzero, prime_power_coprime}
use Rattle.residue.proofs.Valuation.{valuation_le, cofactor_le, cofactor_bare}
use Rattle.recurrence.specs.Polynomial.{conv, up, Pair}
use Rattle.recurrence.specs.Steps.{Older, multiplier, row_at, d_at, u_at, θ-at, L-at, older_at}
use Rattle.recurrence.proofs.Pairs.{conv_cong}
use Rattle.recurrence.proofs.Polynomial.{at_combine, at_up}
use Rattle.recurrence.proofs.Steps.{g_at, row_start, older_kept, older_grown, next_stays, next_added, next_cancelled}
use Rattle.recurrence.proofs.Theorem.{qp, d_lt, reduced, start_length, length_le, past_a, d_of_a, length_stays, length_kept, length_grows}
use Rattle.steps.specs.Sizes.{max_cells, max_terms, max_rows}
use Rattle.steps.specs.declared.ring.Ring.{Ring}
use Rattle.steps.specs.declared.Rows.{Rows}
use Rattle.steps.specs.declared.Memory.{Memory}
use Rattle.steps.specs.declared.Seen.{Seen}
use Rattle.steps.specs.declared.Plan.{Plan}
use Rattle.steps.specs.declared.Machine.{Machine}
use Rattle.steps.specs.Fit.{Fit}
use Rattle.steps.specs.Run.{Below}
use Rattle.steps.specs.Passes.{Shape, Starting, Ready, next_of, next_at, Planned, Stocked, Changing, Remembers, Settled, Settling, Grows}
use Rattle.steps.specs.State.{RowsAt, Looks, Kept, Keeps, State}
use Rattle.steps.proofs.Cells.{up_same}
use Rattle.steps.proofs.Passes.{next_stay, next_flat, next_grow, next_rose, next_up}

-- a prime power below 65,536 gives few rows
pub few_rows : (p e q : ℕ) → 1 < p → q ≡ p ^ e → q < 65536 → e ≤ max_rows
few_rows p e q big whole small = go (dec_le e max_rows)
  where
    go : Dec (e ≤ max_rows) → e ≤ max_rows
    go (yes h) = h
    go (no h) =
        let up : 2 ^ 16 ≤ p ^ 16 = pow-le-pow_left big 16 in
        let on : p ^ 16 ≤ p ^ e = pow-le-pow_right {n = p} (omega arith) {i = 16} {j = e} (omega arith) in
        absurd (omega arith)

module _ (ring : Ring) where
  pub base_up : zero < ring.p
  base_up = omega (arith, ring.fit.prime.big)

  pub whole_low : ring.p ^ ring.e < 65536
  whole_low = omega (arith, ring.fit.whole, ring.fit.small)

module _ (ring : Ring) (S : List ℕ) where
  abbrev p : ℕ
  p = ring.p

  abbrev e : ℕ
  e = ring.e

  abbrev q : ℕ
  q = ring.q

  abbrev st : Fit p e q ring.scale
  st = ring.fit

  module _ (k : ℕ) where
    -- ---- the discrepancies

    module _ (rows : Rows) (rs : RowsAt ring S k rows) where
      pub len_low : (η : ℕ) → η < e → at rows.length η ≤ k
      len_low η h = omega (arith, rs.sizes η h, length_le p e st.prime st.pos S η k h)

      pub row_low : (η : ℕ) → η < e → Below max_cells q (get_or rows.a η [])
      row_low η h i l = omega (arith, rs.cells η i h l, (reduced p e st.prime st.pos S η k h).0 i, st.whole)

      pub row_clear : k < max_terms → (η : ℕ) → η < e → (i : ℕ) → at rows.length η < i → i ≤ k → at (get_or rows.a η []) i ≡ zero
      row_clear kk η h i a b =
          rs.cells η i h (omega arith) ∙ past_a p e st.prime st.pos S η k i h (omega (arith, rs.sizes η h))

      pub d_code : k < max_terms → (η : ℕ) → η < e → conv (at S) (at (get_or rows.a η [])) k % q ≡ d_at p e S η k
      d_code kk η h =
          (conv_cong {q = q} (at S) (at S) (at (get_or rows.a η [])) (at (row_at p e S η k).a) k (λ i l. rfl) (λ i l. of_eq (rs.cells η i h (omega arith)))).same
          ∙ ap (λ (x : ℕ). conv (at S) (at (row_at p e S η k).a) k % x) st.whole
          ∙ sym (d_of_a p e st.prime st.pos S η k h)

    θ-lt : (η : ℕ) → θ-at p e S η k < q
    θ-lt η =
        omega (
          arith,
          st.whole,
          cofactor_le e p (d_at p e S η k) (q - 1) (omega (arith, st.whole, pow_lt p e st.prime.big st.pos, pow-zero p))
              (omega (arith, st.whole, d_lt p e st.prime st.pos S η k)),
          st.some,
        )

    θ-bare : (η : ℕ) → θ-at p e S η k % p ≢ zero
    θ-bare η = cofactor_bare p e st.prime st.pos (d_at p e S η k) (d_lt p e st.prime st.pos S η k)

    θ-coprime : (η : ℕ) → Coprime (θ-at p e S η k) q
    θ-coprime η =
        subst (λ (x : ℕ). Coprime (θ-at p e S η k) x) (sym st.whole)
        (prime_power_coprime p e (θ-at p e S η k) st.prime st.pos (θ-bare η))

    θ-some : (η : ℕ) → zero < θ-at p e S η k
    θ-some η = pos_of_ne-zero (nonzero p (θ-at p e S η k) (θ-bare η))

    -- ---- the lengths

    module _ (rows : Rows) (seen : Seen) (rs : RowsAt ring S k rows) (lk : Looks ring S k seen) where
      pub ready_code : Shape rows.a → Ready ring k rows seen
      ready_code shape =
          record {
            shape = shape;
            low = row_low rows rs;
            early = len_low rows rs;
            powers = λ η h. omega (arith, lk.powers η h, valuation_le e p (d_at p e S η k));
            rests = λ η h. omega (arith, lk.rests η h, θ-lt η);
          }

      -- the row that answers row η
      same_g : (η : ℕ) → η < e → e - 1 - at seen.u η ≡ g_at p e S η k
      same_g η h = ap (λ (u : ℕ). e - 1 - u) (lk.powers η h)

      g_low : (η : ℕ) → e - 1 - at seen.u η < e
      g_low η = omega (arith, st.pos)

      len_g : (η : ℕ) → η < e → at rows.length (e - 1 - at seen.u η) ≡ L-at p e S (g_at p e S η k) k
      len_g η h = rs.sizes (e - 1 - at seen.u η) (g_low η) ∙ ap (λ (j : ℕ). L-at p e S j k) (same_g η h)

      pub next_code : (η : ℕ) → η < e → next_at rows.length seen.u k e η ≡ L-at p e S η (suc k)
      next_code η h = go (dec_lt u e) (dec_le (l + m) k)
        where
          l : ℕ
          l = at rows.length η

          u : ℕ
          u = at seen.u η

          m : ℕ
          m = at rows.length (e - 1 - at seen.u η)

          go : Dec (at seen.u η < e) → Dec (at rows.length η + at rows.length (e - 1 - at seen.u η) ≤ k) → next_at rows.length seen.u k e η ≡ L-at p e S η (suc k)
          go (yes a) (yes b) =
              next_grow l u m k e a b
              ∙ (let z = (length_grows p e st.prime st.pos S η k h (omega (arith, lk.powers η h)) (omega (arith, rs.sizes η h, len_g η h))).0 in
              omega (arith, len_g η h, z))
          go (yes a) (no b) =
              next_flat l u m k e a (omega arith) ∙ rs.sizes η h
              ∙ sym (length_kept p e st.prime st.pos S η k h (omega (arith, rs.sizes η h, len_g η h)))
          go (no a) b =
              next_stay l u m k e (omega arith) ∙ rs.sizes η h
              ∙ sym (length_stays p e st.prime st.pos S η k h (omega (arith, lk.powers η h)))

      -- what `settle` has to be handed
      pub grows_code : Shape rows.a → (plan : Plan) → Planned ring k rows seen plan e → (η : ℕ) → η < e → Grows ring k rows.length plan seen η
      grows_code shape plan pl η h =
          record {
            up = omega (arith, pl.lens η h, next_up l u m k e);
            most = omega (arith, pl.lens η h, next_code η h, length_le p e st.prime st.pos S η (suc k) h);
            wide = λ z. ap length (pl.aside η h (omega (arith, pl.lens η h))) ∙ shape.wide (e - 1 - u) (omega (arith, st.few, g_low η));
            some = λ z. (rose z).0;
            fits = λ z.
                let v = (length_grows p e st.prime st.pos S η k h (omega (arith, lk.powers η h, (rose z).0)) (omega (arith, rs.sizes η h, len_g η h, (rose z).1))).1 in
                omega (arith, v, lk.powers (e - 1 - u) (g_low η), ap (λ (j : ℕ). u_at p e S j k) (same_g η h));
            unit = λ z. omega (arith, lk.rests (e - 1 - u) (g_low η), θ-lt (e - 1 - u));
            some_unit = λ z. omega (arith, lk.rests (e - 1 - u) (g_low η), θ-some (e - 1 - u));
            coprime = λ z. subst (λ (x : ℕ). Coprime x q) (sym (lk.rests (e - 1 - u) (g_low η))) (θ-coprime (e - 1 - u));
          }
        where
          l : ℕ
          l = at rows.length η

          u : ℕ
          u = at seen.u η

          m : ℕ
          m = at rows.length (e - 1 - at seen.u η)

          rose : l < at plan.length η → (u < e) × (l + m ≤ k) × (next_of l u m k e ≡ k + 1 - m)
          rose z = next_rose l u m k e (omega (arith, pl.lens η h))

      -- ---- the rows

      module _ (memory : Memory) (ks : Keeps ring S k memory) where
        some : (g : ℕ) → g < e → zero < at rows.length g → zero < L-at p e S g k
        some g h z = omega (arith, rs.sizes g h)

        pub stocked_code : Stocked ring k rows.length memory
        stocked_code =
            record {
              early = λ g h z. (ks.kept g h (some g h z)).early;
              short = λ g h z. (ks.kept g h (some g h z)).short;
              clear = λ g h z i a b. (ks.kept g h (some g h z)).same i b ∙ (ks.kept g h (some g h z)).past i (omega arith);
              low = λ g h z i b. omega (arith, (ks.kept g h (some g h z)).same i b, (ks.kept g h (some g h z)).low i, st.whole);
              mults = λ g h z. omega (arith, (ks.kept g h (some g h z)).scale, st.whole, mod-lt (inverse (p ^ e) (older_at p e S g k).θ * p ^ (e - 1 - g - (older_at p e S g k).u)) (q_pos p e st.prime.big));
            }

        -- the code's multiple is the definition's
        factor_code : (d g t u x : ℕ) (o : Older) → t ≡ cofactor e p d → valuation e p d ≡ u → u < e → g ≡ e - 1 - u
            → x ≡ inverse (p ^ e) o.θ * p ^ (e - 1 - g - o.u) % p ^ e → q - t * x % q ≡ multiplier p e d o
        unfolding multiplier neg
        factor_code d g t u x o ht hu lt hg hx =
            ap (λ (y : ℕ). y - t * x % y) st.whole
            ∙ ap₂ (λ (a b : ℕ). p ^ e - a * b % p ^ e) ht hx
            ∙ ap (λ (y : ℕ). p ^ e - y) (mul (rfl {q = p ^ e} {a = r}) (modulo (i * p ^ (e - 1 - g - o.u)))).same
            ∙ ap (λ (y : ℕ). p ^ e - r * (i * p ^ (y - o.u)) % p ^ e) (let z : e - 1 - g ≡ valuation e p d = omega arith in z)
            ∙ ap (λ (y : ℕ). p ^ e - y % p ^ e) (sym (mul_assoc r i (p ^ (valuation e p d - o.u))))
          where
            r : ℕ
            r = cofactor e p d

            i : ℕ
            i = inverse (p ^ e) o.θ

        -- the a that a remembered row has changed, cell by cell
        cancelled_at : (η i : ℕ) → η < e → u_at p e S η k < e → zero < L-at p e S (g_at p e S η k) k
            → at (row_at p e S η (suc k)).a i
            ≡ (at (row_at p e S η k).a i + multiplier p e (d_at p e S η k) (older_at p e S (g_at p e S η k) k)
            * at (up (k - (older_at p e S (g_at p e S η k) k).r) (older_at p e S (g_at p e S η k) k).pair.a) i) % p ^ e
        cancelled_at η i h l z =
            same_below ((reduced p e st.prime st.pos S η (suc k) h).0 i) (mod-lt _ (qp p e st.prime st.pos S))
            (tr (of_eq (ap (λ (w : Pair). at w.a i) (next_cancelled p e S η k h l z)))
            (tr (at_combine (p ^ e) f (k - o.r) (row_at p e S η k).a o.pair.a i)
            (tr (of_eq (ap (λ (x : ℕ). at (row_at p e S η k).a i + f * x) (sym (at_up (k - o.r) o.pair.a i)))) (sy (modulo _)))))
          where
            o : Older
            o = older_at p e S (g_at p e S η k) k

            f : ℕ
            f = multiplier p e (d_at p e S η k) o

        cells_code : (rows' : Rows) → Changing ring k memory seen rows rows' e → (η i : ℕ) → η < e → i < max_cells
            → at (get_or rows'.a η []) i ≡ at (row_at p e S η (suc k)).a i
        cells_code rows' ch η i h l = go η i h l (dec_lt (at seen.u η) e) (dec_lt zero (at rows.length (e - 1 - at seen.u η)))
          where
            go : (η i : ℕ) → η < e → i < max_cells → Dec (at seen.u η < e) → Dec (zero < at rows.length (e - 1 - at seen.u η))
                → at (get_or rows'.a η []) i ≡ at (row_at p e S η (suc k)).a i
            go η i h l (no a) z =
                ap (λ (x : List ℕ). at x i) ((ch.done η h).stay (omega arith)) ∙ rs.cells η i h l
                ∙ ap (λ (w : Pair). at w.a i) (sym (next_stays p e S η k h (omega (arith, lk.powers η h))))
            go η i h l (yes a) (no z) =
                ap (λ (x : List ℕ). at x i) ((ch.done η h).fresh a (omega arith)) ∙ rs.cells η i h l
                ∙ ap (λ (w : Pair). at w.a i) (sym (next_added p e S η k h (omega (arith, lk.powers η h)) (omega (arith, len_g η h))))
            go η i h l (yes a) (yes z) =
                ((ch.done η h).moved a z).cells i l
                ∙ ap (λ (x : ℕ). (at (get_or rows.a η []) i + (q - at seen.theta η * at memory.mult g % q) * at (up (k - at memory.when g) (get_or memory.a g [])) i) % x) st.whole
                ∙ ap₂ (λ (x y : ℕ). (x + y * at (up (k - at memory.when g) (get_or memory.a g [])) i) % p ^ e) (rs.cells η i h l)
                (factor_code (d_at p e S η k) g (at seen.theta η) (at seen.u η) (at memory.mult g) o (lk.rests η h) (sym (lk.powers η h)) a refl kp.scale)
                ∙ ap (λ (x : ℕ). (at (row_at p e S η k).a i + multiplier p e (d_at p e S η k) o * x) % p ^ e)
                (ap (λ (x : ℕ). at (up (k - x) (get_or memory.a g [])) i) kp.time ∙ up_same (k - o.r) (get_or memory.a g []) o.pair.a max_cells i kp.same l)
                ∙ ap (λ (j : ℕ). (at (row_at p e S η k).a i + multiplier p e (d_at p e S η k) (older_at p e S j k)
                * at (up (k - (older_at p e S j k).r) (older_at p e S j k).pair.a) i) % p ^ e) (same_g η h)
                ∙ sym (cancelled_at η i h (omega (arith, lk.powers η h)) (omega (arith, len_g η h)))
              where
                g : ℕ
                g = e - 1 - at seen.u η

                o : Older
                o = older_at p e S g k

                kp : Kept ring k g o (get_or memory.a g []) (at memory.when g) (at memory.reach g) (at memory.mult g)
                kp = ks.kept g (g_low η) (some g (g_low η) z)

        -- ---- what the rows remember

        module _ (plan : Plan) (pl : Planned ring k rows seen plan e) (memory' : Memory) (len' : List ℕ)
            (se : Settling ring k plan seen memory rows.length memory' len' e) where
          next_size : (η : ℕ) → η < e → at plan.length η ≡ L-at p e S η (suc k)
          next_size η h = pl.lens η h ∙ next_code η h

          sizes_code : (η : ℕ) → η < e → at len' η ≡ L-at p e S η (suc k)
          sizes_code η h = (se.done η h).new.grown ∙ next_size η h

          -- a row that kept its length
          kept_old : (η : ℕ) → η < e → zero < L-at p e S η (suc k) → at plan.length η ≤ at rows.length η
              → Kept ring (suc k) η (older_at p e S η (suc k)) (get_or memory'.a η []) (at memory'.when η) (at memory'.reach η) (at memory'.mult η)
          kept_old η h z f =
              subst (λ (o : Older). Kept ring (suc k) η o (get_or memory'.a η []) (at memory'.when η) (at memory'.reach η) (at memory'.mult η)) (sym (older_kept p e S η k level))
              (record {
                same = λ i l. ap (λ (x : List ℕ). at x i) (m.row_old f) ∙ kp.same i l;
                time = m.when_old f ∙ kp.time;
                early = omega (arith, m.when_old f, kp.early);
                short = omega (arith, m.when_old f, m.reach_old f, kp.short);
                past = λ i l. kp.past i (omega (arith, m.reach_old f));
                low = kp.low;
                scale = m.mult_old f ∙ kp.scale;
              })
            where
              m : Remembers ring k plan seen memory rows.length η (get_or memory'.a η []) (at len' η) (at memory'.when η) (at memory'.reach η) (at memory'.mult η)
              m = se.done η h

              level : L-at p e S η (suc k) ≤ L-at p e S η k
              level = omega (arith, next_size η h, rs.sizes η h)

              kp : Kept ring k η (older_at p e S η k) (get_or memory.a η []) (at memory.when η) (at memory.reach η) (at memory.mult η)
              kp = ks.kept η h (omega (arith, level))

          -- a row that grew
          kept_new : (η : ℕ) → η < e → at rows.length η < at plan.length η
              → Kept ring (suc k) η (older_at p e S η (suc k)) (get_or memory'.a η []) (at memory'.when η) (at memory'.reach η) (at memory'.mult η)
          kept_new η h f =
              subst (λ (o : Older). Kept ring (suc k) η o (get_or memory'.a η []) (at memory'.when η) (at memory'.reach η) (at memory'.mult η)) (sym (older_grown p e S η k (omega (arith, next_size η h, rs.sizes η h))))
              (record {
                same = λ i l. ap (λ (x : List ℕ). at x i) (m.row_new f ∙ pl.aside η h (omega (arith, pl.lens η h))) ∙ rs.cells g i (g_low η) l
                    ∙ ap (λ (j : ℕ). at (row_at p e S j k).a i) (same_g η h);
                time = m.when_new f;
                early = omega (arith, m.when_new f);
                short = omega (arith, m.when_new f, m.reach_new f);
                past = λ i l. past_a p e st.prime st.pos S G k i G-low (omega (arith, m.reach_new f, len_g η h, rose.2, rose.1, pl.lens η h));
                low = λ i. (reduced p e st.prime st.pos S G k G-low).0 i;
                scale =
                    m.mult_new f
                    ∙ ap (λ (x : ℕ). inverse x (at seen.theta g) * p ^ (e - 1 - η - at seen.u g) % x) st.whole
                    ∙ ap₂ (λ (x y : ℕ). inverse (p ^ e) x * p ^ (e - 1 - η - y) % p ^ e)
                    (lk.rests g (g_low η) ∙ ap (λ (j : ℕ). θ-at p e S j k) (same_g η h))
                    (lk.powers g (g_low η) ∙ ap (λ (j : ℕ). u_at p e S j k) (same_g η h));
              })
            where
              g : ℕ
              g = e - 1 - at seen.u η

              G : ℕ
              G = g_at p e S η k

              G-low : G < e
              G-low = omega (arith, st.pos)

              m : Settled ring k plan seen rows.length η (get_or memory'.a η []) (at len' η) (at memory'.when η) (at memory'.reach η) (at memory'.mult η)
              m = (se.done η h).new

              rose : (at seen.u η < e) × (at rows.length η + at rows.length (e - 1 - at seen.u η) ≤ k) × (next_of (at rows.length η) (at seen.u η) (at rows.length (e - 1 - at seen.u η)) k e ≡ k + 1 - at rows.length (e - 1 - at seen.u η))
              rose = next_rose (at rows.length η) (at seen.u η) (at rows.length (e - 1 - at seen.u η)) k e (omega (arith, pl.lens η h))

          pub keeps_code : Keeps ring S (suc k) memory'
          keeps_code = record { kept = λ η h z. go η h z (dec_lt (at rows.length η) (at plan.length η)) }
            where
              go : (η : ℕ) → η < e → zero < L-at p e S η (suc k) → Dec (at rows.length η < at plan.length η)
                  → Kept ring (suc k) η (older_at p e S η (suc k)) (get_or memory'.a η []) (at memory'.when η) (at memory'.reach η) (at memory'.mult η)
              go η h z (yes f) = kept_new η h f
              go η h z (no f) = kept_old η h z (omega arith)

    -- one step of the whole state
    pub step_code : (before after : Machine) (rows' : Rows) (seen : Seen) (plan : Plan) → State ring S k before → Looks ring S k seen
        → Planned ring k before.rows seen plan e → Changing ring k before.memory seen before.rows rows' e
        → Settling ring k plan seen before.memory before.rows.length after.memory after.rows.length e → after.rows.a ≡ rows'.a → State ring S (suc k) after
    step_code before after rows' seen plan s lk pl ch se same =
        record {
          rows =
              record {
                cells = λ η i h l. ap (λ (x : List (List ℕ)). at (get_or x η []) i) same ∙ cells_code before.rows seen s.rows lk before.memory s.keeps rows' ch η i h l;
                sizes = sizes_code before.rows seen s.rows lk before.memory s.keeps plan pl after.memory after.rows.length se;
              };
          keeps = keeps_code before.rows seen s.rows lk before.memory s.keeps plan pl after.memory after.rows.length se;
          shape_rows = subst Shape (sym same) ch.shape;
          shape_memory = se.shape;
        }

  -- the state before any term
  pub start_code : (machine : Machine) (a₀ : List (List ℕ)) → Starting p a₀ machine.rows.a e → Shape machine.memory.a → ((η : ℕ) → at machine.rows.length η ≡ zero)
      → State ring S zero machine
  start_code machine a₀ s shape none =
      record {
        rows =
            record {
              cells = λ η i h l. s.done η i h ∙ ap (λ (w : Pair). at w.a i) (sym (row_start p e S η h));
              sizes = λ η h. none η ∙ sym (start_length p e st.prime st.pos S η h);
            };
        keeps = record { kept = λ η h z. absurd (omega (arith, start_length p e st.prime st.pos S η h)) };
        shape_rows = s.shape;
        shape_memory = shape;
      }

  -- the lengths found so far
  pub lens_first : (lens : List ℕ) → at lens zero ≡ zero → (j : ℕ) → j ≤ zero → at lens j ≡ L-at p e S zero j
  lens_first lens h j l =
      subst (λ (x : ℕ). at lens x ≡ L-at p e S zero x) (let z : zero ≡ j = omega arith in z)
      (h ∙ sym (start_length p e st.prime st.pos S zero st.pos))

  pub lens_next : (lens : List ℕ) (k v : ℕ) → length lens ≡ max_cells → k < max_terms → ((j : ℕ) → j ≤ k → at lens j ≡ L-at p e S zero j)
      → v ≡ L-at p e S zero (suc k) → (j : ℕ) → j ≤ k + 1 → at (set lens (k + 1) v) j ≡ L-at p e S zero j
  lens_next lens k v h small before now j l =
      each_next zero (λ (x : ℕ) (y : ℕ). y ≡ L-at p e S zero x) lens (k + 1) v (λ x m. before x (omega arith)) (omega arith)
      (now ∙ ap (λ (x : ℕ). L-at p e S zero x) (sym (add-one k))) j (omega arith)
