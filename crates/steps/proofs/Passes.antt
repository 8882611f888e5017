-- Laws of the passes: each sets one row after the other, "done below i, as it was from i on".
-- Assumes nothing.
use mathlib.Core.Path.{◌≡◌, refl, sym, ap, ◌∙◌, subst}
use mathlib.Core.List.{List, [], ◌∷◌}
use Prim.Native.Nat.{ℕ, zero, suc, ◌+◌, ◌*◌, ◌-◌, ◌%◌, ◌^◌, ◌≤◌, ◌<◌}
use native.Mathlib.Nat.{le_refl}
use native.Mathlib.Decide.{ℕ_discrete, dec_le, dec_lt}
use native.Mathlib.Omega.{arith}
use lib.ListN.{length, get_or, set, length-set, replicate, length-replicate, get_or-replicate}
use lib.Seq.{get_or-set_same, get_or-set_other}
use borrow.Author.Tests.{le-leb, lt-leb, lt-ltb, le-ltb}
use Rattle.lists.specs.Table.{at}
use Rattle.lists.proofs.Table.{each_next, each_skip, rest_next}
use Rattle.residue.specs.Units.{inverse}
use Rattle.steps.specs.Sizes.{max_cells, max_rows}
use Rattle.steps.specs.declared.ring.Ring.{Ring}
use Rattle.steps.specs.declared.Rows.{Rows}
use Rattle.steps.specs.declared.Memory.{Memory}
use Rattle.steps.specs.declared.Seen.{Seen}
use Rattle.steps.specs.declared.Plan.{Plan}
use Rattle.steps.specs.declared.Machine.{Machine}
use Rattle.steps.specs.Passes.{Shape, Blank, Starting, next_of, next_at, Planned, Changed, Changing, Remembers, Settling}
use Rattle.steps.specs.State.{State}

-- ---- rows of 129 cells

-- a row of 15 is set to one of 129 cells
pub shape_set : (x : List (List ℕ)) (i : ℕ) (v : List ℕ) → Shape x → length v ≡ max_cells → Shape (set x i v)
shape_set x i v s h = record { many = length-set x i v ∙ s.many; wide = λ η l. go η (ℕ_discrete η i) l }
  where
    go : (η : ℕ) → Dec (η ≡ i) → η < max_rows → length (get_or (set x i v) η []) ≡ max_cells
    go η (yes e) l =
        ap (λ (k : ℕ). length (get_or (set x i v) k [])) e ∙ ap length (get_or-set_same x i v [] (omega (arith, s.many))) ∙ h
    go η (no f) l = ap length (get_or-set_other x i η v [] f) ∙ s.wide η l

-- ---- the length after a step

pub next_stay : (l u m k e : ℕ) → e ≤ u → next_of l u m k e ≡ l
unfolding next_of
next_stay l u m k e h = rw (le-ltb u e h, next_of)

pub next_flat : (l u m k e : ℕ) → u < e → k < l + m → next_of l u m k e ≡ l
unfolding next_of
next_flat l u m k e h n = rw (lt-ltb u e h, lt-leb (l + m) k n, next_of)

pub next_grow : (l u m k e : ℕ) → u < e → l + m ≤ k → next_of l u m k e ≡ k + 1 - m
unfolding next_of
next_grow l u m k e h n = rw (lt-ltb u e h, le-leb (l + m) k n, next_of)

-- a length that rises was short
pub next_rose : (l u m k e : ℕ) → l < next_of l u m k e → (u < e) × (l + m ≤ k) × (next_of l u m k e ≡ k + 1 - m)
next_rose l u m k e h = go (dec_lt u e) (dec_le (l + m) k)
  where
    go : Dec (u < e) → Dec (l + m ≤ k) → (u < e) × (l + m ≤ k) × (next_of l u m k e ≡ k + 1 - m)
    go (yes a) (yes b) = (a, b, next_grow l u m k e a b)
    go (yes a) (no b) = absurd (omega (arith, next_flat l u m k e a (omega arith)))
    go (no a) b = absurd (omega (arith, next_stay l u m k e (omega arith)))

pub next_up : (l u m k e : ℕ) → l ≤ next_of l u m k e
next_up l u m k e = go (dec_lt u e) (dec_le (l + m) k)
  where
    go : Dec (u < e) → Dec (l + m ≤ k) → l ≤ next_of l u m k e
    go (yes a) (yes b) = omega (arith, next_grow l u m k e a b)
    go (yes a) (no b) = omega (arith, next_flat l u m k e a (omega arith))
    go (no a) b = omega (arith, next_stay l u m k e (omega arith))

-- ---- the lengths after a step, row after row

module _ (ring : Ring) (k : ℕ) (rows : Rows) (seen : Seen) (plan : Plan) (i : ℕ) (s : Planned ring k rows seen plan i)
    (small : i < max_rows) (v : ℕ) (value : v ≡ next_at rows.length seen.u k ring.e i) where
  lens_next : (η : ℕ) → η < i + 1 → at (set plan.length i v) η ≡ next_at rows.length seen.u k ring.e η
  lens_next = each_next zero (λ (η : ℕ) (y : ℕ). y ≡ next_at rows.length seen.u k ring.e η) plan.length i v s.lens (omega (arith, s.long)) value

  -- a row that keeps its length has nothing put aside
  pub plan_skip : v ≤ at rows.length i → Planned ring k rows seen (record { length = set plan.length i v; aside = plan.aside }) (i + 1)
  plan_skip h =
      record {
        long = length-set plan.length i v ∙ s.long;
        many = s.many;
        lens = lens_next;
        aside = each_skip (λ (η : ℕ). at rows.length η < next_at rows.length seen.u k ring.e η → get_or plan.aside η [] ≡ get_or rows.a (ring.e - 1 - at seen.u η) [])
            i s.aside (λ l. absurd (omega arith));
      }

  -- for a row that grows, row e - 1 - u is
  pub plan_next : Planned ring k rows seen (record { length = set plan.length i v; aside = set plan.aside i (get_or rows.a (ring.e - 1 - at seen.u i) []) }) (i + 1)
  plan_next =
      record {
        long = length-set plan.length i v ∙ s.long;
        many = length-set plan.aside i (get_or rows.a (ring.e - 1 - at seen.u i) []) ∙ s.many;
        lens = lens_next;
        aside = each_next [] (λ (η : ℕ) (y : List ℕ). at rows.length η < next_at rows.length seen.u k ring.e η → y ≡ get_or rows.a (ring.e - 1 - at seen.u η) [])
            plan.aside i (get_or rows.a (ring.e - 1 - at seen.u i) []) s.aside (omega (arith, s.many)) (λ l. refl);
      }

-- ---- the a of the rows

-- one row more is changed
pub change_next : (ring : Ring) (k : ℕ) (memory : Memory) (seen : Seen) (rows₀ rows : Rows) (i : ℕ) (y : List ℕ) → Changing ring k memory seen rows₀ rows i
    → i < max_rows → Changed ring k rows.length memory (at seen.u i) (at seen.theta i) (get_or rows.a i []) y
    → Changing ring k memory seen rows₀ (record { a = set rows.a i y; length = rows.length }) (i + 1)
change_next ring k memory seen rows₀ rows i y s small c =
    record {
      lens = s.lens;
      shape = shape_set rows.a i y s.shape (c.long ∙ s.shape.wide i small);
      done = each_next [] (λ (j : ℕ) (z : List ℕ). Changed ring k rows₀.length memory (at seen.u j) (at seen.theta j) (get_or rows₀.a j []) z)
          rows.a i y s.done (omega (arith, s.shape.many))
          (subst (λ (x : List ℕ). Changed ring k x memory (at seen.u i) (at seen.theta i) (get_or rows₀.a i []) y) s.lens
          (subst (λ (x : List ℕ). Changed ring k rows.length memory (at seen.u i) (at seen.theta i) x y) (s.todo i (le_refl i)) c));
      todo = rest_next [] rows.a rows₀.a i y s.todo;
    }

-- ---- what the rows remember

module _ (ring : Ring) (k : ℕ) (plan : Plan) (seen : Seen) (memory₀ : Memory) (len₀ : List ℕ) (memory : Memory) (len : List ℕ) (i : ℕ) where
  abbrev Here : ℕ → List ℕ → ℕ → ℕ → ℕ → ℕ → Type 0
  Here = Remembers ring k plan seen memory₀ len₀

  -- a row that keeps its length is left as it is
  pub settle_skip : Settling ring k plan seen memory₀ len₀ memory len i → at plan.length i ≤ at len i → at len i ≤ at plan.length i
      → Settling ring k plan seen memory₀ len₀ memory len (i + 1)
  settle_skip s h up =
      record {
        shape = s.shape;
        long_len = s.long_len;
        long_when = s.long_when;
        long_reach = s.long_reach;
        long_mult = s.long_mult;
        done = each_skip (λ η. Here η (get_or memory.a η []) (at len η) (at memory.when η) (at memory.reach η) (at memory.mult η)) i s.done this;
        todo_row = λ η l. s.todo_row η (omega arith);
        todo_len = λ η l. s.todo_len η (omega arith);
        todo_when = λ η l. s.todo_when η (omega arith);
        todo_reach = λ η l. s.todo_reach η (omega arith);
        todo_mult = λ η l. s.todo_mult η (omega arith);
      }
    where
      none : at len₀ i < at plan.length i → ⊥
      none l = omega (arith, s.todo_len i (le_refl i))

      this : Here i (get_or memory.a i []) (at len i) (at memory.when i) (at memory.reach i) (at memory.mult i)
      this =
          record {
            new = record { grown = omega arith; row_new = λ l. absurd (none l); when_new = λ l. absurd (none l); reach_new = λ l. absurd (none l); mult_new = λ l. absurd (none l) };
            row_old = λ l. s.todo_row i (le_refl i);
            when_old = λ l. s.todo_when i (le_refl i);
            reach_old = λ l. s.todo_reach i (le_refl i);
            mult_old = λ l. s.todo_mult i (le_refl i);
          }

  -- a row that grew remembers anew
  pub settle_next : (m : ℕ) → Settling ring k plan seen memory₀ len₀ memory len i → i < max_rows → length (get_or plan.aside i []) ≡ max_cells
      → at len i < at plan.length i
      → m ≡ inverse ring.q (at seen.theta (ring.e - 1 - at seen.u i)) * ring.p ^ (ring.e - 1 - i - at seen.u (ring.e - 1 - at seen.u i)) % ring.q
      → Settling ring k plan seen memory₀ len₀
      (record { a = set memory.a i (get_or plan.aside i []); when = set memory.when i k; reach = set memory.reach i (k + 1 - at plan.length i); mult = set memory.mult i m })
      (set len i (at plan.length i)) (i + 1)
  settle_next m s small wide h value =
      record {
        shape = shape_set memory.a i (get_or plan.aside i []) s.shape wide;
        long_len = length-set len i (at plan.length i) ∙ s.long_len;
        long_when = length-set memory.when i k ∙ s.long_when;
        long_reach = length-set memory.reach i (k + 1 - at plan.length i) ∙ s.long_reach;
        long_mult = length-set memory.mult i m ∙ s.long_mult;
        done = λ η l. go η (ℕ_discrete η i) l;
        todo_row = rest_next [] memory.a memory₀.a i (get_or plan.aside i []) s.todo_row;
        todo_len = rest_next zero len len₀ i (at plan.length i) s.todo_len;
        todo_when = rest_next zero memory.when memory₀.when i k s.todo_when;
        todo_reach = rest_next zero memory.reach memory₀.reach i (k + 1 - at plan.length i) s.todo_reach;
        todo_mult = rest_next zero memory.mult memory₀.mult i m s.todo_mult;
      }
    where
      none : at plan.length i ≤ at len₀ i → ⊥
      none l = omega (arith, s.todo_len i (le_refl i))

      this : Here i (get_or plan.aside i []) (at plan.length i) k (k + 1 - at plan.length i) m
      this =
          record {
            new = record { grown = refl; row_new = λ l. refl; when_new = λ l. refl; reach_new = λ l. refl; mult_new = λ l. value };
            row_old = λ l. absurd (none l);
            when_old = λ l. absurd (none l);
            reach_old = λ l. absurd (none l);
            mult_old = λ l. absurd (none l);
          }

      go : (η : ℕ) → Dec (η ≡ i) → η < i + 1
          → Here η (get_or (set memory.a i (get_or plan.aside i [])) η []) (at (set len i (at plan.length i)) η) (at (set memory.when i k) η)
          (at (set memory.reach i (k + 1 - at plan.length i)) η) (at (set memory.mult i m) η)
      go η (yes x) l =
          subst (λ (j : ℕ). Here j (get_or (set memory.a i (get_or plan.aside i [])) j []) (at (set len i (at plan.length i)) j) (at (set memory.when i k) j) (at (set memory.reach i (k + 1 - at plan.length i)) j) (at (set memory.mult i m) j)) (sym x)
          (rw (get_or-set_same memory.a i (get_or plan.aside i []) [] (omega (arith, s.shape.many)), get_or-set_same len i (at plan.length i) zero (omega (arith, s.long_len)), get_or-set_same memory.when i k zero (omega (arith, s.long_when)), get_or-set_same memory.reach i (k + 1 - at plan.length i) zero (omega (arith, s.long_reach)), get_or-set_same memory.mult i m zero (omega (arith, s.long_mult))) this)
      go η (no f) l =
          rw (get_or-set_other memory.a i η (get_or plan.aside i []) [] f, get_or-set_other len i η (at plan.length i) zero f, get_or-set_other memory.when i η k zero f, get_or-set_other memory.reach i η (k + 1 - at plan.length i) zero f, get_or-set_other memory.mult i η m zero f) (s.done η (omega arith))

-- what is equal may be put for what `settle` was handed
pub settled_from : {ring : Ring} {k i : ℕ} {plan : Plan} {seen seen' : Seen} {memory₀ memory₁ memory : Memory} {len₀ len₁ len : List ℕ}
    → seen' ≡ seen → memory₁ ≡ memory₀ → len₁ ≡ len₀ → Settling ring k plan seen' memory₁ len₁ memory len i → Settling ring k plan seen memory₀ len₀ memory len i
settled_from {ring} {k} {i} {plan} {seen} {seen'} {memory₀} {memory₁} {memory} {len₀} {len₁} {len} hs hm hl s =
    subst (λ (x : Seen). Settling ring k plan x memory₀ len₀ memory len i) hs
    (subst (λ (x : Memory). Settling ring k plan seen' x len₀ memory len i) hm
    (subst (λ (x : List ℕ). Settling ring k plan seen' memory₁ x memory len i) hl s))

-- ---- the rows before any term

-- a row is given its first cell
pub start_next : (p : ℕ) (cur₀ cur : List (List ℕ)) (i r : ℕ) → Blank cur₀ → Starting p cur₀ cur i → i < max_rows → r ≡ p ^ i
    → Starting p cur₀ (set cur i (set (get_or cur i []) zero r)) (i + 1)
start_next p cur₀ cur i r none s small h =
    record {
      shape = shape_set cur i v s.shape (length-set (get_or cur i []) zero r ∙ s.shape.wide i small);
      done = λ η j l. each_next [] (λ (η : ℕ) (y : List ℕ). (j : ℕ) → at y j ≡ at (p ^ η ∷ []) j) cur i v (λ η l j. s.done η j l) (omega (arith, s.shape.many)) here η l j;
      todo = rest_next [] cur cur₀ i v s.todo;
    }
  where
    v : List ℕ
    v = set (get_or cur i []) zero r

    here : (j : ℕ) → at v j ≡ at (p ^ i ∷ []) j
    here zero = get_or-set_same (get_or cur i []) zero r zero (omega (arith, s.shape.wide i small)) ∙ h
    here (suc j) =
        get_or-set_other (get_or cur i []) zero (suc j) r zero (λ e. omega arith) ∙ ap (λ (x : List ℕ). at x (suc j)) (s.todo i (le_refl i)) ∙ none i (suc j)

-- ---- arrays of zeros

pub line_blank : (n j : ℕ) → at (replicate n zero) j ≡ zero
line_blank zero j = refl
line_blank (suc n) zero = refl
line_blank (suc n) (suc j) = line_blank n j

block_blank : (n η j : ℕ) → at (get_or (replicate n (replicate max_cells zero)) η []) j ≡ zero
block_blank zero η j = refl
block_blank (suc n) zero j = line_blank max_cells j
block_blank (suc n) (suc η) j = block_blank n η j

pub zeros_blank : Blank (replicate max_rows (replicate max_cells zero))
zeros_blank η j = block_blank max_rows η j

pub zeros_shape : Shape (replicate max_rows (replicate max_cells zero))
zeros_shape =
    record {
      many = length-replicate max_rows (replicate max_cells zero);
      wide = λ η h. ap length (get_or-replicate max_rows η (replicate max_cells zero) [] h) ∙ length-replicate max_cells zero;
    }

-- the state before the step after step k
pub state_at : {ring : Ring} {k k' : ℕ} {S : List ℕ} {machine : Machine} → k ≡ k' → State ring S k machine → State ring S k' machine
state_at {ring} {k} {k'} {S} {machine} h s = subst (λ (x : ℕ). State ring S x machine) h s
