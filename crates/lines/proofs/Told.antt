-- What the reading of a line tells holds of its bytes, and nothing else does.
-- Assumes nothing.
use mathlib.Core.Path.{◌≡◌, refl, sym, ap, ap₂, ◌∙◌, subst}
use mathlib.Core.Bool.{Bool, true, false}
use mathlib.Core.Logic.{◌⊎◌, inl, inr}
use mathlib.Core.List.{List, [], ◌∷◌, ◌++◌, append_assoc, append-nil}
use Prim.Native.Nat.{ℕ, zero, suc, ◌+◌, ◌≤◌, ◌<◌}
use native.Mathlib.Nat.{le_antisymm, le_refl}
use native.Mathlib.Omega.{arith}
use lib.IntN.{ℤ}
use lib.ListN.{length, take, drop, take-append-drop}
use lib.Seq.{take_all, take-take}
use Rattle.lists.specs.Choice.{pick}
use Rattle.lists.proofs.Search.{false_true, lt_or_le}
use Rattle.lines.specs.declared.State.TheVariants.{Start}
use Rattle.lines.specs.declared.Cursor.{Cursor}
use Rattle.lines.specs.Form.{Line, text, modulus_of, values_of, InRange, IsLine, Begins, Passes, BrokenAt, PastAt}
use Rattle.lines.specs.Reading.{state_after, may_end, is_wrong, step_of, terms_ended, terms_after, Found, broken, past, read, read_from, start, found_in}
use Rattle.lines.proofs.States.{states_from, accepted_line, line_accepted, begins, begun}
use Rattle.lines.proofs.Numbers.{cursor_from, over, passes_over, over_passes}
use Rattle.lines.proofs.Values.{Ends, line_fits, line_go, in_range, line_read}

-- ---- what is told

-- the bytes are a line with every number within its limit, and this is what it says
pub record ReadAs (bytes : List ℕ) (m : ℕ) (ts : List ℤ) : Type 0 where
  pub line : Line
  pub spelt : text line ≡ bytes
  pub fits : InRange line
  pub modulus : m ≡ modulus_of line
  pub terms : ts ≡ values_of line

abbrev pub Tells : List ℕ → Found → Type 0
Tells bytes (broken i) = BrokenAt bytes i
Tells bytes (past i) = PastAt bytes i
Tells bytes (read m ts) = ReadAs bytes m ts

-- ---- along the bytes

-- no number of the first j bytes is past its limit
abbrev Under : Cursor → List ℕ → ℕ → Type 0
Under c w j = (k : ℕ) → k ≤ j → over (cursor_from c (take k w)) ≡ false

record BrokenFrom (c : Cursor) (w : List ℕ) (i k : ℕ) : Type 0 where
  off : ℕ
  is : k ≡ i + off
  fine : is_wrong (states_from c.state (take off w)) ≡ false
  there : ((off < length w) × (is_wrong (states_from c.state (take (suc off) w)) ≡ true)) ⊎ ((off ≡ length w) × (may_end (states_from c.state w) ≡ false))
  under : Under c w off

record PastFrom (c : Cursor) (w : List ℕ) (i k : ℕ) : Type 0 where
  off : ℕ
  is : k ≡ i + off
  within : off < length w
  fine : is_wrong (states_from c.state (take (suc off) w)) ≡ false
  beyond : over (cursor_from c (take (suc off) w)) ≡ true
  under : Under c w off

record ReadFrom (c : Cursor) (w : List ℕ) : Type 0 where
  ends : may_end (states_from c.state w) ≡ true
  under : Under c w (length w)

abbrev From : Cursor → List ℕ → ℕ → Found → Type 0
From c w i (broken k) = BrokenFrom c w i k
From c w i (past k) = PastFrom c w i k
From c w i (read m ts) = ReadFrom c w

under_more : (c : Cursor) (b : ℕ) (w : List ℕ) (j : ℕ) → over c ≡ false → Under (step_of c b) w j → Under c (b ∷ w) (suc j)
unfolding cursor_from
under_more c b w j h u zero l = h
under_more c b w j h u (suc k) l = u k (omega arith)

under_none : (c : Cursor) (w : List ℕ) → over c ≡ false → Under c w 0
unfolding cursor_from
under_none c w h zero l = h
under_none c w h (suc k) l = absurd (omega arith)

-- one byte more in front
shift : (c : Cursor) (b : ℕ) (w : List ℕ) (i : ℕ) (r : Found) → over c ≡ false → From (step_of c b) w (suc i) r → From c (b ∷ w) i r
unfolding states_from cursor_from
shift c b w i (broken k) h f =
    record { off = suc f.off; is = omega (arith, f.is); fine = f.fine; there = go f.there; under = under_more c b w f.off h f.under }
  where
    go :
        ((f.off < length w) × (is_wrong (states_from (state_after c.state b) (take (suc f.off) w)) ≡ true)) ⊎ ((f.off ≡ length w) × (may_end (states_from (state_after c.state b) w) ≡ false))
        → ((suc f.off < length (b ∷ w)) × (is_wrong (states_from c.state (b ∷ take (suc f.off) w)) ≡ true)) ⊎ ((suc f.off ≡ length (b ∷ w)) × (may_end (states_from c.state (b ∷ w)) ≡ false))
    go (inl (l, e)) = inl (omega arith, e)
    go (inr (l, e)) = inr (ap suc l, e)
shift c b w i (past k) h f =
    record { off = suc f.off; is = omega (arith, f.is); within = omega (arith, f.within); fine = f.fine; beyond = f.beyond; under = under_more c b w f.off h f.under }
shift c b w i (read m ts) h f = record { ends = f.ends; under = under_more c b w (length w) h f.under }

from : (c : Cursor) (ts : List ℤ) (w : List ℕ) (i : ℕ) → is_wrong c.state ≡ false → over c ≡ false → From c w i (read_from c ts w i)
unfolding read_from states_from cursor_from
from c ts [] i f h = go (may_end c.state) refl
  where
    go : (t : Bool) → may_end c.state ≡ t → From c [] i (pick t (read c.modulus (terms_ended c ts)) (broken i))
    go true e = record { ends = e; under = under_none c [] h }
    go false e = record { off = 0; is = omega arith; fine = f; there = inr (refl, e); under = under_none c [] h }
from c ts (b ∷ w) i f h = go (is_wrong (state_after c.state b)) refl (over (step_of c b)) refl (from (step_of c b) (terms_after c b ts) w (suc i))
  where
    rest : Found
    rest = read_from (step_of c b) (terms_after c b ts) w (suc i)

    go :
        (t : Bool) → is_wrong (state_after c.state b) ≡ t → (o : Bool) → over (step_of c b) ≡ o
        → (is_wrong (state_after c.state b) ≡ false → over (step_of c b) ≡ false → From (step_of c b) w (suc i) rest)
        → From c (b ∷ w) i (pick t (broken i) (pick o (past i) rest))
    go true e o k ih = record { off = 0; is = omega arith; fine = f; there = inl (omega arith, e); under = under_none c (b ∷ w) h }
    go false e true k ih = record { off = 0; is = omega arith; within = omega arith; fine = e; beyond = k; under = under_none c (b ∷ w) h }
    go false e false k ih = shift c b w i rest h (ih e k)

-- ---- for a whole line

no_passes : (w : List ℕ) (i : ℕ) → Under start w i → (j : ℕ) → j ≤ i → Passes (take j w) → ⊥
no_passes w i u j l p = false_true (sym (u j l) ∙ passes_over (take j w) p)

tells_broken : (w : List ℕ) (k : ℕ) → BrokenFrom start w 0 k → BrokenAt w k
tells_broken w k f =
    let e : f.off ≡ k = omega (arith, f.is) in
    subst (BrokenAt w) e (record { before = begins (take f.off w) f.fine; there = go f.there; fitting = no_passes w f.off f.under })
  where
    go :
        ((f.off < length w) × (is_wrong (states_from Start (take (suc f.off) w)) ≡ true)) ⊎ ((f.off ≡ length w) × (may_end (states_from Start w) ≡ false))
        → ((f.off < length w) × (Begins (take (suc f.off) w) → ⊥)) ⊎ ((f.off ≡ length w) × (IsLine w → ⊥))
    go (inl (l, e)) = inl (l, λ b. false_true (sym (begun (take (suc f.off) w) b) ∙ e))
    go (inr (l, e)) = inr (l, λ b. false_true (sym e ∙ line_accepted w b))

tells_past : (w : List ℕ) (k : ℕ) → PastFrom start w 0 k → PastAt w k
tells_past w k f =
    let e : f.off ≡ k = omega (arith, f.is) in
    subst (PastAt w) e
    (record {
      within = f.within;
      begins = begins (take (suc f.off) w) f.fine;
      passes = over_passes (take (suc f.off) w) f.fine f.beyond;
      first = no_passes w f.off f.under;
    })

read_not_past : {m : ℕ} {ts : List ℤ} {i : ℕ} {A : Type 0} → read m ts ≡ past i → A
read_not_past e = let z : ◌≡◌ {A = Bool} false true = cc in false_true z

pub modulus_same : {m n : ℕ} {ts us : List ℤ} → read m ts ≡ read n us → m ≡ n
modulus_same e = cc

pub terms_same : {m n : ℕ} {ts us : List ℤ} → read m ts ≡ read n us → ts ≡ us
terms_same e = cc

tells_read : (w : List ℕ) (m : ℕ) (ts : List ℤ) → found_in w ≡ read m ts → may_end (states_from Start w) ≡ true → ReadAs w m ts
tells_read w m ts e h = go (line_fits l) refl (line_go l)
  where
    is : IsLine w
    is = accepted_line w h

    l : Line
    l = is.line

    there : found_in (text l) ≡ read m ts
    there = ap found_in is.spelt ∙ e

    go : (t : Bool) → line_fits l ≡ t → Ends t (found_in (text l)) (read (modulus_of l) (values_of l)) → ReadAs w m ts
    go true k r = record { line = l; spelt = is.spelt; fits = in_range l k; modulus = modulus_same (sym there ∙ r); terms = terms_same (sym there ∙ r) }
    go false k r = read_not_past (sym there ∙ r.is)

-- whatever the reading finds in some bytes is so
pub told : (w : List ℕ) → Tells w (found_in w)
told w = go (found_in w) refl (from start [] w 0 refl refl)
  where
    go : (r : Found) → found_in w ≡ r → From start w 0 r → Tells w r
    go (broken i) e f = tells_broken w i f
    go (past i) e f = tells_past w i f
    go (read m ts) e f = tells_read w m ts e f.ends

-- ---- and nothing else is

begins_shorter : (w : List ℕ) (i j : ℕ) → i ≤ j → Begins (take j w) → Begins (take i w)
begins_shorter w i j l b =
    let rest = drop i (take j w) in
    let joined : take i w ++ rest ≡ take j w = ap (λ (v : List ℕ). v ++ rest) (sym (take-take i j w l)) ∙ take-append-drop i (take j w) in
    record { rest = rest ++ b.rest; whole = subst IsLine (ap (λ (v : List ℕ). v ++ b.rest) (sym joined) ∙ append_assoc (take i w) rest b.rest) b.whole }

line_begins : (w : List ℕ) (i : ℕ) → i ≤ length w → IsLine w → Begins (take i w)
line_begins w i l h =
    begins_shorter w i (length w) l (record { rest = []; whole = subst IsLine (sym (append-nil (take (length w) w) ∙ take_all (length w) w (le_refl (length w)))) h })

-- a line is not broken, and where it is broken it is not broken later
broken_line : (w : List ℕ) (i : ℕ) → BrokenAt w i → IsLine w → ⊥
broken_line w i t h = go t.there
  where
    go : ((i < length w) × (Begins (take (suc i) w) → ⊥)) ⊎ ((i ≡ length w) × (IsLine w → ⊥)) → ⊥
    go (inl (l, no_line)) = no_line (line_begins w (suc i) l h)
    go (inr (l, no_line)) = no_line h

broken_on : (w : List ℕ) (i k : ℕ) → BrokenAt w i → i < k → k ≤ length w → Begins (take k w) → ⊥
broken_on w i k t l m b = go t.there
  where
    go : ((i < length w) × (Begins (take (suc i) w) → ⊥)) ⊎ ((i ≡ length w) × (IsLine w → ⊥)) → ⊥
    go (inl (h, no_line)) = no_line (begins_shorter w (suc i) k l b)
    go (inr (h, no_line)) = omega arith

broken_within : (w : List ℕ) (i : ℕ) → BrokenAt w i → i ≤ length w
broken_within w i t = go t.there
  where
    go : ((i < length w) × (Begins (take (suc i) w) → ⊥)) ⊎ ((i ≡ length w) × (IsLine w → ⊥)) → i ≤ length w
    go (inl (h, no_line)) = omega arith
    go (inr (h, no_line)) = omega arith

broken_once : (w : List ℕ) (i k : ℕ) → BrokenAt w i → BrokenAt w k → i ≡ k
broken_once w i k t u = go (lt_or_le i k) (lt_or_le k i)
  where
    go : (i < k) ⊎ (k ≤ i) → (k < i) ⊎ (i ≤ k) → i ≡ k
    go (inl l) m = absurd (broken_on w i k t l (broken_within w k u) u.before)
    go (inr l) (inl m) = absurd (broken_on w k i u m (broken_within w i t) t.before)
    go (inr l) (inr m) = le_antisymm m l

broken_past : (w : List ℕ) (i k : ℕ) → BrokenAt w i → PastAt w k → ⊥
broken_past w i k t u = go (lt_or_le k i)
  where
    go : (k < i) ⊎ (i ≤ k) → ⊥
    go (inl l) = t.fitting (suc k) l u.passes
    go (inr l) = broken_on w i (suc k) t (omega arith) u.within u.begins

past_once : (w : List ℕ) (i k : ℕ) → PastAt w i → PastAt w k → i ≡ k
past_once w i k t u = go (lt_or_le i k) (lt_or_le k i)
  where
    go : (i < k) ⊎ (k ≤ i) → (k < i) ⊎ (i ≤ k) → i ≡ k
    go (inl l) m = absurd (u.first (suc i) l t.passes)
    go (inr l) (inl m) = absurd (t.first (suc k) m u.passes)
    go (inr l) (inr m) = le_antisymm m l

read_past : (w : List ℕ) (m : ℕ) (ts : List ℤ) (i : ℕ) → found_in w ≡ read m ts → PastAt w i → ⊥
read_past w m ts i e t =
    no_passes w (length w) (subst (From start w 0) e (from start [] w 0 refl refl)).under (suc i) t.within t.passes

-- what is so of some bytes is what the reading finds in them
pub exactly : (w : List ℕ) (r : Found) → Tells w r → found_in w ≡ r
exactly w (read m ts) t = ap found_in (sym t.spelt) ∙ line_read t.line t.fits ∙ ap₂ read (sym t.modulus) (sym t.terms)
exactly w (broken i) t = go (found_in w) refl (told w)
  where
    go : (r : Found) → found_in w ≡ r → Tells w r → found_in w ≡ broken i
    go (broken k) e f = e ∙ ap broken (broken_once w k i f t)
    go (past k) e f = absurd (broken_past w i k t f)
    go (read m ts) e f = absurd (broken_line w i t (record { line = f.line; spelt = f.spelt }))
exactly w (past i) t = go (found_in w) refl (told w)
  where
    go : (r : Found) → found_in w ≡ r → Tells w r → found_in w ≡ past i
    go (broken k) e f = absurd (broken_past w k i f t)
    go (past k) e f = e ∙ ap past (past_once w k i f t)
    go (read m ts) e f = absurd (read_past w m ts i e t)
