-- What the loop over the reads knows: the bytes of the line so far have no line feed, the buffer holds them, and each read before the
-- last gave some.
-- Assumes nothing.
use mathlib.Core.Path.{◌≡◌, refl, sym, ap, ap₂, ◌∙◌}
use mathlib.Core.Bool.{Bool, true, false, not}
use mathlib.Core.Logic.{◌⊎◌, inl, inr}
use mathlib.Core.List.{List, [], ◌++◌, append-nil, append_assoc}
use Prim.Native.Nat.{ℕ, ◌+◌, ◌-◌, ◌≤◌, ◌<◌}
use native.Mathlib.Omega.{arith}
use lib.Dec.{eqb}
use lib.ListN.{length, take, length-append, get_or-append}
use lib.Seq.{get_or-append-add, get_or-take}
use Rattle.lists.specs.Choice.{pick}
use Rattle.lists.specs.Table.{at}
use Rattle.lists.proofs.Search.{false_true, lt_or_le, first_before, first_none, none_first}
use Rattle.input.specs.declared.Source.{Source}
use Rattle.input.specs.declared.Taken.{Taken}
use Rattle.input.specs.declared.Taken.TheVariants.{TooLong}
use Rattle.input.specs.Marks.{longest, mark_in, rest_of, piece_of, left_of, is_marked, is_known}
use Rattle.input.specs.Held.{Holds, taken_of, Fed, Told, CutOff}
use Rattle.input.proofs.Holding.{holds_none}
use Rattle.input.proofs.Pieces.{mark_size, Fresh, fresh_rest, fresh_grows, unmarked_left}
use Rattle.input.proofs.Replies.{told_many}

-- ---- bytes without a line feed

none_at : (xs : List ℕ) → mark_in xs ≡ length xs → (i : ℕ) → i < length xs → eqb (at xs i) 10 ≡ false
unfolding mark_in
none_at xs h = first_none (length xs) (λ i. eqb (at xs i) 10) (omega (arith, h))

unbroken : (xs : List ℕ) → ((i : ℕ) → i < length xs → eqb (at xs i) 10 ≡ false) → mark_in xs ≡ length xs
unfolding mark_in
unbroken xs h = none_first (length xs) (λ i. eqb (at xs i) 10) h

before_mark : (xs : List ℕ) (i : ℕ) → i < mark_in xs → eqb (at xs i) 10 ≡ false
unfolding mark_in
before_mark xs = first_before (length xs) (λ i. eqb (at xs i) 10)

piece_unbroken : (xs : List ℕ) → mark_in (piece_of xs) ≡ length (piece_of xs)
piece_unbroken xs = unbroken (piece_of xs) each
  where
    each : (i : ℕ) → i < length (piece_of xs) → eqb (at (piece_of xs) i) 10 ≡ false
    each i h =
        let before : i < mark_in xs = omega (arith, mark_size xs (mark_in xs) refl) in
        ap (λ (b : ℕ). eqb b 10) (get_or-take (mark_in xs) xs i 0 before) ∙ before_mark xs i before

both_unbroken : (xs ys : List ℕ) → mark_in xs ≡ length xs → mark_in ys ≡ length ys → mark_in (xs ++ ys) ≡ length (xs ++ ys)
both_unbroken xs ys h k = unbroken (xs ++ ys) (λ i l. go i l (lt_or_le i (length xs)))
  where
    go : (i : ℕ) → i < length (xs ++ ys) → (i < length xs) ⊎ (length xs ≤ i) → eqb (at (xs ++ ys) i) 10 ≡ false
    go i l (inl m) = ap (λ (b : ℕ). eqb b 10) (get_or-append xs ys 0 i m) ∙ none_at xs h i m
    go i l (inr m) =
        let place : i ≡ length xs + (i - length xs) = omega arith in
        let inside : i - length xs < length ys = omega (arith, length-append xs ys) in
        ap (λ (j : ℕ). eqb (at (xs ++ ys) j) 10) place
        ∙ ap (λ (b : ℕ). eqb b 10) (get_or-append-add xs ys (i - length xs) 0) ∙ none_at ys k (i - length xs) inside

-- ---- the line so far

module _ (start : ℕ) (s₀ : Source) (chunk₀ : List ℕ) where
  -- A read was needed. Each read before the last gave the line a byte or more.
  pub record Reading (s : Source) (chunk xs : List ℕ) (turns : ℕ) : Type 0 where
    pub unknown : is_known s₀ chunk₀ ≡ false
    pub fresh : Fresh s chunk
    pub more : List ℕ
    pub begins : xs ≡ piece_of (rest_of s₀ chunk₀) ++ more
    pub reads : start ≤ turns + length xs + 1

  -- no turn has passed, or a read was needed
  abbrev Begun : Source → List ℕ → List ℕ → ℕ → Type 0
  Begun s chunk xs turns = ((s ≡ s₀) × (chunk ≡ chunk₀) × (xs ≡ []) × (0 < turns) × (start ≤ turns)) ⊎ Reading s chunk xs turns

  pub record Kept (s : Source) (chunk buffer : List ℕ) (n turns : ℕ) : Type 0 where
    pub xs : List ℕ
    pub unbroken : mark_in xs ≡ length xs
    pub holds : Holds buffer n xs
    pub begun : Begun s chunk xs turns

  pub kept_none : (buffer : List ℕ) (turns : ℕ) → 0 < turns → start ≤ turns → Kept s₀ chunk₀ buffer 0 turns
  kept_none buffer turns h k =
      record { xs = []; unbroken = unbroken [] (λ i l. absurd (omega arith)); holds = holds_none buffer; begun = inl (refl, refl, refl, h, k) }

  -- the turns have run out: the line is too long
  module _ {s : Source} {chunk buffer : List ℕ} {n turns : ℕ} (k : Kept s chunk buffer n turns) (h : turns ≤ 0) where
    reading : Begun s chunk k.xs turns → Reading s chunk k.xs turns
    reading (inl b) = absurd (omega (arith, b.3))
    reading (inr r) = r

    pub spent_told : longest + 2 < start → Told s₀ chunk₀ TooLong s chunk buffer
    spent_told l =
        let r : Reading s chunk k.xs turns = reading k.begun in
        let long : longest + 1 < length k.xs = omega (arith, r.reads) in
        record {
          xs = k.xs;
          unbroken = k.unbroken;
          more = r.more;
          begins = r.begins;
          n = n;
          holds = k.holds;
          marked = false;
          told = λ b. told_many k.xs (omega (arith, long));
          known = λ e. false_true (sym r.unknown ∙ e);
          read = λ e f. false_true f;
          whole = inr (inr long);
        }

    pub spent_left : {xs : List ℕ} → is_known s₀ chunk₀ ≡ true → xs ≡ left_of (rest_of s₀ chunk₀)
    spent_left e = false_true (sym (reading k.begun).unknown ∙ e)

-- a turn: a piece is taken
module _
    {start : ℕ} {s₀ : Source} {chunk₀ : List ℕ} {s : Source} {chunk buffer buffer' : List ℕ} {n n' turns : ℕ} (marked : Bool)
    (k : Kept start s₀ chunk₀ s chunk buffer n turns)
    (holds : (xs : List ℕ) → Holds buffer n xs → Holds buffer' n' (xs ++ piece_of (rest_of s chunk))) (ends : marked ≡ is_marked (rest_of s chunk))
  where
    abbrev now : List ℕ
    now = k.xs ++ piece_of (rest_of s chunk)

    abbrev later : Begun start s₀ chunk₀ s chunk k.xs turns → List ℕ
    later (inl b) = []
    later (inr r) = r.more ++ piece_of (rest_of s chunk)

    begins_still : (b : Begun start s₀ chunk₀ s chunk k.xs turns) → now ≡ piece_of (rest_of s₀ chunk₀) ++ later b
    begins_still (inl b) =
        ap (λ (xs : List ℕ). xs ++ piece_of (rest_of s chunk)) b.2 ∙ ap₂ (λ (t : Source) (c : List ℕ). piece_of (rest_of t c)) b.0 b.1
        ∙ sym (append-nil (piece_of (rest_of s₀ chunk₀)))
    begins_still (inr r) =
        ap (λ (xs : List ℕ). xs ++ piece_of (rest_of s chunk)) r.begins
        ∙ append_assoc (piece_of (rest_of s₀ chunk₀)) r.more (piece_of (rest_of s chunk))

    same_known : (b : Begun start s₀ chunk₀ s chunk k.xs turns) → is_known s₀ chunk₀ ≡ true → (later b ≡ []) × (marked ≡ is_marked (rest_of s₀ chunk₀))
    same_known (inl b) e = (refl, ends ∙ ap₂ (λ (t : Source) (c : List ℕ). is_marked (rest_of t c)) b.0 b.1)
    same_known (inr r) e = false_true (sym r.unknown ∙ e)

    all_unbroken : mark_in now ≡ length now
    all_unbroken = both_unbroken k.xs (piece_of (rest_of s chunk)) k.unbroken (piece_unbroken (rest_of s chunk))

    -- the line has ended, or a read is needed
    unknown_yet : (s' : Source) → s'.open ≡ s.open → marked ≡ false → s'.open ≡ true → Begun start s₀ chunk₀ s chunk k.xs turns → is_known s₀ chunk₀ ≡ false
    unknown_yet s' o e f (inl b) =
        ap₂ (λ (t : Source) (c : List ℕ). is_known t c) (sym b.0) (sym b.1)
        ∙ ap₂ (λ (m p : Bool). pick m true (not p)) (sym ends ∙ e) (sym o) ∙ ap not f
    unknown_yet s' o e f (inr r) = r.unknown

    module _ (s' : Source) (l : rest_of s' chunk ≡ left_of (rest_of s chunk)) where
      fed : (b : Begun start s₀ chunk₀ s chunk k.xs turns) → is_known s₀ chunk₀ ≡ false → marked ≡ true → Fed chunk (later b) (rest_of s' chunk)
      fed (inl b) e m =
          false_true
          (sym e ∙ ap₂ (λ (t : Source) (c : List ℕ). is_known t c) (sym b.0) (sym b.1) ∙ ap (λ (t : Bool). pick t true (not s.open)) (sym ends ∙ m))
      fed (inr r) e m =
          let rest : rest_of s chunk ≡ take s.end chunk = fresh_rest s chunk r.fresh in
          record {
            n = s.end;
            fed = sym (ap is_marked rest) ∙ sym ends ∙ m;
            early = r.more;
            ends = ap (λ (xs : List ℕ). r.more ++ piece_of xs) rest;
            next = l ∙ ap left_of rest;
          }

      pub turn_told :
          {r : Taken} → ((xs : List ℕ) → longest < length buffer' → Holds buffer' n' xs → r ≡ taken_of xs marked)
          → (marked ≡ true) ⊎ ((marked ≡ false) × (s'.open ≡ false)) → Told s₀ chunk₀ r s' chunk buffer'
      turn_told f w =
          record {
            xs = now;
            unbroken = all_unbroken;
            more = later k.begun;
            begins = begins_still k.begun;
            n = n';
            holds = holds k.xs k.holds;
            marked = marked;
            told = λ h. f now h (holds k.xs k.holds);
            known = same_known k.begun;
            read = fed k.begun;
            whole = go w;
          }
        where
          go : (marked ≡ true) ⊎ ((marked ≡ false) × (s'.open ≡ false)) → (marked ≡ true) ⊎ (((s'.open ≡ false) × (rest_of s' chunk ≡ [])) ⊎ (longest + 1 < length now))
          go (inl m) = inl m
          go (inr c) = inr (inl (c.1, l ∙ unmarked_left (rest_of s chunk) (sym ends ∙ c.0)))

      pub turn_left : is_known s₀ chunk₀ ≡ true → rest_of s' chunk ≡ left_of (rest_of s₀ chunk₀)
      turn_left e = go k.begun
        where
          go : Begun start s₀ chunk₀ s chunk k.xs turns → rest_of s' chunk ≡ left_of (rest_of s₀ chunk₀)
          go (inl b) = l ∙ ap₂ (λ (t : Source) (c : List ℕ). left_of (rest_of t c)) b.0 b.1
          go (inr r) = false_true (sym r.unknown ∙ e)

    -- the read that is needed fails
    pub turn_failed : (s' : Source) → s'.open ≡ s.open → marked ≡ false → s'.open ≡ true → CutOff s₀ chunk₀ buffer'
    turn_failed s' o e f =
        record {
          unknown = unknown_yet s' o e f k.begun;
          xs = now;
          unbroken = all_unbroken;
          more = later k.begun;
          begins = begins_still k.begun;
          n = n';
          holds = holds k.xs k.holds;
        }

    -- a read is needed
    pub turn_again :
        {t : Source} {c : List ℕ} {left : ℕ} (s' : Source) → s'.open ≡ s.open → marked ≡ false → s'.open ≡ true → Fresh t c → turns ≤ left + 1
        → Kept start s₀ chunk₀ t c buffer' n' left
    turn_again {t} {c} {left} s' o e f g h =
        record {
          xs = now;
          unbroken = all_unbroken;
          holds = holds k.xs k.holds;
          begun = inr record {
            unknown = unknown_yet s' o e f k.begun;
            fresh = g;
            more = later k.begun;
            begins = begins_still k.begun;
            reads = go k.begun;
          };
        }
      where
        size : length now ≡ length k.xs + length (piece_of (rest_of s chunk))
        size = length-append k.xs (piece_of (rest_of s chunk))

        go : Begun start s₀ chunk₀ s chunk k.xs turns → start ≤ left + length now + 1
        go (inl b) = omega (arith, b.4, h)
        go (inr r) =
            let grows : 0 < length (piece_of (rest_of s chunk)) = fresh_grows s chunk r.fresh (sym o ∙ f) (sym ends ∙ e) in
            omega (arith, r.reads, h, size, grows)
