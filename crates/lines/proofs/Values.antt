-- A line of the form is read to what it says, or a number of it passes its limit.
-- Assumes nothing.
use mathlib.Core.Path.{◌≡◌, refl, sym, ap, ap₂, ◌∙◌, subst}
use mathlib.Core.Bool.{Bool, true, false}
use mathlib.Core.Logic.{◌⊎◌, inl, inr}
use mathlib.Core.List.{List, [], ◌∷◌, ◌++◌, append_assoc, append-nil, map}
use Prim.Native.Nat.{ℕ, zero, suc, ◌+◌, ◌*◌, ◌-◌, ◌≤◌, ◌<◌}
use native.Mathlib.Omega.{arith}
use lib.Dec.{leb}
use lib.IntN.{ℤ}
use borrow.Author.Tests.{leb-true, le-ltb, lt-ltb, le-leb, lt-leb}
use Rattle.lists.specs.Choice.{both}
use Rattle.lists.specs.Search.{every}
use Rattle.lists.proofs.Choice.{picked, passed}
use Rattle.lists.proofs.Search.{lt_or_le, both_left, both_right, both_true, every_head, every_tail}
use Rattle.lines.specs.declared.State.{State}
use Rattle.lines.specs.declared.State.TheVariants.{BeforeModulus, InModulus, BeforeTerms, AfterMinus, InTerm, AfterTerm, AfterComma}
use Rattle.lines.specs.declared.Cursor.{Cursor}
use Rattle.lines.specs.Form.{is_digit, Number, number_text, number_value, signed, limit, blanks, Term, minus_text, term_text, term_value, Body, none, some, terms_text, body_text, terms_of, Line, text, modulus_of, values_of, term_fits, InRange}
use Rattle.lines.specs.Reading.{state_after, is_wrong, in_term, step_of, terms_after, Found, past, read, read_from, found_in}
use Rattle.lines.proofs.States.{digit_class, digit_no_colon, keep_modulus, keep_term, Opens, body_opens, comma_opens}
use Rattle.lines.proofs.Numbers.{behind, behind_zero, behind_le, over}

abbrev cur : State → Bool → ℕ → ℕ → Cursor
cur p s v m = record { state = p; minus = s; size = v; modulus = m }

-- the reading r comes to the cursor c with the terms ts and the bytes w left
record To (r : Found) (c : Cursor) (ts : List ℤ) (w : List ℕ) : Type 0 where
  at : ℕ
  is : r ≡ read_from c ts w at

-- it ends with a number past its limit
pub record Past (r : Found) : Type 0 where
  pub at : ℕ
  pub is : r ≡ past at

abbrev Go : Bool → Found → Cursor → List ℤ → List ℕ → Type 0
Go true r c ts w = To r c ts w
Go false r c ts w = Past r

-- the same, where it goes on to its end
abbrev pub Ends : Bool → Found → Found → Type 0
Ends true r x = r ≡ x
Ends false r x = Past r

-- ---- one byte

read_step : (c : Cursor) (ts : List ℤ) (b : ℕ) (w : List ℕ) (i : ℕ) → is_wrong (state_after c.state b) ≡ false → over (step_of c b) ≡ false
    → read_from c ts (b ∷ w) i ≡ read_from (step_of c b) (terms_after c b ts) w (suc i)
unfolding read_from
read_step c ts b w i h k = rw (h, k)

read_past : (c : Cursor) (ts : List ℤ) (b : ℕ) (w : List ℕ) (i : ℕ) → is_wrong (state_after c.state b) ≡ false → over (step_of c b) ≡ true
    → read_from c ts (b ∷ w) i ≡ past i
unfolding read_from
read_past c ts b w i h k = rw (h, k)

step_digit : (p q : State) (s : Bool) (v m d : ℕ) → is_digit d ≡ true → state_after p d ≡ q → step_of (cur p s v m) d ≡ cur q s (10 * v + (d - 48)) m
step_digit p q s v m d h k = rw (k, h, digit_no_colon d h)

-- a digit
digit_go : (p q : State) (s : Bool) (v m : ℕ) (ts : List ℤ) (d : ℕ) (w : List ℕ) (i : ℕ) → is_digit d ≡ true → state_after p d ≡ q → is_wrong q ≡ false → 10 * v + (d - 48) ≤ limit s
    → read_from (cur p s v m) ts (d ∷ w) i ≡ read_from (cur q s (10 * v + (d - 48)) m) ts w (suc i)
digit_go p q s v m ts d w i h k f l =
    read_step (cur p s v m) ts d w i (ap is_wrong k ∙ f) (ap over (step_digit p q s v m d h k) ∙ le-ltb _ _ l)
    ∙ ap₂ (λ (c : Cursor) (us : List ℤ). read_from c us w (suc i)) (step_digit p q s v m d h k) (picked ts _ h)

-- ---- numbers

module _ (p : State) (s : Bool) (m : ℕ) (ts : List ℤ) (w : List ℕ) (keep : (b : ℕ) → is_digit b ≡ true → state_after p b ≡ p) (fine : is_wrong p ≡ false) where
  digits_go : (v : ℕ) (ds : List ℕ) (i : ℕ) → v ≤ limit s → every is_digit ds ≡ true
      → Go (leb (behind v ds) (limit s)) (read_from (cur p s v m) ts (ds ++ w) i) (cur p s (behind v ds) m) ts w
  unfolding behind
  digits_go v [] i l h = rw (le-leb _ _ l) (record { at = i; is = refl })
  digits_go v (d ∷ ds) i l h = go (lt_or_le (limit s) (10 * v + (d - 48))) (digits_go (10 * v + (d - 48)) ds (suc i))
    where
      e : is_digit d ≡ true
      e = every_head is_digit d ds h

      go :
          (limit s < 10 * v + (d - 48)) ⊎ (10 * v + (d - 48) ≤ limit s)
          → (10 * v + (d - 48) ≤ limit s → every is_digit ds ≡ true
          → Go (leb (behind (10 * v + (d - 48)) ds) (limit s)) (read_from (cur p s (10 * v + (d - 48)) m) ts (ds ++ w) (suc i)) (cur p s (behind (10 * v + (d - 48)) ds) m) ts w)
          → Go (leb (behind (10 * v + (d - 48)) ds) (limit s)) (read_from (cur p s v m) ts (d ∷ ds ++ w) i) (cur p s (behind (10 * v + (d - 48)) ds) m) ts w
      go (inl k) ih =
          rw (lt-leb (behind (10 * v + (d - 48)) ds) (limit s) (omega (arith, behind_le (10 * v + (d - 48)) ds)))
          (record { at = i; is = read_past (cur p s v m) ts d (ds ++ w) i (ap is_wrong (keep d e) ∙ fine) (ap over (step_digit p p s v m d e (keep d e)) ∙ lt-ltb _ _ k) })
      go (inr k) ih =
          rw (digit_go p p s v m ts d (ds ++ w) i e (keep d e) fine k) (ih k (every_tail is_digit d ds h))

  -- from a state whose digits lead there
  number_go : (q : State) (n : Number) (i : ℕ) → ((b : ℕ) → is_digit b ≡ true → state_after q b ≡ p)
      → Go (leb (number_value n) (limit s)) (read_from (cur q s 0 m) ts (number_text n ++ w) i) (cur p s (number_value n) m) ts w
  unfolding behind
  number_go q n i to =
      rw (digit_go q p s 0 m ts n.first (n.rest ++ w) i d (to n.first d) fine small, ← behind_zero (number_text n))
      (digits_go (10 * 0 + (n.first - 48)) n.rest (suc i) small (every_tail is_digit n.first n.rest n.digits))
    where
      d : is_digit n.first ≡ true
      d = every_head is_digit n.first n.rest n.digits

      least : (t : Bool) → limit false ≤ limit t
      least true = omega arith
      least false = omega arith

      small : 10 * 0 + (n.first - 48) ≤ limit s
      small = omega (arith, leb-true n.first 57 (both_right (leb 48 n.first) (leb n.first 57) d), least s)

-- ---- blanks

blanks_go : (p : State) (m : ℕ) (ts : List ℤ) (n : ℕ) (w : List ℕ) (i : ℕ) → state_after p 32 ≡ p → is_wrong p ≡ false → in_term p ≡ false
    → To (read_from (cur p false 0 m) ts (blanks n ++ w) i) (cur p false 0 m) ts w
blanks_go p m ts zero w i keep fine out = record { at = i; is = refl }
blanks_go p m ts (suc n) w i keep fine out =
    let r = blanks_go p m ts n w (suc i) keep fine out in
    record {
      at = r.at;
      is = read_step (cur p false 0 m) ts 32 (blanks n ++ w) i (ap is_wrong keep ∙ fine) refl
          ∙ ap₂ (λ (q : State) (us : List ℤ). read_from (cur q false 0 m) us (blanks n ++ w) (suc i)) keep (passed _ ts out)
          ∙ r.is;
    }

-- ---- terms

-- a state before a term
record Before (p : State) : Type 0 where
  opens : Opens p
  fine : is_wrong p ≡ false
  out : in_term p ≡ false

module _ (p : State) (o : Before p) (m : ℕ) (ts : List ℤ) (w : List ℕ) where
  signed_go : (s : Bool) (n : Number) (i : ℕ)
      → Go (leb (number_value n) (limit s)) (read_from (cur p false 0 m) ts (minus_text s ++ (number_text n ++ w)) i) (cur InTerm s (number_value n) m) ts w
  signed_go false n i = number_go InTerm false m ts w keep_term refl p n i o.opens.digit
  signed_go true n i =
      let e : read_from (cur p false 0 m) ts (45 ∷ (number_text n ++ w)) i ≡ read_from (cur AfterMinus true 0 m) ts (number_text n ++ w) (suc i) =
      read_step (cur p false 0 m) ts 45 (number_text n ++ w) i (ap is_wrong o.opens.minus) refl
      ∙ ap₂ (λ (q : State) (us : List ℤ). read_from (cur q true 0 m) us (number_text n ++ w) (suc i)) o.opens.minus (passed _ ts o.out) in
      rw e (number_go InTerm true m ts w keep_term refl AfterMinus n (suc i) (λ b h. rw (digit_class b h)))

-- its own text, up to the blanks behind it
term_go : (p : State) (o : Before p) (m : ℕ) (ts : List ℤ) (w : List ℕ) (t : Term) (i : ℕ)
    → Go (term_fits t) (read_from (cur p false 0 m) ts (term_text t ++ w) i) (cur InTerm t.minus (number_value t.number) m) ts (blanks t.after ++ w)
term_go p o m ts w t i =
    let rest = blanks t.after ++ w in
    let r = blanks_go p m ts t.before (minus_text t.minus ++ (number_text t.number ++ rest)) i o.opens.blank o.fine o.out in
    let e : read_from (cur p false 0 m) ts (term_text t ++ w) i ≡ read_from (cur p false 0 m) ts (minus_text t.minus ++ (number_text t.number ++ rest)) r.at =
    ap (λ (v : List ℕ). read_from (cur p false 0 m) ts v i)
    (append_assoc (blanks t.before) (minus_text t.minus ++ (number_text t.number ++ blanks t.after)) w
    ∙ ap (λ (v : List ℕ). blanks t.before ++ v) (append_assoc (minus_text t.minus) (number_text t.number ++ blanks t.after) w
    ∙ ap (λ (v : List ℕ). minus_text t.minus ++ v) (append_assoc (number_text t.number) (blanks t.after) w)))
    ∙ r.is in
    rw e (signed_go p o m ts rest t.minus t.number r.at)

-- the blanks behind a term and a comma
comma_go : (s : Bool) (v m : ℕ) (ts : List ℤ) (a : ℕ) (w : List ℕ) (i : ℕ)
    → To (read_from (cur InTerm s v m) ts (blanks a ++ 44 ∷ w) i) (cur AfterComma false 0 m) (ts ++ signed s v ∷ []) w
unfolding read_from
comma_go s v m ts zero w i = record { at = suc i; is = refl }
comma_go s v m ts (suc a) w i =
    let r = blanks_go AfterTerm m (ts ++ signed s v ∷ []) a (44 ∷ w) (suc i) refl refl refl in
    record { at = suc r.at; is = r.is }

-- the blanks behind the last term
end_go : (s : Bool) (v m : ℕ) (ts : List ℤ) (a i : ℕ) → read_from (cur InTerm s v m) ts (blanks a ++ []) i ≡ read m (ts ++ signed s v ∷ [])
unfolding read_from
end_go s v m ts zero i = refl
end_go s v m ts (suc a) i = (blanks_go AfterTerm m (ts ++ signed s v ∷ []) a [] (suc i) refl refl refl).is

comma_before : Before AfterComma
comma_before = record { opens = comma_opens; fine = refl; out = refl }

terms_go : (us : List Term) (last : Term) (p : State) (o : Before p) (m : ℕ) (ts : List ℤ) (i : ℕ)
    → Ends (every term_fits (us ++ last ∷ [])) (read_from (cur p false 0 m) ts (terms_text us last) i) (read m (ts ++ map term_value (us ++ last ∷ [])))
unfolding terms_text every
terms_go [] last p o m ts i = go (term_fits last) (term_go p o m ts [] last i)
  where
    go :
        (f : Bool) → Go f (read_from (cur p false 0 m) ts (term_text last ++ []) i) (cur InTerm last.minus (number_value last.number) m) ts (blanks last.after ++ [])
        → Ends (elim f as (λ z. Bool) [ true ↦ true | false ↦ false ]) (read_from (cur p false 0 m) ts (term_text last) i) (read m (ts ++ term_value last ∷ []))
    go true r =
        ap (λ (v : List ℕ). read_from (cur p false 0 m) ts v i) (sym (append-nil (term_text last)))
        ∙ r.is ∙ end_go last.minus (number_value last.number) m ts last.after r.at
    go false r = record { at = r.at; is = ap (λ (v : List ℕ). read_from (cur p false 0 m) ts v i) (sym (append-nil (term_text last))) ∙ r.is }
terms_go (t ∷ us) last p o m ts i = go (term_fits t) (term_go p o m ts (44 ∷ terms_text us last) t i) (λ j. terms_go us last AfterComma comma_before m (ts ++ term_value t ∷ []) j)
  where
    all : List Term
    all = us ++ last ∷ []

    from : Found
    from = read_from (cur p false 0 m) ts (term_text t ++ 44 ∷ terms_text us last) i

    go :
        (f : Bool) → Go f from (cur InTerm t.minus (number_value t.number) m) ts (blanks t.after ++ 44 ∷ terms_text us last)
        → ((j : ℕ) → Ends (every term_fits all) (read_from (cur AfterComma false 0 m) (ts ++ term_value t ∷ []) (terms_text us last) j) (read m ((ts ++ term_value t ∷ []) ++ map term_value all)))
        → Ends (elim f as (λ z. Bool) [ true ↦ every term_fits all | false ↦ false ]) from (read m (ts ++ term_value t ∷ map term_value all))
    go false r ih = r
    go true r ih =
        let k = comma_go t.minus (number_value t.number) m ts t.after (terms_text us last) r.at in
        rw (r.is ∙ k.is, ← append_assoc ts (term_value t ∷ []) (map term_value all)) (ih k.at)

body_go : (b : Body) (m i : ℕ) → Ends (every term_fits (terms_of b)) (read_from (cur BeforeTerms false 0 m) [] (body_text b) i) (read m (map term_value (terms_of b)))
unfolding every read_from
body_go (none n) m i =
    let r = blanks_go BeforeTerms m [] n [] i refl refl refl in
    ap (λ (v : List ℕ). read_from (cur BeforeTerms false 0 m) [] v i) (sym (append-nil (blanks n))) ∙ r.is
body_go (some us last) m i = terms_go us last BeforeTerms (record { opens = body_opens; fine = refl; out = refl }) m [] i

-- ---- lines

abbrev pub line_fits : Line → Bool
line_fits l = both (leb (modulus_of l) (limit false)) (every term_fits (terms_of l.body))

pub line_go : (l : Line) → Ends (line_fits l) (found_in (text l)) (read (modulus_of l) (values_of l))
unfolding read_from
line_go l =
    go (leb (modulus_of l) (limit false)) (number_go InModulus false 0 [] (58 ∷ body_text l.body) keep_modulus refl BeforeModulus l.modulus 4 (λ b h. rw (digit_class b h)))
  where
    go :
        (f : Bool) → Go f (read_from (cur BeforeModulus false 0 0) [] (number_text l.modulus ++ 58 ∷ body_text l.body) 4) (cur InModulus false (modulus_of l) 0) [] (58 ∷ body_text l.body)
        → Ends (both f (every term_fits (terms_of l.body))) (read_from (cur BeforeModulus false 0 0) [] (number_text l.modulus ++ 58 ∷ body_text l.body) 4) (read (modulus_of l) (values_of l))
    go true r = rw r.is (body_go l.body (modulus_of l) (suc r.at))
    go false r = r

pub in_range : (l : Line) → line_fits l ≡ true → InRange l
in_range l h =
    record {
      modulus = leb-true (modulus_of l) (limit false) (both_left (leb (modulus_of l) (limit false)) (every term_fits (terms_of l.body)) h);
      terms = both_right (leb (modulus_of l) (limit false)) (every term_fits (terms_of l.body)) h;
    }

pub range_fits : (l : Line) → InRange l → line_fits l ≡ true
range_fits l h = both_true (le-leb _ _ h.modulus) h.terms

-- a line with every number within its limit is read to what it says
pub line_read : (l : Line) → InRange l → found_in (text l) ≡ read (modulus_of l) (values_of l)
line_read l h = subst (λ (t : Bool). Ends t (found_in (text l)) (read (modulus_of l) (values_of l))) (range_fits l h) (line_go l)
