-- The states of a reading against the form: bytes lead from a state to one where a line may end exactly if they complete a line from there, and
-- every state but the wrong one can be completed.
-- Assumes nothing.
use mathlib.Core.Path.{◌≡◌, refl, sym, ap, ◌∙◌, subst}
use mathlib.Core.Bool.{Bool, true, false}
use mathlib.Core.List.{List, [], ◌∷◌, ◌++◌, append_assoc, append-nil}
use Prim.Native.Nat.{ℕ, zero, suc}
use lib.Dec.{eqb, leb}
use borrow.Author.Tests.{eqb-true, ne_eqb}
use Rattle.lists.specs.Choice.{pick}
use Rattle.lists.specs.Search.{every}
use Rattle.lists.proofs.Search.{false_true, both_left, both_right, every_cons, every_head, every_tail}
use Rattle.lines.specs.declared.Class.{Class}
use Rattle.lines.specs.declared.Class.TheVariants.{Digit, Comma, Minus, Blank, Other}
use Rattle.lines.specs.declared.State.{State}
use Rattle.lines.specs.declared.State.TheVariants.{Start, AfterM, AfterO, AfterD, BeforeModulus, InModulus, BeforeTerms, AfterMinus, InTerm, AfterTerm, AfterComma, Wrong}
use Rattle.lines.specs.Form.{is_digit, Number, number_text, blanks, Term, minus_text, term_text, Body, none, some, terms_text, body_text, Line, text, IsLine, Begins}
use Rattle.lines.specs.Reading.{class_of, goes, state_after, may_end, is_wrong}

-- ---- classes

-- what the class of a byte says of it
abbrev Seen : ℕ → Class → Type 0
Seen b Digit = is_digit b ≡ true
Seen b Comma = b ≡ 44
Seen b Minus = b ≡ 45
Seen b Blank = b ≡ 32
Seen b Other = is_digit b ≡ false

seen : (b : ℕ) → Seen b (class_of b)
seen b = go (leb 48 b) (leb b 57) (eqb b 44) (eqb b 45) (eqb b 32) refl refl refl refl refl
  where
    go :
        (l h c m s : Bool) → leb 48 b ≡ l → leb b 57 ≡ h → eqb b 44 ≡ c → eqb b 45 ≡ m → eqb b 32 ≡ s
        → Seen b (pick l (pick h Digit Other) (pick c Comma (pick m Minus (pick s Blank Other))))
    go true true c m s l' h' c' m' s' = rw (l', h')
    go true false c m s l' h' c' m' s' = rw (l', h')
    go false h true m s l' h' c' m' s' = eqb-true _ _ c'
    go false h false true s l' h' c' m' s' = eqb-true _ _ m'
    go false h false false true l' h' c' m' s' = eqb-true _ _ s'
    go false h false false false l' h' c' m' s' = rw l'

pub digit_class : (b : ℕ) → is_digit b ≡ true → class_of b ≡ Digit
digit_class b h = rw (both_left (leb 48 b) (leb b 57) h, both_right (leb 48 b) (leb b 57) h)

-- ---- along bytes

unfoldable pub states_from : State → List ℕ → State
states_from p [] = p
states_from p (b ∷ bs) = states_from (state_after p b) bs

pub states_append : (p : State) (u v : List ℕ) → states_from p (u ++ v) ≡ states_from (states_from p u) v
unfolding states_from
states_append p [] v = refl
states_append p (b ∷ u) v = states_append (state_after p b) u v

pub stays_wrong : (bs : List ℕ) → states_from Wrong bs ≡ Wrong
unfolding states_from
stays_wrong [] = refl
stays_wrong (b ∷ bs) = stays_wrong bs

-- ---- bytes that lead to an end complete a line

-- what follows the digits and blanks of a term
data Tail : Type 0 where
  end : Tail
  comma : List Term → Term → Tail

abbrev tail_text : Tail → List ℕ
tail_text end = []
tail_text (comma ts last) = 44 ∷ terms_text ts last

record AfterTermRest (w : List ℕ) : Type 0 where
  after : ℕ
  tail : Tail
  is : blanks after ++ tail_text tail ≡ w

record InTermRest (w : List ℕ) : Type 0 where
  more : List ℕ
  digits : every is_digit more ≡ true
  after : ℕ
  tail : Tail
  is : more ++ (blanks after ++ tail_text tail) ≡ w

record MinusRest (w : List ℕ) : Type 0 where
  number : Number
  after : ℕ
  tail : Tail
  is : number_text number ++ (blanks after ++ tail_text tail) ≡ w

record CommaRest (w : List ℕ) : Type 0 where
  terms : List Term
  last : Term
  is : terms_text terms last ≡ w

record BodyRest (w : List ℕ) : Type 0 where
  body : Body
  is : body_text body ≡ w

record InModulusRest (w : List ℕ) : Type 0 where
  more : List ℕ
  digits : every is_digit more ≡ true
  body : Body
  is : more ++ 58 ∷ body_text body ≡ w

-- bytes that complete a line from a state
abbrev Rest : State → List ℕ → Type 0
Rest Start w = IsLine w
Rest AfterM w = IsLine (109 ∷ w)
Rest AfterO w = IsLine (109 ∷ 111 ∷ w)
Rest AfterD w = IsLine (109 ∷ 111 ∷ 100 ∷ w)
Rest BeforeModulus w = IsLine (109 ∷ 111 ∷ 100 ∷ 32 ∷ w)
Rest InModulus w = InModulusRest w
Rest BeforeTerms w = BodyRest w
Rest AfterMinus w = MinusRest w
Rest InTerm w = InTermRest w
Rest AfterTerm w = AfterTermRest w
Rest AfterComma w = CommaRest w
Rest Wrong w = ⊥

rest_none : (p : State) → may_end p ≡ true → Rest p []
unfolding every
rest_none Start h = false_true h
rest_none AfterM h = false_true h
rest_none AfterO h = false_true h
rest_none AfterD h = false_true h
rest_none BeforeModulus h = false_true h
rest_none InModulus h = false_true h
rest_none BeforeTerms h = record { body = none 0; is = refl }
rest_none AfterMinus h = false_true h
rest_none InTerm h = record { more = []; digits = refl; after = 0; tail = end; is = refl }
rest_none AfterTerm h = record { after = 0; tail = end; is = refl }
rest_none AfterComma h = false_true h
rest_none Wrong h = false_true h

-- one byte more in front
met : (b x : ℕ) (p : State) (w : List ℕ) (G : ℕ → Type 0) → (Rest p w → G x) → Rest (pick (eqb b x) p Wrong) w → G b
met b x p w G f = go (eqb b x) refl
  where
    go : (t : Bool) → eqb b x ≡ t → Rest (pick t p Wrong) w → G b
    go true e h = subst G (sym (eqb-true _ _ e)) (f h)
    go false e h = absurd h

one_more : (b : ℕ) (w : List ℕ) → is_digit b ≡ true → InTermRest w → InTermRest (b ∷ w)
one_more b w d r =
    record { more = b ∷ r.more; digits = every_cons is_digit b r.more d r.digits; after = r.after; tail = r.tail; is = ap (λ (v : List ℕ). b ∷ v) r.is }

first_digit : (b : ℕ) (w : List ℕ) → is_digit b ≡ true → InTermRest w → MinusRest (b ∷ w)
first_digit b w d r =
    record {
      number = record { first = b; rest = r.more; digits = every_cons is_digit b r.more d r.digits };
      after = r.after;
      tail = r.tail;
      is = ap (λ (v : List ℕ). b ∷ v) r.is;
    }

-- a term's text and what follows it
term_tail : (s : Bool) (n : Number) (a : ℕ) (tail : Tail) → CommaRest (minus_text s ++ (number_text n ++ (blanks a ++ tail_text tail)))
unfolding terms_text
term_tail s n a end =
    record {
      terms = [];
      last = record { before = 0; minus = s; number = n; after = a };
      is = ap (λ (v : List ℕ). minus_text s ++ (number_text n ++ v)) (sym (append-nil (blanks a)));
    }
term_tail s n a (comma ts last) =
    record {
      terms = record { before = 0; minus = s; number = n; after = a } ∷ ts;
      last = last;
      is = append_assoc (minus_text s) (number_text n ++ blanks a) (44 ∷ terms_text ts last)
          ∙ ap (λ (v : List ℕ). minus_text s ++ v) (append_assoc (number_text n) (blanks a) (44 ∷ terms_text ts last));
    }

unsigned : (w : List ℕ) → MinusRest w → CommaRest w
unsigned w r = subst CommaRest r.is (term_tail false r.number r.after r.tail)

with_minus : (w : List ℕ) → MinusRest w → CommaRest (45 ∷ w)
with_minus w r = subst (λ (v : List ℕ). CommaRest (45 ∷ v)) r.is (term_tail true r.number r.after r.tail)

-- a blank before the first of some terms
abbrev pushed : Term → Term
pushed t = record { before = suc t.before; minus = t.minus; number = t.number; after = t.after }

blank_first : (ts : List Term) (last : Term) → CommaRest (32 ∷ terms_text ts last)
unfolding terms_text
blank_first [] last = record { terms = []; last = pushed last; is = refl }
blank_first (t ∷ ts) last = record { terms = pushed t ∷ ts; last = last; is = refl }

blank_comma : (w : List ℕ) → CommaRest w → CommaRest (32 ∷ w)
blank_comma w r = subst (λ (v : List ℕ). CommaRest (32 ∷ v)) r.is (blank_first r.terms r.last)

as_body : (w : List ℕ) → CommaRest w → BodyRest w
as_body w r = record { body = some r.terms r.last; is = r.is }

blank_body : (w : List ℕ) (b : Body) → body_text b ≡ w → BodyRest (32 ∷ w)
blank_body w (none n) e = record { body = none (suc n); is = ap (λ (v : List ℕ). 32 ∷ v) e }
blank_body w (some ts last) e = as_body (32 ∷ w) (blank_comma w (record { terms = ts; last = last; is = e }))

rest_more : (p : State) (b : ℕ) (w : List ℕ) → Rest (state_after p b) w → Rest p (b ∷ w)
unfolding every
rest_more Start b w h = met b 109 AfterM w (λ x. IsLine (x ∷ w)) (λ r. r) h
rest_more AfterM b w h = met b 111 AfterO w (λ x. IsLine (109 ∷ x ∷ w)) (λ r. r) h
rest_more AfterO b w h = met b 100 AfterD w (λ x. IsLine (109 ∷ 111 ∷ x ∷ w)) (λ r. r) h
rest_more AfterD b w h = met b 32 BeforeModulus w (λ x. IsLine (109 ∷ 111 ∷ 100 ∷ x ∷ w)) (λ r. r) h
rest_more BeforeModulus b w h = go (class_of b) (seen b) h
  where
    go : (k : Class) → Seen b k → Rest (goes InModulus Wrong Wrong Wrong k) w → IsLine (109 ∷ 111 ∷ 100 ∷ 32 ∷ b ∷ w)
    go Digit s r =
        record {
          line = record { modulus = record { first = b; rest = r.more; digits = every_cons is_digit b r.more s r.digits }; body = r.body };
          spelt = ap (λ (v : List ℕ). 109 ∷ 111 ∷ 100 ∷ 32 ∷ b ∷ v) r.is;
        }
    go Comma s r = absurd r
    go Minus s r = absurd r
    go Blank s r = absurd r
    go Other s r = absurd r
rest_more InModulus b w h = colon (eqb b 58) refl h
  where
    go : (k : Class) → Seen b k → Rest (goes InModulus Wrong Wrong Wrong k) w → InModulusRest (b ∷ w)
    go Digit s r = record { more = b ∷ r.more; digits = every_cons is_digit b r.more s r.digits; body = r.body; is = ap (λ (v : List ℕ). b ∷ v) r.is }
    go Comma s r = absurd r
    go Minus s r = absurd r
    go Blank s r = absurd r
    go Other s r = absurd r

    colon : (t : Bool) → eqb b 58 ≡ t → Rest (pick t BeforeTerms (goes InModulus Wrong Wrong Wrong (class_of b))) w → InModulusRest (b ∷ w)
    colon true e r = record { more = []; digits = refl; body = r.body; is = ap (λ (x : ℕ). x ∷ body_text r.body) (sym (eqb-true _ _ e)) ∙ ap (λ (v : List ℕ). b ∷ v) r.is }
    colon false e r = go (class_of b) (seen b) r
rest_more BeforeTerms b w h = go (class_of b) (seen b) h
  where
    go : (k : Class) → Seen b k → Rest (goes InTerm Wrong AfterMinus BeforeTerms k) w → BodyRest (b ∷ w)
    go Digit s r = as_body (b ∷ w) (unsigned (b ∷ w) (first_digit b w s r))
    go Comma s r = absurd r
    go Minus s r = subst (λ (x : ℕ). BodyRest (x ∷ w)) (sym s) (as_body (45 ∷ w) (with_minus w r))
    go Blank s r = subst (λ (x : ℕ). BodyRest (x ∷ w)) (sym s) (blank_body w r.body r.is)
    go Other s r = absurd r
rest_more AfterMinus b w h = go (class_of b) (seen b) h
  where
    go : (k : Class) → Seen b k → Rest (goes InTerm Wrong Wrong Wrong k) w → MinusRest (b ∷ w)
    go Digit s r = first_digit b w s r
    go Comma s r = absurd r
    go Minus s r = absurd r
    go Blank s r = absurd r
    go Other s r = absurd r
rest_more InTerm b w h = go (class_of b) (seen b) h
  where
    go : (k : Class) → Seen b k → Rest (goes InTerm AfterComma Wrong AfterTerm k) w → InTermRest (b ∷ w)
    go Digit s r = one_more b w s r
    go Comma s r = record { more = []; digits = refl; after = 0; tail = comma r.terms r.last; is = ap (λ (x : ℕ). x ∷ terms_text r.terms r.last) (sym s) ∙ ap (λ (v : List ℕ). b ∷ v) r.is }
    go Minus s r = absurd r
    go Blank s r = record { more = []; digits = refl; after = suc r.after; tail = r.tail; is = ap (λ (x : ℕ). x ∷ (blanks r.after ++ tail_text r.tail)) (sym s) ∙ ap (λ (v : List ℕ). b ∷ v) r.is }
    go Other s r = absurd r
rest_more AfterTerm b w h = go (class_of b) (seen b) h
  where
    go : (k : Class) → Seen b k → Rest (goes Wrong AfterComma Wrong AfterTerm k) w → AfterTermRest (b ∷ w)
    go Digit s r = absurd r
    go Comma s r = record { after = 0; tail = comma r.terms r.last; is = ap (λ (x : ℕ). x ∷ terms_text r.terms r.last) (sym s) ∙ ap (λ (v : List ℕ). b ∷ v) r.is }
    go Minus s r = absurd r
    go Blank s r = record { after = suc r.after; tail = r.tail; is = ap (λ (x : ℕ). x ∷ (blanks r.after ++ tail_text r.tail)) (sym s) ∙ ap (λ (v : List ℕ). b ∷ v) r.is }
    go Other s r = absurd r
rest_more AfterComma b w h = go (class_of b) (seen b) h
  where
    go : (k : Class) → Seen b k → Rest (goes InTerm Wrong AfterMinus AfterComma k) w → CommaRest (b ∷ w)
    go Digit s r = unsigned (b ∷ w) (first_digit b w s r)
    go Comma s r = absurd r
    go Minus s r = subst (λ (x : ℕ). CommaRest (x ∷ w)) (sym s) (with_minus w r)
    go Blank s r = subst (λ (x : ℕ). CommaRest (x ∷ w)) (sym s) (blank_comma w r)
    go Other s r = absurd r
rest_more Wrong b w h = absurd h

completes : (p : State) (w : List ℕ) → may_end (states_from p w) ≡ true → Rest p w
unfolding states_from
completes p [] h = rest_none p h
completes p (b ∷ w) h = rest_more p b w (completes (state_after p b) w h)

-- what the reading accepts is a line
pub accepted_line : (w : List ℕ) → may_end (states_from Start w) ≡ true → IsLine w
accepted_line w h = completes Start w h

-- ---- and every line is accepted

pub digit_no_colon : (b : ℕ) → is_digit b ≡ true → eqb b 58 ≡ false
digit_no_colon b h = ne_eqb b 58 (λ e. false_true (ap is_digit (sym e) ∙ h))

-- digits and blanks that keep the state
along_digits : (p : State) → ((b : ℕ) → is_digit b ≡ true → state_after p b ≡ p) → (ds w : List ℕ) → every is_digit ds ≡ true → states_from p (ds ++ w) ≡ states_from p w
unfolding states_from
along_digits p keep [] w h = refl
along_digits p keep (d ∷ ds) w h =
    ap (λ (q : State). states_from q (ds ++ w)) (keep d (every_head is_digit d ds h)) ∙ along_digits p keep ds w (every_tail is_digit d ds h)

along_blanks : (p : State) → state_after p 32 ≡ p → (n : ℕ) (w : List ℕ) → states_from p (blanks n ++ w) ≡ states_from p w
unfolding states_from
along_blanks p keep zero w = refl
along_blanks p keep (suc n) w = ap (λ (q : State). states_from q (blanks n ++ w)) keep ∙ along_blanks p keep n w

pub keep_modulus : (b : ℕ) → is_digit b ≡ true → state_after InModulus b ≡ InModulus
keep_modulus b h = rw (digit_no_colon b h, digit_class b h)

pub keep_term : (b : ℕ) → is_digit b ≡ true → state_after InTerm b ≡ InTerm
keep_term b h = rw (digit_class b h)

-- a state where a term may begin
pub record Opens (p : State) : Type 0 where
  pub digit : (b : ℕ) → is_digit b ≡ true → state_after p b ≡ InTerm
  pub minus : state_after p 45 ≡ AfterMinus
  pub blank : state_after p 32 ≡ p

pub body_opens : Opens BeforeTerms
body_opens = record { digit = λ b h. rw (digit_class b h); minus = refl; blank = refl }

pub comma_opens : Opens AfterComma
comma_opens = record { digit = λ b h. rw (digit_class b h); minus = refl; blank = refl }

along_number : (n : Number) (p : State) (w : List ℕ) → ((b : ℕ) → is_digit b ≡ true → state_after p b ≡ InTerm) → states_from p (number_text n ++ w) ≡ states_from InTerm w
unfolding states_from
along_number n p w to =
    ap (λ (q : State). states_from q (n.rest ++ w)) (to n.first (every_head is_digit n.first n.rest n.digits))
    ∙ along_digits InTerm keep_term n.rest w (every_tail is_digit n.first n.rest n.digits)

along_signed : (s : Bool) (n : Number) (p : State) (w : List ℕ) → Opens p → states_from p (minus_text s ++ (number_text n ++ w)) ≡ states_from InTerm w
unfolding states_from
along_signed true n p w o =
    ap (λ (q : State). states_from q (number_text n ++ w)) o.minus ∙ along_number n AfterMinus w (λ b h. rw (digit_class b h))
along_signed false n p w o = along_number n p w o.digit

along_term : (t : Term) (p : State) (w : List ℕ) → Opens p → states_from p (term_text t ++ w) ≡ states_from InTerm (blanks t.after ++ w)
along_term t p w o =
    ap (states_from p) (append_assoc (blanks t.before) (minus_text t.minus ++ (number_text t.number ++ blanks t.after)) w)
    ∙ along_blanks p o.blank t.before _
    ∙ ap (states_from p) (append_assoc (minus_text t.minus) (number_text t.number ++ blanks t.after) w
    ∙ ap (λ (v : List ℕ). minus_text t.minus ++ v) (append_assoc (number_text t.number) (blanks t.after) w))
    ∙ along_signed t.minus t.number p (blanks t.after ++ w) o

to_comma : (n : ℕ) (w : List ℕ) → states_from InTerm (blanks n ++ 44 ∷ w) ≡ states_from AfterComma w
unfolding states_from
to_comma zero w = refl
to_comma (suc n) w = along_blanks AfterTerm refl n (44 ∷ w)

to_end : (n : ℕ) → may_end (states_from InTerm (blanks n ++ [])) ≡ true
unfolding states_from
to_end zero = refl
to_end (suc n) = ap may_end (along_blanks AfterTerm refl n [])

along_terms : (ts : List Term) (last : Term) (p : State) → Opens p → may_end (states_from p (terms_text ts last)) ≡ true
unfolding terms_text
along_terms [] last p o = ap (λ (v : List ℕ). may_end (states_from p v)) (sym (append-nil (term_text last))) ∙ ap may_end (along_term last p [] o) ∙ to_end last.after
along_terms (t ∷ ts) last p o =
    ap may_end (along_term t p (44 ∷ terms_text ts last) o ∙ to_comma t.after (terms_text ts last)) ∙ along_terms ts last AfterComma comma_opens

along_body : (b : Body) → may_end (states_from BeforeTerms (body_text b)) ≡ true
unfolding states_from
along_body (none n) = ap (λ (v : List ℕ). may_end (states_from BeforeTerms v)) (sym (append-nil (blanks n))) ∙ ap may_end (along_blanks BeforeTerms refl n [])
along_body (some ts last) = along_terms ts last BeforeTerms body_opens

along_line : (l : Line) → may_end (states_from Start (text l)) ≡ true
unfolding states_from
along_line l =
    let n = l.modulus in
    ap (λ (q : State). may_end (states_from q (n.rest ++ 58 ∷ body_text l.body))) (first n.first (every_head is_digit n.first n.rest n.digits))
    ∙ ap may_end (along_digits InModulus keep_modulus n.rest (58 ∷ body_text l.body) (every_tail is_digit n.first n.rest n.digits))
    ∙ along_body l.body
  where
    first : (b : ℕ) → is_digit b ≡ true → state_after BeforeModulus b ≡ InModulus
    first b h = rw (digit_class b h)

pub line_accepted : (w : List ℕ) → IsLine w → may_end (states_from Start w) ≡ true
line_accepted w h = subst (λ (v : List ℕ). may_end (states_from Start v) ≡ true) h.spelt (along_line h.line)

-- ---- every state can be completed

-- bytes with which a line may go on from a state
pub go_on : State → List ℕ
go_on Start = 109 ∷ 111 ∷ 100 ∷ 32 ∷ 48 ∷ 58 ∷ []
go_on AfterM = 111 ∷ 100 ∷ 32 ∷ 48 ∷ 58 ∷ []
go_on AfterO = 100 ∷ 32 ∷ 48 ∷ 58 ∷ []
go_on AfterD = 32 ∷ 48 ∷ 58 ∷ []
go_on BeforeModulus = 48 ∷ 58 ∷ []
go_on InModulus = 58 ∷ []
go_on BeforeTerms = []
go_on AfterMinus = 48 ∷ []
go_on InTerm = []
go_on AfterTerm = []
go_on AfterComma = 48 ∷ []
go_on Wrong = []

pub completed : (p : State) → is_wrong p ≡ false → may_end (states_from p (go_on p)) ≡ true
unfolding states_from go_on
completed Start h = refl
completed AfterM h = refl
completed AfterO h = refl
completed AfterD h = refl
completed BeforeModulus h = refl
completed InModulus h = refl
completed BeforeTerms h = refl
completed AfterMinus h = refl
completed InTerm h = refl
completed AfterTerm h = refl
completed AfterComma h = refl
completed Wrong h = false_true (sym h)

-- ---- some line begins with bytes exactly if they do not lead to the wrong state

pub begins : (u : List ℕ) → is_wrong (states_from Start u) ≡ false → Begins u
begins u h =
    let y = go_on (states_from Start u) in
    record { rest = y; whole = accepted_line (u ++ y) (ap may_end (states_append Start u y) ∙ completed (states_from Start u) h) }

-- where a line may still end, nothing was wrong
end_not_wrong : (p : State) (v : List ℕ) → may_end (states_from p v) ≡ true → is_wrong p ≡ false
end_not_wrong Start v h = refl
end_not_wrong AfterM v h = refl
end_not_wrong AfterO v h = refl
end_not_wrong AfterD v h = refl
end_not_wrong BeforeModulus v h = refl
end_not_wrong InModulus v h = refl
end_not_wrong BeforeTerms v h = refl
end_not_wrong AfterMinus v h = refl
end_not_wrong InTerm v h = refl
end_not_wrong AfterTerm v h = refl
end_not_wrong AfterComma v h = refl
end_not_wrong Wrong v h = false_true (sym (ap may_end (stays_wrong v)) ∙ h)

pub begun : (u : List ℕ) → Begins u → is_wrong (states_from Start u) ≡ false
begun u h = end_not_wrong (states_from Start u) h.rest (sym (ap may_end (states_append Start u h.rest)) ∙ line_accepted (u ++ h.rest) h.whole)
