-- Reading a line byte by byte: the class of a byte, the state after it, and what is found at the end. That this is what Form says is a theorem
-- (guarantees/specs/Lines).
-- Assumes nothing.
use Rattle.std.specs.Prelude.{Bool, true, false, List, [], ◌∷◌, ◌++◌, ℕ, zero, suc, ◌+◌, ◌*◌, ◌-◌, eqb, leb, ltb, ℤ}
use Rattle.lists.specs.Choice.{pick}
use Rattle.lines.specs.declared.Class.{Class}
use Rattle.lines.specs.declared.Class.TheVariants.{Digit, Comma, Minus, Blank, Other}
use Rattle.lines.specs.declared.State.{State}
use Rattle.lines.specs.declared.State.TheVariants.{Start, AfterM, AfterO, AfterD, BeforeModulus, InModulus, BeforeTerms, AfterMinus, InTerm, AfterTerm, AfterComma, Wrong}
use Rattle.lines.specs.declared.Cursor.{Cursor}
use Rattle.lines.specs.Form.{is_digit, signed, limit}

-- from 48 to 57 a digit, 44 the comma, 45 the minus, 32 the blank
abbrev pub class_of : ℕ → Class
class_of b =
    pick (leb 48 b) (pick (leb b 57) Digit Other)
    (pick (eqb b 44) Comma (pick (eqb b 45) Minus (pick (eqb b 32) Blank Other)))

-- the state after a byte of a class, of those after a digit, a comma, a minus and a blank
abbrev pub goes : State → State → State → State → Class → State
goes digit comma minus blank Digit = digit
goes digit comma minus blank Comma = comma
goes digit comma minus blank Minus = minus
goes digit comma minus blank Blank = blank
goes digit comma minus blank Other = Wrong

-- the fixed text and the colon are met as themselves; any other byte leads to q
abbrev pub meets : ℕ → ℕ → State → State → State
meets b x next q = pick (eqb b x) next q

-- the state after a byte
abbrev pub state_after : State → ℕ → State
state_after Start b = meets b 109 AfterM Wrong
state_after AfterM b = meets b 111 AfterO Wrong
state_after AfterO b = meets b 100 AfterD Wrong
state_after AfterD b = meets b 32 BeforeModulus Wrong
state_after BeforeModulus b = goes InModulus Wrong Wrong Wrong (class_of b)
state_after InModulus b = meets b 58 BeforeTerms (goes InModulus Wrong Wrong Wrong (class_of b))
state_after BeforeTerms b = goes InTerm Wrong AfterMinus BeforeTerms (class_of b)
state_after AfterMinus b = goes InTerm Wrong Wrong Wrong (class_of b)
state_after InTerm b = goes InTerm AfterComma Wrong AfterTerm (class_of b)
state_after AfterTerm b = goes Wrong AfterComma Wrong AfterTerm (class_of b)
state_after AfterComma b = goes InTerm Wrong AfterMinus AfterComma (class_of b)
state_after Wrong b = Wrong

-- a line may end here
abbrev pub may_end : State → Bool
may_end Start = false
may_end AfterM = false
may_end AfterO = false
may_end AfterD = false
may_end BeforeModulus = false
may_end InModulus = false
may_end BeforeTerms = true
may_end AfterMinus = false
may_end InTerm = true
may_end AfterTerm = true
may_end AfterComma = false
may_end Wrong = false

-- no line has come here
abbrev pub is_wrong : State → Bool
is_wrong Start = false
is_wrong AfterM = false
is_wrong AfterO = false
is_wrong AfterD = false
is_wrong BeforeModulus = false
is_wrong InModulus = false
is_wrong BeforeTerms = false
is_wrong AfterMinus = false
is_wrong InTerm = false
is_wrong AfterTerm = false
is_wrong AfterComma = false
is_wrong Wrong = true

-- among the digits of a term
abbrev pub in_term : State → Bool
in_term Start = false
in_term AfterM = false
in_term AfterO = false
in_term AfterD = false
in_term BeforeModulus = false
in_term InModulus = false
in_term BeforeTerms = false
in_term AfterMinus = false
in_term InTerm = true
in_term AfterTerm = false
in_term AfterComma = false
in_term Wrong = false

-- the number grows by a digit; any other byte ends it, and at the colon it is the modulus
abbrev pub step_of : Cursor → ℕ → Cursor
step_of c b =
    record {
      state = state_after c.state b;
      minus = pick (is_digit b) c.minus (eqb b 45);
      size = pick (is_digit b) (10 * c.size + (b - 48)) zero;
      modulus = pick (eqb b 58) c.size c.modulus;
    }

-- a term that ends here joins the others
abbrev pub terms_ended : Cursor → List ℤ → List ℤ
terms_ended c ts = pick (in_term c.state) (ts ++ signed c.minus c.size ∷ []) ts

abbrev pub terms_after : Cursor → ℕ → List ℤ → List ℤ
terms_after c b ts = pick (is_digit b) ts (terms_ended c ts)

-- what the reading finds: the place where the form is broken, the place of a digit that passes its limit, or the modulus and the terms
pub data Found : Type 0 where
  broken : ℕ → Found
  past : ℕ → Found
  read : ℕ → List ℤ → Found

-- the bytes from place i on, at a cursor and with the terms before it
unfoldable pub read_from : Cursor → List ℤ → List ℕ → ℕ → Found
read_from c ts [] i = pick (may_end c.state) (read c.modulus (terms_ended c ts)) (broken i)
read_from c ts (b ∷ bs) i =
    pick (is_wrong (state_after c.state b)) (broken i)
    (pick (ltb (limit (step_of c b).minus) (step_of c b).size) (past i)
    (read_from (step_of c b) (terms_after c b ts) bs (suc i)))

abbrev pub start : Cursor
start = record { state = Start; minus = false; size = zero; modulus = zero }

abbrev pub found_in : List ℕ → Found
found_in bytes = read_from start [] bytes 0
