-- The form of a typed line as a person writes it, and what it says: "mod ", the modulus in digits, a colon, then blanks or terms by commas.
-- And where bytes break it, or a number in them passes its range. It knows nothing of how a line is read.
-- Assumes nothing.
use Rattle.std.specs.Prelude.{◌≡◌, Bool, true, false, ◌⊎◌, List, [], ◌∷◌, ◌++◌, map, ℕ, zero, suc, ◌+◌, ◌*◌, ◌-◌, ◌^◌, ◌≤◌, ◌<◌, leb, eqb, ℤ, pos, neg_ℤ, length, replicate, take}
use Rattle.lists.specs.Choice.{both}
use Rattle.lists.specs.Search.{every}

-- ---- numbers

-- bytes 48 to 57
abbrev pub is_digit : ℕ → Bool
is_digit b = both (leb 48 b) (leb b 57)

-- one digit or more
pub record Number : Type 0 where
  pub first : ℕ
  pub rest : List ℕ
  pub digits : every is_digit (first ∷ rest) ≡ true

abbrev pub number_text : Number → List ℕ
number_text n = n.first ∷ n.rest

-- the decimal value of digits
unfoldable pub decimal : List ℕ → ℕ
decimal [] = zero
decimal (b ∷ bs) = (b - 48) * 10 ^ length bs + decimal bs

abbrev pub number_value : Number → ℕ
number_value n = decimal (number_text n)

-- a number with or without a minus before it
abbrev pub signed : Bool → ℕ → ℤ
signed true n = neg_ℤ (pos n)
signed false n = pos n

-- numbers go up to 2,147,483,647; those after a minus one further
abbrev pub limit : Bool → ℕ
limit true = 2147483648
limit false = 2147483647

-- ---- terms: blanks, a minus or none, digits, blanks

-- a blank is byte 32, and no other
abbrev pub blanks : ℕ → List ℕ
blanks n = replicate n 32

pub record Term : Type 0 where
  pub before : ℕ
  pub minus : Bool
  pub number : Number
  pub after : ℕ

-- byte 45
abbrev pub minus_text : Bool → List ℕ
minus_text true = 45 ∷ []
minus_text false = []

abbrev pub term_text : Term → List ℕ
term_text t = blanks t.before ++ (minus_text t.minus ++ (number_text t.number ++ blanks t.after))

abbrev pub term_value : Term → ℤ
term_value t = signed t.minus (number_value t.number)

-- ---- after the colon: blanks only, or terms with commas between

pub data Body : Type 0 where
  none : ℕ → Body
  some : List Term → Term → Body

-- the last term, and before it each other with a comma, byte 44
unfoldable pub terms_text : List Term → Term → List ℕ
terms_text [] last = term_text last
terms_text (t ∷ ts) last = term_text t ++ 44 ∷ terms_text ts last

abbrev pub body_text : Body → List ℕ
body_text (none n) = blanks n
body_text (some ts last) = terms_text ts last

abbrev pub terms_of : Body → List Term
terms_of (none n) = []
terms_of (some ts last) = ts ++ last ∷ []

-- ---- lines

pub record Line : Type 0 where
  pub modulus : Number
  pub body : Body

-- the bytes of "mod ", the modulus, the colon, byte 58, and what is after it
abbrev pub text : Line → List ℕ
text l = 109 ∷ 111 ∷ 100 ∷ 32 ∷ (number_text l.modulus ++ 58 ∷ body_text l.body)

abbrev pub modulus_of : Line → ℕ
modulus_of l = number_value l.modulus

abbrev pub values_of : Line → List ℤ
values_of l = map term_value (terms_of l.body)

-- ---- numbers within their range

abbrev pub term_fits : Term → Bool
term_fits t = leb (number_value t.number) (limit t.minus)

-- every number of a line is within its limit
pub record InRange (l : Line) : Type 0 where
  pub modulus : modulus_of l ≤ limit false
  pub terms : every term_fits (terms_of l.body) ≡ true

-- ---- bytes that are a line, and bytes that are none

-- bytes that are a line of this form
pub record IsLine (bytes : List ℕ) : Type 0 where
  pub line : Line
  pub spelt : text line ≡ bytes

-- bytes with which some line begins
pub record Begins (bytes : List ℕ) : Type 0 where
  pub rest : List ℕ
  pub whole : IsLine (bytes ++ rest)

-- bytes that end in digits whose value is past their limit: what stands before these is no digit, and may be a minus
pub record Passes (bytes : List ℕ) : Type 0 where
  pub before : List ℕ
  pub byte : ℕ
  pub number : List ℕ
  pub split : bytes ≡ before ++ byte ∷ number
  pub ended : is_digit byte ≡ false
  pub digits : every is_digit number ≡ true
  pub past : limit (eqb byte 45) < decimal number

-- The form is broken at place i, counted from 0: some line begins with the bytes before it, and none with these and the byte at i; or i is the
-- length, and the bytes are no line though some line begins with them. No number up to there has passed its limit.
pub record BrokenAt (bytes : List ℕ) (i : ℕ) : Type 0 where
  pub before : Begins (take i bytes)
  pub there : ((i < length bytes) × (Begins (take (suc i) bytes) → ⊥)) ⊎ ((i ≡ length bytes) × (IsLine bytes → ⊥))
  pub fitting : (j : ℕ) → j ≤ i → Passes (take j bytes) → ⊥

-- The digit at place i is the first with which a number passes its limit; some line begins with the bytes up to it.
pub record PastAt (bytes : List ℕ) (i : ℕ) : Type 0 where
  pub within : i < length bytes
  pub begins : Begins (take (suc i) bytes)
  pub passes : Passes (take (suc i) bytes)
  pub first : (j : ℕ) → j ≤ i → Passes (take j bytes) → ⊥
