-- What the register and the profile of a sequence reply and write.
-- Assumes nothing.
use Rattle.std.specs.Prelude.{Bool, not, List, [], ◌∷◌, ℕ, ◌*◌, leb, eqb, length, Result, Ok, Err}
use Rattle.lists.specs.Choice.{pick}
use Rattle.lists.specs.Table.{at, tabulate}
use Rattle.cells.specs.Cell.{bytes_of}
use Rattle.residue.specs.Factors.{is_prime}
use Rattle.recurrence.specs.Register.{Register, register}
use Rattle.synthesis.specs.Synthesis.{length_at}
use Rattle.sequence.specs.declared.Sequence.{Sequence}
use Rattle.sequence.specs.declared.Refusal.{Refusal}
use Rattle.sequence.specs.declared.Refusal.TheVariants as R
use Rattle.sequence.specs.declared.Uniqueness.{Uniqueness}
use Rattle.sequence.specs.declared.Uniqueness.TheVariants as U
use Rattle.sequence.specs.Limits.{max_terms, max_cells, a_bytes, b_bytes, profile_bytes}
use Rattle.sequence.specs.Answers.{Answer, granted, refused, uniqueness, first_of, Outcome, Reported, of_length}
use Rattle.sequence.specs.Rules.{fault_of, is_sound}

-- the register of a sequence: of its first `count` terms
abbrev pub register_of : Sequence → Register
register_of s = register s.modulus s.terms s.count

-- its coefficients as bytes: a_0 .. a_128 and b_0 .. b_127
abbrev pub a_buffer : Sequence → List ℕ
a_buffer s = bytes_of (tabulate max_cells (at (register_of s).a))

abbrev pub b_buffer : Sequence → List ℕ
b_buffer s = bytes_of (tabulate max_terms (at (register_of s).b))

-- the linear complexity of the first k terms, for k up to the count; zero past it
abbrev pub profile_buffer : Sequence → List ℕ
profile_buffer s = bytes_of (tabulate max_cells (length_at s.modulus s.terms s.count))

-- Whether a register of length l, the least for n terms, is the only one. It is told modulo a prime, and there it is the only one where 2l ≤ n.
unfoldable pub uniqueness_by : Bool → ℕ → ℕ → Uniqueness
uniqueness_by prime n l = pick prime (pick (leb (2 * l) n) U.Sole U.Several) U.NotTold

abbrev pub uniqueness_of : ℕ → ℕ → ℕ → Uniqueness
uniqueness_of m n l = uniqueness_by (is_prime m) n l

-- the reply with the length l for n terms modulo m
abbrev pub length_told : ℕ → ℕ → ℕ → Reported
length_told m n l = of_length l (uniqueness_of m n l)

abbrev pub register_told : Sequence → Reported
register_told s = length_told s.modulus s.count (register_of s).length

abbrev pub register_answer : Sequence → Answer
register_answer s = granted ((register_of s).length ∷ uniqueness (uniqueness_of s.modulus s.count (register_of s).length) ∷ [])

-- 5 (a, b), 21, in this order; else the length, and whether the register is the only one
unfoldable pub report_of : Sequence → List ℕ → List ℕ → Reported
report_of s a b =
    pick (eqb (length a) a_bytes)
    (pick (eqb (length b) b_bytes)
    (pick (is_sound (fault_of s)) (register_told s) (Err R.Sequence))
    (Err R.Buffer))
    (Err R.Buffer)

abbrev pub report_answer : Sequence → List ℕ → List ℕ → Answer
report_answer s a b =
    first_of
    ((not (eqb (length a) a_bytes), refused 5)
    ∷ (not (eqb (length b) b_bytes), refused 5)
    ∷ (not (is_sound (fault_of s)), refused 21)
    ∷ [])
    (register_answer s)

-- a buffer at exit: filled, or as lent where the call is refused
abbrev pub filled : {A : Type 0} → Result A Refusal → List ℕ → List ℕ → List ℕ
filled (Ok x) new old = new
filled (Err r) new old = old

-- 5, 21, in this order
unfoldable pub profile_of : Sequence → List ℕ → Outcome
profile_of s cells =
    pick (eqb (length cells) profile_bytes)
    (pick (is_sound (fault_of s)) (Ok tt) (Err R.Sequence))
    (Err R.Buffer)

abbrev pub profile_answer : Sequence → List ℕ → Answer
profile_answer s cells = first_of ((not (eqb (length cells) profile_bytes), refused 5) ∷ (not (is_sound (fault_of s)), refused 21) ∷ []) (granted [])
