-- A column of terms: what pushing its terms singly does, up to the first refused one.
-- Assumes nothing.
use Rattle.std.specs.Prelude.{not, List, [], ◌∷◌, ℕ, zero, suc, ◌/◌, ◌%◌, leb, eqb, length, Ok, Err}
use Rattle.lists.specs.Choice.{pick}
use Rattle.cells.specs.Cell.{cells_from}
use Rattle.sequence.specs.declared.Sequence.{Sequence}
use Rattle.sequence.specs.declared.Refusal.TheVariants as R
use Rattle.sequence.specs.Limits.{max_terms}
use Rattle.sequence.specs.Answers.{Answer, granted, refused, refused_at, first_of, Outcome}
use Rattle.sequence.specs.Rules.{fault_of, is_sound, longer, push_of}
use Rattle.column.specs.declared.PushedAll.{PushedAll}

-- the terms of a column: its cells
abbrev pub terms_in : List ℕ → List ℕ
terms_in list = cells_from list 0 (length list / 2)

-- n terms were taken, the sequence is s then, and o says whether one is refused
abbrev pub took : ℕ → Sequence → Outcome → PushedAll
took n s o = record { sequence = s; taken = n; outcome = o }

-- behind a push that left s: one taken and the rest of the column, or its end at a refused term
abbrev pub onward : Outcome → Sequence → PushedAll → PushedAll
onward (Ok _) s rest = took (suc rest.taken) rest.sequence rest.outcome
onward (Err r) s rest = took zero s (Err r)

-- the terms pushed singly, up to the first refused one
unfoldable pub each_of : Sequence → List ℕ → PushedAll
each_of s [] = took zero s (Ok tt)
each_of s (t ∷ ts) = let p = push_of s t in onward p.outcome p.sequence (each_of p.sequence ts)

-- 5 for an odd number of bytes, 21 even for an empty column, in this order; else what single pushes do
unfoldable pub push_all_of : Sequence → List ℕ → PushedAll
push_all_of s list =
    pick (eqb (length list % 2) 0)
    (pick (is_sound (fault_of s)) (each_of s (terms_in list)) (took zero s (Err R.Sequence)))
    (took zero s (Err R.Buffer))

-- the same by number: for each term 22, 3 with the count at that moment
unfoldable pub each_answer : Sequence → List ℕ → Answer
each_answer s [] = granted []
each_answer s (t ∷ ts) = first_of ((eqb s.count max_terms, refused 22) ∷ (leb s.modulus t, refused_at 3 s.count) ∷ []) (each_answer (longer s t) ts)

abbrev pub push_all_answer : Sequence → List ℕ → Answer
push_all_answer s list = first_of ((not (eqb (length list % 2) 0), refused 5) ∷ (not (is_sound (fault_of s)), refused 21) ∷ []) (each_answer s (terms_in list))
