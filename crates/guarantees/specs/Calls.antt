-- A list of calls on one sequence: pushes, columns, registers, profiles and traces, in any order, with any terms, buffers and sheets.
-- Assumes nothing.
use Rattle.std.specs.Prelude.{List, [], ◌∷◌, ◌++◌, ℕ, ◌%◌, ltb, eqb, length}
use Rattle.lists.specs.Choice.{pick}
use Rattle.steps.specs.declared.StepRecord.{StepRecord}
use Rattle.sequence.specs.declared.Sequence.{Sequence}
use Rattle.sequence.specs.Limits.{max_terms}
use Rattle.sequence.specs.Rules.{push_of}
use Rattle.column.specs.Rules.{terms_in, push_all_of}

-- a call with what it is handed beside the sequence: a term, or what is lent to it as it is
pub data Call : Type 0 where
  push : ℕ → Call
  push_all : List ℕ → Call
  register : List ℕ → List ℕ → Call
  profile : List ℕ → Call
  trace : List ℕ → List ℕ → List StepRecord → Call

-- the sequence after a call: as the reply to a push and to a column returns it, and untouched by the others
abbrev pub after : Sequence → Call → Sequence
after s (push t) = (push_of s t).sequence
after s (push_all list) = (push_all_of s list).sequence
after s (register a b) = s
after s (profile cells) = s
after s (trace a b sheet) = s

-- after a list of calls, each handed the sequence that the call before left
unfoldable pub after_all : Sequence → List Call → Sequence
after_all s [] = s
after_all s (c ∷ cs) = after_all (after s c) cs

-- The terms taken, from the calls alone: a term below m joins at the end while there are fewer than 128. The terms of a column do so in order, up to
-- the first that does not; none where it has an odd number of bytes. Nothing else changes them.
unfoldable pub takes_each : ℕ → List ℕ → List ℕ → List ℕ
takes_each m ts [] = ts
takes_each m ts (t ∷ us) = pick (ltb t m) (pick (ltb (length ts) max_terms) (takes_each m (ts ++ (t ∷ [])) us) ts) ts

abbrev pub takes : ℕ → List ℕ → Call → List ℕ
takes m ts (push t) = pick (ltb t m) (pick (ltb (length ts) max_terms) (ts ++ (t ∷ [])) ts) ts
takes m ts (push_all list) = pick (eqb (length list % 2) 0) (takes_each m ts (terms_in list)) ts
takes m ts (register a b) = ts
takes m ts (profile cells) = ts
takes m ts (trace a b sheet) = ts

unfoldable pub taken_from : ℕ → List ℕ → List Call → List ℕ
taken_from m ts [] = ts
taken_from m ts (c ∷ cs) = taken_from m (takes m ts c) cs

-- they start as none
abbrev pub taken : ℕ → List Call → List ℕ
taken m cs = taken_from m [] cs
