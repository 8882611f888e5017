-- Lists of calls coded as numbers: the terms that they take, and what they do to a sequence and to the lent buffers.
-- Assumes nothing.
use Rattle.std.specs.Prelude.{List, [], ◌∷◌, map, ℕ, zero, suc}
use Rattle.sequence.specs.declared.Sequence.{Sequence}
use Rattle.sequence.specs.Rules.{open_of, push_of}
use Rattle.sequence.specs.Report.{report_of, a_buffer, b_buffer, profile_of, profile_buffer, filled}
use Rattle.column.specs.Rules.{push_all_of}
use Rattle.guarantees.specs.declared.Replies.{Replies}
use Rattle.guarantees.specs.Calls.{Call, push, push_all, register, profile, taken}

-- 0 is a register, 1 a profile, 2 a column of the lent list, n + 3 a push of n. Which buffers are lent does not matter to the terms.
abbrev pub call_of : List ℕ → ℕ → Call
call_of list zero = register [] []
call_of list (suc zero) = profile []
call_of list (suc (suc zero)) = push_all list
call_of list (suc (suc (suc t))) = push t

-- the terms that the coded calls take
abbrev pub taken_by : ℕ → List ℕ → List ℕ → List ℕ
taken_by m list codes = taken m (map (call_of list) codes)

-- ---- the calls made, each lent the buffers as the one before left them

-- what stands between two calls
pub record State : Type 0 where
  pub sequence : Sequence
  pub a : List ℕ
  pub b : List ℕ
  pub cells : List ℕ

abbrev pub state_of : Sequence → List ℕ → List ℕ → List ℕ → State
state_of s a b cells = record { sequence = s; a = a; b = b; cells = cells }

-- after a register
unfoldable pub after_register : State → State
after_register x =
    let s = x.sequence in
    let r = report_of s x.a x.b in
    state_of s (filled r (a_buffer s) x.a) (filled r (b_buffer s) x.b) x.cells

-- after a profile
unfoldable pub after_profile : State → State
after_profile x =
    let s = x.sequence in
    state_of s x.a x.b (filled (profile_of s x.cells) (profile_buffer s) x.cells)

-- after one call
unfoldable pub after_code : List ℕ → State → ℕ → State
after_code list x zero = after_register x
after_code list x (suc zero) = after_profile x
after_code list x (suc (suc zero)) = state_of (push_all_of x.sequence list).sequence x.a x.b x.cells
after_code list x (suc (suc (suc t))) = state_of (push_of x.sequence t).sequence x.a x.b x.cells

unfoldable pub after_codes : List ℕ → State → List ℕ → State
after_codes list x [] = x
after_codes list x (c ∷ cs) = after_codes list (after_code list x c) cs

-- ---- driving: opening, the coded calls, a register and a profile

-- before the last two calls
abbrev pub driven_to : ℕ → List ℕ → List ℕ → List ℕ → List ℕ → List ℕ → State
driven_to m codes list a b cells = after_codes list (state_of (open_of m).sequence a b cells) codes

-- their replies
unfoldable pub replies_of : State → Replies
replies_of x = record { reported = report_of x.sequence x.a x.b; profiled = profile_of x.sequence x.cells }

-- and what they leave
abbrev pub ended : State → State
ended x = after_profile (after_register x)
