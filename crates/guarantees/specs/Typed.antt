-- Lines as they are typed, with the answer to each and the query that is written: 02's example, its ends of ranges and each kind of refusal.
-- Assumes nothing.
use Rattle.std.specs.Prelude.{◌≡◌, List, [], ◌∷◌, ◌++◌, ℕ, zero, suc, ◌+◌, ◌*◌, replicate}
use Prim.Native.String.{String}
use Rattle.lists.specs.Text.{bytes}
use Rattle.sequence.specs.Limits.{query_bytes}
use Rattle.sequence.specs.Answers.{Answer, granted, refused, refused_at}
use Rattle.sequence.specs.Rules.{query_of}
use Rattle.lines.specs.Reply.{read_answer}
use Rattle.codes.specs.Codes.{code_of}
use Rattle.guarantees.specs.Cases.{zeros}
use Rattle.guarantees.specs.Lines.{exit_of}

-- the same bytes n times
unfoldable pub times : ℕ → List ℕ → List ℕ
times zero s = []
times (suc n) s = s ++ times n s

-- the answer to a line that is lent a query buffer of zeros, and the buffer after it
abbrev pub answer_to : String → Answer
answer_to s = read_answer (bytes s) (zeros query_bytes)

abbrev pub query_to : String → List ℕ
query_to s = exit_of (bytes s) (zeros query_bytes)

-- a line of n + 1 terms, and what stands behind them
abbrev pub many : ℕ → String → List ℕ
many n s = bytes "mod 2:1" ++ (times n (bytes ",0") ++ bytes s)

pub record Typed : Type 0 where
  -- read: the query by hand
  pub example : answer_to "mod 9: 6,3,1,-4,6" ≡ granted []
  pub example_query : query_to "mod 9: 6,3,1,-4,6" ≡ query_of 9 (6 ∷ 3 ∷ 1 ∷ 5 ∷ 6 ∷ [])
  pub minus_one : query_to "mod 9:-1" ≡ query_of 9 (8 ∷ [])
  pub minus_zero : query_to "mod 9:-0" ≡ query_of 9 (0 ∷ [])
  pub minus_modulus : query_to "mod 9:-9,-10,9,10" ≡ query_of 9 (0 ∷ 8 ∷ 0 ∷ 1 ∷ [])
  pub lowest : query_to "mod 9:-2147483648" ≡ query_of 9 (7 ∷ [])
  pub highest : query_to "mod 9:2147483647" ≡ query_of 9 (1 ∷ [])
  pub zeros_in_front : query_to "mod 009: -0 ,00000000002147483647" ≡ query_of 9 (0 ∷ 1 ∷ [])
  pub blanks_around : query_to "mod 9:  1 , -2  ,3 " ≡ query_of 9 (1 ∷ 7 ∷ 3 ∷ [])
  pub no_terms : query_to "mod 9:" ≡ query_of 9 []
  pub only_blanks : query_to "mod 9:  " ≡ query_of 9 []
  pub largest_modulus : query_to "mod 4095:-1" ≡ query_of 4095 (4094 ∷ [])
  pub as_many_as_fit : read_answer (many 127 "") (zeros query_bytes) ≡ granted []
  -- 27 at the first byte that no line has there
  pub other_text : answer_to "nod 9:1" ≡ refused_at 27 0
  pub capital : answer_to "Mod 9:1" ≡ refused_at 27 0
  pub second_blank : answer_to "mod  9:1" ≡ refused_at 27 4
  pub no_modulus : answer_to "mod :" ≡ refused_at 27 4
  pub signed_modulus : answer_to "mod -9:1" ≡ refused_at 27 4
  pub blank_before_colon : answer_to "mod 9 :1" ≡ refused_at 27 5
  pub comma_first : answer_to "mod 9:,1" ≡ refused_at 27 6
  pub blank_inside : answer_to "mod 9:1 2" ≡ refused_at 27 8
  pub blank_after_minus : answer_to "mod 9:- 1" ≡ refused_at 27 7
  pub two_minus : answer_to "mod 9:--1" ≡ refused_at 27 7
  pub plus : answer_to "mod 9:+1" ≡ refused_at 27 6
  pub two_commas : answer_to "mod 9:1,,2" ≡ refused_at 27 8
  pub minus_behind : answer_to "mod 9:5-" ≡ refused_at 27 7
  pub second_colon : answer_to "mod 9:1:2" ≡ refused_at 27 7
  pub end_mark : answer_to "mod 9:1\n" ≡ refused_at 27 7
  pub slash : answer_to "mod 9:1/2" ≡ refused_at 27 7
  pub tab : answer_to "mod 9:1\t" ≡ refused_at 27 7
  -- or at the length of a line that ends too soon
  pub empty : answer_to "" ≡ refused_at 27 0
  pub cut_text : answer_to "mod" ≡ refused_at 27 3
  pub cut_modulus : answer_to "mod 9" ≡ refused_at 27 5
  pub cut_comma : answer_to "mod 9:1, " ≡ refused_at 27 9
  pub cut_minus : answer_to "mod 9:-" ≡ refused_at 27 7
  -- 28 at the digit that passes the range
  pub above : answer_to "mod 9:2147483648" ≡ refused_at 28 15
  pub below : answer_to "mod 9:-2147483649" ≡ refused_at 28 16
  pub at_the_digit : answer_to "mod 9:99999999999999,1" ≡ refused_at 28 15
  pub zeros_do_not_count : answer_to "mod 9:2147483647,00002147483648" ≡ refused_at 28 30
  pub modulus_above : answer_to "mod 2147483648:" ≡ refused_at 28 13
  -- whichever comes first, and both before 1 and 2, but after 5
  pub range_then_form : answer_to "mod 9:2147483648x" ≡ refused_at 28 15
  pub form_then_range : answer_to "mod 9:x2147483648" ≡ refused_at 27 6
  pub modulus_0 : answer_to "mod 0:" ≡ refused 1
  pub modulus_1 : answer_to "mod 1:1,2" ≡ refused 1
  pub modulus_4096 : answer_to "mod 4096:1" ≡ refused 1
  pub modulus_most : answer_to "mod 2147483647:1" ≡ refused 1
  pub form_then_1 : answer_to "mod 1:1,x" ≡ refused_at 27 8
  pub range_then_1 : answer_to "mod 1:2147483648" ≡ refused_at 28 15
  pub too_many : read_answer (many 128 "") (zeros query_bytes) ≡ refused 2
  pub far_too_many : read_answer (many 299 "") (zeros query_bytes) ≡ refused 2
  pub form_then_2 : read_answer (many 128 "x") (zeros query_bytes) ≡ refused_at 27 263
  pub 1-then-2 : read_answer (bytes "mod 1:1" ++ times 128 (bytes ",0")) (zeros query_bytes) ≡ refused 1
  pub 5-then-27 : read_answer [] (zeros 259) ≡ refused 5
  pub 5-then-28 : read_answer (bytes "mod 9:2147483648") [] ≡ refused 5
  pub 5-then-1 : read_answer (bytes "mod 1:") (zeros 261) ≡ refused 5
  -- what is lent stays where the line is refused
  pub stays : exit_of (bytes "mod 9:1,") (replicate query_bytes 7) ≡ replicate query_bytes 7
  -- for C
  pub read_code : code_of (answer_to "mod 9:1") ≡ 0
  pub form_code : code_of (answer_to "mod 9 :1") ≡ 27 + 256 * 5
  pub form_code_0 : code_of (answer_to "") ≡ 27
  pub range_code : code_of (answer_to "mod 9:2147483648") ≡ 28 + 256 * 15
  pub last_code : code_of (refused_at 27 72057594037927935) ≡ 18446744073709551387
  pub past_last_code : code_of (refused_at 28 72057594037927936) ≡ 18446744073709551388
