-- Two queries with the answer to them and the merged query: the moduli of 02's example, each kind of pair, each refusal, and their order.
-- Assumes nothing.
use Rattle.std.specs.Prelude.{◌≡◌, List, [], ◌∷◌, ℕ, ◌+◌, ◌*◌}
use Rattle.residue.specs.Remainders.{joined, two}
use Rattle.sequence.specs.Limits.{query_bytes}
use Rattle.sequence.specs.Answers.{Answer, granted, refused, refused_at}
use Rattle.sequence.specs.Rules.{query_of}
use Rattle.merge.specs.Rules.{merge_answer}
use Rattle.codes.specs.Codes.{code_of}
use Rattle.guarantees.specs.Cases.{zeros, reply}
use Rattle.guarantees.specs.Numbers.{counted}
use Rattle.guarantees.specs.Merging.{merged_exit}

-- the answer to two queries that are lent a query buffer of zeros, and the buffer after it
abbrev pub answer_to : List ℕ → List ℕ → Answer
answer_to x y = merge_answer x y (zeros query_bytes)

abbrev pub query_to : List ℕ → List ℕ → List ℕ
query_to x y = merged_exit x y (zeros query_bytes)

-- the code of the answer for C
abbrev pub code_to : List ℕ → List ℕ → ℕ
code_to x y = code_of (answer_to x y)

-- a_0 and a_1 of the register that is reported for some terms
abbrev pub two_of_a : ℕ → List ℕ → List ℕ
two_of_a m ts = (reply m ts 1).a

pub record MergedRows : Type 0 where
  -- 12 and 18
  pub example : answer_to (query_of 12 (7 ∷ 2 ∷ 11 ∷ [])) (query_of 18 (13 ∷ 2 ∷ 17 ∷ [])) ≡ granted []
  pub example_query : query_to (query_of 12 (7 ∷ 2 ∷ 11 ∷ [])) (query_of 18 (13 ∷ 2 ∷ 17 ∷ [])) ≡ query_of 36 (31 ∷ 2 ∷ 35 ∷ [])
  pub turned_query : query_to (query_of 18 (13 ∷ 2 ∷ 17 ∷ [])) (query_of 12 (7 ∷ 2 ∷ 11 ∷ [])) ≡ query_of 36 (31 ∷ 2 ∷ 35 ∷ [])
  -- terms that agree modulo 6, and not modulo 12
  pub agree_6_query : query_to (query_of 12 (7 ∷ [])) (query_of 18 (1 ∷ [])) ≡ query_of 36 (19 ∷ [])
  -- 2, 2 modulo 12 and modulo 18: no number below 36 leaves both coefficients, 11 and 8; 2, 2 modulo 36 has a register as short
  pub twelve : two_of_a 12 (2 ∷ 2 ∷ []) ≡ 1 ∷ 11 ∷ []
  pub eighteen : two_of_a 18 (2 ∷ 2 ∷ []) ≡ 1 ∷ 8 ∷ []
  pub no_coefficient : joined 36 (two 12 11 18 8) ≡ 36
  pub thirty_six : two_of_a 36 (2 ∷ 2 ∷ []) ≡ 1 ∷ 35 ∷ []
  pub thirty_six_query : query_to (query_of 12 (2 ∷ 2 ∷ [])) (query_of 18 (2 ∷ 2 ∷ [])) ≡ query_of 36 (2 ∷ 2 ∷ [])
  -- coprime, equal, one that divides the other
  pub coprime_query : query_to (query_of 4 (1 ∷ 2 ∷ [])) (query_of 9 (8 ∷ 3 ∷ [])) ≡ query_of 36 (17 ∷ 30 ∷ [])
  pub equal_query : query_to (query_of 5 (1 ∷ 4 ∷ [])) (query_of 5 (1 ∷ 4 ∷ [])) ≡ query_of 5 (1 ∷ 4 ∷ [])
  pub divides_query : query_to (query_of 4 (1 ∷ 3 ∷ [])) (query_of 12 (9 ∷ 7 ∷ [])) ≡ query_of 12 (9 ∷ 7 ∷ [])
  pub divided_query : query_to (query_of 12 (9 ∷ 7 ∷ [])) (query_of 4 (1 ∷ 3 ∷ [])) ≡ query_of 12 (9 ∷ 7 ∷ [])
  pub none_query : query_to (query_of 12 []) (query_of 18 []) ≡ query_of 36 []
  -- a refusal leaves the buffer as lent
  pub refused_query : query_to (query_of 12 (7 ∷ [])) (query_of 18 (12 ∷ [])) ≡ zeros query_bytes
  -- for C
  pub done_code : code_to (query_of 12 (7 ∷ [])) (query_of 18 (13 ∷ [])) ≡ 0
  pub counts_code : code_to (query_of 12 (7 ∷ [])) (query_of 18 []) ≡ 29
  pub above_code : code_to (query_of 512 []) (query_of 513 []) ≡ 30
  pub apart_code_0 : code_to (query_of 12 (7 ∷ [])) (query_of 18 (12 ∷ [])) ≡ 31
  pub apart_code_2 : code_to (query_of 12 (7 ∷ 2 ∷ 11 ∷ 0 ∷ [])) (query_of 18 (13 ∷ 2 ∷ 16 ∷ 1 ∷ [])) ≡ 31 + 256 * 2
  pub second_code_1 : code_to (query_of 12 (7 ∷ 2 ∷ [])) (query_of 18 (13 ∷ 18 ∷ [])) ≡ 3 + 256 * 1
  -- each refusal
  pub refused_1_first : answer_to (query_of 1 []) (query_of 18 []) ≡ refused 1
  pub refused_1_second : answer_to (query_of 12 []) (query_of 4096 []) ≡ refused 1
  pub refused_2_first : answer_to (counted 12 129 []) (query_of 18 []) ≡ refused 2
  pub refused_2_second : answer_to (query_of 12 []) (counted 18 129 []) ≡ refused 2
  pub refused_3_first : answer_to (query_of 12 (7 ∷ 12 ∷ 13 ∷ [])) (query_of 18 (0 ∷ 0 ∷ 0 ∷ [])) ≡ refused_at 3 1
  pub refused_3_second : answer_to (query_of 12 (7 ∷ 2 ∷ 11 ∷ [])) (query_of 18 (13 ∷ 2 ∷ 18 ∷ [])) ≡ refused_at 3 2
  pub refused_4_first : answer_to (counted 12 0 (1 ∷ [])) (query_of 18 []) ≡ refused 4
  pub refused_4_second : answer_to (query_of 12 []) (counted 18 0 (1 ∷ [])) ≡ refused 4
  pub refused_5_first : answer_to [] (query_of 18 []) ≡ refused 5
  pub refused_5_second : answer_to (query_of 12 []) [] ≡ refused 5
  pub refused_5_buffer : merge_answer (query_of 12 []) (query_of 18 []) (zeros 258) ≡ refused 5
  pub refused_29 : answer_to (query_of 12 (7 ∷ [])) (query_of 18 (13 ∷ 2 ∷ [])) ≡ refused 29
  pub refused_30 : answer_to (query_of 64 (3 ∷ [])) (query_of 65 (3 ∷ [])) ≡ refused 30
  pub largest : answer_to (query_of 63 (62 ∷ [])) (query_of 65 (64 ∷ [])) ≡ granted []
  pub refused_31_first : answer_to (query_of 12 (7 ∷ 2 ∷ 11 ∷ 0 ∷ [])) (query_of 18 (13 ∷ 2 ∷ 16 ∷ 1 ∷ [])) ≡ refused_at 31 2
  -- where two apply, the first in the order is given: the two in a row's name
  pub order_5_1 : merge_answer (query_of 1 []) (query_of 18 []) [] ≡ refused 5
  pub order_second_5_first_1 : answer_to (query_of 1 []) [] ≡ refused 5
  pub order_1_2 : answer_to (counted 1 129 []) (query_of 18 []) ≡ refused 1
  pub order_first_2_second_1 : answer_to (counted 12 129 []) (query_of 1 []) ≡ refused 2
  pub order_first_3_second_1 : answer_to (query_of 12 (12 ∷ [])) (query_of 1 []) ≡ refused_at 3 0
  pub order_first_4_second_1 : answer_to (counted 12 0 (1 ∷ [])) (query_of 1 []) ≡ refused 4
  pub order_second_1_29 : answer_to (query_of 12 (7 ∷ [])) (query_of 1 []) ≡ refused 1
  pub order_second_4_29 : answer_to (query_of 12 (7 ∷ [])) (counted 18 0 (1 ∷ [])) ≡ refused 4
  pub order_29_30 : answer_to (query_of 512 (3 ∷ [])) (query_of 513 []) ≡ refused 29
  pub order_29_31 : answer_to (query_of 12 (7 ∷ [])) (query_of 18 (12 ∷ 0 ∷ [])) ≡ refused 29
  pub order_30_31 : answer_to (query_of 512 (1 ∷ [])) (query_of 514 (2 ∷ [])) ≡ refused 30
