-- Numbers and tallies with the answers to them: those of 02, small ones by the steps, large ones, lines of the census, each refusal, and their order.
-- Assumes nothing.
use Rattle.std.specs.Prelude.{◌≡◌, true, false, List, [], ◌∷◌, ◌++◌, ℕ, ◌-◌, ◌^◌, length, replicate, Some, None}
use Rattle.lists.specs.Text.{bytes}
use Rattle.cells.specs.Cell.{cell_at, bytes_of}
use Rattle.sequence.specs.Limits.{query_bytes}
use Rattle.sequence.specs.Answers.{Answer, granted, refused}
use Rattle.sequence.specs.Rules.{query_of}
use Rattle.enumeration.specs.Rules.{lengths, tally_bytes, enumerate_answer, tally_answer}
use Rattle.codes.specs.Codes.{code_of}
use Rattle.formatting.specs.Census.{census_header, pair_in, pair_line, is_pair}
use Rattle.guarantees.specs.Census.{query_after, cells_after}

-- lent buffers of sevens, of the right lengths and of others
abbrev pub sevens : ℕ → List ℕ
sevens n = replicate n 7

-- the answer to a number and the query after it, lent a query buffer; the same of a tally
abbrev pub number_to : ℕ → ℕ → ℕ → Answer
number_to m n x = enumerate_answer m n x (sevens query_bytes)

abbrev pub query_to : ℕ → ℕ → ℕ → List ℕ
query_to m n x = query_after m n x (sevens query_bytes)

abbrev pub tally_to : ℕ → ℕ → Answer
tally_to m n = tally_answer m n (sevens tally_bytes)

abbrev pub cells_to : ℕ → ℕ → List ℕ
cells_to m n = cells_after m n (sevens tally_bytes)

-- cells that are zero from some on
abbrev pub padded : List ℕ → List ℕ
padded xs = bytes_of (xs ++ replicate (lengths - length xs) 0)

pub record CensusRows : Type 0 where
  -- the tallies of 02, zero past n
  pub two_three : cells_to 2 3 ≡ padded (1 ∷ 2 ∷ 4 ∷ 1 ∷ [])
  pub four_two : cells_to 4 2 ≡ padded (1 ∷ 10 ∷ 5 ∷ [])
  pub four_two_done : tally_to 4 2 ≡ granted []
  -- thirteen cells in 26 bytes, and a query of 260
  pub two_three_bytes :
      cells_after 2 3 (sevens 26)
      ≡ 1 ∷ 0 ∷ 2 ∷ 0 ∷ 4 ∷ 0 ∷ 1 ∷ 0 ∷ 0 ∷ 0 ∷ 0 ∷ 0 ∷ 0 ∷ 0 ∷ 0 ∷ 0 ∷ 0 ∷ 0 ∷ 0 ∷ 0 ∷ 0 ∷ 0 ∷ 0 ∷ 0 ∷ 0 ∷ 0 ∷ []
  pub two_three_done : tally_answer 2 3 (sevens 26) ≡ granted []
  pub six_done : enumerate_answer 2 3 6 (sevens 260) ≡ granted []
  -- a prime, a product, one term, none
  pub three_three : cells_to 3 3 ≡ padded (1 ∷ 6 ∷ 18 ∷ 2 ∷ [])
  pub six_two : cells_to 6 2 ≡ padded (1 ∷ 20 ∷ 15 ∷ [])
  pub eight_one : cells_to 8 1 ≡ padded (1 ∷ 7 ∷ [])
  pub none_left : cells_to 2 0 ≡ padded (1 ∷ [])
  pub none_large : cells_to 4095 0 ≡ padded (1 ∷ [])
  -- 3,721 and 4,096 sequences modulo a prime, and 4,095 of one term
  pub sixty_one : cell_at (cells_to 61 2) 1 ≡ 3660
  pub sixty_one_last : cell_at (cells_to 61 2) 2 ≡ 60
  pub twelve : cell_at (cells_to 2 12) 6 ≡ 2048
  pub twelve_last : cell_at (cells_to 2 12) 12 ≡ 1
  pub one_term : cell_at (cells_to 4095 1) 1 ≡ 4094
  -- numbers: the last term runs fastest
  pub six : query_to 2 3 6 ≡ query_of 2 (1 ∷ 1 ∷ 0 ∷ [])
  pub next : query_to 2 3 1 ≡ query_of 2 (0 ∷ 0 ∷ 1 ∷ [])
  pub decimal : query_to 10 3 527 ≡ query_of 10 (5 ∷ 2 ∷ 7 ∷ [])
  pub first : query_to 10 3 0 ≡ query_of 10 (0 ∷ 0 ∷ 0 ∷ [])
  pub last : query_to 2 12 4095 ≡ query_of 2 (replicate 12 1)
  pub one : query_to 4095 1 4094 ≡ query_of 4095 (4094 ∷ [])
  pub empty : query_to 9 0 0 ≡ query_of 9 []
  pub last_done : number_to 2 12 4095 ≡ granted []
  pub empty_done : number_to 4095 0 0 ≡ granted []
  -- lines of the census, as they are typed and printed: numbers with leading zeros are printed without, a refusal does not end it
  pub head : census_header ≡ bytes "modulus count tally\n"
  pub printed : pair_line (bytes "2 3") ≡ bytes "2 3 1,2,4,1\n"
  pub printed_four : pair_line (bytes "004 02") ≡ bytes "4 2 1,10,5\n"
  pub printed_none : pair_line (bytes "9 0") ≡ bytes "9 0 1\n"
  pub printed_1 : pair_line (bytes "1 3") ≡ bytes "refused 1\n"
  pub printed_2 : pair_line (bytes "2 4294967295") ≡ bytes "refused 2\n"
  pub printed_33 : pair_line (bytes "2 13") ≡ bytes "refused 33\n"
  pub refused_goes_on : is_pair (pair_in (bytes "2 13")) ≡ true
  -- and lines that end it
  pub other : pair_line (bytes "2,3") ≡ bytes "not a modulus and a count\n"
  pub other_ends : is_pair (pair_in (bytes "2,3")) ≡ false
  pub empty_line : pair_in (bytes "") ≡ None
  pub one_number : pair_in (bytes "23") ≡ None
  pub two_blanks : pair_in (bytes "2  3") ≡ None
  pub blank_first : pair_in (bytes " 2 3") ≡ None
  pub blank_last : pair_in (bytes "2 3 ") ≡ None
  pub no_count : pair_in (bytes "2 ") ≡ None
  pub minus : pair_in (bytes "2 -3") ≡ None
  pub too_large : pair_in (bytes "2 4294967296") ≡ None
  pub largest : pair_in (bytes "4294967295 0") ≡ Some (4294967295, 0)
  -- a refusal leaves the buffers as lent
  pub refused_query : query_to 2 3 8 ≡ sevens query_bytes
  pub refused_cells : cells_to 2 13 ≡ sevens tally_bytes
  -- for C
  pub number_code : code_of (number_to 2 3 6) ≡ 0
  pub tally_code : code_of (tally_to 2 3) ≡ 0
  pub number_code_33 : code_of (number_to 2 3 8) ≡ 33
  pub tally_code_33 : code_of (tally_to 2 13) ≡ 33
  -- each refusal
  pub number_5_short : enumerate_answer 2 3 6 (sevens 259) ≡ refused 5
  pub number_5_long : enumerate_answer 2 3 6 (sevens 261) ≡ refused 5
  pub tally_5_short : tally_answer 2 3 (sevens 25) ≡ refused 5
  pub tally_5_long : tally_answer 2 3 (sevens 27) ≡ refused 5
  pub tally_5_few : tally_answer 2 3 (sevens 8) ≡ refused 5
  pub number_1_below : number_to 1 3 0 ≡ refused 1
  pub number_1_above : number_to 4096 1 0 ≡ refused 1
  pub tally_1_below : tally_to 0 0 ≡ refused 1
  pub tally_1_above : tally_to 4096 0 ≡ refused 1
  pub number_2 : number_to 2 129 0 ≡ refused 2
  pub tally_2 : tally_to 2 129 ≡ refused 2
  -- 33: 2^13, 2^128, 65^2, 4,095^2; a number that is the power, and one that would fit if it were cut to 32 bits
  pub number_33_power : number_to 2 13 0 ≡ refused 33
  pub number_33_most : number_to 2 128 0 ≡ refused 33
  pub tally_33_power : tally_to 65 2 ≡ refused 33
  pub tally_33_most : tally_to 4095 128 ≡ refused 33
  pub number_33_equal : number_to 2 12 4096 ≡ refused 33
  pub number_33_none : number_to 9 0 1 ≡ refused 33
  pub number_33_wide : number_to 2 3 (2 ^ 32) ≡ refused 33
  pub sixty_four : number_to 64 2 4095 ≡ granted []
  -- where two apply, the first in the order is given: the two in a row's name
  pub number_order_5_1 : enumerate_answer 1 3 0 (sevens 259) ≡ refused 5
  pub number_order_5_2 : enumerate_answer 2 129 0 (sevens 26) ≡ refused 5
  pub number_order_5_33 : enumerate_answer 2 3 8 (sevens 0) ≡ refused 5
  pub number_order_1_2 : number_to 1 129 0 ≡ refused 1
  pub number_order_1_33 : number_to 4096 2 0 ≡ refused 1
  pub number_order_2_33 : number_to 2 129 (2 ^ 32) ≡ refused 2
  pub tally_order_5_1 : tally_answer 0 3 (sevens 260) ≡ refused 5
  pub tally_order_5_2 : tally_answer 2 129 (sevens 0) ≡ refused 5
  pub tally_order_5_33 : tally_answer 2 13 (sevens 28) ≡ refused 5
  pub tally_order_1_2 : tally_to 0 129 ≡ refused 1
  pub tally_order_1_33 : tally_to 5000 2 ≡ refused 1
  pub tally_order_2_33 : tally_to 3 200 ≡ refused 2
