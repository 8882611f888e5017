-- The paper's numbers, and those for C: an answer of each kind, and one for each condition of each refusal; and the order of refusals. Typed lines,
-- with 27 and 28, are in Typed.
-- Assumes nothing.
use Rattle.std.specs.Prelude.{◌≡◌, List, [], ◌∷◌, ◌++◌, ℕ, ◌+◌, ◌*◌, ◌-◌, length, drop, replicate, Ok, Err}
use Rattle.lists.specs.Table.{at, tabulate}
use Rattle.cells.specs.Cell.{bytes_of}
use Rattle.steps.specs.declared.StepRecord.{StepRecord}
use Rattle.sequence.specs.declared.Sequence.{Sequence}
use Rattle.sequence.specs.declared.Refusal.TheVariants.{Term, Full}
use Rattle.sequence.specs.Limits.{max_terms, query_bytes, a_bytes, b_bytes, profile_bytes}
use Rattle.sequence.specs.Answers.{Answer, granted, refused, refused_at}
use Rattle.sequence.specs.Rules.{open_of, open_answer, push_answer, query_of}
use Rattle.sequence.specs.Report.{report_answer, profile_answer}
use Rattle.sequence.specs.Trace.{records_of, trace_of, trace_answer, sheet_filled}
use Rattle.column.specs.Rules.{push_all_of, push_all_answer}
use Rattle.candidate.specs.Rules.{verify_answer, generate_answer}
use Rattle.catalogue.specs.Rules.{record_bytes, body_bytes, body, record_of, synthesize_answer, look_up_of, look_up_answer, served_in}
use Rattle.codes.specs.Codes.{code_of}
use Rattle.guarantees.specs.Cases.{after, zeros, a_of, b_of}

-- 6, 3, 1, 5, 6 modulo 9 and 2, 2 modulo 4, with their records
abbrev pub nine : List ℕ
nine = query_of 9 (6 ∷ 3 ∷ 1 ∷ 5 ∷ 6 ∷ [])

abbrev pub four : List ℕ
four = query_of 4 (2 ∷ 2 ∷ [])

abbrev pub two : List ℕ
two = record_of nine ++ record_of four

abbrev pub out : List ℕ
out = zeros record_bytes

-- the answer to a candidate of length l held against 6, 3, 1, 5, 6 modulo 9; its register has length 3, a = 1,4,7,1 and b = 6,0,1
abbrev pub verify_to : List ℕ → List ℕ → ℕ → Answer
verify_to a b l = verify_answer nine (a_of a) (b_of b) l

-- to a query that is synthesized, and to a candidate of length l that generates n bytes
abbrev pub synthesize_to : List ℕ → Answer
synthesize_to query = synthesize_answer query out

abbrev pub generate_to : ℕ → List ℕ → ℕ → ℕ → Answer
generate_to m a l n = generate_answer m (a_of a) (b_of []) l (zeros n)

-- to the query looked up in a catalogue of one record with this register and accession number 7
abbrev pub look_up_to : List ℕ → List ℕ → ℕ → Answer
look_up_to a b l = look_up_answer nine (nine ++ (bytes_of (l ∷ []) ++ (a_of a ++ (b_of b ++ (7 ∷ 0 ∷ []))))) out

-- the two records with accession numbers 258 and 65,280
abbrev pub numbered : List ℕ
numbered = body (record_of nine) ++ ((2 ∷ 1 ∷ []) ++ (body (record_of four) ++ (0 ∷ 255 ∷ [])))

-- the last two bytes that who asks for a query is served from them, where a record of sevens is lent
abbrev pub shown_to : ℕ → List ℕ → List ℕ
shown_to who query = let lent : List ℕ = replicate record_bytes 7 in drop body_bytes (served_in who (look_up_of query numbered lent) query numbered lent)

-- a query of four terms, of which those at 1 and 3 are not below the modulus
abbrev pub wrong_at1_and3 : List ℕ
wrong_at1_and3 = query_of 5 (0 ∷ 5 ∷ 4 ∷ 9 ∷ [])

-- a query with a count of its own
abbrev pub counted : ℕ → ℕ → List ℕ → List ℕ
counted m n ts = bytes_of (m ∷ n ∷ tabulate max_terms (at ts))

-- a sequence that no call made, and what a push, a column, a register, a profile and a trace answer to it
abbrev pub forged : ℕ → ℕ → List ℕ → Sequence
forged m n ts = record { modulus = m; count = n; terms = tabulate max_terms (at ts) }

abbrev pub column_to : Sequence → List ℕ → Answer
column_to s ts = push_all_answer s (bytes_of ts)

abbrev pub register_to : Sequence → Answer
register_to s = report_answer s (zeros a_bytes) (zeros b_bytes)

abbrev pub profile_to : Sequence → Answer
profile_to s = profile_answer s (zeros profile_bytes)

-- a trace with a sheet of n records
abbrev pub trace_to : Sequence → ℕ → Answer
trace_to s n = trace_answer s (zeros a_bytes) (zeros b_bytes) n

-- what stands in a sheet after a trace, and a record of a sheet that was lent
abbrev pub stored : Sequence → List StepRecord → List StepRecord
stored s lent = sheet_filled (trace_of s (zeros a_bytes) (zeros b_bytes) (length lent)) (records_of s) lent

abbrev pub step : ℕ → ℕ → ℕ → ℕ → ℕ → ℕ → ℕ → ℕ → StepRecord
step q k η l u θ g c = record { power = q; k = k; row = η; length = l; u = u; theta = θ; g = g; case = c }

abbrev pub blank : StepRecord
blank = step 7 7 7 7 7 7 7 7

-- each answer, and each condition of each refusal
pub record Numbers : Type 0 where
  pub opened : open_answer 4095 ≡ granted []
  pub pushed : push_answer (open_of 9).sequence 8 ≡ granted []
  pub pushed_all : column_to (after 9 (6 ∷ [])) (3 ∷ 1 ∷ 5 ∷ 6 ∷ []) ≡ granted []
  pub pushed_none : column_to (open_of 9).sequence [] ≡ granted []
  pub pushed_128 : column_to (open_of 2).sequence (replicate 128 1) ≡ granted []
  pub column_stays :
      push_all_of (after 9 (6 ∷ [])) (bytes_of (3 ∷ 9 ∷ 5 ∷ []))
      ≡ record { sequence = after 9 (6 ∷ 3 ∷ []); taken = 1; outcome = Err (Term 2) }
  pub column_whole :
      push_all_of (after 9 (6 ∷ [])) (bytes_of (3 ∷ 1 ∷ 5 ∷ 6 ∷ []))
      ≡ record { sequence = after 9 (6 ∷ 3 ∷ 1 ∷ 5 ∷ 6 ∷ []); taken = 4; outcome = Ok tt }
  pub column_bytes :
      push_all_of (open_of 4095).sequence (254 ∷ 15 ∷ 255 ∷ 15 ∷ [])
      ≡ record { sequence = after 4095 (4094 ∷ []); taken = 1; outcome = Err (Term 1) }
  pub column_ends_full :
      push_all_of (forged 2 127 []) (bytes_of (1 ∷ 0 ∷ 0 ∷ []))
      ≡ record { sequence = forged 2 128 (replicate 127 0 ++ (1 ∷ [])); taken = 1; outcome = Err Full }
  pub reported : register_to (after 9 (6 ∷ 3 ∷ 1 ∷ 5 ∷ 6 ∷ [])) ≡ granted (3 ∷ 0 ∷ [])
  pub reported_sole : register_to (after 7 (1 ∷ 1 ∷ 2 ∷ 3 ∷ [])) ≡ granted (2 ∷ 1 ∷ [])
  pub reported_several : register_to (after 2 (0 ∷ 0 ∷ 1 ∷ [])) ≡ granted (3 ∷ 2 ∷ [])
  pub profiled : profile_to (after 9 (6 ∷ 3 ∷ 1 ∷ 5 ∷ 6 ∷ [])) ≡ granted []
  pub traced : trace_to (after 9 (6 ∷ 3 ∷ 1 ∷ 5 ∷ 6 ∷ [])) 10 ≡ granted (3 ∷ 0 ∷ [])
  pub traced_sole : trace_to (after 7 (1 ∷ 1 ∷ 2 ∷ 3 ∷ [])) 4 ≡ granted (2 ∷ 1 ∷ [])
  pub traced_several : trace_to (after 2 (0 ∷ 0 ∷ 1 ∷ [])) 3 ≡ granted (3 ∷ 2 ∷ [])
  pub traced_longer : trace_to (after 9 (6 ∷ 3 ∷ 1 ∷ 5 ∷ 6 ∷ [])) 11 ≡ granted (3 ∷ 0 ∷ [])
  pub traced_sheet :
      stored (after 6 (3 ∷ 3 ∷ [])) (replicate 5 blank)
      ≡ step 2 0 0 0 0 1 0 2 ∷ step 2 1 0 1 0 1 0 3 ∷ step 3 0 0 0 1 1 1 1 ∷ step 3 1 0 0 1 1 1 1 ∷ blank ∷ []
  pub traced_short : stored (after 6 (3 ∷ 3 ∷ [])) (replicate 3 blank) ≡ replicate 3 blank
  pub yes : code_of (verify_to (1 ∷ 4 ∷ 7 ∷ 1 ∷ []) (6 ∷ 0 ∷ 1 ∷ []) 3) ≡ 0
  pub no_at_3 : code_of (verify_to (1 ∷ 4 ∷ 7 ∷ 2 ∷ []) (6 ∷ 0 ∷ 1 ∷ []) 3) ≡ 256 * 4
  pub ran : code_of (generate_to 9 (1 ∷ []) 0 256) ≡ 0
  pub made : code_of (synthesize_to nine) ≡ 0
  pub made_none_found : code_of (look_up_answer nine [] out) ≡ 0
  pub found_at_0 : code_of (look_up_answer nine two out) ≡ 256 * 1
  pub found_at_1 : code_of (look_up_answer four two out) ≡ 256 * 2
  pub found_numbered : code_of (look_up_answer four numbered out) ≡ 256 * 2
  pub shown_1 : shown_to 1 nine ≡ 2 ∷ 1 ∷ []
  pub shown_1_high : shown_to 1 four ≡ 0 ∷ 255 ∷ []
  pub shown_0 : shown_to 0 nine ≡ 0 ∷ 0 ∷ []
  pub shown_2 : shown_to 2 nine ≡ 0 ∷ 0 ∷ []
  pub shown_2_high : shown_to 2 four ≡ 0 ∷ 0 ∷ []
  pub shown_257 : shown_to 257 nine ≡ 0 ∷ 0 ∷ []
  pub shown_65537 : shown_to 65537 nine ≡ 0 ∷ 0 ∷ []
  pub shown_large : shown_to 4294967297 nine ≡ 0 ∷ 0 ∷ []
  pub shown_made_1 : shown_to 1 (query_of 5 []) ≡ 0 ∷ 0 ∷ []
  pub shown_made_2 : shown_to 2 (query_of 5 []) ≡ 0 ∷ 0 ∷ []
  pub shown_refused : shown_to 2 wrong_at1_and3 ≡ 7 ∷ 7 ∷ []
  pub placed_code_0 : code_of (synthesize_to (query_of 5 (5 ∷ []))) ≡ 3
  pub placed_code_1 : code_of (look_up_answer wrong_at1_and3 two out) ≡ 3 + 256 * 1
  pub placed_code_127 : code_of (synthesize_to (query_of 5 (replicate 127 4 ++ (5 ∷ [])))) ≡ 3 + 256 * 127
  pub plain_code : code_of (look_up_to (1 ∷ 4 ∷ 7 ∷ 2 ∷ []) (6 ∷ 0 ∷ 1 ∷ []) 3) ≡ 24
  pub refused_1_below : synthesize_to (query_of 1 []) ≡ refused 1
  pub refused_1_above : synthesize_to (query_of 4096 []) ≡ refused 1
  pub refused_2 : synthesize_to (counted 2 129 []) ≡ refused 2
  pub refused_2_cells : generate_to 9 (1 ∷ []) 0 258 ≡ refused 2
  pub refused_3_at_0 : synthesize_to (query_of 5 (5 ∷ [])) ≡ refused_at 3 0
  pub refused_3_first : synthesize_to wrong_at1_and3 ≡ refused_at 3 1
  pub refused_3_last_place : synthesize_to (query_of 5 (replicate 127 4 ++ (5 ∷ []))) ≡ refused_at 3 127
  pub refused_3_verified : verify_answer wrong_at1_and3 (a_of (1 ∷ [])) (b_of []) 0 ≡ refused_at 3 1
  pub refused_3_looked_up : look_up_answer wrong_at1_and3 two out ≡ refused_at 3 1
  pub refused_3_pushed : push_answer (after 9 (6 ∷ 3 ∷ [])) 9 ≡ refused_at 3 2
  pub refused_3_column : column_to (after 9 (6 ∷ [])) (3 ∷ 9 ∷ 5 ∷ []) ≡ refused_at 3 2
  pub refused_3_column_first : column_to (open_of 9).sequence (9 ∷ 9 ∷ []) ≡ refused_at 3 0
  pub refused_4 : synthesize_to (counted 5 0 (1 ∷ [])) ≡ refused 4
  pub refused_5 : synthesize_to [] ≡ refused 5
  pub refused_5_record : synthesize_answer nine (zeros 776) ≡ refused 5
  pub refused_5_served : look_up_answer nine two (zeros 776) ≡ refused 5
  pub refused_5_odd : generate_to 9 (1 ∷ []) 0 1 ≡ refused 5
  pub refused_5_column : push_all_answer (open_of 9).sequence (6 ∷ 0 ∷ 3 ∷ []) ≡ refused 5
  pub refused_5_sheet : trace_to (after 9 (6 ∷ 3 ∷ 1 ∷ 5 ∷ 6 ∷ [])) 9 ≡ refused 5
  pub refused_5_sheet_primes : trace_to (after 12 (7 ∷ [])) 2 ≡ refused 5
  pub refused_6_a : verify_to (1 ∷ 4 ∷ 9 ∷ 1 ∷ []) (6 ∷ 0 ∷ 1 ∷ []) 3 ≡ refused 6
  pub refused_6_b : verify_to (1 ∷ 4 ∷ 7 ∷ 1 ∷ []) (6 ∷ 9 ∷ 1 ∷ []) 3 ≡ refused 6
  pub refused_6_past_a : verify_to (1 ∷ 4 ∷ 7 ∷ 1 ∷ 1 ∷ []) (6 ∷ 0 ∷ 1 ∷ []) 3 ≡ refused 6
  pub refused_6_past_b : verify_to (1 ∷ 4 ∷ 7 ∷ 1 ∷ []) (6 ∷ 0 ∷ 1 ∷ 1 ∷ []) 3 ≡ refused 6
  pub refused_6_lead_above : verify_to (9 ∷ 4 ∷ 7 ∷ 1 ∷ []) (6 ∷ 0 ∷ 1 ∷ []) 3 ≡ refused 6
  pub refused_6_run : generate_to 9 (1 ∷ 4 ∷ []) 0 2 ≡ refused 6
  pub refused_21_modulus : push_answer (open_of 1).sequence 0 ≡ refused 21
  pub refused_21_count : push_answer (forged 5 129 []) 0 ≡ refused 21
  pub refused_21_term : register_to (forged 5 1 (5 ∷ [])) ≡ refused 21
  pub refused_21_padding : profile_to (forged 5 0 (1 ∷ [])) ≡ refused 21
  pub refused_21_traced : trace_to (forged 5 1 (5 ∷ [])) 1 ≡ refused 21
  pub refused_21_column : column_to (forged 5 0 (1 ∷ [])) (0 ∷ []) ≡ refused 21
  pub refused_21_column_empty : column_to (open_of 1).sequence [] ≡ refused 21
  pub refused_22 : push_answer (forged 2 128 []) 0 ≡ refused 22
  pub refused_22_column : column_to (open_of 2).sequence (replicate 129 1) ≡ refused 22
  pub refused_23 : look_up_answer nine (0 ∷ []) out ≡ refused 23
  pub refused_23_body : look_up_answer nine (body (record_of nine)) out ≡ refused 23
  pub refused_24_long : look_up_to (1 ∷ []) [] 129 ≡ refused 24
  pub refused_24_coefficient : look_up_to (1 ∷ 4 ∷ 9 ∷ 1 ∷ []) (6 ∷ 0 ∷ 1 ∷ []) 3 ≡ refused 24
  pub refused_24_lead : look_up_to (2 ∷ 4 ∷ 7 ∷ 1 ∷ []) (6 ∷ 0 ∷ 1 ∷ []) 3 ≡ refused 24
  pub refused_24_no : look_up_to (1 ∷ 4 ∷ 7 ∷ 2 ∷ []) (6 ∷ 0 ∷ 1 ∷ []) 3 ≡ refused 24
  pub refused_25 : verify_to (1 ∷ []) [] 129 ≡ refused 25
  pub refused_25_run : generate_to 9 (1 ∷ []) 129 2 ≡ refused 25
  pub refused_26 : verify_to (2 ∷ 4 ∷ 7 ∷ 1 ∷ []) (6 ∷ 0 ∷ 1 ∷ []) 3 ≡ refused 26
  pub refused_26_zero : verify_to (0 ∷ 4 ∷ 7 ∷ 1 ∷ []) (6 ∷ 0 ∷ 1 ∷ []) 3 ≡ refused 26
  pub refused_26_run : generate_to 9 (2 ∷ []) 0 2 ≡ refused 26

-- where two refusals apply, the first in the paper's order is given: the two in a row's name
pub record Orders : Type 0 where
  pub push_21_22 : push_answer (forged 1 128 []) 0 ≡ refused 21
  pub push_22_3 : push_answer (forged 2 128 []) 2 ≡ refused 22
  pub column_5_21 : push_all_answer (open_of 1).sequence (0 ∷ []) ≡ refused 5
  pub column_21_22 : column_to (forged 1 128 []) (0 ∷ []) ≡ refused 21
  pub column_21_3 : column_to (forged 5 1 (5 ∷ [])) (5 ∷ []) ≡ refused 21
  pub column_22_3 : column_to (forged 2 128 []) (2 ∷ []) ≡ refused 22
  pub report_5_21 : report_answer (open_of 1).sequence [] [] ≡ refused 5
  pub trace_5_21 : trace_answer (open_of 1).sequence [] [] 0 ≡ refused 5
  pub trace_21_5 : trace_to (forged 5 1 (5 ∷ [])) 0 ≡ refused 21
  pub profile_5_21 : profile_answer (open_of 1).sequence [] ≡ refused 5
  pub query_5_1 : synthesize_answer (query_of 1 []) [] ≡ refused 5
  pub query_1_2 : synthesize_to (counted 1 129 []) ≡ refused 1
  pub query_2_3 : synthesize_to (counted 5 129 (5 ∷ [])) ≡ refused 2
  pub query_3_4 : synthesize_to (counted 5 1 (5 ∷ 1 ∷ [])) ≡ refused_at 3 0
  pub verify_5_1 : verify_answer (query_of 1 []) [] [] 0 ≡ refused 5
  pub verify_4_25 : verify_answer (counted 5 0 (1 ∷ [])) (a_of []) (b_of []) 129 ≡ refused 4
  pub verify_25_6 : verify_to (1 ∷ 9 ∷ []) [] 129 ≡ refused 25
  pub verify_25_26 : verify_to (2 ∷ []) [] 129 ≡ refused 25
  pub verify_6_26 : verify_to (2 ∷ 4 ∷ 9 ∷ 1 ∷ []) (6 ∷ 0 ∷ 1 ∷ []) 3 ≡ refused 6
  pub generate_5_1 : generate_to 1 (1 ∷ []) 0 1 ≡ refused 5
  pub generate_1_2 : generate_to 1 (1 ∷ []) 0 258 ≡ refused 1
  pub generate_2_25 : generate_to 9 (1 ∷ []) 129 258 ≡ refused 2
  pub generate_25_6 : generate_to 9 (1 ∷ 9 ∷ []) 129 2 ≡ refused 25
  pub generate_6_26 : generate_to 9 (2 ∷ 9 ∷ []) 1 2 ≡ refused 6
  pub look_up_5_1 : look_up_answer (query_of 1 []) (0 ∷ []) [] ≡ refused 5
  pub look_up_4_23 : look_up_answer (counted 5 0 (1 ∷ [])) (0 ∷ []) out ≡ refused 4
  pub look_up_23_24 : look_up_answer nine (nine ++ zeros (record_bytes - query_bytes + 1)) out ≡ refused 23
