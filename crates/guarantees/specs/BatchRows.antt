-- Batches with the answers to them: each kind of reply, each refusal, the order, and what stands in the buffers, where sevens were lent.
-- Assumes nothing.
use Rattle.std.specs.Prelude.{◌≡◌, List, [], ◌∷◌, ◌++◌, ℕ, suc, ◌+◌, ◌*◌, take, drop, replicate, Some, None, Ok}
use Rattle.cells.specs.Cell.{bytes_of}
use Rattle.sequence.specs.Answers.{Answer, granted, refused}
use Rattle.sequence.specs.Rules.{query_of}
use Rattle.catalogue.specs.Rules.{record_bytes, body, record_of}
use Rattle.codes.specs.Codes.{counts_code_of}
use Rattle.batch.specs.Rules.{queries_in, look_up_batch_answer}
use Rattle.batch.specs.Walk.{held_of}
use Rattle.guarantees.specs.Cases.{a_of, b_of}
use Rattle.guarantees.specs.Numbers.{nine, four, two, wrong_at1_and3, counted}
use Rattle.guarantees.specs.Batches.{records_after, replies_after}

-- queries end to end, and one of them n times
abbrev pub together : List (List ℕ) → List ℕ
together [] = []
together (q ∷ qs) = q ++ together qs

abbrev pub copies : ℕ → List ℕ → List ℕ
copies n q = together (replicate n q)

-- lent buffers of sevens of the right lengths for a batch, and of others
abbrev pub sevens : ℕ → List ℕ
sevens n = replicate n 7

-- the answer to a batch, and the records and the replies after it
abbrev pub batch_to : List ℕ → List ℕ → Answer
batch_to queries catalogue = look_up_batch_answer queries catalogue (sevens (queries_in queries * record_bytes)) (sevens (queries_in queries))

abbrev pub records_to : ℕ → List ℕ → List ℕ → List ℕ
records_to who queries catalogue = records_after who queries catalogue (sevens (queries_in queries * record_bytes)) (sevens (queries_in queries))

abbrev pub replies_to : List ℕ → List ℕ → List ℕ
replies_to queries catalogue = replies_after queries catalogue (sevens (queries_in queries * record_bytes)) (sevens (queries_in queries))

-- a query without terms, one with the terms of `nine` modulo 11, and one with one term fewer
abbrev pub none : List ℕ
none = query_of 5 []

abbrev pub eleven : List ℕ
eleven = query_of 11 (6 ∷ 3 ∷ 1 ∷ 5 ∷ 6 ∷ [])

abbrev pub shorter : List ℕ
shorter = query_of 9 (6 ∷ 3 ∷ 1 ∷ 5 ∷ [])

-- found, refused by 3 at 1, made, found again; and a catalogue of one record, with accession number 65,280
abbrev pub quartet : List ℕ
quartet = together (four ∷ wrong_at1_and3 ∷ none ∷ four ∷ [])

abbrev pub single : List ℕ
single = body (record_of four) ++ (0 ∷ 255 ∷ [])

-- a record of `nine` that does not pass the test, with accession number 7, before one that does, and one of `four`
abbrev pub failing : List ℕ
failing = nine ++ (bytes_of (3 ∷ []) ++ (a_of (1 ∷ 4 ∷ 7 ∷ 2 ∷ []) ++ (b_of (6 ∷ 0 ∷ 1 ∷ []) ++ (7 ∷ 0 ∷ []))))

abbrev pub spoiled : List ℕ
spoiled = failing ++ (record_of nine ++ record_of four)

-- one query for each refusal that a query has
abbrev pub wrong : List ℕ
wrong = together (query_of 1 [] ∷ counted 2 129 [] ∷ query_of 5 (5 ∷ []) ∷ counted 5 0 (1 ∷ []) ∷ [])

-- what is replied and written
pub record ServedRows : Type 0 where
  -- a batch of each kind: the counts, their number for C, each reply, and every byte for an editor and for a visitor
  pub mixed : batch_to quartet single ≡ granted (2 ∷ 1 ∷ 1 ∷ [])
  pub mixed_code : counts_code_of (granted (2 ∷ 1 ∷ 1 ∷ [])) ≡ 256 * (2 + 256 * 1 + 65536 * 1)
  pub mixed_replies : replies_to quartet single ≡ 256 ∷ (3 + 256) ∷ 0 ∷ 256 ∷ []
  pub mixed_editor : records_to 1 quartet single ≡ together (single ∷ replicate 778 0 ∷ record_of none ∷ single ∷ [])
  pub mixed_visitor : records_to 257 quartet single ≡ together (record_of four ∷ replicate 778 0 ∷ record_of none ∷ record_of four ∷ [])
  pub mixed_number : drop 776 (take 778 (records_to 1 quartet single)) ≡ 0 ∷ 255 ∷ []
  -- the first match alone decides: 24, which is counted as refused
  pub failed : batch_to (nine ++ four) spoiled ≡ granted (1 ∷ 0 ∷ 1 ∷ [])
  pub failed_replies : replies_to (nine ++ four) spoiled ≡ 24 ∷ 768 ∷ []
  pub failed_records : records_to 1 (nine ++ four) spoiled ≡ replicate 778 0 ++ record_of four

-- queries that are refused, and near ones
pub record QueryRows : Type 0 where
  -- each refusal of a query, with zeros
  pub own : batch_to wrong two ≡ granted (0 ∷ 0 ∷ 4 ∷ [])
  pub own_replies : replies_to wrong two ≡ 1 ∷ 2 ∷ 3 ∷ 4 ∷ []
  pub own_records : records_to 1 wrong two ≡ replicate 3112 0
  -- all 260 bytes are matched
  pub other_modulus : replies_to (eleven ++ nine) two ≡ 0 ∷ 256 ∷ []
  pub other_count : replies_to (shorter ++ nine) two ≡ 0 ∷ 256 ∷ []

-- how many queries
pub record SizeRows : Type 0 where
  -- none, and sixteen
  pub empty : batch_to [] two ≡ granted (0 ∷ 0 ∷ 0 ∷ [])
  pub empty_code : counts_code_of (batch_to [] two) ≡ 0
  pub sixteen_made : batch_to (copies 16 none) [] ≡ granted (0 ∷ 16 ∷ 0 ∷ [])
  pub twice_found : batch_to (copies 2 none) (record_of none) ≡ granted (2 ∷ 0 ∷ 0 ∷ [])
  pub sixteen_code : counts_code_of (granted (16 ∷ 0 ∷ 0 ∷ [])) ≡ 4096

-- refusals of the whole call
pub record WholeRows : Type 0 where
  -- 34, 23, and 5 for each length
  pub refused_34 : counts_code_of (batch_to (copies 17 none) []) ≡ 34
  pub refused_23 : counts_code_of (batch_to (copies 16 none) (0 ∷ [])) ≡ 23
  pub refused_23_empty : batch_to [] (0 ∷ []) ≡ refused 23
  pub refused_23_body : batch_to nine (body (record_of nine)) ≡ refused 23
  pub refused_5_short : look_up_batch_answer (drop 1 none) [] (sevens 0) (sevens 0) ≡ refused 5
  pub refused_5_long : look_up_batch_answer (none ++ 0 ∷ []) [] (sevens 778) (sevens 1) ≡ refused 5
  pub refused_5_record : look_up_batch_answer none [] (sevens 776) (sevens 1) ≡ refused 5
  pub refused_5_records : look_up_batch_answer none [] (sevens 1556) (sevens 1) ≡ refused 5
  pub refused_5_no_reply : look_up_batch_answer none [] (sevens 778) [] ≡ refused 5
  pub refused_5_replies : look_up_batch_answer none [] (sevens 778) (sevens 2) ≡ refused 5
  pub refused_5_empty : look_up_batch_answer [] [] (sevens 1) [] ≡ refused 5
  pub refused_5_code : counts_code_of (look_up_batch_answer none [] [] (sevens 1)) ≡ 5
  -- the order of the two in a row's name, and of 23 and a query's own
  pub order_5_34 : look_up_batch_answer (copies 17 none) [] (sevens (suc (17 * 778))) (sevens 17) ≡ refused 5
  pub order_5_23 : look_up_batch_answer none (0 ∷ []) (sevens 778) [] ≡ refused 5
  pub order_34_23 : batch_to (copies 17 none) (0 ∷ []) ≡ refused 34
  pub order_23_1 : batch_to (query_of 1 []) (0 ∷ []) ≡ refused 23
  -- then nothing changes
  pub kept_34 : records_to 1 (copies 17 none) [] ≡ sevens 13226
  pub kept_34_replies : replies_to (copies 17 none) [] ≡ sevens 17
  pub kept_23 : records_to 1 none (0 ∷ []) ≡ sevens 778
  pub kept_23_replies : replies_to none (0 ∷ []) ≡ sevens 1
  pub kept_5 : records_after 1 none [] (sevens 776) (sevens 1) ≡ sevens 776
  pub kept_5_replies : replies_after none [] (sevens 776) (sevens 1) ≡ sevens 1

-- the walk along four, nine, nine: after none, one, two and three of them
pub record WalkRows : Type 0 where
  pub after_0 : held_of nine (record_of four ++ (record_of nine ++ record_of nine)) 0 ≡ Ok None
  pub after_1 : held_of nine (record_of four ++ (record_of nine ++ record_of nine)) 1 ≡ Ok None
  pub after_2 : held_of nine (record_of four ++ (record_of nine ++ record_of nine)) 2 ≡ Ok (Some 1)
  pub after_3 : held_of nine (record_of four ++ (record_of nine ++ record_of nine)) 3 ≡ Ok (Some 1)
