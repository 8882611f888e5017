-- The claims about accession numbers: visitors learn nothing of them, an editor is served the record found whole, and a record made has 0.
-- Assumes nothing.
use Rattle.std.specs.Prelude.{◌≡◌, List, [], ◌∷◌, ◌++◌, ℕ, ◌<◌, length, drop, Some, None, Ok, Err}
use Rattle.sequence.specs.declared.Refusal.{Refusal}
use Rattle.sequence.specs.Report.{filled}
use Rattle.catalogue.specs.Rules.{body_bytes, body, record_of, synthesize_of, record_at, records, look_up_of, look_up_answer, editor, served_in}
use Rattle.codes.specs.Codes.{code_of}

-- two catalogues of the same length that differ at most in the accession numbers of their records
pub record SameButNumbers (c c' : List ℕ) : Type 0 where
  pub size : length c ≡ length c'
  pub bodies : (i : ℕ) → i < records c → body (record_at c i) ≡ body (record_at c' i)

-- what stands in the lent record, at exit, of looking a query up in a catalogue
abbrev pub served_from : ℕ → List ℕ → List ℕ → List ℕ → List ℕ
served_from who query catalogue out = served_in who (look_up_of query catalogue out) query catalogue out

-- Looking a query up in two catalogues, with the same lent record.
pub record Alike (query c c' out : List ℕ) : Type 0 where
  -- the replies are the same whoever asks, refusals and found places among them, and so is the number that C gets
  pub reply : look_up_of query c out ≡ look_up_of query c' out
  pub code : code_of (look_up_answer query c out) ≡ code_of (look_up_answer query c' out)
  -- and for a visitor every byte of the record
  pub visitor : (who : ℕ) → (who ≡ editor → ⊥) → served_from who query c out ≡ served_from who query c' out

-- Visitors learn nothing of accession numbers.
unfoldable pub NothingLearned : Type 0
NothingLearned = (query c c' out : List ℕ) → SameButNumbers c c' → Alike query c c' out

-- What who asks is served from any catalogue.
pub record ServedTo (who : ℕ) (query catalogue out : List ℕ) : Type 0 where
  -- an editor the record found, whole; a visitor its body and 0 in the last two bytes
  pub editor_found : who ≡ editor → (i : ℕ) → look_up_of query catalogue out ≡ Ok (Some i) → served_from who query catalogue out ≡ record_at catalogue i
  pub visitor_found :
      (who ≡ editor → ⊥) → (i : ℕ) → look_up_of query catalogue out ≡ Ok (Some i) → served_from who query catalogue out ≡ body (record_at catalogue i) ++ (0 ∷ 0 ∷ [])
  -- both the record found, whole, where it has 0 there
  pub unnumbered :
      (i : ℕ) → look_up_of query catalogue out ≡ Ok (Some i) → drop body_bytes (record_at catalogue i) ≡ 0 ∷ 0 ∷ [] → served_from who query catalogue out ≡ record_at catalogue i
  -- and the record made, with 0 there
  pub made : look_up_of query catalogue out ≡ Ok None → served_from who query catalogue out ≡ record_of query
  pub made_number : look_up_of query catalogue out ≡ Ok None → drop body_bytes (served_from who query catalogue out) ≡ 0 ∷ 0 ∷ []
  -- and after a refusal there is what was lent
  pub refused : (r : Refusal) → look_up_of query catalogue out ≡ Err r → served_from who query catalogue out ≡ out

pub record EveryServing : Type 0 where
  pub served : (who : ℕ) (query catalogue out : List ℕ) → ServedTo who query catalogue out
  -- so has a record that a making writes
  pub made_number : (query out : List ℕ) → synthesize_of query out ≡ Ok tt → drop body_bytes (filled (synthesize_of query out) (record_of query) out) ≡ 0 ∷ 0 ∷ []
