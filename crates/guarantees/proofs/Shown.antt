-- What the calls show of one query: its profile's cells are the least lengths of its terms, and the length in its record is the last of them.
-- Assumes nothing.
use mathlib.Core.Path.{◌≡◌, sym, ap, ◌∙◌, subst}
use mathlib.Core.List.{List, [], map}
use Prim.Native.Nat.{ℕ, zero, ◌≤◌, ◌<◌}
use native.Mathlib.Omega.{arith}
use lib.ListN.{length, replicate, length-replicate}
use lib.Seq.{get_or-take, ext_get_or}
use Rattle.std.specs.Prelude.{Ok, Err}
use Rattle.lists.specs.Table.{at}
use Rattle.cells.specs.Cell.{cell_at}
use Rattle.residue.proofs.Congruence.{of_eq}
use Rattle.recurrence.specs.Least.{Least}
use Rattle.recurrence.specs.Register.{complexity}
use Rattle.recurrence.proofs.Length.{least_unique}
use Rattle.recurrence.proofs.Register.{complexity_is_least, complexity_same}
use Rattle.sequence.specs.Limits.{max_modulus, max_terms, a_bytes, b_bytes, profile_bytes}
use Rattle.sequence.specs.Rules.{open_of, query_of, sequence_of, check_of}
use Rattle.sequence.proofs.Laws.{term_cell}
use Rattle.sequence.proofs.Query.{query_count, query_term, query_passes}
use Rattle.catalogue.specs.Rules.{record_bytes}
use Rattle.guarantees.specs.Calls.{Call, push, after_all, taken}
use Rattle.guarantees.specs.Claims.{ShownBy, Demand3, MadeServedReported, terms_of, profile_cell, length_made}
use Rattle.guarantees.proofs.Demand.{demand}
use Rattle.guarantees.proofs.Records.{least, most, terms_long, terms_pushed, empty_made, same}
use Rattle.sequence.specs.Answers.{Reported, of_length}

module _ (query : List ℕ) (fine : check_of query ≡ Ok tt) where
  abbrev m : ℕ
  m = cell_at query 0

  abbrev n : ℕ
  n = cell_at query 1

  -- the count is the number of terms
  pub count_is : length (terms_of query) ≡ n
  unfolding sequence_of
  count_is = terms_long query fine

  -- the least length of the first k terms is their linear complexity
  pub least_is : (k l : ℕ) → k ≤ n → Least m (at (terms_of query)) k l → l ≡ complexity m (sequence_of query).terms k
  least_is k l h x =
      least_unique m (at (terms_of query)) k l (complexity m (terms_of query) k) x (complexity_is_least m (least query fine) (terms_of query) k)
      ∙ complexity_same m (least query fine) (terms_of query) (sequence_of query).terms k (λ j b. of_eq (get_or-take n (sequence_of query).terms j zero (omega arith)))

  pub is_least : (k l : ℕ) → k ≤ n → l ≡ complexity m (sequence_of query).terms k → Least m (at (terms_of query)) k l
  is_least k l h e =
      let x = complexity_is_least m (least query fine) (terms_of query) k in
      subst (Least m (at (terms_of query)) k) (least_is k (complexity m (terms_of query) k) h x ∙ sym e) x

  -- and so is the profile's cell after calls that take them
  module _ (calls : List Call) (takes : taken m calls ≡ terms_of query) (cells : List ℕ) (size : length cells ≡ profile_bytes) where
    shown : ShownBy m (taken m calls) (after_all (open_of m).sequence calls) (replicate a_bytes 0) (replicate b_bytes 0) cells
    unfolding Demand3
    shown =
        (demand m (least query fine) (most query fine)).shows calls (replicate a_bytes 0) (replicate b_bytes 0) cells (length-replicate {A = ℕ} a_bytes 0)
        (length-replicate {A = ℕ} b_bytes 0) size

    long : length (taken m calls) ≡ n
    long = ap (λ (ts : List ℕ). length ts) takes ∙ count_is

    pub cell_least : (k : ℕ) → k ≤ n → Least m (at (terms_of query)) k (profile_cell m calls cells k)
    cell_least k h = subst (λ (ts : List ℕ). Least m (at ts) k (profile_cell m calls cells k)) takes (shown.least k (omega (arith, long)))

    -- the length in the record is the profile's last cell
    made_last : (out : List ℕ) → length out ≡ record_bytes → length_made query out ≡ profile_cell m calls cells n
    unfolding MadeServedReported
    made_last out h =
        ap told (sym ((same query [] 0 out fine empty_made h).record_made calls (replicate a_bytes 0) (replicate b_bytes 0) takes
        (length-replicate {A = ℕ} a_bytes 0) (length-replicate {A = ℕ} b_bytes 0)).length_same ∙ shown.reported)
        ∙ shown.last ∙ ap (profile_cell m calls cells) long
      where
        told : Reported → ℕ
        told (Ok x) = x.length
        told (Err r) = zero

  -- so it is the least length of them all
  pub made_least : (out : List ℕ) → length out ≡ record_bytes → Least m (at (terms_of query)) n (length_made query out)
  made_least out h =
      subst (Least m (at (terms_of query)) n) (sym (made_last pushes (terms_pushed query fine) cells size out h))
      (cell_least pushes (terms_pushed query fine) cells size n (omega arith))
    where
      pushes : List Call
      pushes = map push (terms_of query)

      cells : List ℕ
      cells = replicate profile_bytes 0

      size : length cells ≡ profile_bytes
      size = length-replicate {A = ℕ} profile_bytes 0

-- the terms of a query that is written by hand are those written
pub query_terms :
    (m : ℕ) (ts : List ℕ) → 2 ≤ m → m ≤ max_modulus → length ts ≤ max_terms → ((j : ℕ) → j < length ts → at ts j < m) → terms_of (query_of m ts) ≡ ts
unfolding sequence_of
query_terms m ts least most few below =
    ext_get_or 0 (terms_of (query_of m ts)) ts long
    (λ i h. let k : i < length ts = omega (arith, long) in
    get_or-take (cell_at (query_of m ts) 1) (sequence_of (query_of m ts)).terms i 0 (omega (arith, query_count m ts least most few below))
    ∙ term_cell (query_of m ts) i (omega arith) ∙ query_term m ts least most few below i (omega arith))
  where
    long : length (terms_of (query_of m ts)) ≡ length ts
    long = count_is (query_of m ts) (query_passes m ts least most few below) ∙ query_count m ts least most few below
