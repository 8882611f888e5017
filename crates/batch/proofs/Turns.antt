-- Loops over the queries that renew one part and one reply after the other: the first ones are as rules say, the others as they were.
-- Assumes nothing.
use mathlib.Core.Path.{◌≡◌, sym, ap, ◌∙◌}
use mathlib.Core.List.{List}
use Prim.Native.Nat.{ℕ, ◌+◌, ◌-◌, ◌*◌, ◌≤◌, ◌<◌}
use native.Mathlib.Nat.{le_refl}
use native.Mathlib.Decide.{ℕ_discrete}
use native.Mathlib.Omega.{arith}
use lib.ListN.{length, take, drop, set, length-set}
use lib.Seq.{get_or-set_same, get_or-set_other}
use borrow.Rule.Slice.PartMut.{put_mid, mid_len}
use Rattle.lists.specs.Table.{at}
use Rattle.lists.proofs.Table.{rest_next}
use Rattle.sequence.specs.Limits.{query_bytes}
use Rattle.sequence.specs.Rules.{check_of}
use Rattle.catalogue.specs.Rules.{record_bytes, record_at}
use Rattle.catalogue.proofs.Laws.{cut_record}
use Rattle.batch.specs.Rules.{query_at, queries_in}
use Rattle.batch.specs.Inner.{offered_part, offered_code, settled_part, settled_code}
use Rattle.batch.proofs.Parts.{put_here, put_before, put_after, put_long, cut_query}

pub record Turn (part : ℕ → List ℕ) (reply : ℕ → ℕ) (n : ℕ) (out₀ replies₀ : List ℕ) (i : ℕ) (out replies : List ℕ) : Type 0 where
  pub within : i ≤ n
  pub wide : length out ≡ n * record_bytes
  pub many : length replies ≡ n
  pub shown : (k : ℕ) → k < i → record_at out k ≡ part k
  pub told : (k : ℕ) → k < i → at replies k ≡ reply k
  pub parts : (k : ℕ) → i ≤ k → k < n → record_at out k ≡ record_at out₀ k
  pub codes : (k : ℕ) → i ≤ k → at replies k ≡ at replies₀ k

-- query i and its part, as the code cuts them out
abbrev query_cut : List ℕ → ℕ → List ℕ
query_cut queries i = take (i * query_bytes + query_bytes - i * query_bytes) (drop (i * query_bytes) queries)

abbrev part_cut : List ℕ → ℕ → List ℕ
part_cut out i = take (i * record_bytes + record_bytes - i * record_bytes) (drop (i * record_bytes) out)

abbrev put_part : List ℕ → ℕ → List ℕ → List ℕ
put_part out i y = put_mid (i * record_bytes) (i * record_bytes + record_bytes - i * record_bytes) out y

module _ {part : ℕ → List ℕ} {reply : ℕ → ℕ} {n : ℕ} {out₀ replies₀ : List ℕ} where
  turn_more :
      {i : ℕ} {out replies : List ℕ} (y : List ℕ) (v : ℕ) → Turn part reply n out₀ replies₀ i out replies → i < n → length y ≡ record_bytes → y ≡ part i → v ≡ reply i
      → Turn part reply n out₀ replies₀ (i + 1) (put_part out i y) (set replies i v)
  turn_more {i} {out} {replies} y v t h full ey ev =
      record {
        within = omega arith;
        wide = put_long out y (i * record_bytes) fits full ∙ t.wide;
        many = length-set replies i v ∙ t.many;
        shown = λ k l. seen k l (ℕ_discrete k i);
        told = λ k l. heard k l (ℕ_discrete k i);
        parts = λ k l b. put_after out y (i * record_bytes) fits full (k * record_bytes) (after k l) ∙ t.parts k (omega arith) b;
        codes = rest_next 0 replies replies₀ i v t.codes;
      }
    where
      fits : i * record_bytes + record_bytes ≤ length out
      fits = omega (arith, t.wide)

      after : (k : ℕ) → i + 1 ≤ k → i * record_bytes + record_bytes ≤ k * record_bytes
      after k l = omega arith

      before : (k : ℕ) → k < i + 1 → (k ≡ i → ⊥) → k * record_bytes + record_bytes ≤ i * record_bytes
      before k l f = let h : k + 1 ≤ i = omega arith in omega arith

      seen : (k : ℕ) → k < i + 1 → Dec (k ≡ i) → record_at (put_part out i y) k ≡ part k
      seen k l (yes e) = ap (record_at (put_part out i y)) e ∙ put_here out y (i * record_bytes) fits full ∙ ey ∙ ap part (sym e)
      seen k l (no f) = put_before out y (i * record_bytes) fits full (k * record_bytes) (before k l f) ∙ t.shown k (omega arith)

      heard : (k : ℕ) → k < i + 1 → Dec (k ≡ i) → at (set replies i v) k ≡ reply k
      heard k l (yes e) = ap (at (set replies i v)) e ∙ get_or-set_same replies i v 0 (omega (arith, t.many)) ∙ ev ∙ ap reply (sym e)
      heard k l (no f) = get_or-set_other replies i k v 0 f ∙ t.told k (omega arith)

  part_long : {i : ℕ} {out replies : List ℕ} → Turn part reply n out₀ replies₀ i out replies → i < length replies → length (part_cut out i) ≡ record_bytes
  part_long {i} {out} t h = mid_len (i * record_bytes) (i * record_bytes + record_bytes) out (omega (arith, t.wide, t.many)) ∙ omega arith

-- one turn: part and reply of query i go over to what F and G make of them
module _ (queries : List ℕ) (F : List ℕ → List ℕ → ℕ → List ℕ) (G : List ℕ → List ℕ → ℕ → ℕ) {n : ℕ} {out₀ replies₀ : List ℕ} where
  turn_next :
      {i : ℕ} {out replies : List ℕ} (y : List ℕ) (v : ℕ)
      → Turn (λ k. F (query_at queries k) (record_at out₀ k) (at replies₀ k)) (λ k. G (query_at queries k) (record_at out₀ k) (at replies₀ k)) n out₀ replies₀ i out replies
      → i < length replies → length y ≡ length (part_cut out i) → v ≡ G (query_cut queries i) (part_cut out i) (at replies i)
      → y ≡ F (query_cut queries i) (part_cut out i) (at replies i)
      → Turn (λ k. F (query_at queries k) (record_at out₀ k) (at replies₀ k)) (λ k. G (query_at queries k) (record_at out₀ k) (at replies₀ k)) n out₀ replies₀ (i + 1)
      (put_part out i y) (set replies i v)
  turn_next {i} {out} {replies} y v t h full ev ey = turn_more y v t below (full ∙ part_long t h) (ey ∙ same F) (ev ∙ same G)
    where
      below : i < n
      below = omega (arith, t.many)

      same : {A : Type 0} (H : List ℕ → List ℕ → ℕ → A) → H (query_cut queries i) (part_cut out i) (at replies i) ≡ H (query_at queries i) (record_at out₀ i) (at replies₀ i)
      same H =
          ap (λ (q : List ℕ). H q (part_cut out i) (at replies i)) (cut_query queries i)
          ∙ ap (λ (p : List ℕ). H (query_at queries i) p (at replies i)) (cut_record out (i * record_bytes) ∙ t.parts i (le_refl i) below)
          ∙ ap (H (query_at queries i) (record_at out₀ i)) (t.codes i (le_refl i))

-- the queries below i were offered record j
abbrev pub Offering : (who : ℕ) (queries entry : List ℕ) (j : ℕ) (out₀ replies₀ : List ℕ) (i : ℕ) (out replies : List ℕ) → Type 0
Offering who queries entry j out₀ replies₀ =
    Turn (λ k. offered_part who (query_at queries k) entry (record_at out₀ k) (at replies₀ k)) (λ k. offered_code (query_at queries k) entry j (at replies₀ k)) (queries_in queries)
    out₀ replies₀

pub offering_more :
    (who : ℕ) (queries entry : List ℕ) (j : ℕ) {out₀ replies₀ : List ℕ} {i : ℕ} {out replies : List ℕ} (y : List ℕ) (v : ℕ) → Offering who queries entry j out₀ replies₀ i out replies
    → i < length replies → length y ≡ length (part_cut out i) → v ≡ offered_code (query_cut queries i) entry j (at replies i)
    → y ≡ offered_part who (query_cut queries i) entry (part_cut out i) (at replies i) → Offering who queries entry j out₀ replies₀ (i + 1) (put_part out i y) (set replies i v)
offering_more who queries entry j = turn_next queries (λ q p r. offered_part who q entry p r) (λ q p r. offered_code q entry j r)

-- the queries below i are settled
abbrev pub Settling : (queries out₀ replies₀ : List ℕ) (i : ℕ) (out replies : List ℕ) → Type 0
Settling queries out₀ replies₀ =
    Turn (λ k. settled_part (check_of (query_at queries k)) (query_at queries k) (record_at out₀ k) (at replies₀ k))
    (λ k. settled_code (check_of (query_at queries k)) (query_at queries k) (record_at out₀ k) (at replies₀ k)) (queries_in queries)
    out₀ replies₀

pub settling_more :
    (queries : List ℕ) {out₀ replies₀ : List ℕ} {i : ℕ} {out replies : List ℕ} (y : List ℕ) (v : ℕ) → Settling queries out₀ replies₀ i out replies
    → i < length replies → length y ≡ length (part_cut out i) → v ≡ settled_code (check_of (query_cut queries i)) (query_cut queries i) (part_cut out i) (at replies i)
    → y ≡ settled_part (check_of (query_cut queries i)) (query_cut queries i) (part_cut out i) (at replies i)
    → Settling queries out₀ replies₀ (i + 1) (put_part out i y) (set replies i v)
settling_more queries = turn_next queries (λ q p r. settled_part (check_of q) q p r) (λ q p r. settled_code (check_of q) q p r)
