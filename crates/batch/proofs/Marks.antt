-- Marked slots: a record whose slot is not marked is none that a query takes.
-- Assumes nothing.
use mathlib.Core.Path.{◌≡◌, refl, sym, ap, ◌∙◌}
use mathlib.Core.Bool.{false}
use mathlib.Core.List.{List}
use Prim.Native.Nat.{ℕ, ◌+◌, ◌-◌, ◌*◌, ◌%◌, ◌<◌}
use native.Mathlib.Decide.{ℕ_discrete}
use native.Mathlib.Omega.{arith}
use lib.ListN.{length, take, drop, set, length-set}
use lib.Seq.{get_or-set_same, get_or-set_other}
use borrow.Author.Count.{below_more}
use Rattle.lists.specs.Table.{at}
use Rattle.sequence.specs.Limits.{query_bytes}
use Rattle.catalogue.specs.Word.{word_of}
use Rattle.catalogue.specs.Rules.{record_bytes, record_at, is_of}
use Rattle.catalogue.proofs.Laws.{word_tells}
use Rattle.batch.specs.Rules.{query_at, queries_in}
use Rattle.batch.specs.Inner.{slots, slot_of, Marked, offered_part, offered_code, Offered}
use Rattle.batch.proofs.Parts.{cut_query}
use Rattle.batch.proofs.Holding.{kept, not_its}

-- one more mark: no other is lost
pub marked_more :
    (queries marks : List ℕ) (i k : ℕ) → Marked queries marks i → k ≡ slot_of (take (i * query_bytes + query_bytes - i * query_bytes) (drop (i * query_bytes) queries))
    → k < slots → Marked queries (set marks k 1) (i + 1)
marked_more queries marks i k m e small =
    record {
      places = length-set marks k 1 ∙ m.places;
      marked = below_more (λ (j : ℕ). at (set marks k 1) (slot_of (query_at queries j)) ≡ 1) i
          (λ j h. keeps (slot_of (query_at queries j)) (m.marked j h))
          (ap (at (set marks k 1)) (sym (e ∙ ap slot_of (cut_query queries i))) ∙ here);
    }
  where
    here : at (set marks k 1) k ≡ 1
    here = get_or-set_same marks k 1 0 (omega (arith, m.places))

    keeps : (x : ℕ) → at marks x ≡ 1 → at (set marks k 1) x ≡ 1
    keeps x h = go (ℕ_discrete x k)
      where
        go : Dec (x ≡ k) → at (set marks k 1) x ≡ 1
        go (yes q) = ap (at (set marks k 1)) q ∙ here
        go (no q) = get_or-set_other marks k x 1 0 q ∙ h

-- so it was offered to every query, and nothing changed
pub passed_by :
    (who : ℕ) (queries marks entry out replies : List ℕ) (j k : ℕ) → length out ≡ queries_in queries * record_bytes → length replies ≡ queries_in queries
    → Marked queries marks (queries_in queries) → k ≡ slot_of entry → at marks k ≡ 0 → Offered who queries entry j out replies out replies
passed_by who queries marks entry out replies j k w n m e none =
    record {
      wide = w;
      many = n;
      shown = λ i h. sym (same i h (record_at out i) (at replies i)).0;
      told = λ i h. sym (same i h (record_at out i) (at replies i)).1;
    }
  where
    unlike : (i : ℕ) → i < queries_in queries → word_of (query_at queries i) ≡ word_of entry → ⊥
    unlike i h q =
        let z : ◌≡◌ {A = ℕ} 0 1 = sym none ∙ ap (at marks) (e ∙ ap (λ (x : ℕ). x % slots) (sym q)) ∙ m.marked i h in
        absurd (omega arith)

    other : (i : ℕ) → i < queries_in queries → is_of (query_at queries i) entry ≡ false
    other i h = sym (word_tells (query_at queries i) entry _ _ refl refl (unlike i h))

    same :
        (i : ℕ) → i < queries_in queries → (part : List ℕ) (reply : ℕ)
        → (offered_part who (query_at queries i) entry part reply ≡ part) × (offered_code (query_at queries i) entry j reply ≡ reply)
    same i h part reply = kept who (query_at queries i) entry part j reply (not_its (query_at queries i) entry reply (other i h))
