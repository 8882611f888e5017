-- Every query of a batch is counted once: found, made or refused.
-- Assumes nothing.
use mathlib.Core.Path.{◌≡◌, refl, sym, ap, ◌∙◌}
use mathlib.Core.Bool.{Bool, cond}
use mathlib.Core.List.{List, [], ◌∷◌}
use Prim.Native.Nat.{ℕ, zero, suc, ◌+◌, ◌%◌}
use native.Mathlib.Omega.{arith}
use lib.ListN.{length}
use borrow.Author.Tests.{eq-eqb, ne_eqb}
use Rattle.std.specs.Prelude.{count_by, Some, None, Ok, Err}
use Rattle.std.specs.List.{sum_by}
use Rattle.std.proofs.lemmas.List.Sums.{sum_by-cons}
use Rattle.lists.specs.Sum.{sum_to}
use Rattle.lists.specs.Table.{at}
use Rattle.lists.proofs.Sum.{sum_to_eq, sum_to_head}
use Rattle.sequence.specs.declared.Refusal.{Refusal}
use Rattle.sequence.specs.Answers.{refusal}
use Rattle.codes.specs.Codes.{code_of}
use Rattle.codes.proofs.Laws.{code_refused}
use Rattle.batch.specs.Rules.{query_at, queries_in, alone_of, reply_code, is_found, is_made, is_refused, count_kind}
use Rattle.batch.specs.Inner.{says_found, says_made, says_refused, tally_of, Answered}
use Rattle.catalogue.specs.Rules.{LookedUp}

-- ---- what the code counts

not_made : (r : Refusal) → code_of (refusal r) ≡ 0 → ⊥
not_made r e = code_refused r (let z : code_of (refusal r) % 256 ≡ 0 = omega (arith, e) in z)

-- the reply to a query says what it is
found_said : (t : LookedUp) → cond (says_found (reply_code t)) 1 0 ≡ is_found t
found_said (Ok None) = refl
found_said (Ok (Some i)) = rw (ne_eqb (reply_code (Ok (Some i))) 0 (λ e. omega arith), eq-eqb (reply_code (Ok (Some i)) % 256) 0 (omega arith))
found_said (Err r) =
    rw (ne_eqb (code_of (refusal r)) 0 (not_made r), ne_eqb (code_of (refusal r) % 256) 0 (code_refused r))

made_said : (t : LookedUp) → cond (says_made (reply_code t)) 1 0 ≡ is_made t
made_said (Ok None) = refl
made_said (Ok (Some i)) = rw (ne_eqb (reply_code (Ok (Some i))) 0 (λ e. omega arith))
made_said (Err r) = rw (ne_eqb (code_of (refusal r)) 0 (not_made r))

refused_said : (t : LookedUp) → cond (says_refused (reply_code t)) 1 0 ≡ is_refused t
refused_said (Ok None) = refl
refused_said (Ok (Some i)) = rw (eq-eqb (reply_code (Ok (Some i)) % 256) 0 (omega arith))
refused_said (Err r) = rw (ne_eqb (code_of (refusal r) % 256) 0 (code_refused r))

-- a sum over a list is one over its places
sum_by_places : (f : ℕ → ℕ) (xs : List ℕ) → sum_by f xs ≡ sum_to (length xs) (λ i. f (at xs i))
unfolding sum_to
sum_by_places f [] = refl
sum_by_places f (x ∷ xs) =
    sum_by-cons f x xs ∙ ap (λ (n : ℕ). f x + n) (sum_by_places f xs) ∙ sym (sum_to_head (length xs) (λ i. f (at (x ∷ xs) i)))

module _ (who : ℕ) (queries catalogue out replies : List ℕ) (a : Answered who queries catalogue out replies) where
  counted : (says : ℕ → Bool) (kind : LookedUp → ℕ) → ((t : LookedUp) → cond (says (reply_code t)) 1 0 ≡ kind t) → count_by says replies ≡ count_kind kind queries catalogue
  unfolding count_kind
  counted says kind same =
      sum_by_places (λ r. cond (says r) 1 0) replies
      ∙ ap (λ (n : ℕ). sum_to n (λ i. cond (says (at replies i)) 1 0)) a.many
      ∙ sum_to_eq (queries_in queries) (λ i. cond (says (at replies i)) 1 0) (λ i. kind (alone_of (query_at queries i) catalogue))
      (λ i h. ap (λ (r : ℕ). cond (says r) 1 0) (a.told i h) ∙ same (alone_of (query_at queries i) catalogue))

  pub tallied :
      tally_of replies
      ≡ record {
        found = count_kind is_found queries catalogue;
        made = count_kind is_made queries catalogue;
        refused = count_kind is_refused queries catalogue;
      }
  tallied = λ i. record {
    found = counted says_found is_found found_said i;
    made = counted says_made is_made made_said i;
    refused = counted says_refused is_refused refused_said i;
  }

-- ---- each query is counted once

once : (t : LookedUp) → is_found t + is_made t + is_refused t ≡ 1
once (Ok None) = refl
once (Ok (Some i)) = refl
once (Err r) = refl

each_once : (n : ℕ) (f : ℕ → LookedUp) → sum_to n (λ i. is_found (f i)) + sum_to n (λ i. is_made (f i)) + sum_to n (λ i. is_refused (f i)) ≡ n
unfolding sum_to
each_once zero f = refl
each_once (suc n) f = omega (arith, each_once n f, once (f n))

-- found, made and refused together are the queries
pub all_counted : (queries catalogue : List ℕ) → count_kind is_found queries catalogue + count_kind is_made queries catalogue + count_kind is_refused queries catalogue ≡ queries_in queries
unfolding count_kind
all_counted queries catalogue = each_once (queries_in queries) (λ i. alone_of (query_at queries i) catalogue)
