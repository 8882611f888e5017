-- The claims about accession numbers.
-- Assumes nothing.
use mathlib.Core.Path.{◌≡◌, ap, ◌∙◌}
use mathlib.Core.List.{List}
use Prim.Native.Nat.{ℕ}
use lib.ListN.{drop}
use borrow.Author.Tests.{eq-eqb, ne_eqb}
use Rattle.sequence.specs.Report.{filled}
use Rattle.catalogue.specs.Rules.{body_bytes, record_of, record_at, look_up_of, editor, served_in, LookedUp}
use Rattle.catalogue.proofs.Places.{made_number}
use Rattle.catalogue.proofs.Visitors.{reply_same, answer_same, bytes_same, seen_whole, made_checked}
use Rattle.codes.specs.Codes.{code_of}
use Rattle.guarantees.specs.Visitors.{served_from, NothingLearned, ServedTo, EveryServing}
use Rattle.guarantees.proofs.Records.{size, making_checked}
use Rattle.sequence.specs.Answers.{Outcome}

pub nothing_learned : NothingLearned
unfolding NothingLearned
nothing_learned query c c' out s =
    record {
      reply = reply_same query c c' s.size s.bodies out;
      code = ap code_of (answer_same query c c' s.size s.bodies out);
      visitor = λ who v. bytes_same query c c' s.size s.bodies who out v;
    }

module _ (who : ℕ) (query catalogue out : List ℕ) where
  -- the record at exit, by the reply
  by_reply : {t : LookedUp} → look_up_of query catalogue out ≡ t → served_from who query catalogue out ≡ served_in who t query catalogue out
  by_reply h = ap (λ (t : LookedUp). served_in who t query catalogue out) h

  served_to : ServedTo who query catalogue out
  served_to =
      record {
        editor_found = λ e i h. by_reply h ∙ rw (eq-eqb who editor e);
        visitor_found = λ v i h. by_reply h ∙ rw (ne_eqb who editor v);
        unnumbered = λ i h z. by_reply h ∙ seen_whole who (record_at catalogue i) z;
        made = λ h. by_reply h;
        made_number = λ h. ap (drop body_bytes) (by_reply h) ∙ made_number query (size query (made_checked query catalogue out h));
        refused = λ r h. by_reply h;
      }

pub every_serving : EveryServing
every_serving =
    record {
      served = served_to;
      made_number = λ query out h.
          ap (λ (o : Outcome). drop body_bytes (filled o (record_of query) out)) h ∙ made_number query (size query (making_checked query out h));
    }
