-- Typed lines: each reply has its reason and each reason its reply, and a line that is read becomes the query written by hand.
-- Assumes nothing.
use mathlib.Core.Path.{◌≡◌, refl, sym, ap, ◌∙◌, subst}
use mathlib.Core.Bool.{Bool, true, false}
use mathlib.Core.List.{List, map}
use Prim.Native.Nat.{ℕ, zero, ◌+◌, ◌≤◌, ◌<◌}
use native.Mathlib.Omega.{arith}
use lib.Dec.{ltb, eqb}
use lib.IntN.{ℤ, pos}
use lib.ListN.{length, get_or, length-map}
use lib.Seq.{ext_get_or}
use borrow.Author.Tests.{eqb-true, eqb-false, ltb-true, ltb-false, eq-eqb, ne_eqb, lt-ltb, le-ltb}
use Rattle.std.specs.Prelude.{Ok, Err}
use Rattle.lists.specs.Table.{at}
use Rattle.lists.proofs.Choice.{picked, passed}
use Rattle.lists.proofs.Search.{false_true}
use Rattle.lists.proofs.Table.{at_past}
use Rattle.residue.specs.Signed.{residue_of, Stands}
use Rattle.residue.proofs.Signed.{residue_stands, stands_residue}
use Rattle.cells.specs.Cell.{cell_at}
use Rattle.sequence.specs.declared.Refusal.TheVariants as R
use Rattle.sequence.specs.Limits.{max_terms, query_bytes}
use Rattle.sequence.specs.Rules.{outside, query_of}
use Rattle.sequence.specs.Report.{filled}
use Rattle.sequence.proofs.Laws.{refused_done, inside}
use Rattle.sequence.proofs.Query.{query_modulus, query_count, query_term, query_passes}
use Rattle.lines.specs.Form.{Line, modulus_of, values_of}
use Rattle.lines.specs.Reading.{Found, broken, past, read, found_in}
use Rattle.lines.specs.Reply.{reply_to, reply_of, read_of, query_in}
use Rattle.lines.proofs.Answers.{read_told}
use Rattle.lines.proofs.Values.{line_read}
use Rattle.lines.proofs.Told.{Tells, told, exactly, modulus_same, terms_same}
use Rattle.lines.proofs.Writing.{at_map}
use Rattle.guarantees.specs.Lines.{Says, Inside, ByHand, ByCells, exit_of, Reason, buffer, form, range, modulus, count, done, ReadsLine, TypedLines}
use Rattle.sequence.specs.Answers.{Outcome}

-- ---- the last two tests

pub inside_not : (m : ℕ) → Inside m → outside m ≡ false
inside_not m h = rw (le-ltb _ _ h.least, le-ltb _ _ h.most)

is_inside : (m : ℕ) → outside m ≡ false → Inside m
is_inside m h = let i = inside m h in record { least = i.0; most = i.1 }

pub outside_is : (m : ℕ) → (Inside m → ⊥) → outside m ≡ true
outside_is m h = go (outside m) refl
  where
    go : (t : Bool) → outside m ≡ t → t ≡ true
    go true e = refl
    go false e = absurd (h (is_inside m e))

-- ---- the reply

module _ (line query : List ℕ) where
  found_reply : length query ≡ query_bytes → read_of line query ≡ reply_of (found_in line)
  unfolding read_of
  found_reply h = picked _ _ (eq-eqb _ _ h)

  line_reply : (l : Line) → length query ≡ query_bytes → Says line l → read_of line query ≡ reply_to (modulus_of l) (length (values_of l))
  line_reply l h s = found_reply h ∙ ap reply_of (ap found_in (sym s.spelt) ∙ line_read l s.fits)

  is_buffer : (length query ≡ query_bytes → ⊥) → read_of line query ≡ Err R.Buffer
  unfolding read_of
  is_buffer h = passed _ _ (ne_eqb _ _ h)

  is_modulus : (l : Line) → length query ≡ query_bytes → Says line l → (Inside (modulus_of l) → ⊥) → read_of line query ≡ Err R.Modulus
  is_modulus l h s o = line_reply l h s ∙ picked _ _ (outside_is (modulus_of l) o)

  is_count : (l : Line) → length query ≡ query_bytes → Says line l → Inside (modulus_of l) → max_terms < length (values_of l) → read_of line query ≡ Err R.Count
  is_count l h s i n = line_reply l h s ∙ passed _ _ (inside_not (modulus_of l) i) ∙ picked _ _ (lt-ltb _ _ n)

  is_done : (l : Line) → length query ≡ query_bytes → Says line l → Inside (modulus_of l) → length (values_of l) ≤ max_terms → read_of line query ≡ Ok tt
  is_done l h s i n = line_reply l h s ∙ passed _ _ (inside_not (modulus_of l) i) ∙ passed _ _ (le-ltb _ _ n)

  -- a line that reads well meets one of the last three
  line_reason : (l : Line) → length query ≡ query_bytes → Says line l → Reason line query (read_of line query)
  line_reason l h s = go (outside (modulus_of l)) refl (ltb max_terms (length (values_of l))) refl
    where
      go : (a : Bool) → outside (modulus_of l) ≡ a → (b : Bool) → ltb max_terms (length (values_of l)) ≡ b → Reason line query (read_of line query)
      go true e b f =
          let o : Inside (modulus_of l) → ⊥ = λ i. false_true (sym (inside_not (modulus_of l) i) ∙ e) in
          modulus l h s o (is_modulus l h s o)
      go false e true f = count l h s (is_inside (modulus_of l) e) (ltb-true _ _ f) (is_count l h s (is_inside (modulus_of l) e) (ltb-true _ _ f))
      go false e false f = done l h s (is_inside (modulus_of l) e) (ltb-false _ _ f) (is_done l h s (is_inside (modulus_of l) e) (ltb-false _ _ f))

  found_reason : length query ≡ query_bytes → (f : Found) → found_in line ≡ f → Tells line f → Reason line query (read_of line query)
  found_reason h (broken i) e t = form i h t (found_reply h ∙ ap reply_of e)
  found_reason h (past i) e t = range i h t (found_reply h ∙ ap reply_of e)
  found_reason h (read m ts) e t = line_reason t.line h (record { spelt = t.spelt; fits = t.fits })

  reason : Reason line query (read_of line query)
  reason = go (eqb (length query) query_bytes) refl
    where
      go : (t : Bool) → eqb (length query) query_bytes ≡ t → Reason line query (read_of line query)
      go true e = found_reason (eqb-true _ _ e) (found_in line) refl (told line)
      go false e = buffer (eqb-false _ _ e) (is_buffer (eqb-false _ _ e))

-- ---- the query of a line

module _ (l : Line) (i : Inside (modulus_of l)) (few : length (values_of l) ≤ max_terms) where
  abbrev m : ℕ
  m = modulus_of l

  abbrev ts : List ℤ
  ts = values_of l

  abbrev residues : List ℕ
  residues = map (residue_of m) ts

  size : length residues ≡ length ts
  size = length-map ts (residue_of m)

  stands : (j : ℕ) → Stands m (at residues j) (get_or ts j (pos 0))
  stands j = subst (λ (r : ℕ). Stands m r (get_or ts j (pos 0))) (sym (at_map m ts j)) (residue_stands m (get_or ts j (pos 0)) (omega (arith, i.least)))

  few_residues : length residues ≤ max_terms
  few_residues = omega (arith, size, few)

  below : (j : ℕ) → j < length residues → at residues j < m
  below j h = (stands j).below

  by_hand : ByHand l (query_of m residues)
  by_hand = record { residues = residues; size = size; stands = λ j h. stands j; written = refl }

  by_cells : ByCells l (query_of m residues)
  by_cells =
      record {
        modulus = query_modulus m residues i.least i.most few_residues below;
        count = query_count m residues i.least i.most few_residues below ∙ size;
        terms = λ j h. subst (λ (r : ℕ). Stands m r (get_or ts j (pos 0))) (sym (term j (omega (arith, few)))) (stands j);
        zeros = λ j h k. term j k ∙ at_past residues j (omega (arith, size));
        checked = query_passes m residues i.least i.most few_residues below;
      }
    where
      term : (j : ℕ) → j < max_terms → cell_at (query_of m residues) (2 + j) ≡ at residues j
      term j h = query_term m residues i.least i.most few_residues below j h

-- ---- the claim

-- bytes say one thing only
same_meaning : (line : List ℕ) (l l' : Line) → Says line l → Says line l' → read (modulus_of l) (values_of l) ≡ read (modulus_of l') (values_of l')
same_meaning line l l' s s' = sym (line_read l s.fits) ∙ ap found_in (s.spelt ∙ sym s'.spelt) ∙ line_read l' s'.fits

module _ (line query : List ℕ) where
  -- only the last reply says done
  done_line : read_of line query ≡ Ok tt → (l : Line) → Says line l → Inside (modulus_of l) × (length (values_of l) ≤ max_terms)
  done_line d l s = go (reason line query)
    where
      go : Reason line query (read_of line query) → Inside (modulus_of l) × (length (values_of l) ≤ max_terms)
      go (buffer h e) = refused_done (sym e ∙ d)
      go (form i h t e) = refused_done (sym e ∙ d)
      go (range i h t e) = refused_done (sym e ∙ d)
      go (modulus k h t o e) = refused_done (sym e ∙ d)
      go (count k h t o n e) = refused_done (sym e ∙ d)
      go (done k h t o n e) = (
        subst Inside (modulus_same (same_meaning line k l t s)) o,
        subst (λ (us : List ℤ). length us ≤ max_terms) (terms_same (same_meaning line k l t s)) n,
      )

  query_is : read_of line query ≡ Ok tt → (l : Line) → Says line l → exit_of line query ≡ query_of (modulus_of l) (map (residue_of (modulus_of l)) (values_of l))
  query_is d l s =
      ap (λ (o : Outcome). filled o (query_in (found_in line)) query) d
      ∙ ap query_in (ap found_in (sym s.spelt) ∙ line_read l s.fits)

  hand_written : read_of line query ≡ Ok tt → (l : Line) → Says line l → ByHand l (exit_of line query) × ByCells l (exit_of line query)
  hand_written d l s =
      let w = done_line d l s in
      subst (λ (q : List ℕ). ByHand l q × ByCells l q) (sym (query_is d l s)) (by_hand l w.0 w.1, by_cells l w.0 w.1)

  kept : (read_of line query ≡ Ok tt → ⊥) → exit_of line query ≡ query
  kept n = go (read_of line query) refl
    where
      go : (o : Outcome) → read_of line query ≡ o → filled o (query_in (found_in line)) query ≡ query
      go (Ok _) e = absurd (n e)
      go (Err r) e = refl

  reads_line : ReadsLine line query
  reads_line =
      record {
        reason = reason line query;
        is_buffer = is_buffer line query;
        is_form = λ i h t. found_reply line query h ∙ ap reply_of (exactly line (broken i) t);
        is_range = λ i h t. found_reply line query h ∙ ap reply_of (exactly line (past i) t);
        is_modulus = is_modulus line query;
        is_count = is_count line query;
        is_done = is_done line query;
        by_number = (read_told line query {r = read_of line query} {A = Unit {0}} refl tt).result_value;
        by_hand = hand_written;
        kept = kept;
      }

-- the residues of a query by hand are known from the line
same_query : (l : Line) (q q' : List ℕ) → Inside (modulus_of l) → ByHand l q → ByHand l q' → q ≡ q'
same_query l q q' i h k =
    h.written ∙ ap (query_of (modulus_of l)) (ext_get_or zero h.residues k.residues (h.size ∙ sym k.size) each) ∙ sym k.written
  where
    each : (j : ℕ) → j < length h.residues → at h.residues j ≡ at k.residues j
    each j n =
        let n' : j < length (values_of l) = omega (arith, h.size) in
        let z : 0 < modulus_of l = omega (arith, i.least) in
        stands_residue (modulus_of l) (at h.residues j) (get_or (values_of l) j (pos 0)) z (h.stands j n')
        ∙ sym (stands_residue (modulus_of l) (at k.residues j) (get_or (values_of l) j (pos 0)) z (k.stands j n'))

pub typed_lines : TypedLines
typed_lines =
    record {
      every_line = reads_line;
      one_meaning = λ line l l' s s'. (modulus_same (same_meaning line l l' s s'), terms_same (same_meaning line l l' s s'));
      one_query = same_query;
    }
