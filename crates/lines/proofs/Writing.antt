-- The remainders that the query of a line has, and that it is the query of what was scanned.
-- Assumes nothing.
use mathlib.Core.Path.{◌≡◌, sym, ap, ap₂, ◌∙◌}
use mathlib.Core.Bool.{Bool, true, false}
use mathlib.Core.List.{List, ◌∷◌, map}
use Prim.Native.Nat.{ℕ, zero, ◌^◌, ◌<◌}
use native.Mathlib.Nat.{zero-mod}
use lib.IntN.{ℤ, pos}
use lib.ListN.{length, get_or, length-map, get_or-map}
use lib.Signed.{mag}
use mir.Syntax.{w32}
use mir.Val.{SFits, to_z, of_z}
use mir.Facts.{to_z-of_z}
use Rattle.std.specs.Prelude.{Result, Ok, Err}
use Rattle.lists.specs.Table.{at, tabulate}
use Rattle.lists.proofs.Table.{length_tabulate, get_d_tabulate, tabulate_eq}
use Rattle.lists.proofs.Search.{false_true}
use Rattle.residue.specs.Signed.{residue_of}
use Rattle.cells.specs.Cell.{bytes_of}
use Rattle.sequence.specs.Limits.{max_terms}
use Rattle.sequence.specs.declared.Refusal.{Refusal}
use Rattle.sequence.specs.Rules.{query_of}
use Rattle.sequence.proofs.Laws.{refused_as}
use Rattle.lines.specs.Reply.{reply_of}
use Rattle.lines.specs.Reading.{Found, broken, past, read}
use Rattle.lines.specs.Scan.{scanned_of, first_terms}

-- the remainder of term j
abbrev pub remainder : ℕ → List ℤ → ℕ → ℕ
remainder m terms j = residue_of m (get_or terms j (pos 0))

-- a term of the array is read back from its bits
pub read_back : (z : ℤ) → mag z < 2 ^ 31 → to_z w32 (of_z w32 z) ≡ z
read_back z h = let f : SFits w32 z = record { sfits = h } in to_z-of_z f

-- ---- the query of a line

-- what is found where a modulus and a count are scanned
pub record Terms (f : Found) (m n : ℕ) : Type 0 where
  pub terms : List ℤ
  pub is : f ≡ read m terms
  pub count : n ≡ length terms

-- the pair that a scan gives, if it does
abbrev given : Result (ℕ × ℕ) Refusal → ℕ × ℕ
given (Ok x) = x
given (Err r) = (zero, zero)

pub scanned_terms : (f : Found) (m n : ℕ) → scanned_of f ≡ Ok (m, n) → Terms f m n
scanned_terms (broken i) m n e = let z : ◌≡◌ {A = Bool} false true = cc in false_true z
scanned_terms (past i) m n e = let z : ◌≡◌ {A = Bool} false true = cc in false_true z
scanned_terms (read k ts) m n e =
    let same : k ≡ m = ap (λ (r : Result (ℕ × ℕ) Refusal). (given r).0) e in
    let count : length ts ≡ n = ap (λ (r : Result (ℕ × ℕ) Refusal). (given r).1) e in
    record { terms = ts; is = ap (λ (x : ℕ). read x ts) same; count = sym count }

-- a refusal that is scanned is the reply
pub scanned_refused : (f : Found) {r : Refusal} → scanned_of f ≡ Err r → reply_of f ≡ Err r
scanned_refused (broken k) e = refused_as e
scanned_refused (past k) e = refused_as e
scanned_refused (read k ts) e = let z : ◌≡◌ {A = Bool} false true = cc in false_true z

pub length_first : (ts xs : List ℤ) → xs ≡ first_terms ts → length xs ≡ max_terms
length_first ts xs e = ap length e ∙ length_tabulate max_terms (λ j. get_or ts j (pos 0))

pub at_map : (m : ℕ) (ts : List ℤ) (j : ℕ) → at (map (residue_of m) ts) j ≡ residue_of m (get_or ts j (pos 0))
at_map m ts j = ap (get_or (map (residue_of m) ts) j) (sym (zero-mod m)) ∙ get_or-map (residue_of m) ts j (pos 0)

-- the first 128 remainders, zero past the last, are those of the array
pub same_query : (m n : ℕ) (ts xs : List ℤ) → n ≡ length ts → xs ≡ first_terms ts → bytes_of (m ∷ n ∷ tabulate max_terms (remainder m xs)) ≡ query_of m (map (residue_of m) ts)
same_query m n ts xs e f =
    ap₂ (λ (k : ℕ) (vs : List ℕ). bytes_of (m ∷ k ∷ vs)) (e ∙ sym (length-map ts (residue_of m)))
    (tabulate_eq max_terms (remainder m xs) (at (map (residue_of m) ts)) each)
  where
    each : (j : ℕ) → j < max_terms → remainder m xs j ≡ at (map (residue_of m) ts) j
    each j h = ap (λ (ys : List ℤ). remainder m ys j) f ∙ ap (residue_of m) (get_d_tabulate max_terms (λ j. get_or ts j (pos 0)) j (pos 0) h) ∙ sym (at_map m ts j)
