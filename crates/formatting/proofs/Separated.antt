-- Laws of numbers with a mark between them.
-- Assumes nothing.
use mathlib.Core.Path.{◌≡◌, refl, sym, ap, ◌∙◌, subst}
use mathlib.Core.List.{List, [], ◌∷◌, ◌++◌, append-nil, append_assoc}
use Prim.Native.Nat.{ℕ, zero, suc, ◌+◌, ◌*◌, ◌-◌, ◌≤◌, ◌<◌}
use native.Mathlib.Numerals.{add-one}
use native.Mathlib.Omega.{arith}
use lib.ListN.{length, take, length-append}
use lib.Seq.{take-suc}
use Rattle.lists.specs.Table.{at, tabulate}
use Rattle.lists.proofs.Table.{tabulate_last}
use Rattle.formatting.specs.Text.{numeral, each_after, separated}

-- a number behind a mark, and more of them
pub after_one : (mark : List ℕ) (n : ℕ) → mark ++ numeral n ≡ each_after mark (n ∷ [])
unfolding each_after
after_one mark n = sym (append-nil (mark ++ numeral n))

after_append : (mark xs ys : List ℕ) → each_after mark (xs ++ ys) ≡ each_after mark xs ++ each_after mark ys
unfolding each_after
after_append mark [] ys = refl
after_append mark (x ∷ xs) ys =
    ap (λ (zs : List ℕ). mark ++ numeral x ++ zs) (after_append mark xs ys) ∙ sym (append_assoc (mark ++ numeral x) (each_after mark xs) (each_after mark ys))

separated_one : (mark : List ℕ) (n : ℕ) → numeral n ≡ separated mark (n ∷ [])
unfolding separated each_after
separated_one mark n = sym (append-nil (numeral n))

-- one more, behind some
separated_more : (mark : List ℕ) (xs : List ℕ) (n : ℕ) → zero < length xs → separated mark xs ++ each_after mark (n ∷ []) ≡ separated mark (xs ++ (n ∷ []))
unfolding separated
separated_more mark [] n h = absurd (omega (arith, h))
separated_more mark (x ∷ xs) n h =
    append_assoc (numeral x) (each_after mark xs) (each_after mark (n ∷ []))
    ∙ ap (λ (zs : List ℕ). numeral x ++ zs) (sym (after_append mark xs (n ∷ [])))

-- no numbers
pub separated_none : (line mark xs : List ℕ) → length xs ≡ zero → line ≡ line ++ separated mark xs
unfolding separated
separated_none line mark [] h = sym (append-nil line)
separated_none line mark (x ∷ xs) h = absurd (omega (arith, h))

-- What a loop keeps that writes numbers with a mark between them behind the bytes that were there: some are written.
pub record Written (mark before xs line : List ℕ) : Type 0 where
  pub some : zero < length xs
  pub text : line ≡ before ++ separated mark xs
  pub room : length line ≤ length before + (21 * length xs - 1)

pub written_first : {before line : List ℕ} (mark : List ℕ) {v n : ℕ} → v ≡ n → line ≡ before ++ numeral v → length line ≤ length before + 20
    → Written mark before (n ∷ []) line
written_first {before} mark {v} {n} f e h =
    record { some = omega arith; text = e ∙ ap (λ (x : ℕ). before ++ numeral x) f ∙ ap (λ (xs : List ℕ). before ++ xs) (separated_one mark n); room = h }

pub written_next : {mark before xs line line' : List ℕ} (n : ℕ) → Written mark before xs line → line' ≡ line ++ each_after mark (n ∷ []) → length line' ≤ length line + 21
    → Written mark before (xs ++ (n ∷ [])) line'
written_next {mark} {before} {xs} {line} {line'} n w e h =
    let size : length (xs ++ (n ∷ [])) ≡ length xs + 1 = length-append xs (n ∷ []) in
    record {
      some = omega (arith, size);
      text =
          e ∙ ap (λ (ys : List ℕ). ys ++ each_after mark (n ∷ [])) w.text
          ∙ append_assoc before (separated mark xs) (each_after mark (n ∷ []))
          ∙ ap (λ (ys : List ℕ). before ++ ys) (separated_more mark xs n w.some);
      room = omega (arith, size, w.some, w.room, h);
    }

pub written_cell : {mark before line line' : List ℕ} (f : ℕ → ℕ) (i : ℕ) {v : ℕ} → Written mark before (tabulate i f) line → v ≡ f i
    → line' ≡ line ++ each_after mark (v ∷ []) → length line' ≤ length line + 21 → Written mark before (tabulate (i + 1) f) line'
written_cell {mark} {before} {line} {line'} f i {v} w e g h =
    subst (λ (xs : List ℕ). Written mark before xs line')
    (ap (λ (x : ℕ). tabulate i f ++ (x ∷ [])) e ∙ sym (tabulate_last i f) ∙ ap (λ (j : ℕ). tabulate j f) (let s : suc i ≡ i + 1 = omega arith in s))
    (written_next v w g h)

pub written_number : {mark before line line' : List ℕ} (n : ℕ) (ns : List ℕ) (i : ℕ) {v : ℕ} → Written mark before (n ∷ take i ns) line → i < length ns → v ≡ at ns i
    → line' ≡ line ++ each_after mark (v ∷ []) → length line' ≤ length line + 21 → Written mark before (n ∷ take (i + 1) ns) line'
written_number {mark} {before} {line} {line'} n ns i {v} w l e g h =
    subst (λ (xs : List ℕ). Written mark before (n ∷ xs) line')
    (ap (λ (x : ℕ). take i ns ++ (x ∷ [])) e ∙ sym (ap (λ (k : ℕ). take k ns) (add-one i) ∙ take-suc ns i 0 l))
    (written_next v w g h)
