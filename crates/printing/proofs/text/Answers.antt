-- `printing::text` meets its contract: what a write takes comes off the rest.
-- Assumes nothing.
use Rattle.std.proofs.Common.{◌≡◌, ◌∙◌, sym, ap, ap₂, subst, ℕ, List, ◌++◌, ◌+◌, ◌-◌, ◌≤◌, Option, length, take, drop, length-drop, arith}
use Rattle.std.proofs.Math.Seq.{take-add, drop-drop}
use Rattle.std.proofs.lemmas.List.{take_rest}
use Rattle.std.specs.Io.KnownBytes.{Appends}
use Rattle.std.proofs.KnownBytes.{Appends-trans}
use Rattle.printing.proofs.text.Goals as goal

module _ (s rest : List ℕ) (n : ℕ) (few : n ≤ length rest) (size : length rest ≤ length s) (is : rest ≡ drop (length s - length rest) s) where
  abbrev left : List ℕ
  left = take (length rest - n) (drop n rest)

  -- where the rest begins, before and after
  abbrev from : ℕ
  from = length s - length rest

  is_left : left ≡ drop n rest
  is_left = take_rest rest n

  size_left : length left ≡ length rest - n
  size_left = ap length is_left ∙ length-drop n rest

  moved : length s - length left ≡ from + n
  moved = omega (arith, size_left)

  left_next : (a b c : Option (List ℕ)) → Appends a b (take from s) → Appends b c (take n rest)
      → (length left ≤ length s) × (left ≡ drop (length s - length left) s) × Appends a c (take (length s - length left) s)
  left_next a b c p q = (
    omega (arith, size_left),
    is_left ∙ ap (drop n) is ∙ drop-drop n from s ∙ ap (λ (k : ℕ). drop k s) (sym moved),
    subst (Appends a c)
        (ap (λ (xs : List ℕ). take from s ++ take n xs) is ∙ sym (take-add from n s) ∙ ap (λ (k : ℕ). take k s) (sym moved))
        (Appends-trans a b c _ _ p q),
  )

pub loop-rest-preserved : goal.loop-rest-preserved
loop-rest-preserved g c =
    let kept = c.loop-rest.invariant in
    left_next c.args.s.now c.loop-rest.rest.now c.in_ok-n.n c.in_ok-n.ensures.bound kept.0 kept.1 _ _ _ kept.2 c.in_ok-n.ensures.bytes
