-- A read in place: what the front of a buffer holds grows by what was read behind it.
-- Assumes nothing.
use Rattle.std.proofs.Common.{◌≡◌, ℕ, ◌+◌, ◌≤◌, Option, List, ◌++◌, length, take, sym, ap, subst, ◌∙◌, length-take-le}
use Rattle.std.proofs.Math.Seq.{take-append-add}
use Rattle.std.proofs.lemmas.List.{take-append-le}
use Rattle.std.specs.Io.KnownBytes.{Consumes}
use Rattle.std.proofs.KnownBytes.{Consumes-trans}
use borrow.Rule.Slice.PartMut.{put_mid, post_of}

front_grows :
    (at k n : ℕ) (buffer part : List ℕ) → at ≤ length buffer → n ≤ length part → take at buffer ++ take n part ≡ take (at + n) (put_mid at k buffer part)
front_grows at k n buffer part within fits =
    let rest = post_of at k buffer in
    let size : length (take at buffer) ≡ at = length-take-le at buffer within in
    sym
    (ap (λ (m : ℕ). take (m + n) (take at buffer ++ (part ++ rest))) (sym size) ∙ take-append-add (take at buffer) (part ++ rest) n
    ∙ ap (λ (xs : List ℕ). take at buffer ++ xs) (take-append-le n part rest fits))

pub reads_more :
    (a b c : Option (List ℕ)) (at k n to : ℕ) (buffer part : List ℕ) → at ≤ length buffer → n ≤ length part → at + n ≡ to → Consumes a b (take at buffer)
    → Consumes b c (take n part) → Consumes a c (take to (put_mid at k buffer part))
reads_more a b c at k n to buffer part within fits end first second =
    subst (Consumes a c) (front_grows at k n buffer part within fits ∙ ap (λ (m : ℕ). take m (put_mid at k buffer part)) end)
    (Consumes-trans a b c _ _ first second)
