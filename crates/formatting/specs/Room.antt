-- Laws of a line's buffer: it is 0 behind the end, so that the line's bytes give it back.
-- Assumes nothing.
use mathlib.Core.Path.{◌≡◌, sym, ap, ◌∙◌, subst}
use Rattle.std.specs.Prelude.{List, ◌++◌, ℕ, ◌-◌, ◌≤◌, length, take, drop, replicate}
use Rattle.std.proofs.lemmas.List.{length-take-le, take-append-drop}
use Rattle.formatting.specs.Listing.{line_bytes}

module _ (end : ℕ) (buffer : List ℕ) (fits : end ≤ line_bytes) (size : length buffer ≡ line_bytes) where
  pub end_back : length (take end buffer) ≡ end
  end_back = length-take-le end buffer (subst (λ (k : ℕ). end ≤ k) (sym size) fits)

  pub buffer_back : drop end buffer ≡ replicate (line_bytes - end) 0 → take end buffer ++ replicate (line_bytes - length (take end buffer)) 0 ≡ buffer
  buffer_back rest =
      ap (λ (k : ℕ). take end buffer ++ replicate (line_bytes - k) 0) end_back
      ∙ ap (λ (xs : List ℕ). take end buffer ++ xs) (sym rest)
      ∙ take-append-drop end buffer
