-- Laws of a line's buffer: behind a text that is written there is 0 where there was.
-- Assumes nothing.
use mathlib.Core.Path.{◌≡◌, sym, ap, ◌∙◌}
use mathlib.Core.List.{List}
use Prim.Native.Nat.{ℕ, ◌+◌, ◌-◌, ◌≤◌}
use native.Mathlib.Omega.{arith}
use lib.ListN.{length, take, drop, replicate}
use borrow.Rule.Slice.PartMut.{put_mid}
use Rattle.std.proofs.lemmas.List.{drop-replicate, drop-drop}
use Rattle.std.proofs.lemmas.Slice.{drop-put_mid}
use Rattle.formatting.specs.Listing.{line_bytes}
use Rattle.formatting.specs.Room.{end_back}

module _ (end : ℕ) (buffer s : List ℕ) (fits : end ≤ line_bytes) (size : length buffer ≡ line_bytes) where
  pub room : {now : List ℕ} → take end buffer ≡ now → length now + length s ≤ line_bytes → end + length s ≤ line_bytes
  room is h = omega (arith, h, ap (λ (xs : List ℕ). length xs) is, end_back end buffer fits size)

  module _ (h : end + length s ≤ line_bytes) (part : List ℕ) (same : part ≡ s) where
    pub rest_kept : drop end buffer ≡ replicate (line_bytes - end) 0 → drop (end + length s) (put_mid end (end + length s - end) buffer part) ≡ replicate (line_bytes - (end + length s)) 0
    rest_kept rest =
        drop-put_mid end (end + length s - end) buffer part (end + length s) (omega arith) (omega (arith, fits, size)) (omega (arith, ap (λ (xs : List ℕ). length xs) same))
        ∙ sym (drop-drop (length s) end buffer)
        ∙ ap (drop (length s)) rest
        ∙ drop-replicate (length s) (line_bytes - end) 0
        ∙ ap (λ (k : ℕ). replicate k 0) (let e : line_bytes - end - length s ≡ line_bytes - (end + length s) = omega arith in e)
