-- A closure that answers what is typed, line after line, and one that answers what is read, block after block.
-- Assumes nothing.
use Rattle.std.specs.Prelude.{◌≡◌, Bool, true, false, List, [], ℕ, suc, ◌≤◌, ◌<◌, length, take, Option, Result, Ok, Err}
use Rattle.std.specs.Io.KnownBytes.{Consumes, IsAtEnd}
use Rattle.std.specs.Borrow.{Bor}
use Rattle.input.specs.declared.Source.{Source}
use Rattle.input.specs.declared.Taken.{Taken}
use Rattle.input.specs.declared.Taken.TheVariants as T
use Rattle.input.specs.declared.Typed.{Typed}
use Rattle.input.specs.declared.Typed.TheVariants.{Line, TooLong}
use Rattle.input.specs.Marks.{longest}
use Rattle.input.specs.Held.{Told, CutOff, StandsIn}

-- what the closure is handed for a reply: the line, or that it is too long
abbrev pub Shows : Taken → List ℕ → Typed → Type 0
Shows (T.Line n) buffer (Line bytes) = bytes.now ≡ take n buffer
Shows T.TooLong buffer TooLong = Unit {0}
Shows _ buffer _ = ⊥

-- nothing is read yet
abbrev pub unread : Source
unread = record { from = 0; end = 0; «open» = true }

-- At most n lines from a source of a chunk on, with the closure f: each is the next one, `Told` in a buffer with room for the longest, and is
-- handed to the closure once, as the calls before left it. After true the next line follows; false, the end of the input and n lines end it
-- well, and a call or a read that fails with an error, which a call's is. Which bytes the reads gave is not said,
-- so that from `unread` each result is also one of no calls.
pub data EachLine {F E : Type 0} (step : F → Typed → Result Bool E → F → Type 0) : ℕ → Source → List ℕ → F → Result (Unit {0}) E → Type 0 where
  answered :
      {n : ℕ} {s : Source} {chunk : List ℕ} {f : F} {r : Result (Unit {0}) E} (taken : Taken) (s' : Source) (chunk' buffer : List ℕ) (x : Typed) (f' : F)
      → longest < length buffer → Told s chunk taken s' chunk' buffer → Shows taken buffer x → step f x (Ok true) f' → EachLine step n s' chunk' f' r → EachLine step (suc n) s chunk f r
  stopped :
      {n : ℕ} {s : Source} {chunk : List ℕ} {f : F} (taken : Taken) (s' : Source) (chunk' buffer : List ℕ) (x : Typed) (f' : F)
      → longest < length buffer → Told s chunk taken s' chunk' buffer → Shows taken buffer x → step f x (Ok false) f' → EachLine step (suc n) s chunk f (Ok tt)
  failed :
      {n : ℕ} {s : Source} {chunk : List ℕ} {f : F} (taken : Taken) (s' : Source) (chunk' buffer : List ℕ) (x : Typed) (f' : F) (e : E)
      → longest < length buffer → Told s chunk taken s' chunk' buffer → Shows taken buffer x → step f x (Err e) f' → EachLine step (suc n) s chunk f (Err e)
  ended :
      {n : ℕ} {s : Source} {chunk : List ℕ} {f : F} (s' : Source) (chunk' buffer : List ℕ) → longest < length buffer → Told s chunk T.Ended s' chunk' buffer
      → EachLine step (suc n) s chunk f (Ok tt)
  cut : {n : ℕ} {s : Source} {chunk : List ℕ} {f : F} (buffer : List ℕ) (e : E) → CutOff s chunk buffer → EachLine step (suc n) s chunk f (Err e)
  spent : {s : Source} {chunk : List ℕ} {f : F} → EachLine step 0 s chunk f (Ok tt)

-- some bytes were read at once, fewer than `size` only at the end of the input
pub record Block (size : ℕ) (before : Option (List ℕ)) (bytes : List ℕ) (after : Option (List ℕ)) : Type 0 where
  pub some : 0 < length bytes
  pub fits : length bytes ≤ size
  pub read : Consumes before after bytes
  pub last : length bytes < size → IsAtEnd after

-- At most n blocks of a reader of which `before` is still to come, with the closure f, where `size` bytes are read at once; `after` is to come
-- then. Each block is handed to the closure once, as the calls before left it. The end of the input and n blocks end it well, and a call or a
-- read that fails with an error, which a call's is.
pub data EachBlock {F E : Type 0} (step : F → Bor (List ℕ) → Result (Unit {0}) E → F → Type 0) (size : ℕ) : ℕ → Option (List ℕ) → F → Result (Unit {0}) E → Option (List ℕ) → Type 0 where
  block_answered :
      {n : ℕ} {before after : Option (List ℕ)} {f : F} {r : Result (Unit {0}) E} (block : Bor (List ℕ)) (between : Option (List ℕ)) (f' : F)
      → Block size before block.now between → step f block (Ok tt) f' → EachBlock step size n between f' r after → EachBlock step size (suc n) before f r after
  block_failed :
      {n : ℕ} {before after : Option (List ℕ)} {f : F} (block : Bor (List ℕ)) (f' : F) (e : E)
      → Block size before block.now after → step f block (Err e) f' → EachBlock step size (suc n) before f (Err e) after
  blocks_ended :
      {n : ℕ} {before after : Option (List ℕ)} {f : F} → Consumes before after [] → (0 < size → IsAtEnd after) → EachBlock step size (suc n) before f (Ok tt) after
  block_cut :
      {n : ℕ} {before after : Option (List ℕ)} {f : F} (buffer : List ℕ) (e : E) → length buffer ≡ size → StandsIn before after buffer
      → EachBlock step size (suc n) before f (Err e) after
  blocks_spent : {before : Option (List ℕ)} {f : F} → EachBlock step size 0 before f (Ok tt) before
