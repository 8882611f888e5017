-- Laws of lines that are answered, and of blocks: what a turn adds to those that are still to come.
-- Assumes nothing.
use mathlib.Core.Path.{◌≡◌, sym, subst}
use mathlib.Core.Bool.{Bool, true, false}
use mathlib.Core.List.{List}
use Prim.Native.Nat.{ℕ, suc, ◌+◌, ◌-◌, ◌≤◌, ◌<◌}
use native.Mathlib.Omega.{arith}
use Rattle.std.specs.Borrow.{Bor}
use lib.ListN.{length, take}
use lib.Seq.{length-take-le}
use Rattle.std.specs.Prelude.{Option, Result, Ok, Err}
use Rattle.std.specs.Io.KnownBytes.{Consumes, IsAtEnd}
use Rattle.input.specs.declared.Source.{Source}
use Rattle.input.specs.declared.Taken.{Taken}
use Rattle.input.specs.declared.Taken.TheVariants as T
use Rattle.input.specs.declared.Typed.{Typed}
use Rattle.input.specs.Marks.{longest}
use Rattle.input.specs.Held.{Told, CutOff, StandsIn}
use Rattle.input.specs.Each.{Shows, unread, EachLine, Block, EachBlock}

unread_is : (s : Source) → s.from ≡ 0 → s.end ≡ 0 → s.«open» ≡ true → s ≡ unread
unread_is s e f g = λ i. record { from = e i; end = f i; «open» = g i }

module _ {F E : Type 0} (step : F → Typed → Result Bool E → F → Type 0) where
  -- the lines that are still to come, answered, are those of the start
  abbrev pub Pending : ℕ → Source → List ℕ → F → ℕ → Source → List ℕ → F → Type 0
  Pending m s₀ chunk₀ f₀ n s chunk f = (r : Result (Unit {0}) E) → EachLine step n s chunk f r → EachLine step m s₀ chunk₀ f₀ r

  module _ (m i : ℕ) (low : i < m) {s₀ s : Source} {chunk₀ chunk : List ℕ} {f₀ f : F} (rest : Pending m s₀ chunk₀ f₀ (m - i) s chunk f) where
    -- a turn is left
    turn : suc (m - (i + 1)) ≡ m - i
    turn = omega arith

    by_turn : (r : Result (Unit {0}) E) → EachLine step (suc (m - (i + 1))) s chunk f r → EachLine step m s₀ chunk₀ f₀ r
    by_turn r x = rest r (subst (λ (n : ℕ). EachLine step n s chunk f r) turn x)

    module _ {taken : Taken} {s' : Source} {chunk' buffer : List ℕ} (room : longest < length buffer) (told : Told s chunk taken s' chunk' buffer) where
      pub each_ended : taken ≡ T.Ended → EachLine step m s₀ chunk₀ f₀ (Ok tt)
      each_ended e = by_turn _ (EachLine.ended s' chunk' buffer room (subst (λ (t : Taken). Told s chunk t s' chunk' buffer) e told))

      module _ {x : Typed} {f' : F} (shows : Shows taken buffer x) where
        pub each_answered : (b : Bool) → step f x (Ok b) f' → b ≡ true → Pending m s₀ chunk₀ f₀ (m - (i + 1)) s' chunk' f'
        each_answered b st e r x' = by_turn r (EachLine.answered taken s' chunk' buffer x f' room told shows (subst (λ (c : Bool). step f x (Ok c) f') e st) x')

        pub each_stopped : (b : Bool) → step f x (Ok b) f' → b ≡ false → EachLine step m s₀ chunk₀ f₀ (Ok tt)
        each_stopped b st e = by_turn _ (EachLine.stopped taken s' chunk' buffer x f' room told shows (subst (λ (c : Bool). step f x (Ok c) f') e st))

        pub each_failed : (e : E) {r : Result (Unit {0}) E} → step f x (Err e) f' → r ≡ Err e → EachLine step m s₀ chunk₀ f₀ r
        each_failed e {r} st g =
            subst (EachLine step m s₀ chunk₀ f₀) (sym g) (by_turn _ (EachLine.failed taken s' chunk' buffer x f' e room told shows st))

    pub each_cut : {buffer : List ℕ} (e : E) {r : Result (Unit {0}) E} → CutOff s chunk buffer → r ≡ Err e → EachLine step m s₀ chunk₀ f₀ r
    each_cut {buffer} e {r} x g = subst (EachLine step m s₀ chunk₀ f₀) (sym g) (by_turn _ (EachLine.cut buffer e x))

  pub each_spent : (m i : ℕ) {s₀ s : Source} {chunk₀ chunk : List ℕ} {f₀ f : F} → Pending m s₀ chunk₀ f₀ (m - i) s chunk f → m ≡ i → EachLine step m s₀ chunk₀ f₀ (Ok tt)
  each_spent m i {s₀} {s} {chunk₀} {chunk} {f₀} {f} rest e =
      rest (Ok tt) (subst (λ (n : ℕ). EachLine step n s chunk f (Ok tt)) (let z : 0 ≡ m - i = omega (arith, e) in z) EachLine.spent)

  -- which bytes the chunk has at the start does not matter
  pub each_from :
      (s : Source) → (s.from ≡ 0) × (s.end ≡ 0) × (s.«open» ≡ true) → {m : ℕ} {chunk : List ℕ} {f : F} {r : Result (Unit {0}) E}
      → EachLine step m s chunk f r → (c : List ℕ) × EachLine step m unread c f r
  each_from s e {m} {chunk} {f} {r} x = (chunk, subst (λ (t : Source). EachLine step m t chunk f r) (unread_is s e.0 e.1 e.2) x)

-- ---- blocks

-- what stands at the start of the buffer
pub block_read : (n : ℕ) (buffer : List ℕ) (size : ℕ) {before after : Option (List ℕ)} → length buffer ≡ size → n ≤ length buffer → (n ≡ 0 → ⊥)
    → Consumes before after (take n buffer) → (n < length buffer → IsAtEnd after) → Block size before (take n buffer) after
block_read n buffer size e h some read last =
    let whole : length (take n buffer) ≡ n = length-take-le n buffer h in
    record { some = omega (arith, whole, some); fits = omega (arith, whole, e); read = read; last = λ k. last (omega (arith, whole, e)) }

module _ {F E : Type 0} (step : F → Bor (List ℕ) → Result (Unit {0}) E → F → Type 0) (size : ℕ) where
  -- the blocks that are still to come, answered, are those of the start
  abbrev pub Awaited : ℕ → Option (List ℕ) → F → ℕ → Option (List ℕ) → F → Type 0
  Awaited m before₀ f₀ n before f = (r : Result (Unit {0}) E) (after : Option (List ℕ)) → EachBlock step size n before f r after → EachBlock step size m before₀ f₀ r after

  module _ (m i : ℕ) (low : i < m) {before₀ before : Option (List ℕ)} {f₀ f : F} (rest : Awaited m before₀ f₀ (m - i) before f) where
    block_turn : suc (m - (i + 1)) ≡ m - i
    block_turn = omega arith

    by_block : (r : Result (Unit {0}) E) (after : Option (List ℕ)) → EachBlock step size (suc (m - (i + 1))) before f r after → EachBlock step size m before₀ f₀ r after
    by_block r after x = rest r after (subst (λ (n : ℕ). EachBlock step size n before f r after) block_turn x)

    pub block_more : {between : Option (List ℕ)} (block : Bor (List ℕ)) {f' : F} → Block size before block.now between → step f block (Ok tt) f' → Awaited m before₀ f₀ (m - (i + 1)) between f'
    block_more {between} block {f'} b st r after x = by_block r after (EachBlock.block_answered block between f' b st x)

    pub block_error : {after : Option (List ℕ)} (block : Bor (List ℕ)) {f' : F} (e : E) {r : Result (Unit {0}) E} → Block size before block.now after → step f block (Err e) f' → r ≡ Err e
        → EachBlock step size m before₀ f₀ r after
    block_error {after} block {f'} e {r} b st g =
        subst (λ (q : Result (Unit {0}) E). EachBlock step size m before₀ f₀ q after) (sym g) (by_block _ _ (EachBlock.block_failed block f' e b st))

    pub block_end : {after : Option (List ℕ)} (n : ℕ) (buffer : List ℕ) → length buffer ≡ size → n ≡ 0 → Consumes before after (take n buffer) → (n < length buffer → IsAtEnd after)
        → EachBlock step size m before₀ f₀ (Ok tt) after
    block_end {after} n buffer e z read last =
        by_block _ _ (EachBlock.blocks_ended (subst (λ (k : ℕ). Consumes before after (take k buffer)) z read) (λ h. last (omega (arith, e, z))))

    pub block_broken : {after : Option (List ℕ)} (buffer : List ℕ) (e : E) {r : Result (Unit {0}) E} → length buffer ≡ size → StandsIn before after buffer → r ≡ Err e
        → EachBlock step size m before₀ f₀ r after
    block_broken {after} buffer e {r} h x g =
        subst (λ (q : Result (Unit {0}) E). EachBlock step size m before₀ f₀ q after) (sym g) (by_block _ _ (EachBlock.block_cut buffer e h x))

  pub blocks_done : (m i : ℕ) {before₀ before : Option (List ℕ)} {f₀ f : F} → Awaited m before₀ f₀ (m - i) before f → m ≡ i → EachBlock step size m before₀ f₀ (Ok tt) before
  blocks_done m i {before₀} {before} {f₀} {f} rest e =
      rest (Ok tt) before (subst (λ (n : ℕ). EachBlock step size n before f (Ok tt) before) (let z : 0 ≡ m - i = omega (arith, e) in z) EachBlock.blocks_spent)
