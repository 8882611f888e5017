-- `Sequence::push` meets its contract: each reply is the one that its tests pick; in a sound sequence that is not full there is room.
-- Assumes nothing.
use mathlib.Core.Path.{sym, ◌∙◌}
use Prim.Native.Nat.{◌≤◌, ◌<◌}
use native.Mathlib.Omega.{arith}
use lib.Arith.{lt_of_le-ne}
use borrow.Author.Tests.{le-leb, lt-leb, eq-eqb, ne_eqb}
use Rattle.sequence.specs.Rules.{push_of}
use Rattle.sequence.proofs.Laws.{sound_of}
use Rattle.sequence.proofs.Answers.{push_told}
use Rattle.sequence.proofs.Sequence.push.Goals as goal

pub returns-then-not-is_sound : goal.returns-then-not-is_sound
unfolding push_of
returns-then-not-is_sound c = push_told _ _ (simp (← c.is_sound.ensures, c.if-not-is_sound.true))

pub returns-then-n-eq-MAX_TERMS : goal.returns-then-n-eq-MAX_TERMS
unfolding push_of
returns-then-n-eq-MAX_TERMS c = push_told _ _ (simp (← c.is_sound.ensures, c.if-not-is_sound.false, eq-eqb _ _ c.if-n-eq-MAX_TERMS.true))

pub returns-then-self-term : goal.returns-then-self-term
unfolding push_of
returns-then-self-term c =
    let a = c.args in
    let h : a.self.now.modulus ≤ a.term = omega arith in
    push_told _ _ (simp (← c.is_sound.ensures, c.if-not-is_sound.false, ne_eqb _ _ c.if-n-eq-MAX_TERMS.false, le-leb _ _ h))

pub bounds-self-n : goal.bounds-self-n
bounds-self-n c =
    lt_of_le-ne (sound_of _ (sym c.is_sound.ensures ∙ c.if-not-is_sound.false)).count c.if-n-eq-MAX_TERMS.false

pub overflow_add-self : goal.overflow_add-self
overflow_add-self c =
    omega (arith, (sound_of _ (sym c.is_sound.ensures ∙ c.if-not-is_sound.false)).count)

pub returns : goal.returns
unfolding push_of
returns c =
    let a = c.args in
    let h : a.term < a.self.now.modulus = omega arith in
    push_told _ _ (simp (← c.is_sound.ensures, c.if-not-is_sound.false, ne_eqb _ _ c.if-n-eq-MAX_TERMS.false, lt-leb _ _ h))
