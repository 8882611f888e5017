-- `sequence::inspect` meets its contract: each reply is the one that its tests pick.
-- Assumes nothing.
use borrow.Author.Tests.{lt-ltb, le-ltb}
use Rattle.sequence.specs.Rules.{fault_of}
use Rattle.sequence.proofs.Sequence.inspect.Goals as goal

pub returns-then-outside : goal.returns-then-outside
unfolding fault_of
returns-then-outside c = simp (← c.outside.ensures, c.if-outside.true)

pub returns-then-n-gt-MAX_TERMS : goal.returns-then-n-gt-MAX_TERMS
unfolding fault_of
returns-then-n-gt-MAX_TERMS c = simp (← c.outside.ensures, c.if-outside.false, lt-ltb _ _ c.if-n-gt-MAX_TERMS.true)

pub returns-then-i-n : goal.returns-then-i-n
unfolding fault_of
returns-then-i-n c =
    simp (← c.outside.ensures, c.if-outside.false, le-ltb _ _ c.if-n-gt-MAX_TERMS.false, ← c.first_large-i.ensures, lt-ltb _ _ c.if-i-n.true)

pub returns-then-zero_from : goal.returns-then-zero_from
unfolding fault_of
returns-then-zero_from c =
    simp
    (← c.outside.ensures, c.if-outside.false, le-ltb _ _ c.if-n-gt-MAX_TERMS.false, ← c.first_large-i.ensures, le-ltb _ _ c.if-i-n.false, ← c.zero_from.ensures, c.if-zero_from.true)

pub returns : goal.returns
unfolding fault_of
returns c =
    simp
    (← c.outside.ensures, c.if-outside.false, le-ltb _ _ c.if-n-gt-MAX_TERMS.false, ← c.first_large-i.ensures, le-ltb _ _ c.if-i-n.false, ← c.zero_from.ensures, c.if-zero_from.false)
