-- `enumeration::count_sequences` meets its contract: each reply is the one that its tests pick.
-- Assumes nothing.
use mathlib.Core.Path.{sym, ◌∙◌}
use native.Mathlib.Omega.{arith}
use Rattle.sequence.proofs.Laws.{inside}
use Rattle.enumeration.proofs.Laws.{counted_modulus, counted_count, counted_many, counted_power}
use Rattle.enumeration.proofs.count_sequences.Goals as goal

pub returns-then-outside : goal.returns-then-outside
returns-then-outside c = sym (counted_modulus _ _ (sym c.outside.ensures ∙ c.if-outside.true))

pub returns-then-n-gt-MAX_TERMS : goal.returns-then-n-gt-MAX_TERMS
returns-then-n-gt-MAX_TERMS c =
    let m = inside _ (sym c.outside.ensures ∙ c.if-outside.false) in
    sym (counted_count _ _ m.0 m.1 c.if-n-gt-MAX_TERMS.true)

pub power-k-requires : goal.power-k-requires
power-k-requires c =
    let m = inside _ (sym c.outside.ensures ∙ c.if-outside.false) in
    (m.0, omega (arith, m.1))

pub returns-then-k-gt-MAX_SEQUENCES : goal.returns-then-k-gt-MAX_SEQUENCES
returns-then-k-gt-MAX_SEQUENCES c =
    let m = inside _ (sym c.outside.ensures ∙ c.if-outside.false) in
    sym (counted_many _ _ m.0 m.1 c.if-n-gt-MAX_TERMS.false (omega (arith, c.power-k.ensures, c.if-k-gt-MAX_SEQUENCES.true)))

pub returns : goal.returns
returns c =
    let m = inside _ (sym c.outside.ensures ∙ c.if-outside.false) in
    counted_power _ _ m.0 m.1 c.power-k.ensures c.if-k-gt-MAX_SEQUENCES.false
