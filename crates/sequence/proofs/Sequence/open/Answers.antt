-- `sequence::open` meets its contract: each reply is the one that its test picks.
-- Assumes nothing.
use Rattle.sequence.specs.Rules.{open_of}
use Rattle.sequence.proofs.Answers.{open_told}
use Rattle.sequence.proofs.Sequence.open.Goals as goal

pub returns-then-outside : goal.returns-then-outside
unfolding open_of
returns-then-outside c = open_told c.args.modulus (simp (← c.outside.ensures, c.if-outside.true, c.fresh-zeros.ensures))

pub returns : goal.returns
unfolding open_of
returns c = open_told c.args.modulus (simp (← c.outside.ensures, c.if-outside.false, c.fresh-s.ensures))
