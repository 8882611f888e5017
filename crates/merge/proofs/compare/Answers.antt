-- `merge::compare` meets its contract.
-- Assumes nothing.
use native.Mathlib.Omega.{arith}
use borrow.Author.Rules.{rules}
use Rattle.merge.proofs.Laws.{product_fits, rests, compared_is}
use Rattle.merge.proofs.compare.Goals as goal

pub nonzero_div-above : goal.nonzero_div-above
nonzero_div-above c = omega (arith, (rests c.args.s.now c.args.t.now c.requires.0 c.requires.1 c.args.g c.requires.2).g_pos)

pub overflow_mul-above : goal.overflow_mul-above
overflow_mul-above c = omega (arith, product_fits c.args.s.now.modulus c.args.t.now.modulus c.args.g c.requires.0.most c.requires.1.most)

pub first_apart-i-requires : goal.first_apart-i-requires
first_apart-i-requires c =
    (c.requires.0.count, omega (arith, (rests c.args.s.now c.args.t.now c.requires.0 c.requires.1 c.args.g c.requires.2).g_pos, c.requires.0.least), search rules, search rules)

pub returns : goal.returns
returns c =
    compared_is c.args.s.now c.args.t.now c.requires.0 c.requires.1 c.args.g c.first_apart-i.result c.requires.2 c.first_apart-i.ensures c.first_refusal.ensures
