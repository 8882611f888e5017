-- `enumeration::length_of` meets its contract: the terms in the array have the linear complexity of those in the list.
-- Assumes nothing.
use native.Mathlib.Omega.{arith}
use Rattle.enumeration.proofs.Laws.{terms_below, length_is}
use Rattle.enumeration.proofs.length_of.Goals as goal

pub digits-terms-requires : goal.digits-terms-requires
digits-terms-requires c = (omega (arith, c.requires.0), c.requires.2)

pub complexity-requires : goal.complexity-requires
complexity-requires c =
    let a = c.args in
    (c.requires.0, omega (arith, c.requires.1), c.requires.2, terms_below a.m a.n a.number c.requires.0 c.requires.1 c.requires.2 c.digits-terms.ensures)

pub returns : goal.returns
returns c =
    let a = c.args in
    length_is a.m a.n a.number c.requires.0 c.requires.1 c.requires.2 c.digits-terms.ensures c.complexity.ensures
