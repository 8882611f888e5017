-- `synthesis::extend` meets its contract.
-- Assumes nothing.
use Rattle.synthesis.proofs.Joining.{ring_big, row_below, extended_is, extended_first}
use Rattle.synthesis.proofs.extend.Goals as goal

pub shape_of-log-then-big-eq1 : goal.shape_of-log-then-big-eq1
shape_of-log-then-big-eq1 c = c.run.ensures.1.long

pub returns-then-big-eq1 : goal.returns-then-big-eq1
returns-then-big-eq1 c =
    let a = c.args in
    let x = c.run.ensures in (
      extended_first a.ring a.terms.now a.count c.requires.1 _ _ x.0 a.big a.a.now a.lengths.now _ c.if-big-eq1.true
          c.raise.ensures,
      x.1,
    )

pub join_cells-requires : goal.join_cells-requires
join_cells-requires c =
    let a = c.args in
    let r = a.ring in
    let x = c.run.ensures.0 in (
      c.requires.5,
      c.requires.2,
      ring_big r a.terms.now a.count c.requires.1 _ _ x,
      c.requires.3,
      c.requires.4,
      c.requires.6,
      row_below r a.terms.now a.count c.requires.1 _ _ x,
    )

pub shape_of-log : goal.shape_of-log
shape_of-log c = c.run.ensures.1.long

pub returns : goal.returns
returns c =
    let a = c.args in
    let x = c.run.ensures in (
      extended_is a.ring a.terms.now a.count c.requires.1 _ _ x.0 a.big a.a.now a.lengths.now _ _ c.join_cells.ensures
          c.raise.ensures,
      x.1,
    )
