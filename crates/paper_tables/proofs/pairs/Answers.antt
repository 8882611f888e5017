-- `paper_tables::pairs` meets its contract: lengths and cells are low enough to find b.
-- Assumes nothing.
use Rattle.std.proofs.Common.{arith}
use Rattle.steps.proofs.Model.{len_low, row_low}
use Rattle.paper_tables.proofs.pairs.Goals as goal

pub pair-requires : goal.pair-requires
pair-requires g c =
    let a = c.args in
    let fit = a.ring.fit in
    let i = c.loop-i.i in
    let r = c.before-rows.ensures in (
      omega (arith, len_low a.ring a.s.now a.k _ r i (omega arith)),
      fit.some,
      λ j h. omega (arith, row_low a.ring a.s.now a.k _ r i (omega arith) j h, fit.small),
      c.requires.0,
    )
