-- `catalogue::serve` meets its contract: the record is shown where its register passes.
-- Assumes nothing.
use Prim.Native.Nat.{◌*◌}
use Rattle.catalogue.specs.Rules.{record_bytes}
use Rattle.catalogue.proofs.Laws.{cut_record}
use Rattle.catalogue.proofs.serve.Goals as goal

pub returns-then-is_good : goal.returns-then-is_good
returns-then-is_good c =
    let s = c.args in
    let cut = cut_record s.catalogue.now (s.i * record_bytes) in
    record { value = simp (← cut, ← c.is_good.ensures, c.if-is_good.true); out_after = simp (← cut, ← c.is_good.ensures, c.if-is_good.true) c.show.ensures }

pub returns : goal.returns
returns c =
    let s = c.args in
    let cut = cut_record s.catalogue.now (s.i * record_bytes) in
    record { value = simp (← cut, ← c.is_good.ensures, c.if-is_good.false); out_after = simp (← cut, ← c.is_good.ensures, c.if-is_good.false) }
