-- `lines::is_past` meets its contract.
-- Assumes nothing.
use mathlib.Core.Path.{sym, ap}
use mathlib.Core.Bool.{Bool}
use lib.Dec.{ltb}
use Rattle.lines.specs.Form.{limit}
use Rattle.lines.proofs.is_past.Goals as goal

pub returns-then-c : goal.returns-then-c
returns-then-c c = ap (λ (s : Bool). ltb (limit s) c.args.c.size) (sym c.if-c.true)

pub returns : goal.returns
returns c = ap (λ (s : Bool). ltb (limit s) c.args.c.size) (sym c.if-c.false)
