-- `catalogue::is_good` meets its contract: where there is no place, and only there, the register passes.
-- Assumes nothing.
use mathlib.Core.Path.{sym, ap, ◌∙◌}
use Rattle.std.specs.Prelude.{is_none}
use Rattle.catalogue.specs.Rules.{is_yes, passes}
use Rattle.catalogue.proofs.is_good.Goals as goal

pub returns-in-None : goal.returns-in-None
unfolding passes
returns-in-None c = simp (← c.cell-l.ensures.0) (ap is_none (sym c.in-None.is) ∙ ap is_yes (sym c.in-Ok.is ∙ c.judge-v.ensures))

pub returns-in-Some : goal.returns-in-Some
unfolding passes
returns-in-Some c = simp (← c.cell-l.ensures.0) (ap is_none (sym c.in-Some.is) ∙ ap is_yes (sym c.in-Ok.is ∙ c.judge-v.ensures))

pub returns-in-Err : goal.returns-in-Err
unfolding passes
returns-in-Err c = simp (← c.cell-l.ensures.0) (ap is_yes (sym c.in-Err.is ∙ c.judge-v.ensures))
