-- `formatting::Line::number`: what `io::decimal` spells is the numeral, of at most 20 digits.
-- Assumes nothing.
use mathlib.Core.Path.{ap, ◌∙◌}
use mathlib.Core.List.{List, ◌++◌}
use Prim.Native.Nat.{ℕ}
use Rattle.formatting.proofs.Numeral.{fewest}
use Rattle.formatting.proofs.Line.number.Goals as goal

pub returns-clause-text : goal.returns-clause-text
returns-clause-text c =
    let spelt = c.decimal-count.ensures in
    c.text.ensures ∙ ap (λ (xs : List ℕ). c.args.self.now ++ xs) (spelt.digits ∙ fewest _ _ spelt.len)
