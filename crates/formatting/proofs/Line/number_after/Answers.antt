-- `formatting::Line::number_after`: the byte and the number.
-- Assumes nothing.
use mathlib.Core.Path.{ap, ◌∙◌}
use mathlib.Core.List.{List, ◌++◌, append_assoc}
use Prim.Native.Nat.{ℕ}
use Rattle.formatting.specs.Text.{numeral}
use Rattle.formatting.proofs.Separated.{after_one}
use Rattle.formatting.proofs.Line.number_after.Goals as goal

pub returns-clause-text : goal.returns-clause-text
returns-clause-text c =
    let v = c.args in
    c.number.ensures.text ∙ ap (λ (xs : List ℕ). xs ++ numeral v.n) c.text.ensures
    ∙ append_assoc v.self.now _ _ ∙ ap (λ (xs : List ℕ). v.self.now ++ xs) (after_one _ _)
