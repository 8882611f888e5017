-- `lines::goes` meets its contract: a state for each class.
-- Assumes nothing.
use mathlib.Core.Path.{sym, ap}
use Rattle.lines.specs.declared.Class.{Class}
use Rattle.lines.specs.Reading.{goes}
use Rattle.lines.proofs.goes.Goals as goal

pub returns-in-Digit : goal.returns-in-Digit
returns-in-Digit c =
    let a = c.args in
    sym (ap (λ (k : Class). goes a.digit a.comma a.minus a.blank k) c.in-Digit.is)

pub returns-in-Comma : goal.returns-in-Comma
returns-in-Comma c =
    let a = c.args in
    sym (ap (λ (k : Class). goes a.digit a.comma a.minus a.blank k) c.in-Comma.is)

pub returns-in-Minus : goal.returns-in-Minus
returns-in-Minus c =
    let a = c.args in
    sym (ap (λ (k : Class). goes a.digit a.comma a.minus a.blank k) c.in-Minus.is)

pub returns-in-Blank : goal.returns-in-Blank
returns-in-Blank c =
    let a = c.args in
    sym (ap (λ (k : Class). goes a.digit a.comma a.minus a.blank k) c.in-Blank.is)

pub returns-in-Other : goal.returns-in-Other
returns-in-Other c =
    let a = c.args in
    sym (ap (λ (k : Class). goes a.digit a.comma a.minus a.blank k) c.in-Other.is)
