-- `lines::state_after` meets its contract: the row of the state that the reading is in.
-- Assumes nothing.
use mathlib.Core.Path.{ap, ◌∙◌}
use Rattle.lines.specs.declared.State.TheVariants.{BeforeTerms, AfterMinus, InModulus, InTerm, AfterTerm, AfterComma, Wrong}
use Rattle.lines.specs.Reading.{goes, meets}
use Rattle.lines.proofs.Signs.{in_row}
use Rattle.lines.proofs.state_after.Goals as goal

pub returns-in-Start : goal.returns-in-Start
returns-in-Start c =
    in_row c.args.b c.in-Start.is c.meets.ensures

pub returns-in-AfterM : goal.returns-in-AfterM
returns-in-AfterM c =
    in_row c.args.b c.in-AfterM.is c.meets-in-AfterM.ensures

pub returns-in-AfterO : goal.returns-in-AfterO
returns-in-AfterO c =
    in_row c.args.b c.in-AfterO.is c.meets-in-AfterO.ensures

pub returns-in-AfterD : goal.returns-in-AfterD
returns-in-AfterD c =
    in_row c.args.b c.in-AfterD.is c.meets-in-AfterD.ensures

pub returns-in-BeforeModulus : goal.returns-in-BeforeModulus
returns-in-BeforeModulus c =
    in_row c.args.b c.in-BeforeModulus.is (c.goes.ensures ∙ ap (goes InModulus Wrong Wrong Wrong) c.class_of-k.ensures)

pub returns-in-InModulus : goal.returns-in-InModulus
returns-in-InModulus c =
    in_row c.args.b c.in-InModulus.is
    (c.meets-in-InModulus.ensures ∙ ap (meets c.args.b 58 BeforeTerms) (c.goes-q.ensures ∙ ap (goes InModulus Wrong Wrong Wrong) c.class_of-k.ensures))

pub returns-in-BeforeTerms : goal.returns-in-BeforeTerms
returns-in-BeforeTerms c =
    in_row c.args.b c.in-BeforeTerms.is (c.goes-in-BeforeTerms.ensures ∙ ap (goes InTerm Wrong AfterMinus BeforeTerms) c.class_of-k.ensures)

pub returns-in-AfterMinus : goal.returns-in-AfterMinus
returns-in-AfterMinus c =
    in_row c.args.b c.in-AfterMinus.is (c.goes-in-AfterMinus.ensures ∙ ap (goes InTerm Wrong Wrong Wrong) c.class_of-k.ensures)

pub returns-in-InTerm : goal.returns-in-InTerm
returns-in-InTerm c =
    in_row c.args.b c.in-InTerm.is (c.goes-in-InTerm.ensures ∙ ap (goes InTerm AfterComma Wrong AfterTerm) c.class_of-k.ensures)

pub returns-in-AfterTerm : goal.returns-in-AfterTerm
returns-in-AfterTerm c =
    in_row c.args.b c.in-AfterTerm.is (c.goes-in-AfterTerm.ensures ∙ ap (goes Wrong AfterComma Wrong AfterTerm) c.class_of-k.ensures)

pub returns-in-AfterComma : goal.returns-in-AfterComma
returns-in-AfterComma c =
    in_row c.args.b c.in-AfterComma.is (c.goes-in-AfterComma.ensures ∙ ap (goes InTerm Wrong AfterMinus AfterComma) c.class_of-k.ensures)
