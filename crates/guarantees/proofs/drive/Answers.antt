-- `guarantees::drive` meets its contract.
-- Assumes nothing.
use borrow.Author.Rules.{rules}
use mathlib.Core.Path.{refl, ap, ◌∙◌}
use Rattle.sequence.specs.declared.Opened.{Opened}
use Rattle.guarantees.specs.Coded.{state_of}
use Rattle.guarantees.proofs.Driving.{reached_none, reached_more, reached_all, driven}
use Rattle.guarantees.proofs.drive.Goals as goal

pub loop-code-init : goal.loop-code-init
loop-code-init c =
    let v = c.args in
    (ap (λ (o : Opened). state_of o.sequence v.a.now v.b.now v.cells.now) c.open.ensures.value ∙ reached_none v.list.now _ v.codes.now, refl, refl, refl)

pub loop-code-preserved : goal.loop-code-preserved
loop-code-preserved c =
    let l = c.loop-code in
    (reached_more _ _ _ l.code-index (state_of l.s l.a l.b l.cells) _ c.loop-code-test.true l.invariant.0 c.one.ensures, search rules, search rules, search rules)

pub returns : goal.returns
returns c =
    let l = c.loop-code in
    let v = c.args in
    let r = c.register-reported in
    let p = c.profile-profiled in
    driven v.modulus v.codes.now v.list.now v.a.now v.b.now v.cells.now l.s l.a l.b l.cells
    (reached_all _ _ _ l.code-index _ c.loop-code-test.false l.invariant.0) l.invariant.1 l.invariant.2 l.invariant.3
    r.result p.result _ _ _ r.ensures.value r.ensures.a_after r.ensures.b_after p.ensures.value p.ensures.cells_after
