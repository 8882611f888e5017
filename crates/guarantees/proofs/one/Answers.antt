-- `guarantees::one` meets its contract.
-- Assumes nothing.
use Rattle.guarantees.proofs.Driving.{reports, profiles, columns, pushes}
use Rattle.guarantees.proofs.one.Goals as goal

pub returns-then-code-eq0 : goal.returns-then-code-eq0
returns-then-code-eq0 c =
    let v = c.args in
    let r = c.register in
    reports v.s.now v.code v.list.now v.a.now v.b.now v.cells.now _ _ r.result c.if-code-eq0.true r.ensures.value r.ensures.a_after r.ensures.b_after

pub returns-then-code-eq1 : goal.returns-then-code-eq1
returns-then-code-eq1 c =
    let v = c.args in
    let p = c.profile in
    profiles v.s.now v.code v.list.now v.a.now v.b.now v.cells.now _ p.result c.if-code-eq1.true p.ensures.value p.ensures.cells_after

pub returns-then-code-eq2 : goal.returns-then-code-eq2
returns-then-code-eq2 c =
    let v = c.args in
    let p = c.push_all in
    columns v.s.now v.code v.list.now v.a.now v.b.now v.cells.now p.result c.if-code-eq2.true p.ensures.value

pub returns : goal.returns
returns c =
    let v = c.args in
    pushes v.s.now v.code v.list.now v.a.now v.b.now v.cells.now _ c.if-code-eq0.false c.if-code-eq1.false c.if-code-eq2.false c.push.ensures.self_after
