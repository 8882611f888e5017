-- `lines::scan` meets its contract: the loop keeps what `Scanning` says.
-- Assumes nothing.
use mathlib.Core.Path.{refl, sym, ap, ◌∙◌}
use Prim.Native.Nat.{ℕ, ◌≤◌, ◌<◌}
use native.Mathlib.Omega.{arith}
use lib.ListN.{length}
use Rattle.std.specs.Prelude.{Ok}
use Rattle.lines.specs.Scan.{scanned_of}
use Rattle.lines.proofs.Signs.{limit_most}
use Rattle.lines.proofs.Scanning.{scanning_start, length_array, scanning_broken, scanning_past, scanning_next, scanning_cut, scanning_end, end_count, end_array, keeps_read, keeps_broken, keeps_past}
use Rattle.lines.proofs.scan.Goals as goal

pub loop-i-init : goal.loop-i-init
loop-i-init c = scanning_start c.args.line.now c.args.terms.now c.requires

pub advance-next-requires : goal.advance-next-requires
advance-next-requires c =
    let l = c.loop-i in
    omega (arith, l.invariant.fits, limit_most l.c.minus)

pub returns-then-is_wrong : goal.returns-then-is_wrong
returns-then-is_wrong c =
    let h : c.loop-i.i < length c.args.line.now = omega arith in
    let e = scanning_broken c.loop-i.invariant h refl c.advance-next.ensures (sym c.is_wrong.ensures ∙ c.if-is_wrong.true) in
    record { value = sym (ap scanned_of e); kept = keeps_broken e }

pub returns-then-is_past : goal.returns-then-is_past
returns-then-is_past c =
    let h : c.loop-i.i < length c.args.line.now = omega arith in
    let e = scanning_past c.loop-i.invariant h refl c.advance-next.ensures
    (sym c.is_wrong.ensures ∙ c.if-is_wrong.false) (sym c.is_past.ensures ∙ c.if-is_past.true) in
    record { value = sym (ap scanned_of e); kept = keeps_past e }

pub keep-n-requires : goal.keep-n-requires
keep-n-requires c =
    (c.loop-i.invariant.fits, length_array c.loop-i.invariant, omega (arith, c.loop-i.invariant.few))

pub loop-i-preserved : goal.loop-i-preserved
loop-i-preserved c =
    let h : c.loop-i.i < length c.args.line.now = omega arith in
    scanning_next c.loop-i.invariant h refl c.advance-next.ensures
    (sym c.is_wrong.ensures ∙ c.if-is_wrong.false)
    (sym c.is_past.ensures ∙ c.if-is_past.false) _ c.keep-n.ensures.0 _ c.keep-n.ensures.1

pub end_term-count-requires : goal.end_term-count-requires
end_term-count-requires c =
    (c.loop-i.invariant.fits, length_array c.loop-i.invariant, omega (arith, c.loop-i.invariant.few))

pub returns-then-may_end : goal.returns-then-may_end
returns-then-may_end c =
    let h : length c.args.line.now ≤ c.loop-i.i = omega arith in
    let e = scanning_end c.loop-i.invariant h (sym c.may_end.ensures ∙ c.if-may_end.true) in
    record { value = ap (λ (n : ℕ). Ok (c.loop-i.c.modulus, n)) (end_count c.loop-i.invariant h _ c.end_term-count.ensures.0) ∙ sym (ap scanned_of e); kept = keeps_read e (end_array c.loop-i.invariant h _ c.end_term-count.ensures.1) }

pub returns : goal.returns
returns c =
    let h : length c.args.line.now ≤ c.loop-i.i = omega arith in
    let e = scanning_cut c.loop-i.invariant h (sym c.may_end.ensures ∙ c.if-may_end.false) in
    record { value = sym (ap scanned_of e); kept = keeps_broken e }
