-- `lines::end_term` meets its contract: past the array's end nothing is stored, as `set` has it.
-- Assumes nothing.
use mathlib.Core.Path.{◌≡◌, sym, ap, ◌∙◌}
use Prim.Native.Nat.{◌+◌}
use native.Mathlib.Omega.{arith}
use lib.ListN.{set}
use lib.Seq.{set_out}
use Rattle.lines.proofs.Signs.{signed_back}
use Rattle.lists.proofs.Choice.{picked}
use Rattle.lines.proofs.end_term.Goals as goal

pub returns-then-n-ge-TERMS : goal.returns-then-n-ge-TERMS
returns-then-n-ge-TERMS c =
    let e = sym c.in_term.ensures ∙ c.if-in_term.true in
    let one : 1 + c.args.n ≡ c.args.n + 1 = omega arith in
    (one ∙ sym (picked _ _ e), sym (picked _ _ e ∙ set_out _ _ _ (omega (arith, c.requires.1))))

pub returns-then-in_term : goal.returns-then-in_term
returns-then-in_term c =
    let a = c.args in
    let e = sym c.in_term.ensures ∙ c.if-in_term.true in (
      sym (picked _ _ e),
      ap (set a.terms.now a.n) (signed_back a.c.minus a.c.size c.requires.0 c.typed.ensures) ∙ sym (picked _ _ e),
    )
