-- `sequence::write_register` meets its contract.
-- Assumes nothing.
use mathlib.Core.Path.{ap₂, ◌∙◌}
use mathlib.Core.List.{List, ◌++◌}
use Prim.Native.Nat.{ℕ}
use native.Mathlib.Omega.{arith}
use lib.ListN.{drop}
use borrow.Rule.Slice.PartMut.{put_mid}
use Rattle.cells.specs.Cell.{bytes_of}
use Rattle.cells.proofs.Laws.{length_bytes_of}
use Rattle.sequence.specs.Limits.{a_bytes, b_bytes}
use Rattle.sequence.proofs.Reporting.{two_parts}
use Rattle.sequence.proofs.write_register.Goals as goal

pub returns : goal.returns
returns c =
    let first = c.write_a in
    let second = c.write_b in
    ap₂ (λ (x y : List ℕ). put_mid a_bytes b_bytes (x ++ drop a_bytes c.args.out.now) y) first.ensures second.ensures
    ∙ two_parts (bytes_of c.args.x.now.a) (bytes_of c.args.x.now.b) c.args.out.now (omega (arith, length_bytes_of c.args.x.now.a, c.requires.0)) c.requires.2
