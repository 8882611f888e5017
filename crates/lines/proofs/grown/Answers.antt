-- `lines::grown` meets its contract: a digit is 48 at least.
-- Assumes nothing.
use native.Mathlib.Omega.{arith}
use lib.Dec.{leb}
use borrow.Author.Tests.{leb-true}
use Rattle.lists.proofs.Search.{both_left}
use Rattle.lines.proofs.grown.Goals as goal

pub overflow_sub-b : goal.overflow_sub-b
overflow_sub-b c =
    let b = c.args.b in
    omega (arith, leb-true 48 b (both_left (leb 48 b) (leb b 57) c.requires.1))
