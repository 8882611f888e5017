-- `formatting::read_pair`: the numbers before and behind the first blank.
-- Assumes nothing.
use mathlib.Core.Path.{refl, sym, ap, ◌∙◌}
use Prim.Native.Nat.{◌+◌}
use Rattle.formatting.specs.Census.{number_of}
use Rattle.formatting.proofs.Pairs.{blank_found, pair_none, part_all, pair_read}
use Rattle.formatting.proofs.read_pair.Goals as goal

pub returns-in_err-k : goal.returns-in_err-k
returns-in_err-k c = rw c.from_residual.ensures (pair_none c.args.line.now (sym c.first_blank.ensures ∙ c.in_err-k.was))

pub returns-in_err-modulus : goal.returns-in_err-modulus
returns-in_err-modulus c =
    let line = c.args.line.now in
    rw c.from_residual-in_err-modulus.ensures
    (pair_read line (blank_found line (sym c.first_blank.ensures ∙ c.in_ok-k.was)) (sym c.in_err-modulus.was ∙ c.read_number.ensures) refl)

pub returns-in_err-count : goal.returns-in_err-count
returns-in_err-count c =
    let line = c.args.line.now in
    rw c.from_residual-in_err-count.ensures
    (pair_read line (blank_found line (sym c.first_blank.ensures ∙ c.in_ok-k.was)) (sym c.in_ok-modulus.was ∙ c.read_number.ensures)
    (sym c.in_err-count.was ∙ c.read_number-2.ensures ∙ ap number_of (part_all line (c.in_ok-k.k + 1))))

pub returns : goal.returns
returns c =
    let line = c.args.line.now in
    pair_read line (blank_found line (sym c.first_blank.ensures ∙ c.in_ok-k.was)) (sym c.in_ok-modulus.was ∙ c.read_number.ensures)
    (sym c.in_ok-count.was ∙ c.read_number-2.ensures ∙ ap number_of (part_all line (c.in_ok-k.k + 1)))
