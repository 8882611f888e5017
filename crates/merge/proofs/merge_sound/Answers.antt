-- `merge::merge_sound` meets its contract.
-- Assumes nothing.
use mathlib.Core.Path.{refl, sym, ◌∙◌}
use native.Mathlib.Omega.{arith}
use Rattle.std.proofs.lemmas.Result.{err_from_is_err_and}
use Rattle.merge.proofs.merge_sound.Goals as goal

pub common_divisor-g-requires : goal.common_divisor-g-requires
common_divisor-g-requires c = omega (arith, c.requires.0.least)

pub compare-requires : goal.compare-requires
compare-requires c =
    (c.requires.0, c.requires.1, c.common_divisor-g.ensures)

pub write_merged-requires : goal.write_merged-requires
write_merged-requires c =
    (c.requires.0, c.requires.1, c.common_divisor-g.ensures, sym c.compare.ensures ∙ c.in_ok-compare.was, c.requires.2)

pub returns-in_err-compare : goal.returns-in_err-compare
returns-in_err-compare c =
    let p = err_from_is_err_and c.from_residual.result c.from_residual.ensures.1 in
    rw (p.1, p.2) (record { value = sym c.in_err-compare.was ∙ c.compare.ensures; query_after = refl })

pub returns : goal.returns
returns c = record { value = sym c.in_ok-compare.was ∙ c.compare.ensures; query_after = c.write_merged.ensures }
