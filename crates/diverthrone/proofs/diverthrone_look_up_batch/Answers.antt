-- `diverthrone::diverthrone_look_up_batch` meets its contract: the counts are small, and a refusal of the whole call has no place.
-- Assumes nothing.
use native.Mathlib.Omega.{arith}
use Rattle.batch.proofs.Whole.{counts_small, refused_code}
use Rattle.diverthrone.proofs.diverthrone_look_up_batch.Goals as goal

pub counts-requires : goal.counts-requires
counts-requires c =
    let v = c.args in
    let small = counts_small v.queries.now v.catalogue.now v.records.now v.replies.now c.in-Ok.ensures.value in
    (omega (arith, small), omega (arith, small), omega (arith, small))

pub returns-in-Err-clause-value : goal.returns-in-Err-clause-value
returns-in-Err-clause-value c =
    let v = c.args in
    refused_code v.queries.now v.catalogue.now v.records.now v.replies.now c.in-Err.ensures.value c.refused.ensures c.in-Err.ensures.result_value
