-- `batch::check_all` meets its contract: the replies below i are filled.
-- Assumes nothing.
use Rattle.lists.proofs.Table.{Filled}
use Rattle.batch.specs.Rules.{query_at, queries_in}
use Rattle.batch.specs.Inner.{check_code}
use Rattle.batch.proofs.check_all.Given as goal

abbrev pub invariant-loop-i : goal.invariant-loop-i
invariant-loop-i l =
    Filled 0 (λ n. check_code (query_at l.queries n)) (queries_in l.queries) l.i l.replies
