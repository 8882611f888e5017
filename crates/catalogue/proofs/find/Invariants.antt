-- `catalogue::find` meets its contract. The loop's invariant: no record passed is one of the query.
-- Assumes nothing.
use mathlib.Core.Path.{◌≡◌}
use mathlib.Core.Bool.{false}
use Prim.Native.Nat.{ℕ, ◌-◌, ◌≤◌, ◌<◌}
use Rattle.catalogue.specs.Rules.{record_at, is_of}
use Rattle.catalogue.proofs.find.Given as goal

abbrev pub invariant-loop-i : goal.invariant-loop-i
invariant-loop-i l =
    (l.i ≤ l.n) × ((j : ℕ) → j < l.i → is_of l.query (record_at l.catalogue j) ≡ false)
