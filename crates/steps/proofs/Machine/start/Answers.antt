-- `steps::Machine::start` meets its contract.
-- Assumes nothing.
use mathlib.Core.Path.{◌≡◌, sym, subst}
use Prim.Native.Nat.{ℕ, zero}
use Rattle.lists.specs.Table.{at}
use Rattle.steps.specs.Sizes.{max_rows}
use Rattle.steps.specs.declared.Machine.{Machine}
use Rattle.steps.specs.Passes.{Shape, Blank}
use Rattle.steps.proofs.Passes.{zeros_shape, zeros_blank, line_blank}
use Rattle.steps.proofs.Model.{start_code}
use Rattle.steps.proofs.Machine.start.Goals as goal

pub first_rows-requires : goal.first_rows-requires
first_rows-requires c = subst (λ (m : Machine). Shape m.rows.a × Blank m.rows.a) (sym c.requires) (zeros_shape, zeros_blank)

pub returns : goal.returns
returns c = λ S.
    start_code c.args.ring S (record { rows = record { a = c.first_rows.new.a; length = c.args.self.now.rows.length }; memory = c.args.self.now.memory; seen = c.args.self.now.seen; plan = c.args.self.now.plan })
    c.args.self.now.rows.a c.first_rows.ensures
    (subst (λ (m : Machine). Shape m.memory.a) (sym c.requires) zeros_shape)
    (subst (λ (m : Machine). (η : ℕ) → at m.rows.length η ≡ zero) (sym c.requires) (line_blank max_rows))
