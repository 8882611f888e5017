-- `steps::Machine::step` meets its contract.
-- Assumes nothing.
use mathlib.Core.Path.{refl}
use Prim.Native.Nat.{◌+◌, ◌*◌}
use Rattle.steps.proofs.Model.{ready_code, stocked_code, grows_code, step_code}
use Rattle.steps.proofs.Passes.{settled_from}
use Rattle.steps.proofs.Log.{noted_described}
use Rattle.steps.proofs.Machine.step.Goals as goal

pub note-requires : goal.note-requires
note-requires c =
    let a = c.args in
    let s = c.requires.2 in
    (c.requires.3, c.requires.1, ready_code a.ring a.s.now a.k a.self.now.rows _ s.rows c.look.ensures s.shape_rows)

pub advance-requires : goal.advance-requires
advance-requires c =
    let a = c.args in
    let s = c.requires.2 in
    let lk = c.look.ensures in
    (c.requires.1, ready_code a.ring a.s.now a.k a.self.now.rows _ s.rows lk s.shape_rows, stocked_code a.ring a.s.now a.k a.self.now.rows _ s.rows lk a.self.now.memory s.keeps)

pub settle-requires : goal.settle-requires
settle-requires c =
    let a = c.args in
    let s = c.requires.2 in
    let ad = c.advance.ensures in (
      c.requires.1,
      λ j h. rw (ad.1.lens, ad.3) (grows_code a.ring a.s.now a.k a.self.now.rows _ s.rows c.look.ensures s.shape_rows _ ad.0 j h),
      rw ad.2 s.shape_memory,
    )

pub returns : goal.returns
returns c =
    let a = c.args in
    let s = c.requires.2 in
    let lk = c.look.ensures in
    let ad = c.advance.ensures in (
      step_code a.ring a.s.now a.k a.self.now _ _ _ _ s lk ad.0 ad.1 (settled_from ad.3 ad.2 ad.1.lens c.settle.ensures) refl,
      noted_described a.ring a.s.now a.k a.self.now.rows _ s.rows lk (a.first + a.k * a.ring.e) _ _ c.note.ensures,
    )
