-- `column::push_all` meets its contract: each reply is the one that its tests pick.
-- Assumes nothing.
use mathlib.Core.Path.{sym, ◌∙◌}
use Rattle.sequence.proofs.Laws.{sound_of}
use Rattle.column.proofs.Laws.{column_odd, column_unsound, column_each}
use Rattle.column.proofs.Answers.{push_all_told}
use Rattle.column.proofs.push_all.Goals as goal

pub returns-then-list-ne0 : goal.returns-then-list-ne0
returns-then-list-ne0 c = push_all_told _ _ (c.ended.ensures ∙ sym (column_odd _ _ c.if-list-ne0.true))

pub push_each-requires : goal.push_each-requires
push_each-requires c = sound_of _ (sym c.is_sound.ensures ∙ c.if-is_sound.true)

pub returns-then-is_sound : goal.returns-then-is_sound
returns-then-is_sound c =
    push_all_told _ _ (c.push_each.ensures ∙ sym (column_each _ _ c.if-list-ne0.false (sound_of _ (sym c.is_sound.ensures ∙ c.if-is_sound.true))))

pub returns : goal.returns
returns c =
    push_all_told _ _ (c.ended-2.ensures ∙ sym (column_unsound _ _ c.if-list-ne0.false (sym c.is_sound.ensures ∙ c.if-is_sound.false)))
