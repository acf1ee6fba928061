-- What a line comes to in an editor that isn't open any more, by examples.
use Rattle.std.specs.Prelude.{◌≡◌, ℕ, List, [], codes, Option, Some, None, refl}
use Rattle.muck_model.specs.declared.edit.EditState.{EditState}
use Rattle.spec_live.specs.Lives.{tell}
use Rattle.spec_live.specs.Objects.{dbref_of, object_at, number_in, kind_in, object_in}
use Rattle.spec_live.specs.Start.{room_zero, player_one}
use Rattle.spec_commands.specs.Editing.{editor_exited}
use Rattle.spec_commands.specs.Finding.{is_object_so}
use Rattle.spec_commands.specs.inner.EditRows.{desk}
use Rattle.spec_events.specs.World.{World, starting_world, on_live}
use Rattle.spec_events.specs.Lines.{with_editor, in_editor, command}

-- where One's program `#3` is
abbrev there : World
there = record starting_world { live = desk 1 }

-- on that object, where lines come behind such a line
abbrev on : ℕ → Option ℕ → EditState
on program at = record { program = dbref_of program; lines = []; inserting = at }

-- One is told that it is left, whatever the line, and nothing else happens
abbrev Exits : EditState → Type 0
Exits s = (line : List ℕ) → command (Some (dbref_of 1)) (Some s) 1 line there ≡ on_live (tell 1 (codes "Editor exited.")) (on_live (with_editor 1 None) there)

unfoldable pub EditorRows : Type 0
EditorRows =
    -- on nothing, on what is no program, and behind a line that isn't there
    Exits (on 9 None) × Exits (on 1 None) × Exits (on 3 (Some 1))

pub editor_rows : EditorRows
unfolding EditorRows object_at number_in kind_in object_in room_zero player_one is_object_so editor_exited in_editor
editor_rows = (λ line. refl, λ line. refl, λ line. refl)
