-- How players make, edit, list and run programs.
use Rattle.std.specs.Prelude.{ℕ, min, List, [], ◌∷◌, Result, Ok, Err}
use Rattle.std.specs.Option.{option_map_or}
use Rattle.muck_model.specs.declared.dbref.Dbref.{Dbref}
use Rattle.muck_model.specs.declared.dbref.Denial.{Denial}
use Rattle.muck_model.specs.declared.dbref.Kind.TheVariants.{Program}
use Rattle.spec_live.specs.declared.fault.DbFault.{DbFault}
use Rattle.spec_live.specs.Objects.{dbref_of, object_at}
use Rattle.spec_live.specs.Making.{create_check}
use Rattle.spec_live.specs.Setting.{with_level}
use Rattle.spec_live.specs.Lives.{Live, Change, ◌▸◌, reading, unchanged, tell}
use Rattle.spec_rights.specs.declared.act.Actor.{Actor}
use Rattle.spec_rights.specs.declared.act.Act.TheVariants.{NewProgram, Edit as EditAct, Change as ChangeAct, Call}
use Rattle.spec_rights.specs.Levels.{level_at}
use Rattle.spec_rights.specs.Asking.{asked, refused}
use Rattle.spec_rights.specs.Changing.{created_so}
use Rattle.spec_commands.specs.declared.outcome.Outcome.TheVariants.{Done, Start, Edit}
use Rattle.spec_commands.specs.Replies.{cant_be_done, entering_editor}
use Rattle.spec_commands.specs.Going.{Play, ended}
use Rattle.spec_commands.specs.Building.{created_shown}

-- these lines are shown, one after another
unfoldable pub lines_shown : ℕ → List (List ℕ) → Change
lines_shown d [] = unchanged
lines_shown d (line ∷ lines) = tell d line ▸ lines_shown d lines

-- a command is over where something is told
abbrev pub command_over : ℕ → List ℕ → Play
command_over d text = ended Done (tell d text)

abbrev pub over_denied : ℕ → Denial → Play
over_denied d denial = ended Done (refused d denial)

-- Making.

-- the level of a new program: its owner's, but at most 3
abbrev pub first_level : Dbref → Live → ℕ
first_level owner w = min (level_at w.objects owner) 3

-- a program at the number n, in the place of the number `to`; its editor is to be opened
unfoldable pub program_put : ℕ → Actor → List ℕ → ℕ → ℕ → ℕ → Play
program_put d a name n to level =
    ended (Edit (dbref_of n)) (created_so n Program name a.user to (with_level level) ▸ created_shown d n ▸ tell d entering_editor)

abbrev pub program_at : ℕ → Actor → List ℕ → ℕ → Result (ℕ × ℕ) DbFault → Play
program_at d a name level (Ok p) = program_put d a name p.0 p.1 level
program_at d a name level (Err fault) = command_over d cant_be_done

-- a program that the player carries, where the world allows one more
unfoldable pub program_new : ℕ → Actor → List ℕ → Play
program_new d a name =
    reading (first_level a.user) (λ level.
    reading (λ w. create_check Program a.user a.player w.objects) (program_at d a name level))

-- `@program`
unfoldable pub program_made : ℕ → Actor → List ℕ → Play
program_made d a name = asked a NewProgram (over_denied d) (program_new d a name)

-- Editing, listing and running.

-- `@edit`
unfoldable pub program_edited : ℕ → Actor → Dbref → Play
program_edited d a x = asked a (EditAct x) (over_denied d) (ended (Edit x) (tell d entering_editor))

-- the source lines of an object
abbrev pub source_of : Dbref → Live → List (List ℕ)
source_of x w = option_map_or (λ o. o.lines) (object_at x w.objects) []

-- `@list`
unfoldable pub program_listed : ℕ → Actor → Dbref → Play
program_listed d a x = asked a (ChangeAct x) (over_denied d) (ended Done (reading (source_of x) (lines_shown d)))

-- `@run`: the program is to be started by the line, with the text on its stack; it is its own trigger
unfoldable pub program_run : ℕ → Actor → List ℕ → Dbref → List ℕ → Play
program_run d a line x text = asked a (Call x) (over_denied d) (ended (Start x x line text) unchanged)
