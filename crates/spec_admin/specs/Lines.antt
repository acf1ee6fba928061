-- The lines of keepers.
use Rattle.std.specs.Prelude.{ℕ, ◌||◌, List, [], ◌∷◌, ◌++◌, codes, Option, Some, None}
use Rattle.std.specs.Option.{option_map_or}
use Rattle.muck_model.specs.declared.dbref.Dbref.{Dbref}
use Rattle.muck_model.specs.declared.tune.Tune.{Tune}
use Rattle.muck_model.specs.declared.tune.Parameter.{Parameter}
use Rattle.muck_model.specs.Parameters.{row_of, parameters, parameter_of}
use Rattle.spec_live.specs.Lives.{Live, Change, ◌▸◌, reading, either, tell, tell_all, name_at}
use Rattle.spec_rights.specs.declared.act.Actor.{Actor}
use Rattle.spec_rights.specs.declared.act.Act.TheVariants.{Wizard}
use Rattle.spec_rights.specs.Asking.{asked}
use Rattle.spec_rights.specs.Changing.{connections_left}
use Rattle.spec_commands.specs.declared.outcome.Outcome.TheVariants.{Done, Dump as DumpAsked, Stop, Retune}
use Rattle.spec_commands.specs.declared.shape.Form.TheVariants.{Any, One, Full}
use Rattle.spec_commands.specs.declared.shape.Want.TheVariants.{Nothing, Text, NewName, Player}
use Rattle.spec_commands.specs.declared.shape.Shape.{Shape}
use Rattle.spec_commands.specs.declared.shape.Arguments.{Arguments}
use Rattle.spec_commands.specs.Texts.{first_word, other_words, trimmed}
use Rattle.spec_commands.specs.Finding.{for_each}
use Rattle.spec_commands.specs.Going.{Play, ended}
use Rattle.spec_commands.specs.Programming.{command_over, over_denied}
use Rattle.spec_commands.specs.Reading.{looked_up, is_empty, has_full, left_part, right_part, incomplete, shaped, by_table}
use Rattle.muck_queue.specs.declared.process.Process.{Process}
use Rattle.muck_queue.specs.Queues.{Queue, without_process}
use Rattle.spec_admin.specs.declared.word.AdminWord.{AdminWord}
use Rattle.spec_admin.specs.declared.word.AdminWord.TheVariants.{Processes, Kill, Tune as TuneWord, Boot, Wall, NewPlayer, NewPassword, Dump, Shutdown}
use Rattle.spec_admin.specs.Replies.{parameter_line, parameter_reply, bad_parameter, booted_reply, shouts, dumping_reply, going_down}
use Rattle.spec_admin.specs.Parameters.{retuned}
use Rattle.spec_admin.specs.Processes.{processes_shown, kill_told, process_killed}
use Rattle.spec_admin.specs.Players.{player_made, password_changed}

-- What is a wizard's alone.

-- go, by a wizard
abbrev pub by_wizard : ℕ → Actor → Play → Play
by_wizard d a go = asked a Wizard (over_denied d) go

unfoldable pub parameter_shown : ℕ → Tune → Parameter → Change
parameter_shown d tune p = tell d (parameter_line (row_of p).name (parameter_of p tune))

-- a line for each parameter
unfoldable pub parameters_shown : ℕ → Change
parameters_shown d = reading (λ w. w.board.tune) (λ tune. for_each (parameter_shown d tune) parameters)

abbrev pub retune_told : ℕ → Option Tune → Play
retune_told d None = command_over d bad_parameter
retune_told d (Some tune) = ended (Retune tune) (tell d parameter_reply)

-- a parameter is set
unfoldable pub parameter_set : ℕ → List ℕ → List ℕ → Play
parameter_set d name value = reading (λ w. retuned name value w.board.tune) (retune_told d)

-- `@tune`: shows all parameters, or sets one
unfoldable pub tune_done : ℕ → Actor → List ℕ → Play
tune_done d a text =
    either (is_empty text || has_full text)
    (by_wizard d a (either (is_empty text) (ended Done (parameters_shown d)) (parameter_set d (left_part text) (right_part text))))
    (ended Done (incomplete d (codes "@tune")))

-- `@boot`: the connections of a player are leaving
unfoldable pub player_booted : ℕ → Actor → Dbref → Play
player_booted d a x = by_wizard d a (ended Done (connections_left x ▸ tell d booted_reply))

-- `@wall`
unfoldable pub shouted : ℕ → Actor → List ℕ → Play
shouted d a text = by_wizard d a (ended Done (reading (name_at a.player) (λ name. tell_all (name ++ shouts text))))

-- All of them.

unfoldable pub admin_words : List (List ℕ × AdminWord)
admin_words =
    (codes "@ps", Processes) ∷
    (codes "@kill", Kill) ∷
    (codes "@tune", TuneWord) ∷
    (codes "@boot", Boot) ∷
    (codes "@wall", Wall) ∷
    (codes "@pcreate", NewPlayer) ∷
    (codes "@newpassword", NewPassword) ∷
    (codes "@dump", Dump) ∷
    (codes "@shutdown", Shutdown) ∷
    []

-- how each takes the text behind its word
abbrev pub admin_shape : AdminWord → Shape
admin_shape Processes = shaped Any Nothing Nothing
admin_shape Kill = shaped One Text Nothing
admin_shape TuneWord = shaped Any Text Nothing
admin_shape Boot = shaped One Player Nothing
admin_shape Wall = shaped One Text Nothing
admin_shape NewPlayer = shaped Full NewName Text
admin_shape NewPassword = shaped Full Player Text
admin_shape Dump = shaped Any Nothing Nothing
admin_shape Shutdown = shaped Any Nothing Nothing

-- what each does, while these are the processes
unfoldable pub admin_done : Queue → ℕ → Actor → AdminWord → Arguments → Play
admin_done q d a Processes args = ended Done (processes_shown d a q)
admin_done q d a Kill args = ended Done (kill_told d a q args.first.text)
admin_done q d a TuneWord args = tune_done d a args.first.text
admin_done q d a Boot args = player_booted d a args.first.object
admin_done q d a Wall args = shouted d a args.first.text
admin_done q d a NewPlayer args = ended Done (player_made d a args.first.text args.second.text)
admin_done q d a NewPassword args = ended Done (password_changed d a args.first.object args.second.text)
admin_done q d a Dump args = by_wizard d a (ended DumpAsked (tell d dumping_reply))
admin_done q d a Shutdown args = by_wizard d a (ended Stop (tell d going_down))

-- a line as cmd_admin does it
unfoldable pub admin_line : Queue → ℕ → Actor → List ℕ → Play
admin_line q d a line = by_table admin_words admin_shape (admin_done q d a) d a line

-- The process that a line ends.

abbrev pub ended_by : Actor → Queue → List ℕ → Live → Option AdminWord → Option Process
ended_by a q text w (Some Kill) = process_killed a q text w
ended_by a q text w command = None

unfoldable pub line_ends : Actor → Queue → List ℕ → Live → Option Process
line_ends a q line w = ended_by a q (trimmed (other_words (trimmed line))) w (looked_up admin_words (first_word (trimmed line)))

-- the processes after it
unfoldable pub after_line : Actor → List ℕ → Live → Queue → Queue
after_line a line w q = option_map_or (λ p. without_process p.number q) (line_ends a q line w) q
