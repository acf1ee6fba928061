-- A line that is done.
use Rattle.std.specs.Prelude.{ℕ, ℤ, Bool, true, if◌then◌else◌, List, [], ◌∷◌, ◌++◌, map, codes, decimal, Option, Some, None, Result, Ok, Err}
use Rattle.std.specs.Option.{option_map_or}
use Rattle.std.specs.Str.{bytes_eq}
use Rattle.std.specs.Char.{to_ascii_lowercase}
use Rattle.muck_model.specs.declared.dbref.Dbref.{Dbref}
use Rattle.muck_model.specs.declared.edit.EditState.{EditState}
use Rattle.spec_live.specs.Objects.{object_at}
use Rattle.spec_live.specs.Connections.{Connection}
use Rattle.spec_live.specs.Boards.{edited_one}
use Rattle.spec_live.specs.Lives.{Live, Change, on_board, tell, leave, name_at}
use Rattle.spec_rights.specs.declared.act.Actor.{Actor}
use Rattle.spec_rights.specs.Changing.{tuned}
use Rattle.muf_model.specs.Tree.{Tree}
use Rattle.muck_library.specs.declared.flaw.Flaw.{Flaw}
use Rattle.muck_library.specs.Programs.{built_tree}
use Rattle.muck_library.specs.Library.{form_kept, form_dropped}
use Rattle.muck_queue.specs.Queues.{Queue, reader, on_process, told_line, without_process}
use Rattle.spec_commands.specs.declared.outcome.Outcome.{Outcome}
use Rattle.spec_commands.specs.declared.outcome.Outcome.TheVariants.{Done, Said, NotMine, Start, Edit, Leave, Dump, Stop, Retune}
use Rattle.spec_commands.specs.declared.edit.EditStep.{EditStep}
use Rattle.spec_commands.specs.declared.edit.EditStep.TheVariants.{Compile, Left}
use Rattle.spec_commands.specs.Finding.{actor_of}
use Rattle.spec_commands.specs.Replies.{huh}
use Rattle.spec_commands.specs.Going.{Play, ended}
use Rattle.spec_commands.specs.Commands.{play_or_else, played}
use Rattle.spec_commands.specs.Editing.{editor_exited, is_editor_open, edited_by_line}
use Rattle.spec_commands.specs.Talk.{at_login, waits}
use Rattle.spec_commands.specs.Talking.{heard_as}
use Rattle.spec_admin.specs.Lines.{admin_line, after_line}
use Rattle.spec_events.specs.World.{World, asked_by, on_live, on_queue, on_dumps, with_library}
use Rattle.spec_events.specs.Following.{settled}
use Rattle.spec_events.specs.Starting.{launched}

-- The editor.

unfoldable pub compiler_done : List ℕ
compiler_done = codes "Compiler done."

-- a flaw of a source, by its number and its line
unfoldable pub flaw_text : Flaw → List ℕ
flaw_text flaw = codes "Error " ++ (decimal flaw.number ++ (codes " in line " ++ (decimal flaw.line ++ codes ".")))

abbrev pub with_editor : ℕ → Option EditState → Change
with_editor d editor = on_board (edited_one d editor)

-- a program that is built has that form from now on; one that can't be has none
abbrev pub compiled_so : ℕ → Dbref → Result Tree Flaw → World → World
compiled_so d program (Ok tree) w = on_live (tell d compiler_done) (with_library (form_kept program tree w.library) w)
compiled_so d program (Err flaw) w = on_live (tell d (flaw_text flaw)) (with_library (form_dropped program w.library) w)

unfoldable pub compiled : ℕ → Dbref → World → World
compiled d program w = compiled_so d program (built_tree w.live.objects program) w

-- the editor goes on in its state, or is left
abbrev pub next_editor : EditStep → EditState → Option EditState
next_editor Left s = None
next_editor step s = Some s

abbrev pub after_edit : ℕ → Dbref → EditStep → World → World
after_edit d program Compile w = compiled d program w
after_edit d program step w = w

-- a line of the editor, what follows from a source that it changed, and the building that it asks for
unfoldable pub edited_line : ℕ → Dbref → EditState → List ℕ → World → World
edited_line d player s line w =
    let r = edited_by_line d (actor_of w.live.objects player) s line w.live in
    after_edit d s.program r.2 (settled (record w { live = with_editor d (next_editor r.2 r.1) r.0 }))

-- an editor that isn't open any more is left
unfoldable pub in_editor : ℕ → Dbref → EditState → List ℕ → World → World
in_editor d player s line w = if is_editor_open s w.live then edited_line d player s line w else on_live (tell d editor_exited) w

-- Commands.

-- by a line that is neither a player's nor a builder's: what is none of a keeper's either is told so
unfoldable pub by_keeper : Queue → ℕ → Actor → List ℕ → Play
by_keeper q d a line = play_or_else (admin_line q d a line) (ended Done (tell d huh))

-- a line of a player, while these are the processes
unfoldable pub typed : Queue → ℕ → Actor → List ℕ → Play
typed q d a line = play_or_else (played d a line) (by_keeper q d a line)

-- a keeper's line may end a process
abbrev pub ended_behind : Actor → List ℕ → Queue → Live × Outcome → Queue
ended_behind a line q (w, NotMine) = after_line a line w q
ended_behind a line q (w, outcome) = q

-- the processes behind a line
unfoldable pub processes_after_line : ℕ → Actor → List ℕ → Live → Queue → Queue
processes_after_line d a line w q = ended_behind a line q (played d a line w)

-- an editor that is opened on a program has its source
abbrev pub editor_on : Dbref → Live → EditState
editor_on program w = record { program = program; lines = option_map_or (λ o. o.lines) (object_at program w.objects) []; inserting = None }

-- what is to follow a command
abbrev pub followed_up : ℕ → Dbref → Outcome → World → World
followed_up d player Leave w = on_live (leave d) w
followed_up d player (Edit program) w = on_live (λ v. with_editor d (Some (editor_on program v)) v) w
followed_up d player (Start program trigger command arg) w =
    launched d (actor_of w.live.objects player) (record { player = player; program = program; trigger = trigger; command = command; argument = arg }) w
followed_up d player Dump w = on_dumps (asked_by d) w
followed_up d player Stop w = record w { stopping = true }
followed_up d player (Retune tune) w = on_live (tuned tune) w
followed_up d player outcome w = w

-- a line of a player, what follows from the objects that it changed, and what is to follow it
unfoldable pub in_world : ℕ → Dbref → List ℕ → World → World
in_world d player line w =
    let a = actor_of w.live.objects player in
    let r = typed w.queue d a line w.live in
    followed_up d player r.1 (settled (record w { live = r.0; queue = processes_after_line d a line w.live w.queue }))

-- Lines go to the login screen, to the editor that is open, or are commands. An editor is taken from its connection for
-- its line.
abbrev pub command : Option Dbref → Option EditState → ℕ → List ℕ → World → World
command None editor d line w = on_live (at_login d line) w
command (Some player) None d line w = in_world d player line w
command (Some player) (Some s) d line w = in_editor d player s line (on_live (with_editor d None) w)

-- A process that reads takes the line; by `@Q`, in any case of letters, it ends.

unfoldable pub program_aborted : List ℕ
program_aborted = codes "Foreground program aborted."

abbrev pub is_abort : List ℕ → Bool
is_abort line = bytes_eq (map to_ascii_lowercase line) (codes "@q")

unfoldable pub given_line : ℕ → ℤ → List ℕ → World → World
given_line d pid line w =
    if is_abort line then on_live (tell d program_aborted) (on_queue (without_process pid) w)
    else on_queue (on_process pid (told_line w.moment line)) w

-- the line goes to that process, where there is one, or is done
abbrev pub line_for : Option ℤ → Option Dbref → Option EditState → ℕ → List ℕ → World → World
line_for (Some pid) player editor d line w = given_line d pid line w
line_for None player editor d line w = command player editor d line w

-- the first waiting line of a connection is done
abbrev pub line_done : ℕ → Option Dbref → Option EditState → List (List ℕ) → World → World
line_done d player editor [] w = w
line_done d player editor (line ∷ lines) w = line_for (reader d w.queue) player editor d line (on_live (waits d lines) w)

unfoldable pub first_line_done : ℕ → Option Connection → World → World
first_line_done d None w = w
first_line_done d (Some c) w = line_done d c.player c.editor c.waiting w

-- What a line says: of a player's line that was said or posed, what others hear, and whose it is.

abbrev pub spoken_by : Dbref → Live × Outcome → Option (Dbref × List ℕ)
spoken_by player (w, Said pose text) = Some (player, heard_as pose (name_at player w) text)
spoken_by player (w, outcome) = None

abbrev pub line_spoken : Option ℤ → Option Dbref → Option EditState → ℕ → List ℕ → World → Option (Dbref × List ℕ)
line_spoken None (Some player) None d line w = spoken_by player (typed w.queue d (actor_of w.live.objects player) line w.live)
line_spoken reader player editor d line w = None

abbrev pub first_spoken : ℕ → Option Dbref → Option EditState → List (List ℕ) → World → Option (Dbref × List ℕ)
first_spoken d player editor [] w = None
first_spoken d player editor (line ∷ lines) w = line_spoken (reader d w.queue) player editor d line (on_live (waits d lines) w)

-- by the line that is done
unfoldable pub spoken : ℕ → Option Connection → World → Option (Dbref × List ℕ)
spoken d None w = None
spoken d (Some c) w = first_spoken d c.player c.editor c.waiting w
