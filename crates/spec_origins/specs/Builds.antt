-- What a line of an editor builds.
use Rattle.std.specs.Prelude.{◌≡◌, ℕ, ℤ, true, List, ◌∷◌, Option, Some, None, Result, Ok, Err}
use Rattle.muck_model.specs.declared.dbref.Dbref.{Dbref}
use Rattle.muck_model.specs.declared.edit.EditState.{EditState}
use Rattle.muck_model.specs.declared.event.Event.{Event}
use Rattle.muck_model.specs.declared.event.Event.TheVariants.{Exec}
use Rattle.spec_live.specs.Connections.{Connection}
use Rattle.spec_commands.specs.declared.edit.EditStep.{EditStep}
use Rattle.spec_commands.specs.declared.edit.EditStep.TheVariants.{Compile}
use Rattle.spec_commands.specs.Editing.{edited_by_line, is_editor_open}
use Rattle.spec_commands.specs.Finding.{actor_of}
use Rattle.spec_commands.specs.Talk.{waits}
use Rattle.muf_model.specs.Tree.{Tree}
use Rattle.muck_library.specs.declared.flaw.Flaw.{Flaw}
use Rattle.muck_library.specs.Library.{form_at}
use Rattle.muck_library.specs.Programs.{built_tree}
use Rattle.muck_queue.specs.Queues.{reader}
use Rattle.spec_events.specs.World.{World, connection, on_live}
use Rattle.spec_events.specs.Lines.{with_editor}

abbrev pub built_form : Result Tree Flaw → Option Tree
built_form (Ok tree) = Some tree
built_form (Err flaw) = None

-- where it builds its program, the form that is kept is what reading and compiling gives of the source and the definitions that are there then, and none where that gives none
abbrev pub StepBuilds : EditStep → Dbref → World → Type 0
StepBuilds Compile program v = form_at program v.library ≡ built_form (built_tree v.live.objects program)
StepBuilds step program v = Unit {0}

-- so of a line in an editor that is open
abbrev pub EditorBuilds : ℕ → Dbref → EditState → List ℕ → World → World → Type 0
EditorBuilds d player s line w v = is_editor_open s w.live ≡ true → StepBuilds (edited_by_line d (actor_of w.live.objects player) s line w.live).2 s.program v

-- so of a line of a player, once it waits no more, and its editor is taken for it
abbrev pub LineBuilds : ℕ → Option Dbref → Option EditState → List (List ℕ) → World → World → Type 0
LineBuilds d (Some player) (Some s) (line ∷ lines) w v = EditorBuilds d player s line (on_live (with_editor d None) (on_live (waits d lines) w)) v
LineBuilds d player editor lines w v = Unit {0}

abbrev pub SeatBuilds : Option ℤ → Option Connection → ℕ → World → World → Type 0
SeatBuilds None (Some c) d w v = LineBuilds d c.player c.editor c.waiting w v
SeatBuilds pid c d w v = Unit {0}

-- so of the first line that waits on a connection, unless a process reads it
abbrev pub EventBuilds : Event → World → World → Type 0
EventBuilds (Exec d) w v = SeatBuilds (reader d w.queue) (connection d w) d w v
EventBuilds event w v = Unit {0}
