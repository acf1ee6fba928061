-- What a step may change.
use Rattle.std.specs.Prelude.{◌≡◌, ◌⊎◌, ℕ, ℤ, All, Bool, true, false, List, [], ◌∷◌, Option, Some, None}
use Rattle.muck_model.specs.declared.dbref.Dbref.{Dbref}
use Rattle.muck_model.specs.declared.edit.EditState.{EditState}
use Rattle.muck_model.specs.declared.event.Event.{Event}
use Rattle.muck_model.specs.declared.event.Event.TheVariants.{Opened, Exec, Slice, Closed, Cut, Stored, DumpFailed}
use Rattle.spec_live.specs.declared.saving.Saving.{Saving}
use Rattle.spec_live.specs.Objects.{Entry}
use Rattle.spec_live.specs.Saving.{pending, saving_done, due_again, all_saving}
use Rattle.spec_live.specs.Connections.{Connection, is_connection}
use Rattle.spec_live.specs.Lives.{Live, enter}
use Rattle.spec_rights.specs.declared.act.Actor.{Actor}
use Rattle.muf_model.specs.Unit.{Outcome, asks, unit}
use Rattle.spec_prims.specs.Formulas.{answers_for, is_formula}
use Rattle.spec_rights.specs.Licence.{Freedom, Licensed, LeaversLicensed, editing, nobody}
use Rattle.spec_mpi.specs.Touching.{TouchesNotes}
use Rattle.spec_commands.specs.Finding.{actor_of}
use Rattle.spec_commands.specs.Free.{free_line}
use Rattle.spec_commands.specs.Talk.{waits}
use Rattle.muck_queue.specs.Queues.{is_tied_to}
use Rattle.spec_events.specs.declared.starting.Agent.{Agent}
use Rattle.spec_events.specs.World.{World, connection}
use Rattle.muck_queue.specs.Queues.{reader}
use Rattle.spec_events.specs.Slices.{Taken, acting, after_unit, process_awake, last_world, seat, units_of}
use Rattle.spec_events.specs.Sections.{IsWhole}
use Rattle.spec_events.specs.Endings.{ProcessesLicensed, NoProcess, MayEnd, EndsIn, EndsReading}

-- no object changes, and nothing that is tuned
pub record Untouched (w v : Live) : Type 0 where
  pub objects : v.objects ≡ w.objects
  pub tune : v.board.tune ≡ w.board.tune

-- of the objects nothing changes but how they stand to the dumps, which is as f makes of how they stood; and nothing that is tuned
pub record Remarked (f : Saving → Saving) (w v : Live) : Type 0 where
  pub objects : v.objects ≡ all_saving f w.objects
  pub tune : v.board.tune ≡ w.board.tune

-- what a player is free to do by a line: to change that source, while it edits a program
abbrev pub free_for : Option EditState → Actor → List ℕ → List Entry → Freedom
free_for (Some s) a line es = editing s.program
free_for None a line es = free_line a line es

-- nor does any process end, and of the connections only such leave
abbrev pub Undisturbed : (Connection → Bool) → World → World → Type 0
Undisturbed may w v = Untouched w.live v.live × ProcessesLicensed NoProcess w v × LeaversLicensed may w.live.board.connections v.live.board.connections

-- A player is let in by a line, behind which these wait. It looks around, and what it sees may change something by formulas: notes alone,
-- and what is open to that player by its own rights. No process ends.
pub record LetsIn (d : ℕ) (lines : List (List ℕ)) (w v : World) : Type 0 where
  pub player : Dbref
  pub licensed : Licensed (actor_of w.live.objects player) nobody (enter d player (waits d lines w.live)) v.live
  pub notes : TouchesNotes (enter d player (waits d lines w.live)) v.live
  pub processes : ProcessesLicensed NoProcess w v

-- The first waiting line is done. By one of a player, what is open to that player by its rights before the line changes,
-- and processes end that may by the player, or by the change of a source. A line of the login screen lets a player in, or changes no
-- object, and lets no connection leave but its own. A line for a process that reads changes nothing but that process.
abbrev pub LineLicensed : ℕ → Option ℤ → Option Dbref → Option EditState → List (List ℕ) → World → World → Type 0
LineLicensed d (Some pid) player editor (line ∷ lines) w v =
    Untouched w.live v.live × ProcessesLicensed (EndsReading pid) w v × LeaversLicensed (λ c. false) w.live.board.connections v.live.board.connections
LineLicensed d None (Some player) editor (line ∷ lines) w v =
    Licensed (actor_of w.live.objects player) (free_for editor (actor_of w.live.objects player) line w.live.objects) w.live v.live
    × ProcessesLicensed (MayEnd (actor_of w.live.objects player) w.live v.live) w v
LineLicensed d None None editor (line ∷ lines) w v = Undisturbed (is_connection d) w v ⊎ LetsIn d lines w v
LineLicensed d reader player editor lines w v = Undisturbed (is_connection d) w v

-- who answers for what a unit changes: the running program, but where the unit is a formula its player, by the player's own rights
abbrev pub answers_at : Outcome → Actor → List Entry → Actor
answers_at (asks p s) a es = answers_for p a es
answers_at o a es = a

abbrev pub answering : Taken → Actor
answering t = answers_at (unit t.state) t.actor t.before.live.objects

-- a formula changes properties, what waits to be sent and the state of the random numbers alone
abbrev pub NotesAt : Outcome → Live → Live → Type 0
NotesAt (asks p s) w v = is_formula p ≡ true → TouchesNotes w v
NotesAt o w v = Unit {0}

-- A unit changes only what is open to who answers for it, by the rights before it; and where it is a formula, notes alone. Of the
-- processes it ends its own, such as the running program may end by those rights, and such as run a program that it changed.
abbrev pub UnitLicensed : ℤ → Taken → Type 0
UnitLicensed pid t =
    Licensed (answering t) nobody t.before.live (after_unit t).live
    × ProcessesLicensed (EndsIn pid t.actor t.before.live (after_unit t).live) t.before (after_unit t)
    × NotesAt (unit t.state) t.before.live (after_unit t).live

-- A unit of the process begins in this world: at the state where the process stands in it, and by who acts there.
pub record Begins (pid : ℤ) (w : World) (t : Taken) : Type 0 where
  pub agent : Agent
  pub world : t.before ≡ w
  pub stands : seat pid w ≡ Some (agent, t.state)
  pub acts : t.actor ≡ acting agent t.state w.live.objects

-- the first unit begins in this world, and each other one where the one before it ended
abbrev pub Chained : ℤ → World → List Taken → Type 0
Chained pid w [] = Unit {0}
Chained pid w (t ∷ ts) = Begins pid w t × Chained pid (after_unit t) ts

-- The units of a slice lead from the world before it, in which the process wakes, to the world after it; and they are whole.
pub record SliceLicensed (pid : ℤ) (ts : List Taken) (w v : World) : Type 0 where
  pub units : All (UnitLicensed pid) ts
  pub chained : Chained pid (process_awake pid w) ts
  pub leads : v.live ≡ (last_world (process_awake pid w) ts).live
  pub processes : v.queue.processes ≡ (last_world (process_awake pid w) ts).queue.processes
  pub whole : IsWhole w.live.board.tune pid (process_awake pid w) ts

abbrev pub TurnLicensed : ℕ → Option Connection → World → World → Type 0
TurnLicensed d (Some c) w v = LineLicensed d (reader d w.queue) c.player c.editor c.waiting w v
TurnLicensed d None w v = Undisturbed (is_connection d) w v

-- a dump begins or ends: nor does any process end, and no connection leaves
abbrev pub DumpLicensed : (Saving → Saving) → World → World → Type 0
DumpLicensed f w v = Remarked f w.live v.live × ProcessesLicensed NoProcess w v × LeaversLicensed (λ c. false) w.live.board.connections v.live.board.connections

-- Nothing but a line that is done and a unit that is taken changes an object, beside how it stands to the dumps, which changes with each of them.
-- Processes end by such a line, when they run, and with the connection that they are tied to.
abbrev pub EventLicensed : Event → World → World → Type 0
EventLicensed (Exec d) w v = TurnLicensed d (connection d w) w v
EventLicensed (Slice pid) w v = SliceLicensed pid (units_of pid w) w v
EventLicensed (Closed d) w v = Untouched w.live v.live × ProcessesLicensed (λ p. is_tied_to d p ≡ true) w v
EventLicensed (Opened d) w v = Untouched w.live v.live × ProcessesLicensed NoProcess w v
EventLicensed (Cut k) w v = DumpLicensed pending w v
EventLicensed (Stored k) w v = DumpLicensed saving_done w v
EventLicensed (DumpFailed k) w v = DumpLicensed due_again w v
EventLicensed event w v = Undisturbed (λ c. false) w v
