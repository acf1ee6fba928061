-- Whose each process is, and what it is tied to.
use Rattle.std.specs.Prelude.{◌≡◌, ◌⊎◌, ℕ, ℤ, ◌<ℤ◌, ◌≤ℤ◌, Bool, true, false, List, [], ◌∷◌, ◌++◌, Option, Some, None, is_some}
use Rattle.std.specs.Option.{option_map_or, option_and_then}
use Rattle.std.specs.Ordering.{int_eq}
use Rattle.muck_model.specs.declared.dbref.Dbref.{Dbref}
use Rattle.muck_model.specs.declared.event.Entry.{Entry}
use Rattle.muck_model.specs.declared.event.Event.{Event}
use Rattle.muck_model.specs.declared.event.Event.TheVariants.{Exec, Slice}
use Rattle.spec_live.specs.Objects.{nothing}
use Rattle.spec_live.specs.Connections.{Connection}
use Rattle.spec_rights.specs.declared.act.Act.TheVariants.{Start, Call}
use Rattle.spec_rights.specs.Verdict.{verdict}
use Rattle.spec_commands.specs.Finding.{actor_of}
use Rattle.muf_model.specs.Chains.{programs_of}
use Rattle.muf_model.specs.Datum.{Datum}
use Rattle.muf_model.specs.Source.{Program}
use Rattle.spec_prims.specs.Asking.{object_numbered}
use Rattle.muck_queue.specs.declared.process.Process.{Process}
use Rattle.muck_queue.specs.Queues.{Queue, is_awaiting, reader}
use Rattle.spec_events.specs.World.{World, connection}
use Rattle.spec_events.specs.Slices.{Taken, queued_command, after_unit, units_of}
use Rattle.spec_events.specs.Endings.{Lapsed}
use Rattle.spec_events.specs.Sourced.{Each}
use Rattle.spec_events.specs.Steps.{effect, happened}
use Rattle.spec_origins.specs.Builds.{EventBuilds}

abbrev pub Among : {X : Type 0} → X → List X → Type 0
Among x [] = ⊥
Among x (y ∷ ys) = (x ≡ y) ⊎ Among x ys

-- One process and another, or the same one later.

-- q is for the player of p, by the same command of the same program, and was started by what started p, or by nothing where that was lost
pub record SameOrigin (Lost : Dbref → Type 0) (p q : Process) : Type 0 where
  pub player : q.player ≡ p.player
  pub program : q.program ≡ p.program
  pub command : q.command ≡ p.command
  pub trigger : (q.trigger ≡ p.trigger) ⊎ ((q.trigger ≡ nothing) × Lost p.trigger)

-- q is p later on: it is tied as it was, or to nothing any more
pub record GoesOn (Lost : Dbref → Type 0) (p q : Process) : Type 0 where
  pub number : q.number ≡ p.number
  pub origin : SameOrigin Lost p q
  pub tied : (q.descr ≡ p.descr) ⊎ (q.descr ≡ None)

abbrev pub SameEvents : Process → Process → Type 0
SameEvents p q = (q.events ≡ p.events) × (q.due ≡ p.due)

-- more events came, and where it waited for one it may go on from another second
abbrev pub MoreEvents : Process → Process → Type 0
MoreEvents p q = ((sent : List (List ℕ × Datum)) × (q.events ≡ p.events ++ sent)) × ((q.due ≡ p.due) ⊎ (is_awaiting p ≡ true))

-- q stands as p stood, but for events that it was sent, where any may be sent
pub record StandsStill (sends : Bool) (p q : Process) : Type 0 where
  pub tied : q.descr ≡ p.descr
  pub mode : q.mode ≡ p.mode
  pub wait : q.wait ≡ p.wait
  pub units : q.units ≡ p.units
  pub section : q.section ≡ p.section
  pub running : q.running ≡ p.running
  pub events : SameEvents p q ⊎ ((sends ≡ true) × MoreEvents p q)

-- Where a process comes from: it was there before, and stands still unless its number passes; or it is new.
pub data From (own : ℤ → Bool) (sends : Bool) (Lost : Dbref → Type 0) (New : Process → Type 0) (ps : List Process) (q : Process) : Type 0 where
  was_there : (p : Process) → Among p ps → GoesOn Lost p q → (own p.number ≡ false → StandsStill sends p q) → From own sends Lost New ps q
  is_new : New q → From own sends Lost New ps q

-- Behind w come these processes, each from where it may, and no number that was given is given again.
pub record Comes (own : ℤ → Bool) (sends : Bool) (Lost : Dbref → Type 0) (New : Process → Type 0) (q r : Queue) : Type 0 where
  pub processes : Each (From own sends Lost New q.processes) r.processes
  pub last : q.last ≤ℤ r.last

-- What happens.

-- no process is this step's own
abbrev pub no_own_process : ℤ → Bool
no_own_process n = false

-- A process that is new behind a line of a player on the connection d: it is that player's, tied to that connection, with a number above all that were given, and of a program that
-- the player may start.
pub record StartedBy (d : ℕ) (who : Dbref) (last : ℤ) (v : World) (q : Process) : Type 0 where
  pub number : last <ℤ q.number
  pub player : q.player ≡ who
  pub tied : q.descr ≡ Some d
  pub leave : verdict v.live.objects (actor_of v.live.objects who) (Start q.program) ≡ None

-- A line for a process that reads is that process's, and starts none. One of a player may start a process. At the login screen none starts.
abbrev pub LineOrigins : ℕ → Option ℤ → Option Dbref → World → World → Type 0
LineOrigins d (Some pid) player w v = Comes (λ n. int_eq n pid) false (λ x. ⊥) (λ q. ⊥) w.queue v.queue
LineOrigins d None (Some player) w v = Comes no_own_process false (λ x. Lapsed x w.live v.live) (StartedBy d player w.queue.last v) w.queue v.queue
LineOrigins d None None w v = Comes no_own_process false (λ x. ⊥) (λ q. ⊥) w.queue v.queue

abbrev pub TurnOrigins : ℕ → Option Connection → World → World → Type 0
TurnOrigins d (Some c) w v = LineOrigins d (reader d w.queue) c.player w v
TurnOrigins d None w v = Comes no_own_process false (λ x. ⊥) (λ q. ⊥) w.queue v.queue

-- in one of these units it was gone, or got another source
abbrev pub LostIn : List Taken → Dbref → Type 0
LostIn ts x = (t : Taken) × Among t ts × Lapsed x t.before.live (after_unit t).live

-- by QUEUE, in one of these units, by whom that program was open to
abbrev pub IsQueued : List Taken → Process → Type 0
IsQueued ts q = (q.command ≡ queued_command) × (q.trigger ≡ nothing) × ((t : Taken) × Among t ts × (verdict t.before.live.objects t.actor (Call q.program) ≡ None))

-- A process that is new behind these units of the process pid: it is tied to nothing, has a number above all that were given, and the player of that process; and it came of it by FORK
-- or QUEUE.
pub record StartedIn (pid : ℤ) (ts : List Taken) (w : Queue) (q : Process) : Type 0 where
  pub parent : Process
  pub among : Among parent w.processes
  pub own : parent.number ≡ pid
  pub number : w.last <ℤ q.number
  pub player : q.player ≡ parent.player
  pub tied : q.descr ≡ None
  pub origin : SameOrigin (LostIn ts) parent q ⊎ IsQueued ts q

abbrev pub SliceOrigins : ℤ → List Taken → World → World → Type 0
SliceOrigins pid ts w v = Comes (λ n. int_eq n pid) true (LostIn ts) (StartedIn pid ts w.queue) w.queue v.queue

-- Processes change by lines and slices alone.
abbrev pub EventOrigins : Event → World → World → Type 0
EventOrigins (Exec d) w v = TurnOrigins d (connection d w) w v
EventOrigins (Slice pid) w v = SliceOrigins pid (units_of pid w) w v
EventOrigins event w v = Comes no_own_process false (λ x. ⊥) (λ q. ⊥) w.queue v.queue

-- Connections.

abbrev pub is_connection_there : World → ℕ → Bool
is_connection_there w d = is_some (connection d w)

-- each process that is tied to a connection has it
abbrev pub AreTied : World → Type 0
AreTied w = Each (λ p. option_map_or (is_connection_there w) p.descr true ≡ true) w.queue.processes

-- What runs.

-- the lowest program on a call stack: the one with which its process began
abbrev pub lowest_program : List Program → Option Dbref
lowest_program [] = None
lowest_program (p ∷ []) = Some (object_numbered p.number)
lowest_program (p ∷ q ∷ ps) = lowest_program (q ∷ ps)

-- a process stands at a state, and began with the program for which it was started
abbrev pub RunsOwn : Process → Type 0
RunsOwn p = option_and_then (λ s. lowest_program (programs_of s)) p.running ≡ Some p.program

abbrev pub AreOwn : World → Type 0
AreOwn w = Each RunsOwn w.queue.processes

-- Histories.

-- from what happened; and then u, behind what is hooked to it, is so that each process has its connection, and runs its own program
pub record Origins (event : Event) (w v u : World) : Type 0 where
  pub processes : EventOrigins event w v
  pub builds : EventBuilds event w v
  pub tied : AreTied u
  pub runs : AreOwn u

-- it is so of each entry where it stands
abbrev pub AllOrigins : World → List Entry → Type 0
AllOrigins w [] = Unit {0}
AllOrigins w (entry ∷ entries) = Origins entry.event w (happened w entry.party entry.event) (effect w entry) × AllOrigins (effect w entry) entries
