-- What the units of slices and the lines asked for, in a whole history.
use Rattle.std.specs.Prelude.{◌≡◌, ◌⊎◌, ℕ, ℤ, if◌then◌else◌, Bool, true, false, List, [], ◌∷◌, Option, Some, None}
use Rattle.muck_model.specs.declared.event.Entry.{Entry}
use Rattle.muck_model.specs.declared.event.Event.{Event}
use Rattle.muck_model.specs.declared.event.Event.TheVariants.{Exec, Slice}
use Rattle.muck_model.specs.declared.tune.Tune.{Tune}
use Rattle.spec_live.specs.Objects.{Entry as Kept}
use Rattle.spec_live.specs.Lives.{Live}
use Rattle.spec_rights.specs.declared.act.Actor.{Actor}
use Rattle.spec_rights.specs.declared.act.Act.{Act}
use Rattle.muf_model.specs.declared.fault.MufFault.{MufFault}
use Rattle.muf_model.specs.declared.fault.MufFault.TheVariants.{Denied}
use Rattle.muf_model.specs.declared.prims.Primitive.{Primitive}
use Rattle.muf_model.specs.declared.prims.Primitive.TheVariants.{NextProp}
use Rattle.muf_model.specs.Datum.{Datum}
use Rattle.muf_model.specs.Unit.{Outcome, asks, faulted, unit}
use Rattle.spec_prims.specs.Formulas.{answers_for, is_formula}
use Rattle.spec_processes.specs.ProcessRows.{is_process}
use Rattle.spec_events.specs.declared.starting.Agent.{Agent}
use Rattle.spec_events.specs.World.{World}
use Rattle.spec_events.specs.Slices.{acting, SharedEffect, does, rests, fails, deed, out, one_counted, unit_taken, Taken, units_of}
use Rattle.spec_events.specs.Steps.{effect, happened}
use Rattle.spec_events.specs.Sourced.{Each}
use Rattle.spec_denials.specs.Plain.{NoDenial}
use Rattle.spec_denials.specs.Notes.{ParseDenied}
use Rattle.spec_denials.specs.Acts.{primitive_acts}
use Rattle.spec_denials.specs.Processes.{process_acts}
use Rattle.spec_denials.specs.Starts.{LineStarts}
use Rattle.spec_denials.specs.Walks.{LineLocked}
use Rattle.spec_denials.specs.Refusals.{LineRefused}
use Rattle.spec_denials.specs.Asked.{first_denied, FaultNames, NameListed}

-- what a shared primitive asks for in this world, at this stack
abbrev pub acts_at : Primitive → List Datum → World → List Act
acts_at p stack w = if is_process p then process_acts p stack w.queue else primitive_acts p stack w.live.objects

-- A formula is denied by this rule before it begins; or it was let begin, and is denied something on its way.
abbrev pub BegunNames : Actor → Option ℕ → List Datum → Live → MufFault → Type 0
BegunNames by rule stack w (Denied n) = (rule ≡ Some n) ⊎ ((rule ≡ None) × ParseDenied n by stack w)
BegunNames by rule stack w fault = Unit {0}

-- Where a deed is denied, it is so by this rule; and where it was done, no rule denied.
abbrev pub DeedNames : Bool → Actor → Option ℕ → List Datum → Live → SharedEffect World → Type 0
DeedNames formula by rule stack w (does s v) = rule ≡ None
DeedNames formula by rule stack w (rests s v) = rule ≡ None
DeedNames false by rule stack w (fails f v) = FaultNames rule f
DeedNames true by rule stack w (fails f v) = BegunNames by rule stack w f

-- what NEXTPROP gave is listed
abbrev pub DeedLists : Primitive → Actor → List Kept → List Datum → SharedEffect World → Type 0
DeedLists NextProp a es stack (does s w) = NameListed a es stack s.stack
DeedLists p a es stack d = Unit {0}

-- a shared primitive of this actor at this stack, which did this
abbrev pub AskNames : Actor → Primitive → List Datum → World → SharedEffect World → Type 0
AskNames a p stack w d = DeedNames (is_formula p) (answers_for p a w.live.objects) (first_denied w.live.objects a (acts_at p stack w)) stack w.live d × DeedLists p a w.live.objects stack d

-- a unit that asks for no shared primitive isn't denied
abbrev pub OutcomeNames : ℤ → Agent → Actor → Outcome → World → Type 0
OutcomeNames pid x a (asks p s) w = AskNames a p s.stack w (deed pid x p s w)
OutcomeNames pid x a (faulted f) w = NoDenial f
OutcomeNames pid x a o w = Unit {0}

-- A unit that was taken: for whom, by whom, how it went, and what it asked for.
pub record UnitNames (tune : Tune) (pid : ℤ) (t : Taken) : Type 0 where
  pub agent : Agent
  pub acts : t.actor ≡ acting agent t.state t.before.live.objects
  pub went : t.turn ≡ unit_taken tune pid agent t.state t.before
  pub names : OutcomeNames pid agent t.actor (unit t.state) (out pid (one_counted pid t.before))

-- What an event asks for, from one world to the next: each unit of a slice what it asks for; and a line the program that it starts, the lock on which it hangs, and what its command asks for.
abbrev pub EventNamed : Event → World → World → Type 0
EventNamed (Slice pid) w v = Each (UnitNames w.live.board.tune pid) (units_of pid w)
EventNamed (Exec d) w v = LineStarts w v × LineLocked d w v × LineRefused d w v
EventNamed event w v = Unit {0}

-- and so each of these entries
abbrev pub AllDenialsNamed : World → List Entry → Type 0
AllDenialsNamed w [] = Unit {0}
AllDenialsNamed w (entry ∷ entries) = EventNamed entry.event w (happened w entry.party entry.event) × AllDenialsNamed (effect w entry) entries
