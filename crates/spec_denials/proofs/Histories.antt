-- Whole histories.
use Rattle.std.proofs.Common.{ℕ, List, [], ◌∷◌}
use Rattle.muck_model.specs.declared.event.Entry.{Entry}
use Rattle.muck_model.specs.declared.event.Event.{Event}
use Rattle.muck_model.specs.declared.event.Event.TheVariants.{Exec, Slice}
use Rattle.spec_events.specs.World.{World, connection}
use Rattle.spec_events.specs.Slices.{slice_most, process_awake}
use Rattle.spec_events.specs.Steps.{happened, effect}
use Rattle.spec_denials.specs.Denials.{EventNamed, AllDenialsNamed}
use Rattle.spec_denials.proofs.Starts.{line_starts}
use Rattle.spec_denials.proofs.Walks.{line_locks}
use Rattle.spec_denials.proofs.Refusals.{line_refused}
use Rattle.spec_denials.proofs.Units.{units_named}

event_named : (event : Event) (party : ℕ) (w : World) → EventNamed event w (happened w party event)
event_named (Slice pid) party w = units_named w.live.board.tune pid (slice_most w.live.board.tune) (process_awake pid w)
event_named (Exec d) party w = (line_starts d (connection d w) w, line_locks d w, line_refused d w)
event_named event party w = tt

-- The law of histories, from any world.
pub all_denials_named : (w : World) (entries : List Entry) → AllDenialsNamed w entries
all_denials_named w [] = tt
all_denials_named w (entry ∷ entries) = (event_named entry.event entry.party w, all_denials_named (effect w entry) entries)
