-- What becomes of a claim.
use Rattle.std.specs.Prelude.{ℤ}
use Rattle.muck_model.specs.declared.event.Event.{Event}
use Rattle.muck_model.specs.declared.event.Event.TheVariants.{Slice, Lost as LostEvent}
use Rattle.muck_machine.specs.declared.world.Sliced.{Sliced}
use Rattle.muck_machine.specs.declared.world.Sliced.TheVariants.{Ran, Lost}

-- the event that is entered for it
abbrev pub slice_event : ℤ → Sliced → Event
slice_event pid Ran = Slice pid
slice_event pid Lost = LostEvent pid
