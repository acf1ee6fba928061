-- What is seen of a slice.
use Rattle.std.specs.Prelude.{ℤ, List, map}
use Rattle.muf_debug.specs.declared.view.View.{View}
use Rattle.muf_debug.specs.Views.{view_at}
use Rattle.spec_events.specs.World.{World}
use Rattle.spec_events.specs.Slices.{Taken, units_of}

-- the process before a unit that it took
abbrev pub view_of : ℤ → Taken → View
view_of pid t = view_at pid t.state

-- before each unit of a slice of the process
abbrev pub views_of : ℤ → World → List View
views_of pid w = map (view_of pid) (units_of pid w)
