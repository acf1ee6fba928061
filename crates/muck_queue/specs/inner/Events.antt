-- An event as contracts see it.
use Rattle.std.specs.Prelude.{ℕ, List}
use Rattle.muf_model.specs.Datum.{Datum}
use Rattle.muf_model.specs.inner.View.{view}
use Rattle.muck_queue.specs.declared.events.ProcessEvent.{ProcessEvent}

-- its name, and what came with it
abbrev pub shown : ProcessEvent → List ℕ × Datum
shown e = (e.name, view e.data)
