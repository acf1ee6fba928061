-- What isn't there is nobody's trigger or program, and nobody edits it.
use Rattle.std.specs.Prelude.{◌≡◌, ◌⊎◌, ℕ, true, List, [], ◌∷◌, Some, is_some}
use Rattle.muck_model.specs.declared.dbref.Dbref.{Dbref}
use Rattle.muck_model.specs.declared.edit.EditState.{EditState}
use Rattle.muck_model.specs.declared.event.Entry.{Entry}
use Rattle.spec_live.specs.Objects.{nothing, object_at}
use Rattle.spec_prims.specs.Asking.{object_numbered}
use Rattle.spec_events.specs.World.{World}
use Rattle.spec_events.specs.Sourced.{Each, Standing}
use Rattle.spec_events.specs.Steps.{effect}
use Rattle.spec_origins.specs.Seats.{editor_at}

-- an object is there
abbrev pub IsThere : World → Dbref → Type 0
IsThere w d = is_some (object_at d w.live.objects) ≡ true

-- Each process was started by what is there, or by nothing any more. The program for which it was started is there, and each on its call stack, and so is each program that is edited.
pub record AllThere (w : World) : Type 0 where
  pub starts : Each (λ p. IsThere w p.program) w.queue.processes
  pub triggers : Each (λ p. (p.trigger ≡ nothing) ⊎ IsThere w p.trigger) w.queue.processes
  pub programs : Each (λ p. Standing (λ q. IsThere w (object_numbered q.number)) p.running) w.queue.processes
  pub editors : (d : ℕ) (s : EditState) → editor_at d w ≡ Some s → IsThere w s.program

-- behind each entry
abbrev pub StaysThere : World → List Entry → Type 0
StaysThere w [] = Unit {0}
StaysThere w (entry ∷ entries) = AllThere (effect w entry) × StaysThere (effect w entry) entries
