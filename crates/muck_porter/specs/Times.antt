-- The moments of a history, against what the clock answers, and where the note of the links stands in it.
use Rattle.std.specs.Prelude.{◌≡◌, ℕ, false, List, [], ◌∷◌, Option}
use Rattle.turn_lock.specs.Histories.{StartsWith, own_of}
use Rattle.muck_model.specs.declared.event.Entry.{Entry}
use Rattle.muck_model.specs.declared.note.Note.{Note}
use Rattle.spec_events.specs.declared.logged.Logged.{Logged}
use Rattle.spec_events.specs.World.{World}
use Rattle.spec_events.specs.Steps.{effect}
use Rattle.spec_events.specs.Logged.{logged_by, entries_of}
use Rattle.muck_work.specs.inner.Beginnings.{begun}
use Rattle.muck_work.specs.inner.Seats.{Sight}
use Rattle.muck_peer.specs.Moves.{Clocked}
use Rattle.muck_porter.specs.Noted.{AllNoted}

-- Each moment of these entries is the greater of the clock's next answer and the second of the world in which it was entered; so the clock goes from
-- the answers that it had to those that it has.
abbrev pub Timely : Option (List ℕ) → Option (List ℕ) → World → List Entry → Type 0
Timely before now w [] = now ≡ before
Timely before now w (e ∷ es) = (between : Option (List ℕ)) × Clocked before between w e.event × Timely between now (effect w e) es

-- Of some front of what the seat has seen, which has all its own entries, each moment is the clock's, and the note of the links stands where it has to.
pub record TimedBy (before now : Option (List ℕ)) (v : Sight) : Type 0 where
  pub front : List Logged
  pub seen : StartsWith v.seen front
  pub own : v.own ≡ own_of logged_by 0 front
  pub timely : (w : World) (mounting : Note) → v.root ≡ begun w mounting ∷ [] → Timely before now w (entries_of front)
  pub noted : (w : World) (mounting : Note) → v.root ≡ begun w mounting ∷ [] → AllNoted false w front

-- where each moment was the clock's, each still is, as the clock goes on from these answers to those; and so is the note in its place
abbrev pub ByClock : Sight → Sight → Option (List ℕ) → Option (List ℕ) → Type 0
ByClock v v' a a' = (before : Option (List ℕ)) → TimedBy before a v → TimedBy before a' v'
