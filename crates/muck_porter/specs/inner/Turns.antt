-- One turn of the porter, as its seat sees it.
use Rattle.std.specs.Prelude.{◌≡◌, Bool, true, false, List, [], ◌∷◌, ◌++◌, Some, None}
use Rattle.turn_lock.specs.Histories.{own_of}
use Rattle.muck_links.specs.Sessions.{LinksTold}
use Rattle.muck_model.specs.declared.event.Event.{Event}
use Rattle.muck_model.specs.declared.note.Note.{Note}
use Rattle.spec_events.specs.declared.logged.Logged.{Logged}
use Rattle.spec_events.specs.World.{World}
use Rattle.spec_events.specs.Histories.{History, now, after, AllLawful, by_porter, links_noted}
use Rattle.spec_events.specs.Logged.{logged_by, entries_of}
use Rattle.spec_talks.specs.Counts.{counts}
use Rattle.spec_serve.specs.Marks.{LinksNote}
use Rattle.muck_work.specs.inner.Beginnings.{begun}
use Rattle.muck_work.specs.inner.Seats.{Sight, Chair, SameLists}
use Rattle.muck_work.specs.inner.Holds.{HasTurn}

-- The note of the links is made in a hold, where the world is stopping, memory wasn't wanted, and there is none yet; or not.
pub data Marked (noted noted' : Bool) (k : LinksTold) (w : World) (counted : LinksNote) : Type 0 where
  kept : noted' ≡ noted → counted ≡ None → (noted ≡ false → w.dead ≡ false → w.stopping ≡ false) → Marked noted noted' k w counted
  made : noted ≡ false → noted' ≡ true → w.stopping ≡ true → w.dead ≡ false → counted ≡ Some (counts k.sessions) → Marked noted noted' k w counted

-- the same of the history that the porter was given
pub data MarkedIn (noted noted' : Bool) (k : LinksTold) (h h' : History) : Type 0 where
  kept : noted' ≡ noted → h' ≡ h → (noted ≡ false → (now h).dead ≡ false → (now h).stopping ≡ false) → MarkedIn noted noted' k h h'
  made : noted ≡ false → noted' ≡ true → (now h).stopping ≡ true → (now h).dead ≡ false → h.counted ≡ None → h' ≡ links_noted h (counts k.sessions) → MarkedIn noted noted' k h h'

-- What the porter knows once it has the turn: the history that it was given, and whether it has made the note of the links since.
pub record Given (noted noted' : Bool) (k : LinksTold) (me me' : Chair) (h' : History) : Type 0 where
  pub given : History
  pub turn : HasTurn 0 me me' given
  pub marked : MarkedIn noted noted' k given h'

-- One turn: others' items since, and then this entry, made in this world, with the note of the links where it was made.
pub record PorterTurn (noted noted' : Bool) (k : LinksTold) (v v' : Sight) (w : World) (event : Event) : Type 0 where
  pub start : World
  pub mounting : Note
  pub root : v.root ≡ begun start mounting ∷ []
  pub others : List Logged
  pub item : Logged
  pub seen : v'.seen ≡ (v.seen ++ others) ++ item ∷ []
  pub own : v'.own ≡ v.own ++ item ∷ []
  pub lists : SameLists v v'
  pub lawful : AllLawful start (entries_of (v.seen ++ others))
  pub world : w ≡ after start (entries_of (v.seen ++ others))
  pub still : own_of logged_by 0 (v.seen ++ others) ≡ own_of logged_by 0 v.seen
  pub entry : item.entry ≡ by_porter event
  pub marked : Marked noted noted' k w item.counted
