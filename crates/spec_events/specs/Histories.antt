-- Whole histories.
use Rattle.std.specs.Prelude.{◌≡◌, true, List, [], ◌∷◌, ◌++◌, length, Option, Some}
use Rattle.muck_model.specs.declared.event.Entry.{Entry}
use Rattle.muck_model.specs.declared.event.Event.{Event}
use Rattle.muck_model.specs.declared.note.Note.{Note}
use Rattle.muck_model.specs.declared.note.Count.{Count}
use Rattle.muck_model.specs.declared.note.Counted.{Counted}
use Rattle.spec_events.specs.World.{World}
use Rattle.spec_events.specs.Steps.{Step, effect, happened, is_lawful, resting}
use Rattle.spec_events.specs.OnlyStarts.{OnlyStarts}
use Rattle.spec_events.specs.Licences.{EventLicensed}

-- the world after these entries
abbrev pub after : World → List Entry → World
after w [] = w
after w (entry ∷ entries) = after (effect w entry) entries

-- each entry is a step, and they lead to v
abbrev pub Run : World → List Entry → World → Type 0
Run w [] v = v ≡ w
Run w (entry ∷ entries) v = (u : World) × Step w entry u × Run u entries v

-- each entry is lawful where it stands
abbrev pub AllLawful : World → List Entry → Type 0
AllLawful w [] = Unit {0}
AllLawful w (entry ∷ entries) = (is_lawful w entry ≡ true) × AllLawful (effect w entry) entries

-- What happened by an entry is licensed; and behind it hooks start programs, and do nothing else.
abbrev pub EntryLicensed : Entry → World → World → Type 0
EntryLicensed entry w v = EventLicensed entry.event w (happened w entry.party entry.event) × OnlyStarts (resting entry.event (happened w entry.party entry.event)) v

-- each entry changes only what is open where it stands
abbrev pub AllLicensed : World → List Entry → Type 0
AllLicensed w [] = Unit {0}
AllLicensed w (entry ∷ entries) = EntryLicensed entry w (effect w entry) × AllLicensed (effect w entry) entries

-- A history: how the world began, what happened since, the notes of the disks that stand between, and the note of the links: how
-- many entries stand before it, and its counts.
pub record History : Type 0 where
  pub start : World
  pub entries : List Entry
  pub notes : List Note
  pub counted : Option Counted

-- the world as it is now
unfoldable pub now : History → World
now h = after h.start h.entries

-- and then this entry
abbrev pub entered : History → Entry → History
entered h entry = record h { entries = h.entries ++ entry ∷ [] }

-- and then this note
abbrev pub noted : History → Note → History
noted h note = record h { notes = h.notes ++ note ∷ [] }

-- and then the note of the links
abbrev pub links_noted : History → List Count → History
links_noted h counts = record h { counted = Some (record { entries = length h.entries; counts = counts }) }

-- k is the history h, and then these entries
pub record Longer (h k : History) (es : List Entry) : Type 0 where
  pub start : k.start ≡ h.start
  pub entries : k.entries ≡ h.entries ++ es

-- and no note came with them
pub record Grew (h k : History) (es : List Entry) : Type 0 where
  pub start : k.start ≡ h.start
  pub entries : k.entries ≡ h.entries ++ es
  pub notes : k.notes ≡ h.notes

-- an event of the party that does everything in a run of a script
abbrev pub by_porter : Event → Entry
by_porter event = record { party = 0; event = event }
