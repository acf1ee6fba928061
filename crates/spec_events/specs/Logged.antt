-- The history of a world that several parties share, item by item: each entry with the notes that were made just before it.
use Rattle.std.specs.Prelude.{◌≡◌, ℕ, suc, ◌≤◌, Bool, true, false, ◌||◌, ◌==◌, nat_le, if◌then◌else◌, List, [], ◌∷◌, ◌++◌, length, map, take, drop, Option, Some, None}
use Rattle.std.specs.List.{filter}
use Rattle.muck_model.specs.declared.event.Entry.{Entry}
use Rattle.muck_model.specs.declared.event.Event.{Event}
use Rattle.muck_model.specs.declared.event.Event.TheVariants.{Cut, Stored, DumpFailed}
use Rattle.muck_model.specs.declared.note.Note.{Note}
use Rattle.muck_model.specs.declared.note.Count.{Count}
use Rattle.muck_model.specs.declared.note.Counted.{Counted}
use Rattle.spec_events.specs.declared.logged.Logged.{Logged}
use Rattle.spec_events.specs.World.{World}
use Rattle.spec_events.specs.Histories.{History}

-- Entries of dumps.

abbrev pub is_cut : Event → Bool
is_cut (Cut k) = true
is_cut event = false

abbrev pub is_stored : Event → Bool
is_stored (Stored k) = true
is_stored event = false

abbrev pub is_failed : Event → Bool
is_failed (DumpFailed k) = true
is_failed event = false

abbrev pub is_dump : Event → Bool
is_dump event = is_cut event || (is_stored event || is_failed event)

-- Notes by their places. The first note of a history is that of the mounting, which no entry has.

-- those that were made as so many entries stood there
abbrev pub notes_at : ℕ → List Note → List Note
notes_at n notes = filter (λ (x : Note). x.entries == n) notes

-- and as there were so many at least
abbrev pub notes_from : ℕ → List Note → List Note
notes_from n notes = filter (λ (x : Note). nat_le n x.entries) notes

abbrev pub counted_at : ℕ → Option Counted → Option (List Count)
counted_at n (Some c) = if c.entries == n then Some c.counts else None
counted_at n None = None

abbrev pub counted_from : ℕ → Option Counted → Option (List Count)
counted_from n (Some c) = if nat_le n c.entries then Some c.counts else None
counted_from n None = None

-- an entry behind so many others
abbrev pub item_at : ℕ → List Note → Option Counted → Entry → Logged
item_at n notes counted e = record { entry = e; notes = notes_at n notes; counted = counted_at n counted }

abbrev pub items_from : ℕ → List Note → Option Counted → List Entry → List Logged
items_from n notes counted [] = []
items_from n notes counted (e ∷ es) = item_at n notes counted e ∷ items_from (suc n) notes counted es

-- each entry of a history, with the notes before it
unfoldable pub logged : History → List Logged
logged h = items_from 0 (drop 1 h.notes) h.counted h.entries

-- The notes of a history that no entry has: that of the mounting, and those behind all entries.
unfoldable pub loose_notes : History → List Note
loose_notes h = take 1 h.notes ++ notes_from (length h.entries) (drop 1 h.notes)

-- the note of the links, where it stands behind all entries
unfoldable pub loose_count : History → Option (List Count)
loose_count h = counted_from (length h.entries) h.counted

-- this note is that of the mounting, and none stands behind all entries
pub record IsSettled (mounting : Note) (h : History) : Type 0 where
  pub notes : loose_notes h ≡ mounting ∷ []
  pub counted : loose_count h ≡ None

-- An entry with no note, with one of the disks, or with that of the links.

abbrev pub bare_item : Entry → Logged
bare_item e = record { entry = e; notes = []; counted = None }

abbrev pub noted_item : Note → Entry → Logged
noted_item note e = record { entry = e; notes = note ∷ []; counted = None }

abbrev pub counted_item : List Count → Entry → Logged
counted_item counts e = record { entry = e; notes = []; counted = Some counts }

-- What is said of items.

abbrev pub entry_of : Logged → Entry
entry_of l = l.entry

-- whose an item is
abbrev pub logged_by : Logged → ℕ
logged_by l = l.entry.party

abbrev pub entries_of : List Logged → List Entry
entries_of ls = map entry_of ls

abbrev pub events_of : List Logged → List Event
events_of ls = map (λ (l : Logged). l.entry.event) ls

abbrev pub notes_of : List Logged → List Note
notes_of [] = []
notes_of (l ∷ ls) = l.notes ++ notes_of ls

-- no item has a note of the disks, or of the links
abbrev pub NoNotes : List Logged → Type 0
NoNotes [] = Unit {0}
NoNotes (l ∷ ls) = (l.notes ≡ []) × NoNotes ls

abbrev pub NoCounts : List Logged → Type 0
NoCounts [] = Unit {0}
NoCounts (l ∷ ls) = (l.counted ≡ None) × NoCounts ls

-- the first note of the links, with its place behind so many entries
abbrev pub placed_count : ℕ → Option (List Count) → Option Counted → Option Counted
placed_count n (Some counts) later = Some (record { entries = n; counts = counts })
placed_count n None later = later

abbrev pub count_from : ℕ → List Logged → Option Counted
count_from n [] = None
count_from n (l ∷ ls) = placed_count n l.counted (count_from (suc n) ls)

-- the history that begins with this world and the note of its mounting, of these items
abbrev pub history_of : World → Note → List Logged → History
history_of w mounting ls = record { start = w; entries = entries_of ls; notes = mounting ∷ notes_of ls; counted = count_from 0 ls }

-- Notes stand by rising place, from one on, and up to another.
abbrev pub ArePlaced : ℕ → ℕ → List Note → Type 0
ArePlaced from most [] = Unit {0}
ArePlaced from most (x ∷ xs) = (from ≤ x.entries) × (x.entries ≤ most) × ArePlaced x.entries most xs

abbrev pub IsCountPlaced : ℕ → Option Counted → Type 0
IsCountPlaced most None = Unit {0}
IsCountPlaced most (Some c) = c.entries ≤ most

-- Each note has the place behind at most all entries, and none the place before an earlier one's.
pub record IsPlaced (h : History) : Type 0 where
  pub notes : ArePlaced 0 (length h.entries) h.notes
  pub counted : IsCountPlaced (length h.entries) h.counted

-- What may stand in a history that parties share: dumps are the dumper's, 9, and so are notes of the disks; the note of the links
-- is the porter's, 0.
pub record IsOrderly (l : Logged) : Type 0 where
  pub dumps : is_dump l.entry.event ≡ true → l.entry.party ≡ 9
  pub notes : ¬ (l.entry.party ≡ 9) → l.notes ≡ []
  pub counted : ¬ (l.entry.party ≡ 0) → l.counted ≡ None
