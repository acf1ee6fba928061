-- Fronts of a history, and the store that is the world after one.
use Rattle.std.specs.Prelude.{◌≡◌, ℕ, zero, suc, ◌+◌, ◌<◌, ◌≤◌, ◌^◌, Bool, true, false, if◌then◌else◌, List, [], ◌∷◌, length, take, slice_get, Option, Some, Result, Ok}
use Rattle.std.specs.Option.{option_map, option_map_or}
use Rattle.muck_model.specs.declared.event.Entry.{Entry}
use Rattle.muck_model.specs.declared.event.Event.{Event}
use Rattle.muck_model.specs.declared.event.Event.TheVariants.{Cut}
use Rattle.muck_model.specs.declared.note.Note.{Note}
use Rattle.spec_live.specs.Consistent.{IsConsistent}
use Rattle.muck_store.specs.Forms.{persist, world_batch}
use Rattle.muck_log.specs.World.{StoredWorld as Kept}
use Rattle.muck_log.specs.Store.{Chosen, Damage, LogState, target, after_batch}
use Rattle.muck_log.specs.Append.{more_of, payload_of}
use Rattle.spec_events.specs.World.{World}
use Rattle.spec_events.specs.Histories.{after}
use Rattle.spec_events.specs.Logged.{is_cut, is_stored}

-- what a dump stores of a world
abbrev pub persisted : World → Kept
persisted w = record { objects = persist w.live.objects; tune = w.live.board.tune }

-- an entry of that kind stands behind n others
abbrev pub entry_stands_at : (Event → Bool) → List Entry → ℕ → Bool
entry_stands_at test h n = option_map_or (λ (e : Entry). test e.event) (slice_get h n) false

abbrev pub front_behind_cut : ℕ → Bool → ℕ
front_behind_cut zero cut = if cut then 1 else 0
front_behind_cut (suc n) cut = suc (suc n)

-- the event of the entry behind n others
abbrev pub event_at : List Entry → ℕ → Option Event
event_at h n = option_map (λ (e : Entry). e.event) (slice_get h n)

-- how many entries there are up to the last Cut, and with it; 0 where there is none
unfoldable pub last_cut : List Entry → ℕ
last_cut [] = 0
last_cut (e ∷ h) = front_behind_cut (last_cut h) (is_cut e.event)

-- the world as it was behind the last Cut, or at the start where there is none
abbrev pub at_cut : World → List Entry → World
at_cut w h = after w (take (last_cut h) h)

abbrev pub number_of_cut : Event → ℕ
number_of_cut (Cut k) = k
number_of_cut event = 0

-- the number of the batch that a front of so many entries ends with: that of its Cut, or the one that was mounted
abbrev pub batch_number_at : ℕ → List Entry → ℕ → ℕ
batch_number_at mounted h zero = mounted
batch_number_at mounted h (suc n) = option_map_or (λ (e : Entry). number_of_cut e.event) (slice_get h n) mounted

-- Notes, of which the first is that of the mounting, and each other one that of the entry behind it.

abbrev pub place_of_note : List Note → ℕ → Option ℕ
place_of_note notes i = option_map (λ (note : Note). note.entries) (slice_get notes i)

-- the last of so many entries has its note among the first n behind that of the mounting
abbrev pub IsNotedBy : List Note → ℕ → ℕ → Type 0
IsNotedBy notes n zero = Unit {0}
IsNotedBy notes n (suc count) = (i : ℕ) × (0 < i) × (i ≤ n) × (place_of_note notes i ≡ Some count)

-- The store s is the world after a front of the history h from w: one that is empty or ends with a Cut, whose number is that of the
-- last batch. The Cut has its note among the first n; and it isn't before the Cut of a dump that is stored by an entry with a note
-- among those.
pub record IsFront (w : World) (mounted : ℕ) (h : List Entry) (notes : List Note) (n : ℕ) (s : Chosen) : Type 0 where
  pub count : ℕ
  pub short : count ≤ length h
  pub world : s.held.world ≡ persisted (after w (take count h))
  pub consistent : IsConsistent (after w (take count h)).live.objects
  pub cut : last_cut (take count h) ≡ count
  pub number : s.held.number ≡ batch_number_at mounted h count
  pub noted : IsNotedBy notes n count
  pub acknowledged : (i place : ℕ) → i ≤ n → place_of_note notes i ≡ Some place → entry_stands_at is_stored h place ≡ true → last_cut (take place h) ≤ count

-- what two files load as is such a store, and never damaged
abbrev pub Loads : World → ℕ → List Entry → List Note → ℕ → Result Chosen Damage → Type 0
Loads w mounted h notes n r = (s : Chosen) × (r ≡ Ok s) × IsFront w mounted h notes n s

-- Batches.

-- the most bytes of a file
unfoldable pub file_most : ℕ
file_most = 2 ^ 40

-- a log of the store s, for what a batch holds
abbrev pub log_of : Chosen → LogState
log_of s = record { chosen = s; close = false; other_close = false; stale = false; most = file_most }

-- what a dump of the world w writes on the store s: the records that differ from what is stored, or from the starting world where it opens a new generation
abbrev pub dump_payload : Chosen → World → List ℕ
dump_payload s w = payload_of (log_of s) (world_batch w.live.objects w.live.board.tune)

-- the store with that dump
abbrev pub dumped_on : Chosen → World → Chosen
dumped_on s w = after_batch s (dump_payload s w) (persisted w)

-- where the file would end with that batch
abbrev pub end_with : Chosen → World → ℕ
end_with s w = (target s).place + more_of (log_of s) (dump_payload s w)

-- the batch fits in its file
abbrev pub Fits : Chosen → World → Type 0
Fits s w = end_with s w ≤ file_most

-- or it would pass the most bytes of a file
abbrev pub Overflows : Chosen → World → Type 0
Overflows s w = file_most < end_with s w
