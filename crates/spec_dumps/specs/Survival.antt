-- What a crash leaves of a run, at each moment.
use Rattle.std.specs.Prelude.{◌≡◌, ◌⊎◌, ℕ, suc, ◌<◌, ◌≤◌, true, List, length, take, slice_get, Some, Ok}
use Rattle.std.specs.Option.{option_map_or}
use Rattle.muck_io.specs.Faults.{Rose}
use Rattle.muck_model.specs.declared.event.Entry.{Entry}
use Rattle.muck_model.specs.declared.event.Event.TheVariants.{Cut, DumpFailed}
use Rattle.muck_model.specs.declared.note.Note.{Note}
use Rattle.muck_log.specs.File.{after_number}
use Rattle.muck_log.specs.Store.{Chosen, store_of}
use Rattle.spec_events.specs.World.{World}
use Rattle.spec_events.specs.Histories.{after}
use Rattle.spec_events.specs.Logged.{is_dump, is_stored, is_failed}
use Rattle.spec_dumps.specs.Fronts.{entry_stands_at, event_at, at_cut, place_of_note, IsFront, Loads, Fits, Overflows, dumped_on, persisted}

-- Until when the stretch lasts that the n-th note begins: to the next note, or to now.
abbrev pub stretch_until : (Note → ℕ) → List Note → ℕ → ℕ → ℕ
stretch_until clock notes n now = option_map_or clock (slice_get notes (suc n)) now

-- each entry of a dump has its note
abbrev pub AllNoted : List Entry → List Note → Type 0
AllNoted h notes = (place : ℕ) → entry_stands_at is_dump h place ≡ true → (i : ℕ) × (0 < i) × (place_of_note notes i ≡ Some place)

-- At each moment of a stretch, whatever a crash leaves of both disks loads as the world after a front of the history that is noted by
-- then and holds the Cut of each dump that was stored by then.
pub record Survives {D : Type 0} (moment : D → ℕ) (images : D → ℕ → List ℕ → Type 0) (first second : D) (w : World) (mounted : ℕ) (h : List Entry) (notes : List Note) : Type 0 where
  pub each : (n : ℕ) (note : Note) (t u : ℕ) (c d : List ℕ) → slice_get notes n ≡ Some note →
      note.first_moment ≤ t → t ≤ stretch_until (λ (x : Note). x.first_moment) notes n (moment first) →
      note.second_moment ≤ u → u ≤ stretch_until (λ (x : Note). x.second_moment) notes n (moment second) →
      images first t c → images second u d → Loads w mounted h notes n (store_of c d)
  pub rises : (n : ℕ) (note : Note) → slice_get notes n ≡ Some note →
      (note.first_moment ≤ stretch_until (λ (x : Note). x.first_moment) notes n (moment first)) × (note.second_moment ≤ stretch_until (λ (x : Note). x.second_moment) notes n (moment second))
  pub past : (n : ℕ) (note : Note) → slice_get notes n ≡ Some note → (note.first_moment ≤ moment first) × (note.second_moment ≤ moment second)
  pub noted : AllNoted h notes
  pub placed : (i place : ℕ) → place_of_note notes i ≡ Some place → ((i ≡ 0) × (place ≡ 0)) ⊎ (place < length h)

-- What both disks hold at a moment of each is this store: whatever a crash leaves there loads as it, and something is left.
pub record HoldsAt {D : Type 0} (images : D → ℕ → List ℕ → Type 0) (first second : D) (t u : ℕ) (s : Chosen) : Type 0 where
  pub each : (c d : List ℕ) → images first t c → images second u d → store_of c d ≡ Ok s
  pub first_left : (c : List ℕ) × images first t c
  pub second_left : (d : List ℕ) × images second u d

-- at the moments of a note
abbrev pub HoldsBy : {D : Type 0} → (D → ℕ → List ℕ → Type 0) → D → D → Note → Chosen → Type 0
HoldsBy images first second note s = HoldsAt images first second note.first_moment note.second_moment s

-- Why a dump failed whose end has the n-th note: the count of faults of a disk rose since the note before that of its Cut, or its batch,
-- which is of the world at its Cut, would pass the most bytes of a file, in the store that both disks held.
pub record HasCause {D : Type 0} (images : D → ℕ → List ℕ → Type 0) (first second : D) (w : World) (mounted : ℕ) (h : List Entry) (notes : List Note) (n : ℕ) (note before : Note) : Type 0 where
  pub cause : (Rose before.first_faults note.first_faults ⊎ Rose before.second_faults note.second_faults)
      ⊎ ((s : Chosen) × HoldsBy images first second note s × IsFront w mounted h notes (suc n) s × Overflows s (at_cut w (take note.entries h)))

-- each dump that failed has its cause
abbrev pub AllCaused : {D : Type 0} → (D → ℕ → List ℕ → Type 0) → D → D → World → ℕ → List Entry → List Note → Type 0
AllCaused images first second w mounted h notes = (n : ℕ) (note before : Note) → slice_get notes (suc (suc n)) ≡ Some note → slice_get notes n ≡ Some before →
    entry_stands_at is_failed h note.entries ≡ true → HasCause images first second w mounted h notes n note before

-- A dump of the world `cut` wrote just what differed of it. Before it, at the n-th note, which is that of its Cut, both disks held a store in which
-- its batch fits; and at the note of its end they hold that store with the batch.
pub record IsDelta {D : Type 0} (images : D → ℕ → List ℕ → Type 0) (first second : D) (w : World) (mounted : ℕ) (h : List Entry) (notes : List Note) (n : ℕ) (before note : Note) (cut : World) : Type 0 where
  pub base : Chosen
  pub held : HoldsBy images first second before base
  pub front : IsFront w mounted h notes n base
  pub fits : Fits base cut
  pub wrote : HoldsBy images first second note (dumped_on base cut)

-- each dump that was stored wrote so
abbrev pub AllDeltas : {D : Type 0} → (D → ℕ → List ℕ → Type 0) → D → D → World → ℕ → List Entry → List Note → Type 0
AllDeltas images first second w mounted h notes = (n : ℕ) (before note : Note) → slice_get notes n ≡ Some before → slice_get notes (suc n) ≡ Some note →
    entry_stands_at is_stored h note.entries ≡ true → IsDelta images first second w mounted h notes n before note (at_cut w (take note.entries h))

-- The number of a dump whose Cut has this note, the one behind the n-th: one more than that of the store that both disks hold there; or, where a disk failed
-- since the n-th note, so that the log couldn't be mounted again, that of the dump which failed with that note.
abbrev pub HasNumber : {D : Type 0} → (D → ℕ → List ℕ → Type 0) → D → D → List Entry → List Note → ℕ → Note → ℕ → Type 0
HasNumber images first second h notes n note k = ((s : Chosen) × HoldsBy images first second note s × (k ≡ after_number s.held.number))
    ⊎ ((before : Note) × (slice_get notes n ≡ Some before) × (event_at h before.entries ≡ Some (DumpFailed k))
    × (Rose before.first_faults note.first_faults ⊎ Rose before.second_faults note.second_faults))

-- each Cut has its number
abbrev pub AllNumbered : {D : Type 0} → (D → ℕ → List ℕ → Type 0) → D → D → List Entry → List Note → Type 0
AllNumbered images first second h notes = (n k : ℕ) (note : Note) → slice_get notes (suc n) ≡ Some note → event_at h note.entries ≡ Some (Cut k) → HasNumber images first second h notes n note k

-- The counts of faults don't fall from note to note, and none is above that of the disks now.
pub record AllRise {D : Type 0} (faults : D → ℕ) (first second : D) (notes : List Note) : Type 0 where
  pub each : (n : ℕ) (before note : Note) → slice_get notes n ≡ Some before → slice_get notes (suc n) ≡ Some note → (before.first_faults ≤ note.first_faults) × (before.second_faults ≤ note.second_faults)
  pub past : (n : ℕ) (note : Note) → slice_get notes n ≡ Some note → (note.first_faults ≤ faults first) × (note.second_faults ≤ faults second)

-- A count of faults rose in the last dump: from the note before that of its Cut to the last one, which is that of its end.
abbrev pub RoseInLast : List Note → Type 0
RoseInLast notes = (n : ℕ) (before note : Note) → length notes ≡ suc (suc (suc n)) → slice_get notes n ≡ Some before → slice_get notes (suc (suc n)) ≡ Some note →
    Rose before.first_faults note.first_faults ⊎ Rose before.second_faults note.second_faults

-- All that is kept of the disks at any moment of a run.
pub record IsSafe {D : Type 0} (moment : D → ℕ) (images : D → ℕ → List ℕ → Type 0) (faults : D → ℕ) (first second : D) (w : World) (mounted : ℕ) (h : List Entry) (notes : List Note) : Type 0 where
  pub survives : Survives moment images first second w mounted h notes
  pub caused : AllCaused images first second w mounted h notes
  pub deltas : AllDeltas images first second w mounted h notes
  pub numbered : AllNumbered images first second h notes
  pub rise : AllRise faults first second notes

-- now, whatever a crash leaves loads as the world as it is after the whole history
abbrev pub StandsWhole : {D : Type 0} → (D → ℕ) → (D → ℕ → List ℕ → Type 0) → D → D → World → List Entry → Type 0
StandsWhole moment images first second w h = (c d : List ℕ) → images first (moment first) c → images second (moment second) d →
    (s : Chosen) × (store_of c d ≡ Ok s) × (s.held.world ≡ persisted (after w h))
