-- What whoever makes the dumps keeps of the disks, the log and the history from one dump to the next.
use Rattle.std.specs.Prelude.{◌≡◌, ◌⊎◌, ℕ, suc, false, List, length, slice_get, Option, Some, None}
use Rattle.std.specs.List.{list_any}
use Rattle.muck_model.specs.declared.event.Entry.{Entry}
use Rattle.muck_model.specs.declared.event.Event.TheVariants.{DumpFailed}
use Rattle.muck_model.specs.declared.note.Note.{Note}
use Rattle.muck_io.specs.Faults.{Rose}
use Rattle.spec_live.specs.Consistent.{IsConsistent}
use Rattle.muck_log.specs.Store.{Chosen, LogState, IsMounted}
use Rattle.spec_events.specs.World.{World}
use Rattle.spec_events.specs.Histories.{History, Grew}
use Rattle.spec_events.specs.Logged.{is_dump}
use Rattle.spec_dumps.specs.Fronts.{event_at, last_cut, at_cut, batch_number_at, IsFront, Fits, Overflows, dumped_on, file_most}
use Rattle.spec_dumps.specs.Survival.{HoldsAt, HoldsBy, IsSafe}

-- k is the history h and then entries that are none of a dump, without a note
pub record Quietly (h k : History) : Type 0 where
  pub entries : List Entry
  pub grew : Grew h k entries
  pub none : list_any (λ (e : Entry). is_dump e.event) entries ≡ false

-- a log that is mounted stands on the store after a front of the history that is noted by the n-th note
abbrev pub IsUsable : {D : Type 0} → (D → List ℕ) → (D → ℕ) → (D → ℕ → List ℕ → Type 0) → Option LogState → D → D → World → ℕ → List Entry → List Note → ℕ → Type 0
IsUsable seen moment images None first second w mounted h notes n = Unit {0}
IsUsable seen moment images (Some log) first second w mounted h notes n =
    IsMounted seen moment images log first second × (log.most ≡ file_most) × IsFront w mounted h notes n log.chosen

-- the disks are at the moments of that note
abbrev pub IsAt : {D : Type 0} → (D → ℕ) → D → D → Note → Type 0
IsAt moment first second note = (note.first_moment ≡ moment first) × (note.second_moment ≡ moment second)

-- and it counts the faults of the disks
abbrev pub IsCounted : {D : Type 0} → (D → ℕ) → D → D → Note → Type 0
IsCounted faults first second note = (note.first_faults ≡ faults first) × (note.second_faults ≡ faults second)

-- From one dump to the next: what is kept of the disks, and what the log stands on, if one is mounted.
pub record Keeps {D : Type 0} (seen : D → List ℕ) (moment : D → ℕ) (images : D → ℕ → List ℕ → Type 0) (faults : D → ℕ) (log : Option LogState) (first second : D) (mounted : ℕ) (h : History) : Type 0 where
  pub last : ℕ
  pub note : Note
  pub is : slice_get h.notes last ≡ Some note
  pub end : length h.notes ≡ suc last
  pub safe : IsSafe moment images faults first second h.start mounted h.entries h.notes
  pub usable : IsUsable seen moment images log first second h.start mounted h.entries h.notes last

-- and nothing moved the disks since the last note
pub record Rests {D : Type 0} (seen : D → List ℕ) (moment : D → ℕ) (images : D → ℕ → List ℕ → Type 0) (faults : D → ℕ) (log : Option LogState) (first second : D) (mounted : ℕ) (h : History) : Type 0 where
  pub keeps : Keeps seen moment images faults log first second mounted h
  pub rests : IsAt moment first second keeps.note

-- the dump k failed, with the last note
pub record FailedLast (k : ℕ) (h : History) : Type 0 where
  pub last : ℕ
  pub note : Note
  pub is : slice_get h.notes last ≡ Some note
  pub end : length h.notes ≡ suc last
  pub event : event_at h.entries note.entries ≡ Some (DumpFailed k)

-- Between the Cut of a dump and its end, where other entries may stand. The last note is that of the Cut.

-- The store x is the one that both disks held at that note, which is one after a front of the history, with one dump more: that of the last Cut, whose
-- number it has, and which fits.
pub record IsDumped {D : Type 0} (images : D → ℕ → List ℕ → Type 0) (first second : D) (mounted : ℕ) (h : History) (x : Chosen) : Type 0 where
  pub last : ℕ
  pub note : Note
  pub there : slice_get h.notes last ≡ Some note
  pub end : length h.notes ≡ suc last
  pub before : Chosen
  pub held : HoldsBy images first second note before
  pub front : IsFront h.start mounted h.entries h.notes last before
  pub fits : Fits before (at_cut h.start h.entries)
  pub is : x ≡ dumped_on before (at_cut h.start h.entries)
  pub number : batch_number_at mounted h.entries (last_cut h.entries) ≡ x.held.number
  pub consistent : IsConsistent (at_cut h.start h.entries).live.objects

-- the count of faults of a disk rose since the note before that one
abbrev pub RisesInDump : {D : Type 0} → (D → ℕ) → D → D → History → Type 0
RisesInDump faults first second h = (n : ℕ) (before : Note) → suc (suc n) ≡ length h.notes → slice_get h.notes n ≡ Some before →
    Rose before.first_faults (faults first) ⊎ Rose before.second_faults (faults second)

-- its batch would pass the most bytes of a file, in the store x that both disks hold
pub record OverflowsAtCut {D : Type 0} (moment : D → ℕ) (images : D → ℕ → List ℕ → Type 0) (first second : D) (mounted : ℕ) (h : History) (x : Chosen) : Type 0 where
  pub last : ℕ
  pub end : length h.notes ≡ suc last
  pub held : HoldsAt images first second (moment first) (moment second) x
  pub front : IsFront h.start mounted h.entries h.notes last x
  pub over : Overflows x (at_cut h.start h.entries)

-- why the dump fails
abbrev pub Fails : {D : Type 0} → (D → ℕ) → (D → ℕ → List ℕ → Type 0) → (D → ℕ) → D → D → ℕ → History → Type 0
Fails moment images faults first second mounted h = RisesInDump faults first second h ⊎ ((x : Chosen) × OverflowsAtCut moment images first second mounted h x)
