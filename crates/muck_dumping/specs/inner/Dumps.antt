-- What a dump comes to.
use Rattle.std.specs.Prelude.{◌≡◌, ◌⊎◌, ℕ, suc, ◌+◌, ◌<◌, ◌≤◌, List, length, slice_get, Bool, Option, Some, None, Result, Ok, Err, OnOk, IfOk, if◌then◌else◌}
use Rattle.muck_io.specs.Faults.{Rose}
use Rattle.muck_model.specs.declared.event.Event.{Event}
use Rattle.muck_model.specs.declared.event.Event.TheVariants.{Cut, Stored, DumpFailed as Failed, Died}
use Rattle.muck_model.specs.declared.event.Entry.{Entry}
use Rattle.muck_model.specs.declared.note.Note.{Note}
use Rattle.muck_log.specs.World.{StoredWorld as Kept, laid}
use Rattle.muck_log.specs.Store.{Chosen, LogState, LeavesBoth, IsMounted, target, after_batch, store_of}
use Rattle.muck_log.specs.Append.{IsNext, LoadsEither, more_of}
use Rattle.muck_log.specs.declared.fault.LogFault.{LogFault}
use Rattle.muck_log.specs.declared.fault.LogFault.TheVariants.{NoMemory, DiskFault, StoreFull}
use Rattle.spec_events.specs.Histories.{History, after, entered, noted}
use Rattle.spec_dumps.specs.Fronts.{IsFront, dump_payload, log_of, file_most}
use Rattle.spec_dumps.specs.inner.Holding.{Rests}
use Rattle.spec_dumps.specs.Survival.{IsSafe, RoseInLast, StandsWhole}

-- the note of both disks as they are behind the history
abbrev pub note_of : {D : Type 0} → (D → ℕ) → (D → ℕ) → D → D → History → Note
note_of moment faults first second h = record { entries = length h.entries; first_moment = moment first; second_moment = moment second; first_faults = faults first; second_faults = faults second }

-- an event of a party
abbrev pub by : ℕ → Event → Entry
by party event = record { party = party; event = event }

-- how the dump k ends
abbrev pub ending_event : ℕ → Bool → Event
ending_event k done = if done then Stored k else Failed k

-- the count of faults of a disk rose since the last note
abbrev pub HasRisen : {D : Type 0} → (D → ℕ) → D → D → History → Type 0
HasRisen faults first second h = (n : ℕ) (note : Note) → slice_get h.notes n ≡ Some note → length h.notes ≡ suc n → Rose note.first_faults (faults first) ⊎ Rose note.second_faults (faults second)

-- why a store that was mounted before isn't mounted again
abbrev pub IsMountingFault : LogFault → Type 0
IsMountingFault NoMemory = Unit {0}
IsMountingFault DiskFault = Unit {0}
IsMountingFault fault = ⊥

-- What the log answers to a batch of these bytes that makes this world, and what is left of it.
abbrev pub IsAnswer : {D : Type 0} → (D → List ℕ) → (D → ℕ) → (D → ℕ → List ℕ → Type 0) → List ℕ → Kept → LogState → Option LogState → D → D → Result (Unit {0}) LogFault → Type 0
IsAnswer seen moment images payload made log left first second (Ok x) =
    (next : LogState) × (left ≡ Some next) × IsNext log next payload × IsMounted seen moment images next first second × (laid payload (target log.chosen).held.world ≡ Some made)
    × ((target log.chosen).place + more_of log payload ≤ log.most)
IsAnswer seen moment images payload made log left first second (Err (StoreFull end more)) = (left ≡ None) × (end ≡ (target log.chosen).place) × (more ≡ more_of log payload) × (log.most < end + more)
    × IsMounted seen moment images log first second
IsAnswer seen moment images payload made log left first second (Err DiskFault) = left ≡ None
IsAnswer seen moment images payload made log left first second (Err NoMemory) = left ≡ None
IsAnswer seen moment images payload made log left first second (Err fault) = ⊥

-- What is kept of both disks while such a batch is written, and what the log answers.
pub record Appended {D : Type 0} (seen : D → List ℕ) (moment : D → ℕ) (images : D → ℕ → List ℕ → Type 0) (payload : List ℕ) (made : Kept) (log : LogState) (left : Option LogState) (first second first' second' : D) (r : Result (Unit {0}) LogFault) : Type 0 where
  pub any : LeavesBoth moment images first second first' second' (LoadsEither log.chosen (after_batch log.chosen payload made))
  pub answer : IsAnswer seen moment images payload made log left first' second' r

-- why a dump failed that was made on disks that tell their bytes, if it did
abbrev pub IsDumpFault : Option LogFault → Type 0
IsDumpFault None = Unit {0}
IsDumpFault (Some DiskFault) = Unit {0}
IsDumpFault (Some (StoreFull end more)) = Unit {0}
IsDumpFault (Some fault) = ⊥

-- The batch that is too large is one of the world as it is now, on the store that the disks hold, which is one after a front of its history.
pub record IsFull {D : Type 0} (seen : D → List ℕ) (first second : D) (mounted : ℕ) (h : History) (end more : ℕ) : Type 0 where
  pub n : ℕ
  pub store : Chosen
  pub shown : store_of (seen first) (seen second) ≡ Ok store
  pub front : IsFront h.start mounted h.entries h.notes n store
  pub place : end ≡ (target store).place
  pub size : more ≡ more_of (log_of store) (dump_payload store (after h.start h.entries))
  pub over : file_most < end + more

-- What is kept of both disks behind a dump that was made at once, by its answer.
pub record Dumps {D E : Type 0} (seen : D → List ℕ) (moment : D → ℕ) (images : D → ℕ → List ℕ → Type 0) (faults : D → ℕ) (log : Option LogState) (first second : D) (mounted : ℕ) (h : History) (r : Result (Option LogFault) E) : Type 0 where
  pub safe : IsSafe moment images faults first second h.start mounted h.entries h.notes
  pub rests : OnOk r (Rests seen moment images faults log first second mounted h)
  pub whole : IfOk r (λ o. o ≡ None → StandsWhole moment images first second h.start h.entries)
  pub full : IfOk r (λ o. (end more : ℕ) → o ≡ Some (StoreFull end more) → IsFull seen first second mounted h end more)
  pub fault : IfOk r IsDumpFault
  pub rose : IfOk r (λ o. o ≡ Some DiskFault → RoseInLast h.notes)

-- Memory was wanted: before a dump, for its batch, for the log, or for telling how it came out.
pub data Dies (party : ℕ) (h k : History) : Type 0 where
  first : k ≡ entered h (by party Died) → Dies party h k
  begun : (a : Note) → k ≡ entered (noted h a) (by party Died) → Dies party h k
  cut : (n : ℕ) (a : Note) → k ≡ entered (entered (noted h a) (by party (Cut n))) (by party Died) → Dies party h k
  ending : (n : ℕ) (a b : Note) → k ≡ entered (noted (entered (noted h a) (by party (Cut n))) b) (by party Died) → Dies party h k

-- A party made a dump at once: k is the history h with its entries, by its answer.
abbrev pub HasDumped : ℕ → {E : Type 0} → History → History → Result (Option LogFault) E → Type 0
HasDumped party h k (Ok None) = (n : ℕ) × (a : Note) × (b : Note) × (k ≡ entered (noted (entered (noted h a) (by party (Cut n))) b) (by party (Stored n)))
HasDumped party h k (Ok (Some fault)) = (n : ℕ) × (a : Note) × (b : Note) × (k ≡ entered (noted (entered (noted h a) (by party (Cut n))) b) (by party (Failed n)))
HasDumped party h k (Err e) = Dies party h k
