-- What is kept between the parts of a dump. Each of it stays where the history goes on with entries that are none of a dump.
use Rattle.std.specs.Prelude.{◌≡◌, ℕ, List, [], All, length, Option, Some, None, Result, Ok, Err, Bool, true, false}
use Rattle.std.specs.Option.{option_map_or}
use Rattle.muck_model.specs.declared.tune.Tune.{Tune}
use Rattle.muck_codec.specs.declared.stored.Stored.{Stored}
use Rattle.muck_codec.specs.inner.Stored.{IsStored}
use Rattle.muck_db.specs.inner.Limits.{IsWithinLimits}
use Rattle.muck_model.specs.Parameters.{IsInRange}
use Rattle.spec_live.specs.Objects.{Entry as Object}
use Rattle.spec_live.specs.Consistent.{IsConsistent}
use Rattle.muck_store.specs.inner.Changes.{LeavesOut}
use Rattle.muck_store.specs.Forms.{persist}
use Rattle.muck_log.specs.File.{after_number}
use Rattle.muck_log.specs.Store.{Chosen, LogState, IsMounted, target}
use Rattle.muck_log.specs.Append.{base_of, more_of}
use Rattle.muck_log.specs.declared.fault.LogFault.{LogFault}
use Rattle.muck_log.specs.declared.fault.LogFault.TheVariants.{NoMemory, DiskFault, Damaged, StoreFull, Stale}
use Rattle.spec_events.specs.World.{World}
use Rattle.spec_events.specs.Histories.{History}
use Rattle.spec_dumps.specs.Fronts.{at_cut, last_cut, batch_number_at, dump_payload, log_of, file_most}
use Rattle.spec_dumps.specs.inner.Holding.{Keeps, Rests, FailedLast, IsDumped, RisesInDump, OverflowsAtCut}
use Rattle.muck_dumping.specs.declared.parts.Pending.{Pending}
use Rattle.muck_dumping.specs.declared.store.Store.{Store}
use Rattle.muck_dumping.specs.inner.Dumps.{HasRisen}

-- From one dump to the next: where no log is mounted, a count of faults rose since the last note, for which it couldn't be.
pub record IsReady {D : Type 0} (seen : D → List ℕ) (moment : D → ℕ) (images : D → ℕ → List ℕ → Type 0) (faults : D → ℕ) (log : Option LogState) (first second : D) (mounted : ℕ) (h : History) : Type 0 where
  pub keeps : Keeps seen moment images faults log first second mounted h
  pub risen : log ≡ None → HasRisen faults first second h

-- what the batch of a dump may leave out
abbrev pub base_in : Option LogState → List Stored
base_in log = option_map_or base_of log []

-- the batch is that of a world of these objects and parameters, which can be stored, and each of its records has a spelling
pub record IsBatchOf (base : List Stored) (objects : List Object) (tune : Tune) (p : Pending) : Type 0 where
  pub records : LeavesOut base (persist objects) p.batch.records
  pub storable : All IsStored p.batch.records
  pub tuning : p.batch.tune ≡ tune
  pub size : p.size ≡ length objects
  pub consistent : IsConsistent objects
  pub limits : IsWithinLimits objects
  pub tuned : IsInRange tune

-- the same of a world
abbrev pub IsBatchOfWorld : List Stored → World → Pending → Type 0
IsBatchOfWorld base w p = IsBatchOf base w.live.objects w.live.board.tune p

-- the same of the world at the last Cut of a history
abbrev pub IsBatchAtCut : List Stored → History → Pending → Type 0
IsBatchAtCut base h p = IsBatchOfWorld base (at_cut h.start h.entries) p

-- Dumps by the marks of the objects.

-- where dumps go by marks, a log that is mounted keeps these objects
abbrev pub HoldsThese : Bool → Option LogState → List Object → Type 0
HoldsThese marks log objects = marks ≡ true → (x : LogState) → log ≡ Some x → x.chosen.held.world.objects ≡ persist objects

-- those of the world at its last Cut, from which it differs in what is due alone
abbrev pub GoesByMarks : Bool → Option LogState → History → Type 0
GoesByMarks marks log h = HoldsThese marks log (at_cut h.start h.entries).live.objects

-- The number of the next dump: one more than that of the store on which the log stands, or the one that is kept where none is mounted.
abbrev pub next_number : Store → ℕ
next_number store = option_map_or (λ (log : LogState). after_number log.chosen.held.number) store.log store.number

-- What a store knows of the history, from one dump to the next: what goes by marks, and, where no log is mounted, which number the dump had that failed last.
pub record Knows (store : Store) (h : History) : Type 0 where
  pub marks : GoesByMarks store.marks store.log h
  pub number : store.log ≡ None → FailedLast store.number h

-- A dump is pending: its Cut is the last one, with the last note; the disks are as they stood then; and its batch is that of the world at
-- its Cut. Where no log is mounted it is to fail.
pub record IsPending {D : Type 0} (seen : D → List ℕ) (moment : D → ℕ) (images : D → ℕ → List ℕ → Type 0) (faults : D → ℕ) (log : Option LogState) (first second : D) (mounted : ℕ) (h : History) (p : Pending) : Type 0 where
  pub rests : Rests seen moment images faults log first second mounted h
  pub number : (x : LogState) → log ≡ Some x → batch_number_at mounted h.entries (last_cut h.entries) ≡ after_number x.chosen.held.number
  pub batch : IsBatchAtCut (base_in log) h p
  pub fails : log ≡ None → RisesInDump faults first second h

-- the batch of the world at the last Cut is too large for its file, on the store that both disks hold
abbrev pub IsFullAtCut : {D : Type 0} → (D → ℕ) → (D → ℕ → List ℕ → Type 0) → D → D → ℕ → History → ℕ → ℕ → Type 0
IsFullAtCut moment images first second mounted h end more = (store : Chosen) × OverflowsAtCut moment images first second mounted h store
    × (end ≡ (target store).place) × (more ≡ more_of (log_of store) (dump_payload store (at_cut h.start h.entries)))

-- what is left of the log, by what it answered to the batch
abbrev pub IsLeft : {D : Type 0} → (D → List ℕ) → (D → ℕ) → (D → ℕ → List ℕ → Type 0) → (D → ℕ) → Option LogState → D → D → ℕ → History → Result (Unit {0}) LogFault → Type 0
IsLeft seen moment images faults log first second mounted h (Ok x) =
    (next : LogState) × (log ≡ Some next) × IsMounted seen moment images next first second × (next.most ≡ file_most) × IsDumped images first second mounted h next.chosen
IsLeft seen moment images faults log first second mounted h (Err NoMemory) = log ≡ None
IsLeft seen moment images faults log first second mounted h (Err DiskFault) = (log ≡ None) × RisesInDump faults first second h
IsLeft seen moment images faults log first second mounted h (Err Stale) = (log ≡ None) × RisesInDump faults first second h
IsLeft seen moment images faults log first second mounted h (Err (StoreFull end more)) = (log ≡ None) × IsFullAtCut moment images first second mounted h end more
IsLeft seen moment images faults log first second mounted h (Err (Damaged on place)) = ⊥

-- The batch of the dump whose Cut is the last one was handed to the log: what is kept of the disks, whatever came of it.
pub record IsWritten {D : Type 0} (seen : D → List ℕ) (moment : D → ℕ) (images : D → ℕ → List ℕ → Type 0) (faults : D → ℕ) (log : Option LogState) (first second : D) (mounted : ℕ) (h : History) (r : Result (Unit {0}) LogFault) : Type 0 where
  pub keeps : Keeps seen moment images faults None first second mounted h
  pub left : IsLeft seen moment images faults log first second mounted h r

-- this is how the dump has to end
abbrev pub EndsAs : Result (Unit {0}) LogFault → Bool → Type 0
EndsAs (Ok x) true = Unit {0}
EndsAs (Err DiskFault) false = Unit {0}
EndsAs (Err Stale) false = Unit {0}
EndsAs (Err (StoreFull end more)) false = Unit {0}
EndsAs r done = ⊥
