-- What a run comes to, from the log that was mounted.
use Rattle.std.specs.Prelude.{◌≡◌, ℕ, ◌≤◌, Bool, true, false, List, [], ◌∷◌, length, Option, None, Err}
use Rattle.std.specs.List.{list_all}
use Rattle.muck_model.specs.declared.event.Entry.{Entry}
use Rattle.muck_model.specs.declared.note.Note.{Note}
use Rattle.muck_store.specs.Forms.{loaded}
use Rattle.muck_model.specs.Parameters.{tune_fits}
use Rattle.muck_store.specs.Limits.{record_fits}
use Rattle.muck_store.specs.Whole.{is_whole_store}
use Rattle.muck_log.specs.World.{StoredWorld as Kept}
use Rattle.muck_log.specs.Store.{LogState, store_of}
use Rattle.muck_log.specs.declared.fault.LogFault.{LogFault}
use Rattle.muck_log.specs.declared.fault.LogFault.TheVariants.{NoMemory as LogMemory, DiskFault as LogDisk, Damaged as LogDamaged, StoreFull as LogFull, Stale}
use Rattle.spec_dumps.specs.Survival.{IsSafe, StandsWhole, RoseInLast}
use Rattle.spec_events.specs.World.{World, world_booted}
use Rattle.muck_model.specs.declared.event.Event.TheVariants.{Died}
use Rattle.spec_events.specs.Histories.{History, Longer, noted, by_porter, AllLawful}
use Rattle.muck_script.specs.declared.act.Act.{Act}
use Rattle.muck_run.specs.Outcome.{HasRun, IsFirstOutsideScript, IsTooLarge}
use Rattle.muck_run.specs.inner.Dumps.{IsFull, ComesOut}
use Rattle.muck_run.specs.inner.Plays.{Plays, Breaks}
use Rattle.muck_script.specs.Story.{failed, dump_entries, dump_part}
use Rattle.muck_why.specs.declared.why.Why.{Why}
use Rattle.muck_why.specs.declared.why.Why.TheVariants.{Fine, BadScript, NoMemory, ReadFault, DiskFault, Damaged, StoreFull}
use Rattle.muck_why.specs.Causes.{Ending, end_of}
use Rattle.muck_why.specs.inner.Endings.{EndsDump, EndsRun}

-- why a call ends whose store couldn't be mounted
abbrev pub refusal_of : LogFault → Why
refusal_of LogMemory = NoMemory
refusal_of LogDisk = DiskFault
refusal_of (LogDamaged second at) = Damaged second at
refusal_of (LogFull end more) = Damaged false 0
refusal_of Stale = Damaged false 0

-- why the files weren't opened
abbrev pub MayNotOpen : Why → Type 0
MayNotOpen NoMemory = Unit {0}
MayNotOpen DiskFault = Unit {0}
MayNotOpen why = ⊥

-- why no store was mounted, where the disks tell their bytes
abbrev pub IsMountWhy : List ℕ → List ℕ → Why → Type 0
IsMountWhy a b (Damaged second at) = store_of a b ≡ Err (record { second = second; at = at })
IsMountWhy a b NoMemory = Unit {0}
IsMountWhy a b DiskFault = Unit {0}
IsMountWhy a b why = ⊥

-- and where they don't
abbrev pub MayRefuse : Why → Type 0
MayRefuse (Damaged second at) = Unit {0}
MayRefuse NoMemory = Unit {0}
MayRefuse DiskFault = Unit {0}
MayRefuse why = ⊥

-- why no script was read
abbrev pub IsScriptWhy : Option (List ℕ) → Why → Type 0
IsScriptWhy left (BadScript line) = IsFirstOutsideScript left line
IsScriptWhy left NoMemory = Unit {0}
IsScriptWhy left ReadFault = Unit {0}
IsScriptWhy left why = ⊥

-- the kept world makes objects that hang together
pub record IsBootable (kept : Kept) : Type 0 where
  pub few : length kept.objects ≤ 100000
  pub whole : is_whole_store kept.objects ≡ true
  pub fit : list_all record_fits kept.objects ≡ true
  pub tuned : tune_fits kept.tune ≡ true

-- the world of a kept one at this second, which its random numbers begin with too; nothing has happened in it yet
abbrev pub booted_at : ℕ → Kept → World
booted_at began kept = world_booted (loaded kept.objects) kept.tune began began

-- a script begins at the second 0
abbrev pub booted_from : Kept → World
booted_from kept = booted_at 0 kept

-- a note is that of these disks
pub record IsNoteOf {D : Type 0} (moment : D → ℕ) (faults : D → ℕ) (first second : D) (note : Note) : Type 0 where
  pub first_moment : note.first_moment ≡ moment first
  pub second_moment : note.second_moment ≡ moment second
  pub first_faults : note.first_faults ≡ faults first
  pub second_faults : note.second_faults ≡ faults second

-- and it is the first one
pub record IsNotedAt {D : Type 0} (moment : D → ℕ) (faults : D → ℕ) (first second : D) (notes : List Note) : Type 0 where
  pub note : Note
  pub others : List Note
  pub noted : notes ≡ note ∷ others
  pub is : IsNoteOf moment faults first second note

-- A run on the log that was mounted.
pub record HasPlayed {K D : Type 0} (written : K → Option (List ℕ)) (breaks : K → ℕ) (tells : Bool) (seen : D → List ℕ) (moment : D → ℕ) (images : D → ℕ → List ℕ → Type 0) (faults : D → ℕ) (log : LogState) (why : Why) (acts : List Act)
    (k l : K) (first second first' second' : D) (tale : List Entry) (notes : List Note) : Type 0 where
  pub lawful : AllLawful (booted_from log.chosen.held.world) tale
  pub run : HasRun written breaks (booted_from log.chosen.held.world) why acts k l tale
  pub noted : IsNotedAt moment faults first second notes
  pub safe : tells ≡ true → IsSafe moment images faults first' second' (booted_from log.chosen.held.world) log.chosen.held.number tale notes
  pub whole : tells ≡ true → why ≡ Fine → StandsWhole moment images first' second' (booted_from log.chosen.held.world) tale
  pub full : (end more : ℕ) → tells ≡ true → why ≡ StoreFull end more → IsTooLarge seen first' second' (booted_from log.chosen.held.world) log.chosen.held.number tale notes end more
  pub failed : tells ≡ true → why ≡ DiskFault → RoseInLast notes

-- memory was wanted before it began
pub record NeverPlayed {K D : Type 0} (why : Why) (k l : K) (first second first' second' : D) (tale : List Entry) : Type 0 where
  pub wanted : why ≡ NoMemory
  pub empty : tale ≡ []
  pub sink : l ≡ k
  pub first_file : first' ≡ first
  pub second_file : second' ≡ second

-- why a run ends that began
abbrev pub MayEnd : Bool → Why → Type 0
MayEnd tells (Damaged second at) = tells ≡ true → ⊥
MayEnd tells why = EndsRun (end_of why)

-- before anything was noted, and with the note of the mounting
abbrev pub unbegun_at : ℕ → LogState → History
unbegun_at began log = record { start = booted_at began log.chosen.held.world; entries = []; notes = []; counted = None }

abbrev pub begun_at : ℕ → LogState → Note → History
begun_at began log note = noted (unbegun_at began log) note

-- the last dump of a run, by how the run ends if it was played whole
abbrev pub PlaysTo : History → History → Option (List ℕ) → Ending → Type 0
PlaysTo h k o Ending.died = Breaks dump_part (by_porter Died ∷ []) h k o o
PlaysTo h k o end = Plays dump_part h k o o

-- and how that dump came out
abbrev pub ComesOutTo : History → History → Ending → Type 0
ComesOutTo h k Ending.stored = ComesOut h k None
ComesOutTo h k Ending.died = Unit {0}
ComesOutTo h k end = (n : ℕ) × Longer h k (dump_entries (failed n))

-- both by why it ends
abbrev pub EndsPlay : History → History → Option (List ℕ) → Why → Type 0
EndsPlay h k o why = PlaysTo h k o (end_of why)

abbrev pub ComesOutAs : History → History → Why → Type 0
ComesOutAs h k why = ComesOutTo h k (end_of why)

-- What is kept of both disks behind the last dump.
pub record LastKept {D : Type 0} (seen : D → List ℕ) (moment : D → ℕ) (images : D → ℕ → List ℕ → Type 0) (faults : D → ℕ) (first second : D) (mounted : ℕ) (h : History) (why : Why) : Type 0 where
  pub safe : IsSafe moment images faults first second h.start mounted h.entries h.notes
  pub whole : why ≡ Fine → StandsWhole moment images first second h.start h.entries
  pub full : (end more : ℕ) → why ≡ StoreFull end more → IsFull seen first second mounted h end more
  pub failed : why ≡ DiskFault → RoseInLast h.notes

-- why a last dump lets a run end that was played whole
abbrev pub MayEndDump : Bool → Why → Type 0
MayEndDump tells (Damaged second at) = tells ≡ true → ⊥
MayEndDump tells why = EndsDump (end_of why)
