-- What the top call answers.
use Rattle.std.specs.Prelude.{◌≡◌, ◌⊎◌, ◌<◌, ◌≤◌, ℕ, ◌+◌, ◌++◌, Bool, true, if◌then◌else◌, List, [], ◌∷◌, Option, Some, None, Ok, Err, codes}
use Rattle.muck_io.specs.Sink.{Appends}
use Rattle.muck_io.specs.Faults.{Rose}
use Rattle.muck_model.specs.declared.event.Entry.{Entry}
use Rattle.muck_model.specs.declared.event.Event.TheVariants.{Halt, Died, Cut}
use Rattle.muck_model.specs.declared.note.Note.{Note}
use Rattle.muck_log.specs.World.{StoredWorld as Kept, IsFine}
use Rattle.muck_log.specs.Store.{Chosen, LeavesOnly, store_of as stored_in, target}
use Rattle.muck_log.specs.Append.{more_of}
use Rattle.muck_store.specs.Forms.{loaded}
use Rattle.spec_dumps.specs.Fronts.{IsFront, dump_payload, log_of, file_most}
use Rattle.spec_dumps.specs.Survival.{IsSafe, StandsWhole, RoseInLast}
use Rattle.spec_events.specs.World.{World, world_booted}
use Rattle.spec_events.specs.Histories.{after, by_porter, AllLawful, AllLicensed}
use Rattle.spec_events.specs.Passwords.{AllKnown}
use Rattle.spec_events.specs.Sourced.{AllSourced}
use Rattle.spec_denials.specs.Denials.{AllDenialsNamed}
use Rattle.spec_origins.specs.Origins.{AllOrigins}
use Rattle.spec_origins.specs.Seats.{AllSeated}
use Rattle.spec_origins.specs.Stops.{AllStops}
use Rattle.spec_origins.specs.There.{StaysThere}
use Rattle.muck_script.specs.declared.act.Act.{Act}
use Rattle.muck_script.specs.Script.{script_of}
use Rattle.muck_script.specs.Story.{Dumped, stored, failed, outcomes_of, dump_entries, story, transcript_of, transcript}
use Rattle.muck_why.specs.declared.why.Why.{Why}
use Rattle.muck_why.specs.declared.why.Why.TheVariants.{Fine, NoMemory, WriteFault, DiskFault, StoreFull}
use Rattle.muck_why.specs.Causes.{admitted, Ending, row_of, end_of}

-- what was left in the source is this script, where the source tells its bytes
abbrev pub IsScriptIn : Option (List ℕ) → List Act → Type 0
IsScriptIn None acts = Unit {0}
IsScriptIn (Some bytes) acts = script_of bytes ≡ Ok acts

-- the source was read to its end, where it tells its bytes
abbrev pub IsReadOut : Option (List ℕ) → Option (List ℕ) → Type 0
IsReadOut None now = Unit {0}
IsReadOut (Some bytes) now = now ≡ Some []

-- the line of this number is the first that is outside the grammar
abbrev pub IsFirstOutsideScript : Option (List ℕ) → ℕ → Type 0
IsFirstOutsideScript None line = Unit {0}
IsFirstOutsideScript (Some bytes) line = script_of bytes ≡ Err line

-- what was left in the source is a script, and the source tells so
abbrev pub IsScriptLeft : Option (List ℕ) → Type 0
IsScriptLeft None = ⊥
IsScriptLeft (Some bytes) = (acts : List Act) × (script_of bytes ≡ Ok acts)

-- the porter halts a world that isn't stopping
abbrev pub halted : World → List Entry
halted w = if w.stopping then [] else by_porter Halt ∷ []

-- the last dump of a run that broke off: it was made, or memory was wanted for it
abbrev pub IsLastDump : List Entry → Type 0
IsLastDump es = ((o : Dumped) × (es ≡ dump_entries o)) ⊎ ((es ≡ by_porter Died ∷ []) ⊎ ((k : ℕ) × (es ≡ by_porter (Cut k) ∷ by_porter Died ∷ [])))

-- How the tale of a run from w ends that broke off behind these entries: a write fault halts, and the last dump is made all the
-- same; want of memory is Died.
abbrev pub EndsBy : World → Why → List Entry → List Entry → Type 0
EndsBy w WriteFault front ending = (dump : List Entry) × (ending ≡ halted (after w front) ++ dump) × IsLastDump dump
EndsBy w NoMemory front ending = ending ≡ by_porter Died ∷ []
EndsBy w why front ending = ⊥

-- The script was played whole: the tale is its story in the world w, where dumps come out as the tale says, and what was
-- written is its transcript.
pub record PlayedWhole (w : World) (acts : List Act) (before written : Option (List ℕ)) (tale : List Entry) : Type 0 where
  pub history : tale ≡ story acts (outcomes_of tale) w
  pub text : Appends before written (transcript acts (outcomes_of tale) w)

-- a dump that began behind these entries, and didn't come out yet, counts as stored
abbrev pub IsPending : List Entry → List Dumped → Type 0
IsPending front [] = Unit {0}
IsPending front (stored k ∷ []) = (es : List Entry) × (front ≡ es ++ by_porter (Cut k) ∷ [])
IsPending front os = ⊥

-- It broke off: the tale is a front of its story, however the dumps behind that front would have come out, and how such a run
-- ends; a dump that began in that front and didn't come out counts as stored. Of the text of that front a front was written.
pub record BrokeOff (w : World) (why : Why) (acts : List Act) (before written : Option (List ℕ)) (tale : List Entry) : Type 0 where
  pub front : List Entry
  pub pending : List Dumped
  pub began : IsPending front pending
  pub whole : (later : List Dumped) → (rest : List Entry) × (front ++ rest ≡ story acts (outcomes_of front ++ (pending ++ later)) w)
  pub ending : List Entry
  pub ends : EndsBy w why front ending
  pub history : tale ≡ front ++ ending
  pub told : List ℕ
  pub untold : List ℕ
  pub text : told ++ untold ≡ transcript_of w front
  pub appended : Appends before written told

-- the last dump was stored, or it failed
abbrev pub EndsStored : List Entry → Type 0
EndsStored tale = (front : List Entry) × (k : ℕ) × (tale ≡ front ++ dump_entries (stored k))

abbrev pub EndsFailed : List Entry → Type 0
EndsFailed tale = (front : List Entry) × (k : ℕ) × (tale ≡ front ++ dump_entries (failed k))

-- Nothing was written to a disk: it gives the bytes that it gave, and whatever a crash leaves of it at any moment since it might have
-- left before.
pub record IsUntouched {D : Type 0} (seen : D → List ℕ) (moment : D → ℕ) (images : D → ℕ → List ℕ → Type 0) (before now : D) : Type 0 where
  pub gives : seen now ≡ seen before
  pub leaves : LeavesOnly moment images before now (images before (moment before))

-- The run was never begun: the tale is empty, the sink was not touched, and nothing was written to the files.
pub record IsUnbegun {K D : Type 0} (tells : Bool) (seen : D → List ℕ) (moment : D → ℕ) (images : D → ℕ → List ℕ → Type 0) (k l : K) (first second first' second' : D) (tale : List Entry) : Type 0 where
  pub empty : tale ≡ []
  pub sink : l ≡ k
  pub first_file : tells ≡ true → IsUntouched seen moment images first first'
  pub second_file : tells ≡ true → IsUntouched seen moment images second second'

-- How a run of these acts in the world w ends, with the count of faults of the sink. The faults of a store are those of the last dump, of
-- a run that was played whole.
abbrev pub RunsTo : {K : Type 0} → (K → Option (List ℕ)) → (K → ℕ) → World → Ending → List Act → K → K → List Entry → Type 0
RunsTo written faults w Ending.stored acts before now tale = PlayedWhole w acts (written before) (written now) tale × EndsStored tale × (faults now ≡ faults before)
RunsTo written faults w Ending.failed acts before now tale = PlayedWhole w acts (written before) (written now) tale × EndsFailed tale × (faults now ≡ faults before)
RunsTo written faults w Ending.cut acts before now tale = BrokeOff w WriteFault acts (written before) (written now) tale × Rose (faults before) (faults now)
RunsTo written faults w Ending.died acts before now tale = BrokeOff w NoMemory acts (written before) (written now) tale × (faults now ≡ faults before)
RunsTo written faults w end acts before now tale = ⊥

-- that by the answer
abbrev pub HasRun : {K : Type 0} → (K → Option (List ℕ)) → (K → ℕ) → World → Why → List Act → K → K → List Entry → Type 0
HasRun written faults w why acts before now tale = RunsTo written faults w (end_of why) acts before now tale

-- what a call that has read its script says of the source
pub record HasReadScript {S : Type 0} (left : S → Option (List ℕ)) (faults : S → ℕ) (before now : S) (acts : List Act) : Type 0 where
  pub script : IsScriptIn (left before) acts
  pub read : IsReadOut (left before) (left now)
  pub fine : faults now ≡ faults before

-- The world that the run starts from: what the two files held, with nobody connected, at this second, which its random numbers begin
-- with too. Where the disks tell their bytes, that is what these bytes hold, and the number is that of their last batch.
pub record IsStart (tells : Bool) (a b : List ℕ) (began : ℕ) (w : World) (mounted : ℕ) : Type 0 where
  pub kept : Kept
  pub fine : IsFine kept
  pub boots : w ≡ world_booted (loaded kept.objects) kept.tune began began
  pub holds : tells ≡ true → (s : Chosen) × (stored_in a b ≡ Ok s) × (s.held.world ≡ kept) × (s.held.number ≡ mounted)

-- What happened in a run that began in the world w: each entry was lawful where it stands, and changed only what is open there; what was built and what ran was of
-- the source that its program had there; what a unit was denied, it was by the rule that denies an act that it asked for, and where it went on each of these was allowed; a
-- builder's or a keeper's command that was denied told by which rule and did nothing else; each process was whose it should be and ran what it was started for, and others kept
-- theirs, and so the lines that wait and the editors of connections; only the porter and who may had it stop; what wasn't there was nobody's trigger or program, and nobody
-- edited it; whoever has a player gave its password; and the tale and what was written are those of the script that was read.
pub record HasHappened {S K : Type 0} (left : S → Option (List ℕ)) (faults : S → ℕ) (written : K → Option (List ℕ)) (breaks : K → ℕ) (w : World) (why : Why) (s t : S) (k l : K) (tale : List Entry) : Type 0 where
  pub lawful : AllLawful w tale
  pub licensed : AllLicensed w tale
  pub sourced : AllSourced w tale
  pub denials : AllDenialsNamed w tale
  pub origins : AllOrigins w tale
  pub seats : AllSeated w tale
  pub stops : AllStops w tale
  pub there : StaysThere w tale
  pub passwords : AllKnown w tale
  pub acts : List Act
  pub read : HasReadScript left faults s t acts
  pub run : HasRun written breaks w why acts k l tale

-- The files STORE.a and STORE.b of this store were opened, and the store was mounted: until then nothing was written to them, and no count of faults fell. The same files are
-- the two disks in the end. The first note is that of both disks as they were there.
pub record IsOpened {D : Type 0} (tells : Bool) (attached : D → Option (List ℕ)) (seen : D → List ℕ) (moment : D → ℕ) (images : D → ℕ → List ℕ → Type 0) (faults : D → ℕ) (store : List ℕ)
    (first second first' second' : D) (notes : List Note) : Type 0 where
  pub mounted_first : D
  pub mounted_second : D
  pub first_name : tells ≡ true → attached mounted_first ≡ Some (store ++ codes ".a")
  pub second_name : tells ≡ true → attached mounted_second ≡ Some (store ++ codes ".b")
  pub first_now : tells ≡ true → attached first' ≡ Some (store ++ codes ".a")
  pub second_now : tells ≡ true → attached second' ≡ Some (store ++ codes ".b")
  pub first_file : tells ≡ true → IsUntouched seen moment images first mounted_first
  pub second_file : tells ≡ true → IsUntouched seen moment images second mounted_second
  pub first_later : faults first ≤ faults mounted_first
  pub second_later : faults second ≤ faults mounted_second
  pub note : Note
  pub others : List Note
  pub noted : notes ≡ note ∷ others
  pub first_moment : note.first_moment ≡ moment mounted_first
  pub second_moment : note.second_moment ≡ moment mounted_second
  pub first_faults : note.first_faults ≡ faults mounted_first
  pub second_faults : note.second_faults ≡ faults mounted_second

-- The batch of a world after this history would end past the most bytes of a file, on the store that the two files hold, which is the one after a front of the history that
-- is noted by then: it would begin at `end`, and has so many bytes more.
pub record IsTooLarge {D : Type 0} (seen : D → List ℕ) (first second : D) (w : World) (mounted : ℕ) (tale : List Entry) (notes : List Note) (end more : ℕ) : Type 0 where
  pub n : ℕ
  pub store : Chosen
  pub held : stored_in (seen first) (seen second) ≡ Ok store
  pub front : IsFront w mounted tale notes n store
  pub place : end ≡ (target store).place
  pub size : more ≡ more_of (log_of store) (dump_payload store (after w tale))
  pub over : file_most < end + more

-- A run from what the two files held, which began at this second, ended since its last dump is too large for what they hold now.
pub record EndsFull {D : Type 0} (tells : Bool) (seen : D → List ℕ) (began : ℕ) (first second first' second' : D) (tale : List Entry) (notes : List Note) (end more : ℕ) : Type 0 where
  pub start : World
  pub mounted : ℕ
  pub begins : IsStart tells (seen first) (seen second) began start mounted
  pub full : IsTooLarge seen first' second' start mounted tale notes end more

-- A run that began, with its disks: their bytes before, and what is kept of them at each moment since they were mounted, which the first
-- note tells. Where a fault of a disk is answered, a count of faults rose in the last dump.
pub record HasBegun {S K D : Type 0} (left : S → Option (List ℕ)) (faults : S → ℕ) (written : K → Option (List ℕ)) (breaks : K → ℕ)
    (tells : Bool) (attached : D → Option (List ℕ)) (seen : D → List ℕ) (moment : D → ℕ) (images : D → ℕ → List ℕ → Type 0) (fails : D → ℕ) (store : List ℕ) (why : Why)
    (s t : S) (k l : K) (first second first' second' : D) (tale : List Entry) (notes : List Note) : Type 0 where
  pub start : World
  pub mounted : ℕ
  pub begins : IsStart tells (seen first) (seen second) 0 start mounted
  pub happened : HasHappened left faults written breaks start why s t k l tale
  pub opened : IsOpened tells attached seen moment images fails store first second first' second' notes
  pub safe : tells ≡ true → IsSafe moment images fails first' second' start mounted tale notes
  pub whole : tells ≡ true → why ≡ Fine → StandsWhole moment images first' second' start tale
  pub full : (end more : ℕ) → tells ≡ true → why ≡ StoreFull end more → IsTooLarge seen first' second' start mounted tale notes end more
  pub failed : tells ≡ true → why ≡ DiskFault → RoseInLast notes

-- Which of the two is so, by the answer: the run wasn't begun, or it was. What ends a server alone, or what are no words of a command, is no answer.
abbrev pub EndsAs : Why → Type 0 → Type 0 → Type 0
EndsAs why unbegun begun = admitted (row_of why).run unbegun begun
