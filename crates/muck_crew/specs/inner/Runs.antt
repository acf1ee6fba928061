-- What all parts of a server come to, once each has returned.
use Rattle.std.specs.Prelude.{◌≡◌, ◌⊎◌, ℕ, ◌<◌, ◌≤◌, ◌^◌, Bool, true, false, List, [], ◌∷◌, ◌++◌, length, slice_get, Option, Some, None}
use Rattle.muck_io.specs.Faults.{Rose}
use Rattle.muck_log.specs.Store.{LogState}
use Rattle.muck_model.specs.declared.note.Note.{Note}
use Rattle.spec_dumps.specs.inner.Holding.{Keeps}
use Rattle.spec_dumps.specs.Survival.{IsSafe}
use Rattle.spec_events.specs.Histories.{History, now, AllLawful}
use Rattle.spec_events.specs.Logged.{IsPlaced}
use Rattle.spec_serve.specs.Marks.{counts_in, IsLinksNote}
use Rattle.spec_serve.specs.Promises.{PromisedOf}
use Rattle.muck_dumper.specs.inner.Between.{IsReady as HasLog}
use Rattle.muck_porter.specs.inner.Kept.{Account}
use Rattle.muck_porter.specs.Times.{Timely}
use Rattle.muck_porter.specs.declared.porting.Why.{Why as PorterWhy}
use Rattle.muck_porter.specs.declared.porting.Why.TheVariants as porter
use Rattle.muck_dumper.specs.declared.dumping.Why.{Why as DumperWhy}
use Rattle.muck_dumper.specs.declared.dumping.Why.TheVariants as dumper
use Rattle.muck_worker.specs.declared.working.Why.{Why as WorkerWhy}
use Rattle.muck_worker.specs.declared.working.Why.TheVariants as worker
use Rattle.muck_crew.specs.declared.seats.Part.{Part}
use Rattle.muck_crew.specs.declared.serving.Way.{Way}
use Rattle.muck_crew.specs.declared.serving.Way.TheVariants.{Stopped, Deaf, Wanted, Alone, Spent}
use Rattle.muck_crew.specs.Shared.{IsParty, IsShared, AllOver, EndsStopped, LeavesWorkedOff}

-- Nothing has happened yet but the mounting, nobody is connected, no dump runs, and the world isn't stopping.
pub record IsFresh (mounting : Note) (h : History) : Type 0 where
  pub entries : h.entries ≡ []
  pub notes : h.notes ≡ mounting ∷ []
  pub counted : h.counted ≡ None
  pub nobody : h.start.live.board.connections ≡ []
  pub idle : h.start.dumps.running ≡ None
  pub going : h.start.stopping ≡ false

-- How the workers ended, together.

abbrev pub SomeWorker : WorkerWhy → List Part → Type 0
SomeWorker why parts = (i : ℕ) × (p : Part) × (slice_get parts i ≡ Some p) × (p.why ≡ why)

-- the first so many
abbrev pub FineTo : ℕ → List Part → Type 0
FineTo n parts = (i : ℕ) (p : Part) → i < n → slice_get parts i ≡ Some p → p.why ≡ worker.Fine

abbrev pub AllFine : List Part → Type 0
AllFine parts = (i : ℕ) (p : Part) → slice_get parts i ≡ Some p → p.why ≡ worker.Fine

abbrev pub IsWhy : WorkerWhy → List Part → Type 0
IsWhy worker.Fine parts = AllFine parts
IsWhy worker.NoMemory parts = SomeWorker worker.NoMemory parts
IsWhy worker.Spent parts = SomeWorker worker.Spent parts

-- How all parts ended, together.
abbrev pub IsEndOf : Way → PorterWhy → DumperWhy → List Part → Type 0
IsEndOf Stopped p d parts = (p ≡ porter.Fine) × (d ≡ dumper.Fine) × AllFine parts
IsEndOf Deaf p d parts = (p ≡ porter.ListenFault) × (d ≡ dumper.Fine) × AllFine parts
IsEndOf Wanted p d parts = (d ≡ dumper.NoMemory) ⊎ SomeWorker worker.NoMemory parts
IsEndOf Alone p d parts = (d ≡ dumper.Fine) × AllFine parts
IsEndOf Spent p d parts = (p ≡ porter.Spent) ⊎ ((d ≡ dumper.Spent) ⊎ SomeWorker worker.Spent parts)

-- each party has seen the stop
abbrev pub HasStopped : Way → Type 0
HasStopped way = (way ≡ Stopped) ⊎ (way ≡ Deaf)

-- What all parts left: h is the history of the world once each has returned, and `world` was what it began with. Each entry was lawful, and of one of
-- the parties, and what each of them did is well formed, and over unless all turns were had; its moments are what the clock answered; the note of the links stands where it
-- has to; what the links carried is what the history says, and they were asked to listen on no port; of the disks is kept what is kept of a run; and how it ended.
pub record HasRun {D : Type 0} (tells : Bool) (seen : D → List ℕ) (moment : D → ℕ) (images : D → ℕ → List ℕ → Type 0) (faults : D → ℕ) (shows : Bool) (before after : Account) (workers : ℕ) (way : Way)
    (log log' : Option LogState) (first second first' second' : D) (world h : History) : Type 0 where
  pub start : h.start ≡ world.start
  pub since : List Note
  pub noted : h.notes ≡ world.notes ++ since
  pub placed : IsPlaced h
  pub lawful : AllLawful h.start h.entries
  pub shared : IsShared workers h.entries
  pub over : length h.entries < 2 ^ 62 → AllOver workers h.entries
  pub marked : IsLinksNote h.counted h.start h.entries
  pub promised : shows ≡ true → PromisedOf (counts_in h.counted) before.links h.start h.entries after.links
  pub ports : shows ≡ true → after.links.told.ports ≡ before.links.told.ports
  pub timely : Timely before.answers after.answers h.start h.entries
  pub worked_off : shows ≡ true → HasStopped way → LeavesWorkedOff (counts_in h.counted) h.start h.entries after.links
  pub last : HasStopped way → (party : ℕ) → IsParty workers party → EndsStopped party h.entries
  pub fault : way ≡ Deaf → Rose before.links.listening after.links.listening
  pub later : before.links.listening ≤ after.links.listening
  pub dead : way ≡ Wanted → (now h).dead ≡ true
  pub alone : way ≡ Alone → EndsStopped 9 h.entries
  pub spent : way ≡ Spent → 2 ^ 62 ≤ length h.entries
  pub safe : (mounted : ℕ) → tells ≡ true → HasLog seen moment images faults log first second mounted world → IsSafe moment images faults first' second' h.start mounted h.entries h.notes
  pub ready : HasStopped way → (mounted : ℕ) → tells ≡ true → HasLog seen moment images faults log first second mounted world → Keeps seen moment images faults log' first' second' mounted h
  pub idle : HasStopped way → (now h).dumps.running ≡ None
  pub first_later : faults first ≤ faults first'
  pub second_later : faults second ≤ faults second'
