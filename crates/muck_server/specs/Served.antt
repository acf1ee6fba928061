-- What a call of `serve` comes to.
use Rattle.std.specs.Prelude.{◌≡◌, ◌⊎◌, ◌≤◌, ◌^◌, ℕ, Bool, true, false, if◌then◌else◌, List, [], ◌∷◌, ◌++◌, length, slice_get, Option, Some, None}
use Rattle.muck_io.specs.Faults.{Rose}
use Rattle.muck_links.specs.Sessions.{Session}
use Rattle.muck_model.specs.declared.event.Entry.{Entry}
use Rattle.muck_model.specs.declared.event.Event.TheVariants.{Cut, Stored, DumpFailed, Died}
use Rattle.muck_model.specs.declared.note.Note.{Note}
use Rattle.muck_model.specs.declared.note.Counted.{Counted}
use Rattle.turn_lock.specs.Histories.{StartsWith}
use Rattle.spec_dumps.specs.Survival.{IsSafe, RoseInLast, StandsWhole}
use Rattle.spec_events.specs.World.{World}
use Rattle.spec_events.specs.Histories.{after, by_porter, AllLawful}
use Rattle.spec_talks.specs.Talks.{Talk, talks, talks_with, bytes_sent}
use Rattle.spec_serve.specs.Marks.{LinksNote, counts_in, IsLinksNote}
use Rattle.spec_serve.specs.Accounts.{Agrees}
use Rattle.spec_serve.specs.Promises.{Tally, PromisedOf, sessions_with}
use Rattle.muck_crew.specs.inner.Kept.{Account}
use Rattle.muck_crew.specs.Times.{Timely}
use Rattle.muck_crew.specs.inner.Dumps.{IsFull}
use Rattle.muck_crew.specs.Shared.{IsParty, IsShared, AllOver, EndsStopped, LeavesWorkedOff}
use Rattle.muck_why.specs.declared.why.Why.{Why}
use Rattle.muck_why.specs.declared.why.Why.TheVariants.{Fine, NoMemory, DiskFault, Damaged, StoreFull}
use Rattle.muck_why.specs.Causes.{Ending, end_of}

-- What the links carried.

-- the opening of a number at each place belongs to its acceptance at that place, to which a front of what was taken for it was written
abbrev pub AgreesByNumber : LinksNote → World → List Entry → List Session → Type 0
AgreesByNumber counted w tale mine = (d place : ℕ) (t : Talk) → slice_get (talks_with d (talks w tale)) place ≡ Some t
    → (s : Session) × (slice_get (sessions_with d mine) place ≡ Some s) × Agrees counted t s × StartsWith (bytes_sent w tale d place) s.written

-- What links that tell what they carry told before the call and tell now, against what happened in the world w.
pub record IsCarried (counted : LinksNote) (before now : Tally) (w : World) (tale : List Entry) : Type 0 where
  pub promised : PromisedOf counted before w tale now
  pub by_number : AgreesByNumber counted w tale promised.mine

-- How it ended.

-- a dump that is over at once, by the first party: it was stored, or it failed
abbrev pub last_dump : ℕ → Bool → List Entry
last_dump k done = by_porter (Cut k) ∷ by_porter (if done then Stored k else DumpFailed k) ∷ []

-- Each party saw the stop, and did nothing behind that; then the first party made the last dump, which was stored, or failed.
pub record Closes (workers k : ℕ) (done : Bool) (tale : List Entry) : Type 0 where
  pub front : List Entry
  pub whole : tale ≡ front ++ last_dump k done
  pub last : (party : ℕ) → IsParty workers party → EndsStopped party front

-- a last dump, or memory was wanted for it
abbrev pub IsLast : List Entry → Type 0
IsLast es = ((k : ℕ) × (done : Bool) × (es ≡ last_dump k done)) ⊎ ((es ≡ by_porter Died ∷ []) ⊎ ((k : ℕ) × (es ≡ by_porter (Cut k) ∷ by_porter Died ∷ [])))

-- the first party saw the stop, and then a last dump was made, or memory was wanted for it
abbrev pub StopsAll : List Entry → Type 0
StopsAll tale = (front : List Entry) × (dump : List Entry) × (tale ≡ front ++ dump) × EndsStopped 0 front × IsLast dump

-- How it ended, with the count of faults in listening.
abbrev pub EndsTo : ℕ → ℕ → ℕ → World → Ending → List Entry → Type 0
EndsTo workers faults faults' w Ending.stored tale = (k : ℕ) × Closes workers k true tale
EndsTo workers faults faults' w Ending.failed tale = (k : ℕ) × Closes workers k false tale
EndsTo workers faults faults' w Ending.deaf tale = Rose faults faults' × StopsAll tale
EndsTo workers faults faults' w Ending.died tale = (after w tale).dead ≡ true
EndsTo workers faults faults' w (Ending.spent turns) tale = (turns ≡ 2 ^ 62) × (2 ^ 62 ≤ length tale)
EndsTo workers faults faults' w end tale = ⊥

-- that by the answer
abbrev pub HasEnded : ℕ → ℕ → ℕ → World → Why → List Entry → Type 0
HasEnded workers faults faults' w why tale = EndsTo workers faults faults' w (end_of why) tale

-- it ended behind the stop that each party saw, or the first one alone
abbrev pub EndsBehindStop : Ending → Type 0
EndsBehindStop Ending.died = ⊥
EndsBehindStop (Ending.spent turns) = ⊥
EndsBehindStop end = Unit {0}

abbrev pub HasStopped : Why → Type 0
HasStopped why = EndsBehindStop (end_of why)

-- all turns were had, before each party was told why the run ended
abbrev pub EndsRunOut : Ending → List Entry → Type 0
EndsRunOut (Ending.spent turns) tale = Unit {0}
EndsRunOut Ending.died tale = 2 ^ 62 ≤ length tale
EndsRunOut end tale = ⊥

abbrev pub HasRunOut : Why → List Entry → Type 0
HasRunOut why tale = EndsRunOut (end_of why) tale

-- It never began: memory was wanted, nothing happened, nobody was let in, the clock wasn't asked, and the files weren't touched. The links were asked to listen on no port, or
-- once, on this one.
pub record IsUnserved {D : Type 0} (shows : Bool) (before now : Account) (port : ℕ) (why : Why) (first second first' second' : D) (tale : List Entry) (counted : Option Counted) : Type 0 where
  pub wanted : why ≡ NoMemory
  pub empty : tale ≡ []
  pub unnoted : counted ≡ None
  pub nobody : shows ≡ true → now.links.told.sessions ≡ before.links.told.sessions
  pub ports : shows ≡ true → (now.links.told.ports ≡ before.links.told.ports) ⊎ (now.links.told.ports ≡ port ∷ before.links.told.ports)
  pub clock : now.answers ≡ before.answers
  pub first_file : first' ≡ first
  pub second_file : second' ≡ second

-- One history happened in the world w, to which all parties added: each entry was lawful where it stands, and what each party did is over, but where all turns were had. The
-- note of the links is the tale's, and stands where it has to. The links were asked once to listen, on this port; what they carried is what that history says of each
-- connection; each of its moments is the clock's next answer, or the second before it where that is later; and of the disks is kept what is kept of a run. `before` and `now`
-- are what links and clock tell, the links where they tell what they carry (`shows`).
pub record IsServed {D : Type 0} (shows tells : Bool) (before now : Account) (seen : D → List ℕ) (moment : D → ℕ) (images : D → ℕ → List ℕ → Type 0) (faults : D → ℕ) (workers port : ℕ) (why : Why)
    (w : World) (mounted : ℕ) (mounting : Note) (first second first' second' : D) (tale : List Entry) (notes : List Note) (counted : Option Counted) : Type 0 where
  pub since : List Note
  pub noted : notes ≡ mounting ∷ since
  pub lawful : AllLawful w tale
  pub shared : IsShared workers tale
  pub over : ¬ (HasRunOut why tale) → AllOver workers tale
  pub marked : IsLinksNote counted w tale
  pub carried : shows ≡ true → IsCarried (counts_in counted) before.links now.links w tale
  pub ports : shows ≡ true → now.links.told.ports ≡ port ∷ before.links.told.ports
  pub timely : Timely before.answers now.answers w tale
  pub worked_off : shows ≡ true → HasStopped why → LeavesWorkedOff (counts_in counted) w tale now.links
  pub ended : HasEnded workers before.links.listening now.links.listening w why tale
  pub safe : tells ≡ true → IsSafe moment images faults first' second' w mounted tale notes
  pub whole : tells ≡ true → why ≡ Fine → StandsWhole moment images first' second' w tale
  pub full : (end more : ℕ) → tells ≡ true → why ≡ StoreFull end more → IsFull seen first' second' mounted (record { start = w; entries = tale; notes = notes; counted = counted }) end more
  pub failed : why ≡ DiskFault → Rose (faults first) (faults first') ⊎ Rose (faults second) (faults second')
  pub rose : tells ≡ true → why ≡ DiskFault → RoseInLast notes
  pub undamaged : (second : Bool) (at : ℕ) → tells ≡ true → why ≡ Damaged second at → ⊥
