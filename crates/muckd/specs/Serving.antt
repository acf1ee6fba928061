-- What a call for `serve` comes to.
use Rattle.std.specs.Prelude.{◌≡◌, ◌⊎◌, ◌≤◌, ◌^◌, ℕ, Bool, true, false, List, [], ◌∷◌, length, Option, Some, None, Ok, Err}
use Rattle.muck_io.specs.Faults.{Rose}
use Rattle.muck_io.specs.inner.Clock.{Answers}
use Rattle.muck_links.specs.Sessions.{LinksTold}
use Rattle.muck_model.specs.declared.event.Entry.{Entry}
use Rattle.muck_model.specs.declared.note.Note.{Note}
use Rattle.muck_model.specs.declared.note.Counted.{Counted}
use Rattle.muck_log.specs.Store.{Chosen, store_of}
use Rattle.spec_dumps.specs.Survival.{IsSafe, StandsWhole, RoseInLast}
use Rattle.spec_events.specs.World.{World}
use Rattle.spec_events.specs.Histories.{AllLawful, AllLicensed}
use Rattle.spec_events.specs.Passwords.{AllKnown}
use Rattle.spec_events.specs.Sourced.{AllSourced}
use Rattle.spec_denials.specs.Denials.{AllDenialsNamed}
use Rattle.spec_origins.specs.Origins.{AllOrigins}
use Rattle.spec_origins.specs.Seats.{AllSeated}
use Rattle.spec_origins.specs.Stops.{AllStops}
use Rattle.spec_origins.specs.There.{StaysThere}
use Rattle.spec_serve.specs.Marks.{counts_in, IsLinksNote}
use Rattle.spec_serve.specs.Promises.{Tally}
use Rattle.muck_server.specs.Times.{Timely}
use Rattle.muck_server.specs.Shared.{IsShared, AllOver, LeavesWorkedOff}
use Rattle.muck_server.specs.Served.{IsCarried, HasStopped, HasRunOut, HasEnded}
use Rattle.muckd.specs.Words.{Command, serve}
use Rattle.muck_run.specs.Outcome.{IsStart, IsOpened, IsUntouched, IsTooLarge, EndsFull}
use Rattle.muck_why.specs.declared.why.Why.{Why}
use Rattle.muck_why.specs.declared.why.Why.TheVariants.{Fine, NoMemory, DiskFault, Damaged, ListenFault, StoreFull, Spent}
use Rattle.muck_why.specs.Causes.{admitted, row_of}

-- it is the command of a server
abbrev pub is_served : Option Command → Bool
is_served (Some (serve store port workers)) = true
is_served other = false

-- what links tell, with the count of faults in listening
abbrev pub tally_of : {L : Type 0} → (L → LinksTold) → (L → ℕ) → L → Tally
tally_of told listening links = record { told = told links; listening = listening links }

-- The clock, which had these answers, wasn't asked, or once, behind the mounting: then the two files hold a store.
abbrev pub IsAskedOnce : {C : Type 0} → (C → Option (List ℕ)) → Bool → List ℕ → List ℕ → C → C → Type 0
IsAskedOnce answers tells a b c c' = (c' ≡ c) ⊎ ((began : ℕ) × Answers (answers c) (answers c') began × (tells ≡ true → (s : Chosen) × (store_of a b ≡ Ok s)))

-- It never began: nothing happened, nobody was let in (`shows` says that the links tell what they carry), and nothing was written to the
-- files. The links were asked to listen on no port, or once, on this one; and the clock for the second at which it was to begin, or never.
pub record IsUnserved {L C D : Type 0} (shows : Bool) (told : L → LinksTold) (answers : C → Option (List ℕ)) (tells : Bool) (seen : D → List ℕ) (moment : D → ℕ) (images : D → ℕ → List ℕ → Type 0)
    (port : ℕ) (l l' : L) (c c' : C) (first second first' second' : D) (tale : List Entry) (counted : Option Counted) : Type 0 where
  pub empty : tale ≡ []
  pub unnoted : counted ≡ None
  pub nobody : shows ≡ true → (told l').sessions ≡ (told l).sessions
  pub ports : shows ≡ true → ((told l').ports ≡ (told l).ports) ⊎ ((told l').ports ≡ port ∷ (told l).ports)
  pub clock : IsAskedOnce answers tells (seen first) (seen second) c c'
  pub first_file : tells ≡ true → IsUntouched seen moment images first first'
  pub second_file : tells ≡ true → IsUntouched seen moment images second second'

-- A server began, on the world that the two files held, at the second that the clock answered first. One history happened, to which all
-- parties added: each entry was lawful where it stands, and changed only what is open there; what was built and what ran was of the source that its program had there; what a unit
-- was denied, it was by the rule that denies an act that it asked for, and where it went on each of these was allowed; a builder's or a keeper's command that was denied told by which
-- rule and did nothing else; each process was whose it should be and ran what it was started for, and others kept theirs, and so the lines that wait and the editors of connections; nothing
-- ran, was the trigger of a process or was edited that wasn't there any more; only the porter and who may had it stop; and whoever has a player gave its password.
-- Each party did what it may, and that is over, but where all turns were had. The note of the links (`counted`) stands where it belongs. The links were asked to listen once, on this port, and what they carried is what
-- that history says of each connection. Each moment is the greater of what the clock, which had the answers `coming` from then on, answers next, and of the second before
-- it. Of the disks is kept what is kept of a run.
pub record HasServed {L C D : Type 0} (shows : Bool) (told : L → LinksTold) (listening : L → ℕ) (answers : C → Option (List ℕ))
    (tells : Bool) (attached : D → Option (List ℕ)) (seen : D → List ℕ) (moment : D → ℕ) (images : D → ℕ → List ℕ → Type 0) (faults : D → ℕ) (store : List ℕ) (port workers : ℕ) (why : Why)
    (l l' : L) (c c' : C) (first second first' second' : D) (tale : List Entry) (notes : List Note) (counted : Option Counted) : Type 0 where
  pub start : World
  pub began : ℕ
  pub mounted : ℕ
  pub begins : IsStart tells (seen first) (seen second) began start mounted
  pub coming : Option (List ℕ)
  pub clock : Answers (answers c) coming began
  pub opened : IsOpened tells attached seen moment images faults store first second first' second' notes
  pub lawful : AllLawful start tale
  pub licensed : AllLicensed start tale
  pub sourced : AllSourced start tale
  pub denials : AllDenialsNamed start tale
  pub origins : AllOrigins start tale
  pub seats : AllSeated start tale
  pub stops : AllStops start tale
  pub there : StaysThere start tale
  pub passwords : AllKnown start tale
  pub shared : IsShared workers tale
  pub over : ¬ (HasRunOut why tale) → AllOver workers tale
  pub links_note : IsLinksNote counted start tale
  pub carried : shows ≡ true → IsCarried (counts_in counted) (tally_of told listening l) (tally_of told listening l') start tale
  pub ports : shows ≡ true → (told l').ports ≡ port ∷ (told l).ports
  pub timely : Timely coming (answers c') start tale
  pub ended : HasEnded workers (listening l) (listening l') start why tale
  pub worked_off : shows ≡ true → HasStopped why → LeavesWorkedOff (counts_in counted) start tale (tally_of told listening l')
  pub safe : tells ≡ true → IsSafe moment images faults first' second' start mounted tale notes
  pub whole : tells ≡ true → why ≡ Fine → StandsWhole moment images first' second' start tale
  pub full : (end more : ℕ) → tells ≡ true → why ≡ StoreFull end more → IsTooLarge seen first' second' start mounted tale notes end more
  pub failed : tells ≡ true → why ≡ DiskFault → RoseInLast notes

-- Which of the two is so, by the answer.
abbrev pub ServesAs : Why → Type 0 → Type 0 → Type 0
ServesAs why unserved served = admitted (row_of why).serve unserved served

-- A call for `serve`, by its answer.
pub record ServeDone {L C D : Type 0} (shows : Bool) (told : L → LinksTold) (listening : L → ℕ) (answers : C → Option (List ℕ))
    (tells : Bool) (attached : D → Option (List ℕ)) (seen : D → List ℕ) (moment : D → ℕ) (images : D → ℕ → List ℕ → Type 0) (faults : D → ℕ) (store : List ℕ) (port workers : ℕ) (why : Why)
    (l l' : L) (c c' : C) (first second first' second' : D) (tale : List Entry) (notes : List Note) (counted : Option Counted) : Type 0 where
  -- Either nothing happened, nobody was let in, and nothing was written to a file; or one history happened, from the world that the two files held, at the clock's second: all parties added to it,
  -- lawfully, and with leave. It says what the links carried, how the last dump came out, and what the files hold, whatever a crash leaves of them. The answer says which of the two, but for want of
  -- memory and faults of the store.
  pub ends : ServesAs why (IsUnserved shows told answers tells seen moment images port l l' c c' first second first' second' tale counted)
      (HasServed shows told listening answers tells attached seen moment images faults store port workers why l l' c c' first second first' second' tale notes counted)
  -- each answer but `Fine` and want of memory has its cause
  pub listen_fault : why ≡ ListenFault → Rose (listening l) (listening l')
  pub disk_fault : why ≡ DiskFault → Rose (faults first) (faults first') ⊎ Rose (faults second) (faults second')
  pub damaged : (file : Bool) (at : ℕ) → tells ≡ true → why ≡ Damaged file at → store_of (seen first) (seen second) ≡ Err (record { second = file; at = at })
  -- all turns were had
  pub spent : (turns : ℕ) → why ≡ Spent turns → (turns ≡ 2 ^ 62) × (2 ^ 62 ≤ length tale)
  -- where a store loads and no count rose, it was stopped and all was stored, or memory was wanted, or the last dump would pass what a file may have, on what the files hold, or all turns were had
  pub complete : (chosen : Chosen) → tells ≡ true → store_of (seen first) (seen second) ≡ Ok chosen → (Rose (listening l) (listening l') → ⊥) → (Rose (faults first) (faults first') → ⊥) → (Rose (faults second) (faults second') → ⊥)
      → (why ≡ Fine) ⊎ ((why ≡ NoMemory) ⊎ (((end more began : ℕ) × (why ≡ StoreFull end more) × EndsFull tells seen began first second first' second' tale notes end more) ⊎ ((turns : ℕ) × (why ≡ Spent turns))))
