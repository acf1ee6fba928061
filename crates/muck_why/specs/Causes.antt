-- The causes for which a call ends: one table of their statuses, of the names by which they are shown, and of what they admit.
use Rattle.std.specs.Prelude.{◌⊎◌, ℕ, false, List, codes}
use Rattle.muck_log.specs.declared.fault.LogFault.{LogFault}
use Rattle.muck_log.specs.declared.fault.LogFault.TheVariants as fault
use Rattle.muck_why.specs.declared.why.Why.{Why}
use Rattle.muck_why.specs.declared.why.Why.TheVariants.{Fine, Usage, BadScript, NoMemory, ReadFault, WriteFault, DiskFault, Damaged, ListenFault, StoreFull, Spent}

-- Whether a command that answers a cause was begun: never does it answer it; it wasn't begun; it was; or one of the two.
pub data Admits : Type 0 where
  never : Admits
  unbegun : Admits
  begun : Admits
  either : Admits

abbrev pub admitted : Admits → Type 0 → Type 0 → Type 0
admitted never early late = ⊥
admitted unbegun early late = early
admitted begun early late = late
admitted either early late = early ⊎ late

-- How a run or a server that was begun comes to its end: the work was done and the last dump was stored; it was done and the last dump failed; memory was wanted; the sink failed; listening failed; so
-- many turns were had, and there are no more. Or it comes to no such end.
pub data Ending : Type 0 where
  stored : Ending
  failed : Ending
  died : Ending
  cut : Ending
  deaf : Ending
  spent : ℕ → Ending
  none : Ending

-- What is so of a cause: the exit status, the name by which it is shown, what it admits of `run` and `debug`, of `mirror` and of `serve`, and how what was begun ends.
pub record Row : Type 0 where
  pub status : ℕ
  pub name : List ℕ
  pub run : Admits
  pub mirror : Admits
  pub serve : Admits
  pub ending : Ending

abbrev row : ℕ → List ℕ → Admits → Admits → Admits → Ending → Row
row status name run mirror serve ending = record { status = status; name = name; run = run; mirror = mirror; serve = serve; ending = ending }

-- the table of all causes
abbrev pub row_of : Why → Row
row_of Fine = row 0 (codes "Fine") begun begun begun stored
row_of Usage = row 1 (codes "Usage") never never never none
row_of (BadScript line) = row 2 (codes "BadScript") unbegun unbegun never none
row_of NoMemory = row 3 (codes "NoMemory") either either either died
row_of ReadFault = row 4 (codes "ReadFault") unbegun unbegun never none
row_of WriteFault = row 5 (codes "WriteFault") begun begun never cut
row_of DiskFault = row 6 (codes "DiskFault") either either either failed
row_of (Damaged second at) = row 7 (codes "Damaged") either unbegun either failed
row_of ListenFault = row 8 (codes "ListenFault") never never begun deaf
row_of (StoreFull end more) = row 9 (codes "StoreFull") begun never begun failed
row_of (Spent turns) = row 10 (codes "Spent") never never begun (spent turns)

abbrev pub status_of : Why → ℕ
status_of why = (row_of why).status

-- how a call that answers this cause ends, of what was begun
abbrev pub end_of : Why → Ending
end_of why = (row_of why).ending

-- why a call ends whose last dump failed; no dump on disks that tell their bytes fails since its log is stale
abbrev pub why_of : LogFault → Why
why_of fault.NoMemory = NoMemory
why_of fault.DiskFault = DiskFault
why_of (fault.Damaged second at) = Damaged second at
why_of (fault.StoreFull end more) = StoreFull end more
why_of fault.Stale = Damaged false 0
