-- A dump is made, as the log answered to its batch.
use Rattle.std.proofs.Common.{◌≡◌, ℕ, Bool, true, false, List, refl, Option, Result, Ok, Err, OnOk, IfErr}
use Rattle.muck_log.specs.Store.{LogState}
use Rattle.muck_log.specs.declared.fault.LogFault.{LogFault}
use Rattle.muck_log.specs.declared.fault.LogFault.TheVariants.{NoMemory, DiskFault, Damaged, StoreFull, Stale}
use Rattle.spec_events.specs.Histories.{History}
use Rattle.spec_events.specs.Own.{Stage}
use Rattle.spec_dumps.specs.inner.Holding.{Keeps}
use Rattle.muck_work.specs.inner.Seats.{Chair}
use Rattle.muck_dumping.specs.inner.Between.{IsReady, IsWritten, EndsAs}
use Rattle.muck_dumper.specs.declared.holds.Fault.{Fault}
use Rattle.muck_dumper.specs.inner.Dumping.{history_seen}
use Rattle.muck_dumper.specs.inner.Steps.{Stops, Settles, Watches}
use Rattle.muck_dumper.proofs.Ways.{stops_behind, watches_mounted}

-- As which answer a fault is told that isn't want of memory: on disks that tell their bytes no log answers that it is damaged, and elsewhere
-- nothing is said of it.
abbrev pub told_as : LogFault → LogFault
told_as (Damaged on place) = DiskFault
told_as NoMemory = NoMemory
told_as DiskFault = DiskFault
told_as (StoreFull end more) = StoreFull end more
told_as Stale = Stale

pub told_ends : (fault : LogFault) → (fault ≡ NoMemory → ⊥) → EndsAs (Err (told_as fault)) false
told_ends NoMemory wanted = absurd (wanted refl)
told_ends (Damaged on place) wanted = tt
told_ends DiskFault wanted = tt
told_ends (StoreFull end more) wanted = tt
told_ends Stale wanted = tt

pub told_written : {D : Type 0} (seen : D → List ℕ) (moment : D → ℕ) (images : D → ℕ → List ℕ → Type 0) (faults : D → ℕ) (log : Option LogState) (f s : D) (mounted : ℕ) (h : History) (fault : LogFault) →
    IsWritten seen moment images faults log f s mounted h (Err fault) → IsWritten seen moment images faults log f s mounted h (Err (told_as fault))
told_written seen moment images faults log f s mounted h (Damaged on place) w = absurd w.left
told_written seen moment images faults log f s mounted h NoMemory w = w
told_written seen moment images faults log f s mounted h DiskFault w = w
told_written seen moment images faults log f s mounted h (StoreFull end more) w = w
told_written seen moment images faults log f s mounted h Stale w = w

-- Behind the end of a dump that failed.

-- the log was mounted again, or that was tried
pub watches_after : {D : Type 0} (tells : Bool) (seen : D → List ℕ) (moment : D → ℕ) (images : D → ℕ → List ℕ → Type 0) (faults : D → ℕ) (r : Result (Unit {0}) Fault) (log log' : Option LogState) (f s f' s' : D) (from : Stage) (P : ℕ → Type 0) (me me' me'' : Chair) →
    Settles tells seen moment images faults log f s from P me me' → OnOk r (me'' ≡ me') →
    ((mounted : ℕ) (h : History) → tells ≡ true → Keeps seen moment images faults log f s mounted h → OnOk r (IsReady seen moment images faults log' f' s' mounted h)) →
    OnOk r (Watches tells seen moment images faults log' f' s' from P me me'')
watches_after tells seen moment images faults (Ok x) log log' f s f' s' from P me me' me'' t same again = watches_mounted tells seen moment images faults log log' f s f' s' from P me me' me'' t same again
watches_after tells seen moment images faults (Err e) log log' f s f' s' from P me me' me'' t same again = tt

-- or memory was wanted for it
pub stops_after : {D : Type 0} (tells : Bool) (seen : D → List ℕ) (moment : D → ℕ) (images : D → ℕ → List ℕ → Type 0) (faults : D → ℕ) (r : Result (Unit {0}) Fault) (log : Option LogState) (f s f' s' : D) (from : Stage) (P : ℕ → Type 0) (x y z : Chair) →
    Settles tells seen moment images faults log f s from P x y →
    IfErr r (λ fault. Stops tells moment images faults f' s' fault Stage.unbound (λ mounted. Keeps seen moment images faults log f s mounted (history_seen y.0)) y z) →
    IfErr r (λ fault. Stops tells moment images faults f' s' fault from P x z)
stops_after tells seen moment images faults (Ok a) log f s f' s' from P x y z t stopped = tt
stops_after tells seen moment images faults (Err fault) log f s f' s' from P x y z t stopped =
    stops_behind tells moment images faults f' s' fault from Stage.unbound P (λ mounted. Keeps seen moment images faults log f s mounted (history_seen y.0)) x y z t.moves (λ mounted on p. (t.kept mounted on p).keeps) stopped
