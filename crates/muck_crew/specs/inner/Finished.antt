-- How a run ends, once all parts have returned: the last dump.
use Rattle.std.specs.Prelude.{◌≡◌, ◌⊎◌, ℕ, ◌^◌, Bool, true, false, List, Option, Some, None, Result, Ok, Err, IfOk}
use Rattle.muck_io.specs.Faults.{Rose}
use Rattle.muck_log.specs.Store.{LogState}
use Rattle.muck_log.specs.declared.fault.LogFault.{LogFault}
use Rattle.muck_log.specs.declared.fault.LogFault.TheVariants as fault
use Rattle.muck_model.specs.declared.event.Event.TheVariants.{Died}
use Rattle.muck_model.specs.declared.memory.NoMemory.{NoMemory as Wanting}
use Rattle.spec_dumps.specs.inner.Holding.{Keeps}
use Rattle.spec_events.specs.Histories.{History, now, entered}
use Rattle.muck_dumper.specs.inner.Dumps.{by, Dumps, HasDumped}
use Rattle.muck_crew.specs.declared.serving.Way.{Way}
use Rattle.muck_crew.specs.declared.serving.Way.TheVariants as ends
use Rattle.muck_why.specs.declared.why.Why.{Why}
use Rattle.muck_why.specs.declared.why.Why.TheVariants.{Fine, NoMemory, ListenFault, Spent}
use Rattle.muck_why.specs.Causes.{why_of}

abbrev pub why_from : Result (Option LogFault) Wanting → Why
why_from (Ok None) = Fine
why_from (Ok (Some fault)) = why_of fault
why_from (Err e) = NoMemory

-- why a run ends that was stopped: the first cause stands, that listening failed
abbrev pub why_by : Bool → Result (Option LogFault) Wanting → Why
why_by true answer = ListenFault
why_by false answer = why_from answer

-- The first party made a last dump of the world h, which is k now: its entries, by its answer; what is kept of both disks; and a disk
-- fault is answered only where a count of faults rose.
pub record HasDump {D : Type 0} (tells : Bool) (seen : D → List ℕ) (moment : D → ℕ) (images : D → ℕ → List ℕ → Type 0) (faults : D → ℕ) (deaf : Bool) (log : Option LogState) (first second first' second' : D) (h k : History) (why : Why) : Type 0 where
  pub answer : Result (Option LogFault) Wanting
  pub log' : Option LogState
  pub made : HasDumped 0 h k answer
  pub is : why ≡ why_by deaf answer
  pub kept : (mounted : ℕ) → tells ≡ true → Keeps seen moment images faults log first second mounted h → Dumps seen moment images faults log' first' second' mounted k answer
  pub cause : IfOk answer (λ o. o ≡ Some fault.DiskFault → Rose (faults first) (faults first') ⊎ Rose (faults second) (faults second'))
  pub apart : IfOk answer (λ o. o ≡ Some fault.NoMemory → ⊥)

-- How the world h, which is k now, came to its end, by how all parts ended.
pub data IsFinish {D : Type 0} (tells : Bool) (seen : D → List ℕ) (moment : D → ℕ) (images : D → ℕ → List ℕ → Type 0) (faults : D → ℕ) (way : Way) (log : Option LogState) (first second first' second' : D) (h k : History) (why : Why) : Type 0 where
  dead : (now h).dead ≡ true → k ≡ h → why ≡ NoMemory → first' ≡ first → second' ≡ second → IsFinish tells seen moment images faults way log first second first' second' h k why
  wanted : (now h).dead ≡ false → (way ≡ ends.Wanted) ⊎ (way ≡ ends.Alone) → k ≡ entered h (by 9 Died) → why ≡ NoMemory → first' ≡ first → second' ≡ second → IsFinish tells seen moment images faults way log first second first' second' h k why
  spent : way ≡ ends.Spent → k ≡ h → why ≡ Spent (2 ^ 62) → first' ≡ first → second' ≡ second → IsFinish tells seen moment images faults way log first second first' second' h k why
  stopped : way ≡ ends.Stopped → HasDump tells seen moment images faults false log first second first' second' h k why → IsFinish tells seen moment images faults way log first second first' second' h k why
  deaf : way ≡ ends.Deaf → HasDump tells seen moment images faults true log first second first' second' h k why → IsFinish tells seen moment images faults way log first second first' second' h k why
