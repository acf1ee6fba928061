-- How runs of a process end, by how the units of its source end.
use Rattle.std.specs.Prelude.{◌≡◌, ℕ, zero, suc, List, drop, Option, Some, None}
use Rattle.muf_model.specs.declared.fault.MufFault.{MufFault}
use Rattle.muf_model.specs.Chains.{StandsAt}
use Rattle.muf_model.specs.inner.Flat.{Flat, decode}
use Rattle.muf_model.specs.Source.{Source}
use Rattle.muf_model.specs.Unit.{Outcome, goes, ended, faulted, asks, fault_met}
use Rattle.muf_run.specs.declared.run.Local.{Local}
use Rattle.muf_run.specs.declared.run.Local.TheVariants as local
use Rattle.muf_running.specs.declared.entered.Entered.{Entered}
use Rattle.muf_running.specs.declared.stint.Ran.{Ran}
use Rattle.muf_running.specs.declared.stint.Ran.TheVariants.{Going, Asking, Ended, Faulted}
use Rattle.muf_running.specs.inner.Fitting.{codes_of, ProgramsFit}

-- a run of a process, and the units of its source
abbrev pub RanAlike : Ran → Outcome → Type 0
RanAlike (Going r) (goes k s) = r ≡ s
RanAlike (Asking p r) (asks q s) = (p ≡ q) × (r ≡ s)
RanAlike Ended ended = Unit {0}
RanAlike (Faulted f) (faulted g) = f ≡ g
RanAlike _ _ = ⊥

-- the shared primitive that is asked for comes next
abbrev pub AskedAt : Ran → Type 0
AskedAt (Asking p r) = StandsAt p r
AskedAt (Going r) = Unit {0}
AskedAt Ended = Unit {0}
AskedAt (Faulted f) = Unit {0}

-- what a fault makes of a process: the state at which a TRY caught it, or none
abbrev pub Raised : MufFault → Source → Option Source → Type 0
Raised f s (Some r) = (k : ℕ) × (fault_met f s ≡ goes k r)
Raised f s None = fault_met f s ≡ faulted f

-- the process that so many programs were left in stands for this state
abbrev pub LeftAt : ℕ → List Entered → Flat → Source → Type 0
LeftAt k es f s = ProgramsFit (drop k es) f × (decode (codes_of (drop k es)) f ≡ s)

-- the answer of a run in one program and the frame that it left
abbrev pub LocalFits : List Entered → Local → Flat → Outcome → Type 0
LocalFits es local.Spent f (goes zero s) = LeftAt 0 es f s
LocalFits es (local.Returned j) f (goes (suc k) s) = (j ≡ suc k) × LeftAt (suc k) es f s
LocalFits es (local.Shared p) f (asks q s) = (p ≡ q) × LeftAt 0 es f s
LocalFits es local.Ended f ended = Unit {0}
LocalFits es (local.Faulted g) f (faulted h) = g ≡ h
LocalFits es _ f _ = ⊥
