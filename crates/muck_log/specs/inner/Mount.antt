-- What mounting finds.
use Rattle.std.specs.Prelude.{◌≡◌, ℕ, Bool, true, false, Some, None, Ok, Err, List, ◌==◌, nat_lt, if◌then◌else◌, not}
use Rattle.muck_log.specs.File.{FileReading, begin, gate_at, run, reading_end, is_gate_open, header}
use Rattle.muck_log.specs.Store.{LogState, IsMounted, store_of, file_loaded, must_close, pick}
use Rattle.muck_log.specs.inner.Head.{is_shut}
use Rattle.muck_log.specs.declared.fault.LogFault.{LogFault}
use Rattle.muck_log.specs.declared.fault.LogFault.TheVariants.{NoMemory, DiskFault, Damaged as DamagedAt, StoreFull, Stale}
use Rattle.muck_log.specs.declared.mount.First.{First}
use Rattle.muck_log.specs.declared.mount.First.TheVariants.{Shut, Bad, Open}
use Rattle.muck_log.specs.declared.mount.Look.{Look}
use Rattle.muck_log.specs.declared.mount.Choice.{Choice}
use Rattle.muck_log.specs.declared.mount.Choice.TheVariants.{Damaged, Empty, Load}

abbrev pub IsFirst : First → List ℕ → Type 0
IsFirst Shut file = is_gate_open file ≡ false
IsFirst Bad file = (is_gate_open file ≡ true) × (header file ≡ None)
IsFirst (Open g) file = (is_gate_open file ≡ true) × (header file ≡ Some g)

pub record IsLook (look : Look) (file : List ℕ) : Type 0 where
  pub first : IsFirst look.first file
  pub close : look.close ≡ must_close 0 file

abbrev pub IsChoice : Choice → List ℕ → List ℕ → Type 0
IsChoice (Damaged second) a b = store_of a b ≡ Err (record { second = second; at = 0 })
IsChoice Empty a b = store_of a b ≡ Ok (record { second = false; place = 0; held = begin 1 })
IsChoice (Load second g) a b = store_of a b ≡ file_loaded second (reading_end (run (gate_at 0 (begin g)) (pick second a b)))

abbrev pub choice : First → First → Choice
choice Bad b = Damaged false
choice Shut Bad = Damaged true
choice (Open g) Bad = Damaged true
choice Shut Shut = Empty
choice (Open g) Shut = Load false g
choice Shut (Open h) = Load true h
choice (Open g) (Open h) = if g == h then Damaged true else (if nat_lt h g then Load false g else Load true h)

-- the log that a reading makes
pub record IsLoaded (reading : FileReading) (at other : Bool) (most : ℕ) (log : LogState) : Type 0 where
  pub ends : reading_end reading ≡ Ok (record { place = log.chosen.place; held = log.chosen.held })
  pub second : log.chosen.second ≡ at
  pub close : log.close ≡ not (is_shut reading.mode)
  pub other_close : log.other_close ≡ other
  pub fresh : log.stale ≡ false
  pub limit : log.most ≡ most

abbrev pub IsLoadFault : FileReading → Bool → LogFault → Type 0
IsLoadFault reading at (DamagedAt second place) = (reading_end reading ≡ Err place) × (second ≡ at)
IsLoadFault reading at NoMemory = Unit {0}
IsLoadFault reading at DiskFault = ⊥
IsLoadFault reading at (StoreFull end more) = ⊥
IsLoadFault reading at Stale = ⊥

-- the refusals of `mount`
abbrev pub IsMountFault : List ℕ → List ℕ → LogFault → Type 0
IsMountFault a b (DamagedAt second place) = store_of a b ≡ Err (record { second = second; at = place })
IsMountFault a b NoMemory = Unit {0}
IsMountFault a b DiskFault = Unit {0}
IsMountFault a b (StoreFull end more) = ⊥
IsMountFault a b Stale = ⊥

-- a log that is mounted
pub record IsMountedAs {D : Type 0} (seen : D → List ℕ) (moment : D → ℕ) (images : D → ℕ → List ℕ → Type 0) (most : ℕ) (log : LogState) (first second : D) : Type 0 where
  pub mounted : IsMounted seen moment images log first second
  pub limit : log.most ≡ most
