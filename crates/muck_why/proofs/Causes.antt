-- The table of causes agrees with itself; and which causes a last dump has.
use Rattle.std.proofs.Common.{◌≡◌, inr, ℕ, refl}
use Rattle.muck_log.specs.declared.fault.LogFault.{LogFault}
use Rattle.muck_log.specs.declared.fault.LogFault.TheVariants as fault
use Rattle.muck_why.specs.declared.why.Why.{Why}
use Rattle.muck_why.specs.declared.why.Why.TheVariants.{Fine, NoMemory, WriteFault, DiskFault, Damaged, ListenFault, StoreFull, Spent}
use Rattle.muck_why.specs.Causes.{admitted, Ending, row_of, end_of, why_of}
use Rattle.muck_why.specs.inner.Endings.{EndsDump, EndsRun, EndsServer}

-- A cause by which a run ends, or a server, may be answered where it was begun: a line for each.

pub began_run : (why : Why) (U B : Type 0) → EndsRun (end_of why) → B → admitted (row_of why).run U B
began_run Fine U B may b = b
began_run NoMemory U B may b = inr b
began_run WriteFault U B may b = b
began_run DiskFault U B may b = inr b
began_run (Damaged second at) U B may b = inr b
began_run (StoreFull end more) U B may b = b
began_run why U B may b = absurd may

pub began_server : (why : Why) (U B : Type 0) → EndsServer (end_of why) → B → admitted (row_of why).serve U B
began_server Fine U B may b = b
began_server NoMemory U B may b = inr b
began_server DiskFault U B may b = inr b
began_server (Damaged second at) U B may b = inr b
began_server ListenFault U B may b = b
began_server (StoreFull end more) U B may b = b
began_server (Spent turns) U B may b = b
began_server why U B may b = absurd may

-- a run may end as a last dump does
pub dumps_run : (end : Ending) → EndsDump end → EndsRun end
dumps_run Ending.stored may = may
dumps_run Ending.failed may = may
dumps_run Ending.died may = may
dumps_run end may = absurd may

-- The causes of a last dump that failed.

pub fails : (f : LogFault) → (f ≡ fault.NoMemory → ⊥) → end_of (why_of f) ≡ Ending.failed
fails fault.NoMemory apart = absurd (apart refl)
fails other apart = refl

pub never_fine : (f : LogFault) → why_of f ≡ Fine → ⊥
never_fine fault.NoMemory e = cc
never_fine other e = cc

pub is_full : (f : LogFault) (end more : ℕ) → why_of f ≡ StoreFull end more → f ≡ fault.StoreFull end more
is_full (fault.StoreFull x y) end more e = cc
is_full other end more e = cc

pub is_disk : (f : LogFault) → why_of f ≡ DiskFault → f ≡ fault.DiskFault
is_disk fault.DiskFault e = refl
is_disk other e = cc
