-- What `append` answers.
use Rattle.std.specs.Prelude.{◌≡◌, ◌⊎◌, ℕ, ◌+◌, ◌<◌, ◌≤◌, ◌^◌, true, false, Some, Result, Ok, Err, List, [], length, if◌then◌else◌}
use Rattle.muck_codec.specs.declared.stored.Stored.{Stored}
use Rattle.muck_codec.specs.declared.stored.Batch.{Batch}
use Rattle.muck_codec.specs.Batches.{batch_bytes}
use Rattle.muck_log.specs.World.{StoredWorld, laid, records_written}
use Rattle.muck_log.specs.File.{after_number}
use Rattle.muck_log.specs.Store.{Chosen, Damage, LogState, target, opens_new, next_body, after_batch, framed, store_of}
use Rattle.muck_log.specs.declared.log.Target.{Target}
use Rattle.muck_log.specs.declared.log.Ready.{Ready}
use Rattle.muck_log.specs.declared.fault.LogFault.{LogFault}
use Rattle.muck_log.specs.declared.fault.LogFault.TheVariants.{NoMemory, DiskFault, Damaged, StoreFull, Stale}

-- the store as it was, or with the batch
abbrev pub IsEither : Chosen → Chosen → Result Chosen Damage → Type 0
IsEither before after now = (now ≡ Ok before) ⊎ (now ≡ Ok after)

pub record IsTarget (log : LogState) (t : Target) : Type 0 where
  pub second : t.second ≡ (target log.chosen).second
  pub place : t.place ≡ (target log.chosen).place
  pub generation : t.generation ≡ (target log.chosen).held.generation
  pub count : t.count ≡ (target log.chosen).held.count
  pub opens : t.opens ≡ opens_new log.chosen.held
  pub close : t.close ≡ (if opens_new log.chosen.held then log.other_close else log.close)

-- the world is the next one, and the rest is as it was
pub record IsLaidNext (old new : LogState) (payload : List ℕ) : Type 0 where
  pub world : laid payload (target old.chosen).held.world ≡ Some new.chosen.held.world
  pub rest : new ≡ record old { chosen = record { second = old.chosen.second; place = old.chosen.place; held = record { generation = old.chosen.held.generation; number = old.chosen.held.number; count = old.chosen.held.count; last = old.chosen.held.last; world = new.chosen.held.world } } }

-- the bytes of a batch: its records that differ from the world that it is laid over, which is the starting one where it opens a new
-- generation
unfoldable pub payload_of : LogState → Batch → List ℕ
payload_of log batch = batch_bytes (records_written (target log.chosen).held.world.objects batch.records) batch.tune

-- what a batch may leave out of the records of a world: the objects that are kept, or nothing where it opens a new generation
unfoldable pub base_of : LogState → List Stored
base_of log = if opens_new log.chosen.held then [] else log.chosen.held.world.objects

-- the batch, laid over the world on which it stands, makes a world that hangs together with every value within its limits
abbrev pub MakesWorld : LogState → Batch → Type 0
MakesWorld log batch = (w : StoredWorld) × (laid (payload_of log batch) (target log.chosen).held.world ≡ Some w)

-- how many bytes the batch takes: gate, length, body and closed gate
unfoldable pub more_of : LogState → List ℕ → ℕ
more_of log payload = 10 + length (next_body log.chosen payload)

-- each answer, with its cause
abbrev pub IsAppended : LogState → LogState → Batch → Result ℕ LogFault → Type 0
IsAppended old new batch (Ok n) = (old.stale ≡ false) × ((target old.chosen).place + more_of old (payload_of old batch) ≤ old.most) × (n ≡ after_number old.chosen.held.number)
IsAppended old new batch (Err (StoreFull end more)) = (old.stale ≡ false) × (end ≡ (target old.chosen).place) × (more ≡ more_of old (payload_of old batch)) × (old.most < end + more) × (new ≡ old)
IsAppended old new batch (Err Stale) = (old.stale ≡ true) × (new ≡ old)
IsAppended old new batch (Err DiskFault) = (old.stale ≡ false) × ((target old.chosen).place + more_of old (payload_of old batch) ≤ old.most) × (new.stale ≡ true)
IsAppended old new batch (Err NoMemory) = old.stale ≡ false
IsAppended old new batch (Err (Damaged second at)) = ⊥

pub record IsReady (old new : LogState) (payload : List ℕ) (ready : Ready) : Type 0 where
  pub fresh : old.stale ≡ false
  pub goes : IsTarget old ready.target
  pub count : ready.target.count ≤ ready.target.place
  pub wide : ready.target.generation < 2 ^ 64
  pub number : ready.number ≡ after_number old.chosen.held.number
  pub size : ready.size ≡ length (next_body old.chosen payload)
  pub tail : ready.tail.items ≡ framed (next_body old.chosen payload)
  pub room : (target old.chosen).place + more_of old payload ≤ old.most
  pub small : old.most < 2 ^ 63
  pub lays : IsLaidNext old new payload

-- the refusals before any write
abbrev pub IsRefused : LogState → LogState → Batch → LogFault → Type 0
IsRefused old new batch (StoreFull end more) = (old.stale ≡ false) × (end ≡ (target old.chosen).place) × (more ≡ more_of old (payload_of old batch)) × (old.most < end + more) × (new ≡ old)
IsRefused old new batch Stale = (old.stale ≡ true) × (new ≡ old)
IsRefused old new batch NoMemory = old.stale ≡ false
IsRefused old new batch DiskFault = ⊥
IsRefused old new batch (Damaged second at) = ⊥

abbrev pub IsFinished : LogState → LogState → Target → ℕ → ℕ → Type 0
IsFinished old new t number size = new ≡ record {
  chosen = record { second = t.second; place = t.place + 9 + size; held = record { generation = t.generation; number = number; count = t.count + 1; last = t.place; world = old.chosen.held.world } };
  close = false;
  other_close = if t.opens then true else old.other_close;
  stale = old.stale;
  most = old.most;
}

-- two images load as the store before, or as the one after
abbrev pub LoadsEither : Chosen → Chosen → List ℕ → List ℕ → Type 0
LoadsEither before after c d = IsEither before after (store_of c d)

pub record IsNext (old new : LogState) (payload : List ℕ) : Type 0 where
  pub makes : laid payload (target old.chosen).held.world ≡ Some new.chosen.held.world
  pub chosen : new.chosen ≡ after_batch old.chosen payload new.chosen.held.world
  pub fresh : new.stale ≡ false
  pub limit : new.most ≡ old.most

-- only these answers come after a call of a disk
abbrev pub IsTouching : Result ℕ LogFault → Type 0
IsTouching (Ok n) = Unit {0}
IsTouching (Err DiskFault) = Unit {0}
IsTouching (Err other) = ⊥
