-- The seats of a server as they are given out and taken in, and what its parts are given and leave.
use Rattle.std.specs.Prelude.{◌≡◌, ◌⊎◌, ℕ, zero, suc, ◌<◌, Bool, true, List, [], ◌∷◌, length, slice_get, slice_index_or, Some}
use Rattle.atomic_table.specs.Seated.{TableId}
use Rattle.turn_lock.specs.inner.Turns.{left_after, newcomer, taken_in}
use Rattle.turn_lock.specs.declared.view.Place.TheVariants.{Idle, Told}
use Rattle.muck_worker.specs.inner.Working.{WorkerReady, WorkerDone}
use Rattle.muck_dumper.specs.declared.Store.{Store}
use Rattle.muck_dumper.specs.inner.Between.{IsReady as HasLog, Knows}
use Rattle.muck_dumper.specs.inner.Dumping.{history_seen, DumperReady}
use Rattle.muck_machine.specs.inner.Seats.{Sight, Chair}
use Rattle.muck_crew.specs.declared.seats.Part.{Part}

-- The seat of the dumper may begin, with the store and the disks.
pub record IsAble {D : Type 0} (tells : Bool) (seen : D → List ℕ) (moment : D → ℕ) (images : D → ℕ → List ℕ → Type 0) (faults : D → ℕ) (store : Store) (first second : D) (me : Chair) : Type 0 where
  pub ready : DumperReady me
  pub knows : Knows store (history_seen me.0)
  pub mounted : tells ≡ true → (mounted : ℕ) × HasLog seen moment images faults store.log first second mounted (history_seen me.0)

-- Seats as they are given out.

-- the first seat once the parties up to this one have theirs
abbrev pub given_to : ℕ → Sight → Sight
given_to zero v = v
given_to (suc n) v = left_after (suc n) (given_to n v)

-- the part of this party, which has done nothing yet
pub record IsDealt (table : TableId) (party : ℕ) (v : Sight) (p : Part) : Type 0 where
  pub lock : p.seat.table_id ≡ table
  pub number : p.party ≡ party
  pub me : p.seat.me ≡ (newcomer party v, [])

-- a part for each party up to this one
pub record AreDealt (table : TableId) (n : ℕ) (v : Sight) (parts : List Part) : Type 0 where
  pub count : length parts ≡ n
  pub each : (i : ℕ) (p : Part) → slice_get parts i ≡ Some p → IsDealt table (suc i) v p

-- Seats as they are taken in.

-- it may be taken in
abbrev pub IsOver : TableId → Part → Type 0
IsOver table p = (p.seat.table_id ≡ table) × (p.seat.me.1 ≡ []) × ((p.seat.me.0.place ≡ Idle) ⊎ (p.seat.me.0.place ≡ Told))

abbrev pub AreOver : TableId → List Part → Type 0
AreOver table parts = (i : ℕ) (p : Part) → slice_get parts i ≡ Some p → IsOver table p

-- the first seat once these are taken in, the last one first
abbrev pub all_in : List Part → Sight → Sight
all_in [] v = v
all_in (p ∷ ps) v = taken_in (all_in ps v) p.seat.me.0

-- Workers beside each other.

-- a part may begin
abbrev pub IsReady : TableId → Part → Type 0
IsReady table p = (p.seat.table_id ≡ table) × WorkerReady p.party p.seat.me

-- what became of a part
abbrev pub IsDone : Part → Part → Type 0
IsDone p p' = (p'.party ≡ p.party) × (p'.seat.table_id ≡ p.seat.table_id) × WorkerDone p'.why p.party p.seat.me p'.seat.me

pub record AreDone (old new : List Part) : Type 0 where
  pub same : length new ≡ length old
  pub each : (i : ℕ) (d : Part) → i < length old → IsDone (slice_index_or old i d) (slice_index_or new i d)
