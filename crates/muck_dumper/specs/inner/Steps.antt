-- What the dumper does in a hold, and what it knows between holds.
use Rattle.std.specs.Prelude.{◌≡◌, ℕ, ◌≤◌, ◌^◌, Bool, true, List, [], ◌∷◌, ◌++◌, length, Option, Some, None}
use Rattle.turn_lock.specs.Histories.{StartsWith}
use Rattle.muck_model.specs.declared.event.Event.{Event}
use Rattle.muck_model.specs.declared.event.Event.TheVariants.{Idle, Cut, StopSeen, Died}
use Rattle.muck_model.specs.declared.note.Note.{Note}
use Rattle.muck_log.specs.Store.{LogState}
use Rattle.spec_events.specs.declared.logged.Logged.{Logged}
use Rattle.spec_events.specs.World.{runs_dump}
use Rattle.spec_events.specs.Histories.{History, now, entered, noted}
use Rattle.spec_events.specs.Logged.{events_of, NoCounts}
use Rattle.spec_events.specs.Own.{Stage, stage_of}
use Rattle.spec_dumps.specs.Survival.{IsSafe}
use Rattle.spec_dumps.specs.inner.Holding.{Quietly, Keeps, Rests as HasRests}
use Rattle.muck_work.specs.inner.Seats.{Chair, Rests, Left, SameLists}
use Rattle.muck_dumping.specs.declared.store.Store.{Store}
use Rattle.muck_dumping.specs.inner.Dumps.{by}
use Rattle.muck_dumping.specs.inner.Between.{IsReady, IsBatchAtCut, base_in, next_number, IsPending}
use Rattle.muck_dumper.specs.declared.deeds.Did.{Did}
use Rattle.muck_dumper.specs.declared.deeds.Did.TheVariants.{Idled, Began, Stops as Ending, Over, Failed}
use Rattle.muck_dumper.specs.declared.holds.Fault.{Fault}
use Rattle.muck_dumper.specs.declared.holds.Fault.TheVariants.{NoMemory, Spent}
use Rattle.muck_dumper.specs.inner.Dumping.{history_from, history_seen, IsKnown, EndsWith}

-- which entry a deed made
abbrev pub event_of : Did → Event
event_of Idled = Idle
event_of (Began p) = Cut p.number
event_of Ending = Idle
event_of Over = StopSeen
event_of Failed = Died

-- k is the history h with this entry of the dumper, and a note before it or none
pub data MadeBy (event : Event) (h k : History) : Type 0 where
  bare : k ≡ entered h (by 9 event) → MadeBy event h k
  with_note : (x : Note) → x.entries ≡ length h.entries → k ≡ entered (noted h x) (by 9 event) → MadeBy event h k

-- how it does that where the run is stopping: it idles once more, or it has seen the stop
abbrev pub LeavesBy : Did → History → History → Type 0
LeavesBy Ending h k = k ≡ entered h (by 9 Idle)
LeavesBy Over h k = k ≡ entered h (by 9 StopSeen)
LeavesBy Idled h k = ⊥
LeavesBy (Began p) h k = ⊥
LeavesBy Failed h k = ⊥

-- what it has kept by that, from the history h to k
abbrev pub KeptBy : {D : Type 0} → Bool → (D → List ℕ) → (D → ℕ) → (D → ℕ → List ℕ → Type 0) → (D → ℕ) → Store → D → D → Did → History → History → Type 0
KeptBy tells seen moment images faults store first second (Began p) h k =
    (runs_dump p.number (now k).dumps ≡ true) × IsBatchAtCut (base_in store.log) k p
    × ((mounted : ℕ) → tells ≡ true → IsReady seen moment images faults store.log first second mounted h → IsPending seen moment images faults store.log first second mounted k p)
    × (p.number ≡ next_number store)
KeptBy tells seen moment images faults store first second Failed h k =
    (mounted : ℕ) → tells ≡ true → Keeps seen moment images faults store.log first second mounted h → IsSafe moment images faults first second k.start mounted k.entries k.notes
KeptBy tells seen moment images faults store first second Idled h k = k ≡ entered h (by 9 Idle)
KeptBy tells seen moment images faults store first second Ending h k = k ≡ entered h (by 9 Idle)
KeptBy tells seen moment images faults store first second Over h k = k ≡ entered h (by 9 StopSeen)

-- One turn of the dumper: others' entries, none of a dump, and then this one, made in this world.
pub record Step (event : Event) (me me' : Chair) : Type 0 where
  pub rests : Rests 9 me'
  pub world : History
  pub quiet : Quietly (history_seen me.0) world
  pub made : MadeBy event world (history_seen me'.0)
  pub lists : SameLists me.0 me'.0
  pub sight : StartsWith me'.0.seen me.0.seen
  pub events : events_of me'.0.own ≡ events_of me.0.own ++ event ∷ []
  pub counts : NoCounts me.0.own → NoCounts me'.0.own
  pub last : EndsWith event me'.0.own

-- It did things, by which it came from one stage to another.
pub record Moves (from to : Stage) (me me' : Chair) : Type 0 where
  pub lists : SameLists me.0 me'.0
  pub sight : StartsWith me'.0.seen me.0.seen
  pub stage : stage_of 9 (events_of me.0.own) ≡ Some from → stage_of 9 (events_of me'.0.own) ≡ Some to
  pub counts : NoCounts me.0.own → NoCounts me'.0.own

-- why it stopped
abbrev pub StopsBy : Fault → Chair → Type 0
StopsBy NoMemory me = EndsWith Died me.0.own
StopsBy Spent me = 2 ^ 62 ≤ length me.0.seen

-- It has stopped, from a state that had P.
pub record Stops {D : Type 0} (tells : Bool) (moment : D → ℕ) (images : D → ℕ → List ℕ → Type 0) (faults : D → ℕ) (first second : D) (fault : Fault) (from : Stage) (P : ℕ → Type 0) (me me' : Chair) : Type 0 where
  pub left : Left 9 me'
  pub to : Stage
  pub moves : Moves from to me me'
  pub why : StopsBy fault me'
  pub known : List Logged
  pub knows : IsKnown known me'.0
  pub safe : (mounted : ℕ) → tells ≡ true → P mounted → IsSafe moment images faults first second (history_from me'.0.root known).start mounted (history_from me'.0.root known).entries (history_from me'.0.root known).notes

-- A dump has ended, from a state that had P.
pub record Settles {D : Type 0} (tells : Bool) (seen : D → List ℕ) (moment : D → ℕ) (images : D → ℕ → List ℕ → Type 0) (faults : D → ℕ) (log : Option LogState) (first second : D) (from : Stage) (P : ℕ → Type 0) (me me' : Chair) : Type 0 where
  pub rests : Rests 9 me'
  pub moves : Moves from Stage.unbound me me'
  pub idle : (now (history_seen me'.0)).dumps.running ≡ None
  pub kept : (mounted : ℕ) → tells ≡ true → P mounted → HasRests seen moment images faults log first second mounted (history_seen me'.0)

-- It is between two dumps, from a state that had P.
pub record Watches {D : Type 0} (tells : Bool) (seen : D → List ℕ) (moment : D → ℕ) (images : D → ℕ → List ℕ → Type 0) (faults : D → ℕ) (log : Option LogState) (first second : D) (from : Stage) (P : ℕ → Type 0) (me me' : Chair) : Type 0 where
  pub rests : Rests 9 me'
  pub moves : Moves from Stage.unbound me me'
  pub idle : (now (history_seen me'.0)).dumps.running ≡ None
  pub ready : (mounted : ℕ) → tells ≡ true → P mounted → IsReady seen moment images faults log first second mounted (history_seen me'.0)

-- What it did in a turn where no dump ran, and what it kept by that.
abbrev pub Watched : {D : Type 0} → Bool → (D → List ℕ) → (D → ℕ) → (D → ℕ → List ℕ → Type 0) → (D → ℕ) → Store → D → D → Did → Chair → Chair → Type 0
Watched tells seen moment images faults store first second did me me' = (s : Step (event_of did) me me') × KeptBy tells seen moment images faults store first second did s.world (history_seen me'.0)
