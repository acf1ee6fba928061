-- What a worker does in a turn, and what it knows between turns.
use Rattle.std.specs.Prelude.{◌≡◌, ℕ, Bool, true, false, if◌then◌else◌, Some}
use Rattle.turn_lock.specs.Histories.{StartsWith}
use Rattle.muck_model.specs.declared.event.Event.{Event}
use Rattle.muck_model.specs.declared.event.Event.TheVariants.{Claim, StopSeen, Died}
use Rattle.spec_events.specs.World.{World}
use Rattle.spec_events.specs.Steps.{has_claim}
use Rattle.spec_events.specs.Logged.{is_dump, events_of, NoNotes, NoCounts}
use Rattle.spec_events.specs.Own.{Stage, next_stage, stage_of}
use Rattle.muck_work.specs.inner.Seats.{Sight, Chair, Rests, SameLists}
use Rattle.muck_work.specs.declared.jobs.Job.{Job}
use Rattle.muck_work.specs.declared.jobs.Job.TheVariants.{Line, Claim as JobClaim, Idle as JobIdle, Died as JobDied}
use Rattle.muck_work.specs.inner.Holds.{HasClaimed}
use Rattle.muck_worker.specs.declared.deeds.Task.{Task}
use Rattle.muck_worker.specs.declared.deeds.Task.TheVariants.{Work, Slice, End}
use Rattle.muck_worker.specs.declared.deeds.Did.{Did}
use Rattle.muck_worker.specs.declared.deeds.Did.TheVariants.{Went, Idled, Claimed, Stops, Over, Failed}

-- what a worker did last that has this to do
abbrev pub stage_for : Task → Stage
stage_for Work = Stage.unbound
stage_for (Slice pid) = Stage.claimed pid
stage_for End = Stage.unbound

-- and what it did last that did this
abbrev pub stage_after : Did → Stage
stage_after Went = Stage.unbound
stage_after Idled = Stage.unbound
stage_after (Claimed task) = stage_for task
stage_after Stops = Stage.unbound
stage_after Over = Stage.stopped
stage_after Failed = Stage.ended

-- what a job is to a worker, by whether the run is stopping
abbrev pub did_as : Job → Bool → Did
did_as Line stops = Went
did_as (JobClaim pid) stops = Claimed (Slice pid)
did_as JobIdle stops = if stops then Stops else Idled
did_as JobDied stops = Failed

-- the process of what is to be done was claimed
abbrev pub IsClaimed : Task → Event → Type 0
IsClaimed (Slice pid) event = event ≡ Claim pid
IsClaimed Work event = ⊥
IsClaimed End event = ⊥

-- by which event, where that matters
abbrev pub IsSaid : Did → Event → Type 0
IsSaid (Claimed task) event = IsClaimed task event
IsSaid Over event = event ≡ StopSeen
IsSaid Failed event = event ≡ Died
IsSaid Went event = Unit {0}
IsSaid Idled event = Unit {0}
IsSaid Stops event = Unit {0}

-- it did so, and may, and it is no dump
abbrev pub DidAs : ℕ → Task → Did → Event → Type 0
DidAs party task did event = (next_stage party (stage_for task) event ≡ Some (stage_after did)) × IsSaid did event × (is_dump event ≡ false)

-- what is to be sliced is claimed
abbrev pub IsOpen : ℕ → Task → World → Type 0
IsOpen party (Slice pid) w = has_claim party pid w ≡ true
IsOpen party Work w = Unit {0}
IsOpen party End w = Unit {0}

-- the claim is the last that the seat has seen
abbrev pub IsHeld : ℕ → Task → Sight → Type 0
IsHeld party (Slice pid) v = HasClaimed party pid v
IsHeld party Work v = Unit {0}
IsHeld party End v = Unit {0}

-- Between two turns, since the seat stood as `me`.
pub record Works (party : ℕ) (task : Task) (me me' : Chair) : Type 0 where
  pub rests : Rests party me'
  pub lists : SameLists me.0 me'.0
  pub seen : StartsWith me'.0.seen me.0.seen
  pub stage : stage_of party (events_of me'.0.own) ≡ Some (stage_for task)
  pub notes : NoNotes me'.0.own
  pub counts : NoCounts me'.0.own
  pub claim : IsHeld party task me'.0
