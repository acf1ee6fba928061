-- What the porter enters is no dump.
use Rattle.std.proofs.Common.{◌≡◌, inl, inr, Bool, false, List, refl, sym, ap, subst}
use Rattle.muck_model.specs.declared.event.Event.{Event}
use Rattle.spec_events.specs.World.{World}
use Rattle.spec_events.specs.Logged.{is_dump}
use Rattle.spec_serve.specs.inner.Keeping.{Peer}
use Rattle.muck_peer.specs.Moves.{PeerStep, IsUntimed}
use Rattle.muck_work.specs.declared.jobs.Job.{Job}
use Rattle.muck_work.specs.declared.jobs.Job.TheVariants.{Line, Claim, Idle, Died as JobDied}
use Rattle.muck_work.specs.inner.Jobs.{JobAs}
use Rattle.muck_porter.specs.declared.deeds.Deed.{Deed}
use Rattle.muck_porter.specs.declared.deeds.Deed.TheVariants.{Open, Slice, Time, Stop, Leave, Die}
use Rattle.muck_porter.specs.declared.deeds.Did.{Did}
use Rattle.muck_porter.specs.declared.deeds.Did.TheVariants.{Done, Timed, Dead}
use Rattle.muck_porter.specs.declared.deeds.Served.{Served}
use Rattle.muck_porter.specs.declared.deeds.Served.TheVariants.{Went as ServedOne, Closed as ClosedOne, Nobody, Dead as ServedDead}
use Rattle.muck_porter.specs.declared.deeds.Worked.{Worked}
use Rattle.muck_porter.specs.declared.deeds.Worked.TheVariants.{Did as DidJob, Waits, Ready}
use Rattle.muck_porter.specs.inner.Deeds.{IsMoment, ServedAs, WorkedAs, DidAs}

moment_quiet : (event : Event) → IsMoment event → is_dump event ≡ false
moment_quiet event is = ap is_dump is.1

peer_quiet : (p p' : Peer) (w : World) (event : Event) → PeerStep p p' w event → is_dump event ≡ false
peer_quiet p p' w event (PeerStep.heard line more is ready same) = ap is_dump is
peer_quiet p p' w event (PeerStep.taken n is none same) = ap is_dump is
peer_quiet p p' w event (PeerStep.timed t is same) = ap is_dump is

pub served_quiet : (served : Served) (ps ps' : List Peer) (w : World) (event : Event) → ServedAs served ps ps' w event → is_dump event ≡ false
served_quiet (ServedOne i) ps ps' w event s = peer_quiet s.0 s.1 w event s.4
served_quiet (ClosedOne i) ps ps' w event s = ap is_dump s.3
served_quiet Nobody ps ps' w event s = moment_quiet event s.0
served_quiet ServedDead ps ps' w event s = ap is_dump s

pub worked_quiet : (worked : Worked) (event : Event) → WorkedAs worked event → is_dump event ≡ false
worked_quiet (DidJob Line) event is = ap is_dump is.1
worked_quiet (DidJob (Claim pid)) event is = ap is_dump is
worked_quiet (DidJob Idle) event is = ap is_dump is
worked_quiet (DidJob JobDied) event is = ap is_dump is
worked_quiet Waits event is = moment_quiet event is
worked_quiet Ready event is = moment_quiet event is

-- a job is no moment
pub job_untimed : (job : Job) (event : Event) → JobAs job event → IsUntimed event
job_untimed Line event is = subst IsUntimed (sym is.1) (λ w a. refl)
job_untimed (Claim pid) event is = subst IsUntimed (sym is) (λ w a. refl)
job_untimed Idle event is = subst IsUntimed (sym is) (λ w a. refl)
job_untimed JobDied event is = subst IsUntimed (sym is) (λ w a. refl)

pub did_quiet : (deed : Deed) (did : Did) (noted : Bool) (ps : List Peer) (w : World) (event : Event) → DidAs deed did noted ps w event → is_dump event ≡ false
did_quiet (Open d) Dead noted ps w event is = ap is_dump is
did_quiet (Slice pid) Dead noted ps w event is = ap is_dump is
did_quiet Time Dead noted ps w event is = ap is_dump is
did_quiet Stop Dead noted ps w event is = ap is_dump is
did_quiet Leave Dead noted ps w event is = ap is_dump is
did_quiet Die Dead noted ps w event is = ap is_dump is
did_quiet (Open d) Done noted ps w event is = ap is_dump is.0
did_quiet (Slice pid) Done noted ps w event (inl is) = ap is_dump is
did_quiet (Slice pid) Done noted ps w event (inr is) = ap is_dump is
did_quiet Time Done noted ps w event is = absurd is
did_quiet Stop Done noted ps w event is = ap is_dump is
did_quiet Leave Done noted ps w event is = ap is_dump is.0
did_quiet Die Done noted ps w event is = absurd is
did_quiet (Open d) Timed noted ps w event is = moment_quiet event is
did_quiet (Slice pid) Timed noted ps w event is = absurd is
did_quiet Time Timed noted ps w event is = moment_quiet event is
did_quiet Stop Timed noted ps w event is = moment_quiet event is
did_quiet Leave Timed noted ps w event is = moment_quiet event is
did_quiet Die Timed noted ps w event is = absurd is
