-- From turn to turn.
use Rattle.std.proofs.Common.{◌≡◌, ℕ, ℤ, ◌<◌, ◌==◌, Bool, true, false, cond, List, [], ◌∷◌, ◌++◌, refl, sym, ◌∙◌, ap, subst, arith, append-nil, append_assoc, Some, None}
use Rattle.std.specs.Prelude.{nat_lt}
use Rattle.std.proofs.lemmas.Bool.{ne_eqb, lt-ltb}
use Rattle.turn_lock.specs.Histories.{StartsWith}
use Rattle.muck_model.specs.declared.event.Event.{Event}
use Rattle.muck_model.specs.declared.event.Event.TheVariants.{Exec, Claim, Idle}
use Rattle.spec_events.specs.declared.logged.Logged.{Logged}
use Rattle.spec_events.specs.Histories.{History, now}
use Rattle.spec_events.specs.Logged.{bare_item, events_of, NoNotes, NoCounts}
use Rattle.spec_events.specs.Own.{Stage, porter_next, worker_next, dumper_next, party_next, next_stage, stage_of}
use Rattle.spec_events.proofs.Logging.{events_append, no_notes_one, no_counts_one}
use Rattle.spec_events.proofs.Owning.{stage_more, well_formed, over_with}
use Rattle.muck_work.specs.inner.Seats.{Sight, Chair, Rests, SameLists, Turned}
use Rattle.muck_work.proofs.Seating.{left_rests, seen_later}
use Rattle.muck_work.specs.declared.jobs.Job.{Job}
use Rattle.muck_work.specs.declared.jobs.Job.TheVariants.{Line, Claim as JobClaim, Idle as JobIdle, Died as JobDied}
use Rattle.muck_work.specs.inner.Jobs.{by, JobAs}
use Rattle.muck_work.specs.inner.Holds.{HasTurn}
use Rattle.muck_work.proofs.Holding.{claim_held}
use Rattle.muck_worker.specs.declared.working.Why.TheVariants.{Fine, NoMemory}
use Rattle.muck_worker.specs.declared.deeds.Task.{Task}
use Rattle.muck_worker.specs.declared.deeds.Task.TheVariants.{Work, Slice, End}
use Rattle.muck_worker.specs.declared.deeds.Did.TheVariants.{Went, Claimed, Over, Failed}
use Rattle.muck_worker.specs.inner.Working.{WorkerReady, WorkerDone}
use Rattle.muck_worker.specs.inner.Deeds.{stage_for, did_as, IsClaimed, DidAs, IsOpen, IsHeld, Works}

-- what a seat has claimed last is claimed in the world that it is given
pub open_held : (party : ℕ) (task : Task) (me me' : Chair) (h : History) → HasTurn party me me' h → IsHeld party task me.0 → IsOpen party task (now h)
open_held party Work me me' h turn held = tt
open_held party End me me' h turn held = tt
open_held party (Slice pid) me me' h turn held = claim_held party pid me me' h turn held

-- A job, as a worker's.

-- what a worker may is what workers may
as_worker : (party : ℕ) (stage : Stage) (event : Event) → (0 < party) × (party < 9) → party_next party stage event ≡ worker_next stage event
as_worker party stage event worker =
    let some : 0 < party = worker.0 in
    ap (λ b. cond b (porter_next stage event) (cond (nat_lt party 9) (worker_next stage event) (cond (party == 9) (dumper_next stage event) None))) (ne_eqb party 0 (λ none. omega (arith, some, none)))
    ∙ ap (λ b. cond b (worker_next stage event) (cond (party == 9) (dumper_next stage event) None)) (lt-ltb party 9 worker.1)

pub job_done : (party : ℕ) (job : Job) (stops : Bool) (event : Event) → (0 < party) × (party < 9) → JobAs job event → DidAs party Work (did_as job stops) event
job_done party Line stops event worker is = subst (λ (e : Event). DidAs party Work Went e) (sym is.1) (as_worker party Stage.unbound (Exec is.0) worker, tt, refl)
job_done party (JobClaim pid) stops event worker is = subst (λ (e : Event). DidAs party Work (Claimed (Slice pid)) e) (sym is) (as_worker party Stage.unbound (Claim pid) worker, refl, refl)
job_done party JobIdle true event worker is = subst (λ (e : Event). DidAs party Work (did_as JobIdle true) e) (sym is) (as_worker party Stage.unbound Idle worker, tt, refl)
job_done party JobIdle false event worker is = subst (λ (e : Event). DidAs party Work (did_as JobIdle false) e) (sym is) (as_worker party Stage.unbound Idle worker, tt, refl)
job_done party JobDied stops event worker is = subst (λ (e : Event). DidAs party Work Failed e) (sym is) (refl, refl, refl)

-- The list of a seat grows.

seen_turned : (v v' : Sight) (l : Logged) → Turned v v' l → StartsWith v'.seen v.seen
seen_turned v v' l t = (t.others ++ l ∷ [], t.seen ∙ append_assoc v.seen t.others (l ∷ []))

same_later : (u v w : Sight) → SameLists u v → SameLists v w → SameLists u w
same_later u v w p q = (q.0 ∙ p.0, q.1 ∙ p.1, q.2 ∙ p.2)

module _ (party : ℕ) (me : Chair) where
  -- it begins
  none_done : stage_of party [] ≡ Some Stage.unbound
  unfolding stage_of
  none_done = refl

  pub works_begun : WorkerReady party me → Works party Work me me
  works_begun r = record {
    rests = r.rests;
    lists = (refl, refl, refl);
    seen = ([], sym (append-nil me.0.seen));
    stage = ap (λ (ls : List Logged). stage_of party (events_of ls)) r.fresh ∙ none_done;
    notes = subst NoNotes (sym r.fresh) tt;
    counts = subst NoCounts (sym r.fresh) tt;
    claim = tt;
  }

  module _ (task : Task) (now_me later_me : Chair) (w : Works party task me now_me) where
    module _ (event : Event) (t : Turned now_me.0 later_me.0 (bare_item (by party event))) where
      seen_since : StartsWith later_me.0.seen me.0.seen
      seen_since = seen_later me.0.seen now_me.0.seen later_me.0.seen w.seen (seen_turned now_me.0 later_me.0 (bare_item (by party event)) t)

      events_since : events_of later_me.0.own ≡ events_of now_me.0.own ++ event ∷ []
      events_since = ap events_of t.own ∙ events_append now_me.0.own (bare_item (by party event) ∷ [])

      stage_since : (later : Stage) → next_stage party (stage_for task) event ≡ Some later → stage_of party (events_of later_me.0.own) ≡ Some later
      stage_since later may = ap (stage_of party) events_since ∙ stage_more party (events_of now_me.0.own) event (stage_for task) later w.stage may

      notes_since : NoNotes later_me.0.own
      notes_since = subst NoNotes (sym t.own) (no_notes_one now_me.0.own (bare_item (by party event)) w.notes refl)

      counts_since : NoCounts later_me.0.own
      counts_since = subst NoCounts (sym t.own) (no_counts_one now_me.0.own (bare_item (by party event)) w.counts refl)

      -- it goes on
      pub works_on : (later : Task) → Rests party later_me → next_stage party (stage_for task) event ≡ Some (stage_for later) → IsHeld party later later_me.0 → Works party later me later_me
      works_on later rests may held = record {
        rests = rests;
        lists = same_later me.0 now_me.0 later_me.0 w.lists t.lists;
        seen = seen_since;
        stage = stage_since (stage_for later) may;
        notes = notes_since;
        counts = counts_since;
        claim = held;
      }

      -- it is over
      pub done_fine : Rests party later_me → DidAs party task Over event → WorkerDone Fine party me later_me
      done_fine rests did = record {
        left = left_rests party later_me rests;
        lists = same_later me.0 now_me.0 later_me.0 w.lists t.lists;
        seen = seen_since;
        formed = well_formed party (events_of later_me.0.own) Stage.stopped (stage_since Stage.stopped did.0);
        over = λ n. over_with party (events_of later_me.0.own) Stage.stopped (stage_since Stage.stopped did.0) refl;
        notes = notes_since;
        counts = counts_since;
        fine = λ e. (now_me.0.own, t.own ∙ ap (λ (x : Event). now_me.0.own ++ bare_item (by party x) ∷ []) did.1);
        dead = λ e. cc;
        spent = λ e. cc;
      }

      pub done_dead : Rests party later_me → DidAs party task Failed event → WorkerDone NoMemory party me later_me
      done_dead rests did = record {
        left = left_rests party later_me rests;
        lists = same_later me.0 now_me.0 later_me.0 w.lists t.lists;
        seen = seen_since;
        formed = well_formed party (events_of later_me.0.own) Stage.ended (stage_since Stage.ended did.0);
        over = λ n. over_with party (events_of later_me.0.own) Stage.ended (stage_since Stage.ended did.0) refl;
        notes = notes_since;
        counts = counts_since;
        fine = λ e. cc;
        dead = λ e. (now_me.0.own, t.own ∙ ap (λ (x : Event). now_me.0.own ++ bare_item (by party x) ∷ []) did.1);
        spent = λ e. cc;
      }

-- a claim is the last thing that the seat has seen
held_claim : (party : ℕ) (pid : ℤ) (v v' : Sight) (event : Event) → event ≡ Claim pid → Turned v v' (bare_item (by party event)) → IsHeld party (Slice pid) v'
held_claim party pid v v' event is t = (v.seen ++ t.others, bare_item (by party event), t.seen, ap (by party) is)

pub held_next : (party : ℕ) (next : Task) (v v' : Sight) (event : Event) → IsClaimed next event → Turned v v' (bare_item (by party event)) → IsHeld party next v'
held_next party Work v v' event said t = tt
held_next party End v v' event said t = tt
held_next party (Slice pid) v v' event said t = held_claim party pid v v' event said t
