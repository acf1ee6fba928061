-- Each unit of a slice changes only what is open to who answers for it.
use Rattle.std.proofs.Common.{◌≡◌, ℕ, ℤ, Bool, true, false, cond, List, [], ◌∷◌, map, refl, ap, subst, Option, Some, None}
use Rattle.muck_model.specs.declared.dbref.Dbref.{Dbref}
use Rattle.muck_model.specs.declared.tune.Tune.{Tune}
use Rattle.spec_live.specs.Lives.{Live, tell_player}
use Rattle.spec_live.proofs.Keeping.{stays}
use Rattle.spec_rights.specs.declared.act.Actor.{Actor}
use Rattle.spec_rights.specs.Licence.{nobody}
use Rattle.spec_rights.proofs.Shown.{quiet_tell_player}
use Rattle.muf_model.specs.declared.fault.MufFault.{MufFault}
use Rattle.muf_model.specs.declared.prims.Primitive.{Primitive as Name}
use Rattle.muf_model.specs.Source.{Program, Source, locked_of}
use Rattle.muf_model.specs.Unit.{Outcome, goes, faulted, asks, unit, fault_met}
use Rattle.muf_model.specs.Chains.{programs_of, Keeps as Keep}
use Rattle.muf_model.proofs.Chains.{unit_keeps}
use Rattle.spec_prims.specs.Asking.{object_numbered}
use Rattle.spec_rights.specs.Levels.{level, user}
use Rattle.spec_live.specs.Objects.{Entry}
use Rattle.spec_prims.specs.Row.{WorldAnswer, gives, refuses, breaks}
use Rattle.spec_prims.specs.Shared.{shared}
use Rattle.spec_mpi.specs.Touching.{TouchesNotes}
use Rattle.spec_prims.specs.Formulas.{answers_for}
use Rattle.spec_prims.proofs.Opens.{RowOpen, same_open, shared_open}
use Rattle.muck_queue.specs.Queues.{standing, without_process}
use Rattle.spec_processes.specs.ProcessRows.{is_process}
use Rattle.spec_events.specs.declared.starting.Agent.{Agent}
use Rattle.spec_events.specs.World.{World}
use Rattle.spec_events.specs.Licences.{answers_at}
use Rattle.spec_events.specs.Slices.{acting, SharedEffect, does, rests, fails, lifted, row_done, process_done, deed, process_stands_at, ended_one, out, one_counted, broken, program_error, unit_went, after_deed, unit_done, limit_fault, within_limit, unit_taken, world_of, slice_most, units_run, last_world, process_awake, sliced}
use Rattle.spec_events.proofs.Quietly.{lively_acts, Quietly, quietly_live, quietly_queue}
use Rattle.spec_events.proofs.Endings.{IsTold, told_settled}
use Rattle.spec_events.proofs.Login.{told_notes}
use Rattle.spec_events.proofs.Done.{state_of, told_by, in_range_as, Open, open_quietly, open_settled, Going, going_same, going_both, going_open}
use Rattle.spec_events.proofs.Deeds.{Leads, leads_more, leads_quietly}
use Rattle.spec_events.proofs.Slicing.{run_holds}

-- A unit of a process that acts in the world w.

module _ (a : Actor) (w : World) where
  abbrev Opens : World → Type 0
  Opens v = Open a nobody w.live (state_of w) v

  opens_itself : Opens w
  opens_itself = record { licensed = (same_open a w.live).licensed; goes = stays; tuned = λ h. h; alive = refl; still = refl }

  opens_row : (s : Source) (row : WorldAnswer) → RowOpen a w.live row → Leads Opens (lifted s w row)
  opens_row s (gives stack live) h = record { licensed = h.licensed; goes = lively_acts w.live live h.goes; tuned = in_range_as w.live live h.tune; alive = refl; still = refl }
  opens_row s (refuses f) h = opens_itself
  opens_row s (breaks f live) h = record { licensed = h.0.licensed; goes = lively_acts w.live live h.0.goes; tuned = in_range_as w.live live h.0.tune; alive = refl; still = refl }

  opens_quietly : (v : World) → Quietly w v → Opens v
  opens_quietly v q = open_quietly a nobody w.live (state_of w) w v opens_itself q

  opens_ended : (pid : ℤ) (v : World) → Opens v → Opens (ended_one pid v)
  opens_ended pid v h = open_quietly a nobody w.live (state_of w) v _ h (quietly_queue (without_process pid) v)

  opens_broken : (pid : ℤ) (player : Dbref) (program : ℤ) (f : MufFault) (v : World) → Opens v → Opens (broken pid player program f v)
  opens_broken pid player program f v h =
      open_quietly a nobody w.live (state_of w) (ended_one pid v) _ (opens_ended pid v h) (quietly_live (tell_player player (program_error program f)) (quiet_tell_player player (program_error program f)) (ended_one pid v))

  opens_standing : (pid : ℤ) (t : Source) (v : World) → Opens v → Opens (process_stands_at pid t v)
  opens_standing pid t v h = open_quietly a nobody w.live (state_of w) v _ h (quietly_queue (standing pid (Some t)) v)

  opens_went : (pid : ℤ) (player : Dbref) (program : ℤ) (o : Outcome) (v : World) → Opens v → Opens (world_of (unit_went pid player program o v))
  opens_went pid player program (goes k t) v h = opens_standing pid t v h
  opens_went pid player program (faulted f) v h = opens_broken pid player program f v h
  opens_went pid player program _ v h = opens_ended pid v h

  opens_after : (pid : ℤ) (player : Dbref) (s : Source) (d : SharedEffect World) → Leads Opens d → Opens (world_of (after_deed pid player s d))
  opens_after pid player s (does t v) h = open_settled a nobody w.live (state_of w) (process_stands_at pid t v) (opens_standing pid t v h)
  opens_after pid player s (rests t v) h = open_settled a nobody w.live (state_of w) (process_stands_at pid t v) (opens_standing pid t v h)
  opens_after pid player s (fails f v) h = opens_went pid player s.program.number (fault_met f s) v h

opens_deed : (pid : ℤ) (x : Agent) (p : Name) (s : Source) (w : World) → Leads (Opens (answers_for p (acting x s w.live.objects) w.live.objects) w) (deed pid x p s w)
unfolding deed row_done
opens_deed pid x p s w = either (is_process p)
  where
    a : Actor
    a = acting x s w.live.objects

    by : Actor
    by = answers_for p a w.live.objects

    either : (b : Bool) → Leads (Opens by w) (cond b (process_done pid x p s w) (row_done x p s w))
    either true = leads_more (Quietly w) (Opens by w) (opens_quietly by w) (process_done pid x p s w) (leads_quietly pid x p s w)
    either false =
        opens_row by w s (shared p a x.descr (locked_of s.marks) s.stack w.live) (shared_open p a x.descr (locked_of s.marks) s.stack w.live)

-- the state at a shared primitive is in the same programs
abbrev acting_with : Agent → Program → List Program → List Entry → Actor
acting_with x p ps es = record {
  level = level es (object_numbered p.number) (map (λ q. object_numbered q.number) ps);
  user = user es x.player x.trigger (object_numbered p.number) (map (λ q. object_numbered q.number) ps);
  player = x.player;
}

abbrev acting_in : Agent → List Program → Program → List Entry → Actor
acting_in x [] running es = acting_with x running [] es
acting_in x (p ∷ ps) running es = acting_with x p ps es

pub same_actor : (x : Agent) (s t : Source) (es : List Entry) → programs_of t ≡ programs_of s → acting x t es ≡ acting x s es
unfolding acting
same_actor x s t es e = ap (λ ps. acting_in x ps s.program es) e

opens_unit : (pid : ℤ) (x : Agent) (s : Source) (w : World) (o : Outcome) → unit s ≡ o → Opens (answers_at o (acting x s w.live.objects) w.live.objects) w (world_of (unit_done pid x s.program.number o w))
opens_unit pid x s w (asks p t) e =
    let kept : Keep (programs_of s) (asks p t) = subst (Keep (programs_of s)) e (unit_keeps s) in
    let d : SharedEffect World = deed pid x p t (out pid w) in
    subst (λ a. Opens (answers_for p a w.live.objects) w (world_of (after_deed pid x.player t d))) (same_actor x s t w.live.objects kept.0)
    (opens_after (answers_for p (acting x t w.live.objects) w.live.objects) w pid x.player t d (opens_deed pid x p t (out pid w)))
opens_unit pid x s w o e = opens_went (acting x s w.live.objects) w pid x.player s.program.number o w (opens_itself _ w)

-- who answers for the next unit of a process that stands there
abbrev answers_next : Agent → Source → World → Actor
answers_next x s w = answers_at (unit s) (acting x s w.live.objects) w.live.objects

opens_limited : (pid : ℤ) (x : Agent) (s : Source) (w : World) (o : Option MufFault) → Opens (answers_next x s w) w (world_of (within_limit o pid x s w))
opens_limited pid x s w (Some f) = opens_broken _ w pid x.player s.program.number f w (opens_itself _ w)
opens_limited pid x s w None = opens_unit pid x s (one_counted pid w) (unit s) refl

pub opens_turn : (tune : Tune) (pid : ℤ) (x : Agent) (s : Source) (w : World) → Opens (answers_next x s w) w (world_of (unit_taken tune pid x s w))
unfolding unit_taken
opens_turn tune pid x s w = opens_limited pid x s w (limit_fault tune (acting x s w.live.objects).level x)

-- Where nothing is to be told before a slice, nothing is to be told behind it.

abbrev DeedTold : SharedEffect World → Type 0
DeedTold (does t v) = Unit {0}
DeedTold (rests t v) = Unit {0}
DeedTold (fails f v) = IsTold v.live

-- what touches notes alone leaves nothing to be told
pub told_touched : (w v : Live) → TouchesNotes w v → IsTold w → IsTold v
told_touched w v t h = told_notes w v t.objects h

told_row : (a : Actor) (s : Source) (w : World) (row : WorldAnswer) → RowOpen a w.live row → IsTold w.live → DeedTold (lifted s w row)
told_row a s w (gives stack live) r h = tt
told_row a s w (refuses f) r h = h
told_row a s w (breaks f live) r h = told_touched w.live live r.1 h

told_quietly : (w : World) (d : SharedEffect World) → IsTold w.live → Leads (Quietly w) d → DeedTold d
told_quietly w (does t v) h q = tt
told_quietly w (rests t v) h q = tt
told_quietly w (fails f v) h q = told_by w.live v.live q.objects h

told_deed : (pid : ℤ) (x : Agent) (p : Name) (s : Source) (w : World) → IsTold w.live → DeedTold (deed pid x p s w)
unfolding deed row_done
told_deed pid x p s w h = either (is_process p)
  where
    either : (b : Bool) → DeedTold (cond b (process_done pid x p s w) (row_done x p s w))
    either true = told_quietly w (process_done pid x p s w) h (leads_quietly pid x p s w)
    either false =
        let a : Actor = acting x s w.live.objects in
        told_row (answers_for p a w.live.objects) s w (shared p a x.descr (locked_of s.marks) s.stack w.live) (shared_open p a x.descr (locked_of s.marks) s.stack w.live) h

module _ (pid : ℤ) where
  told_broken : (player : Dbref) (program : ℤ) (f : MufFault) (w : World) → IsTold w.live → IsTold (broken pid player program f w).live
  told_broken player program f w h = told_by w.live (tell_player player (program_error program f) w.live) ((quiet_tell_player player (program_error program f)).law w.live).objects h

  told_went : (player : Dbref) (program : ℤ) (o : Outcome) (w : World) → IsTold w.live → IsTold (world_of (unit_went pid player program o w)).live
  told_went player program (goes k t) w h = h
  told_went player program (faulted f) w h = told_broken player program f w h
  told_went player program _ w h = h

  told_after : (player : Dbref) (s : Source) (d : SharedEffect World) → DeedTold d → IsTold (world_of (after_deed pid player s d)).live
  told_after player s (does t v) h = told_settled (process_stands_at pid t v)
  told_after player s (rests t v) h = told_settled (process_stands_at pid t v)
  told_after player s (fails f v) h = told_went player s.program.number (fault_met f s) v h

  told_unit : (x : Agent) (program : ℤ) (o : Outcome) (w : World) → IsTold w.live → IsTold (world_of (unit_done pid x program o w)).live
  told_unit x program (asks p t) w h = told_after x.player t (deed pid x p t (out pid w)) (told_deed pid x p t (out pid w) h)
  told_unit x program o w h = told_went x.player program o w h

  told_limited : (x : Agent) (s : Source) (o : Option MufFault) (w : World) → IsTold w.live → IsTold (world_of (within_limit o pid x s w)).live
  told_limited x s (Some f) w h = told_broken x.player s.program.number f w h
  told_limited x s None w h = told_unit x s.program.number (unit s) (one_counted pid w) h

pub told_turn : (tune : Tune) (pid : ℤ) (x : Agent) (s : Source) (w : World) → IsTold w.live → IsTold (world_of (unit_taken tune pid x s w)).live
unfolding unit_taken
told_turn tune pid x s w h = told_limited pid x s (limit_fault tune (acting x s w.live.objects).level x) w h

told_run : (tune : Tune) (pid : ℤ) (n : ℕ) (w : World) → IsTold w.live → IsTold (last_world w (units_run tune n pid w)).live
told_run tune pid n w = run_holds tune pid (λ v ts. IsTold v.live → IsTold (last_world v ts).live) (λ v h. h) (λ v x s ts e rest h. rest (told_turn tune pid x s v h)) n w

pub told_sliced : (pid : ℤ) (w : World) → IsTold w.live → IsTold (sliced pid w).live
unfolding sliced
told_sliced pid w h = told_run w.live.board.tune pid (slice_most w.live.board.tune) (process_awake pid w) h

-- The world lives on behind a slice, with the same connections, and what is tuned stays in its range.

going_turn : (tune : Tune) (pid : ℤ) (x : Agent) (s : Source) (w : World) → Going w (world_of (unit_taken tune pid x s w))
going_turn tune pid x s w = going_open (answers_next x s w) nobody w _ (opens_turn tune pid x s w)

going_run : (tune : Tune) (pid : ℤ) (n : ℕ) (w : World) → Going w (last_world w (units_run tune n pid w))
going_run tune pid n w = run_holds tune pid (λ v ts. Going v (last_world v ts)) going_same (λ v x s ts e rest. going_both v _ _ (going_turn tune pid x s v) rest) n w

going_awake : (pid : ℤ) (w : World) → Going w (process_awake pid w)
going_awake pid w = record { goes = stays; numbers = refl; tuned = λ h. h; dead = refl; running = refl; moment = refl }

pub sliced_going : (pid : ℤ) (w : World) → Going w (sliced pid w)
unfolding sliced
sliced_going pid w = going_both w (process_awake pid w) _ (going_awake pid w) (going_run w.live.board.tune pid (slice_most w.live.board.tune) (process_awake pid w))
