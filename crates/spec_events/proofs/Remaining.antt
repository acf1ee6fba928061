-- Which processes a unit of a process ends.
use Rattle.std.proofs.Common.{◌≡◌, ℤ, Bool, true, false, cond, refl, sym, ◌∙◌, ap, subst, Option, Some, None}
use Rattle.std.specs.Option.{option_map_or}
use Rattle.muck_model.specs.declared.dbref.Dbref.{Dbref}
use Rattle.muck_model.specs.declared.tune.Tune.{Tune}
use Rattle.spec_live.specs.Objects.{same}
use Rattle.spec_live.specs.Lives.{Live}
use Rattle.spec_rights.specs.declared.act.Actor.{Actor}
use Rattle.spec_rights.specs.Licence.{nobody}
use Rattle.muf_model.specs.declared.fault.MufFault.{MufFault}
use Rattle.muf_model.specs.declared.prims.Primitive.{Primitive as Name}
use Rattle.muf_model.specs.Source.{Source, locked_of}
use Rattle.muf_model.specs.Unit.{Outcome, goes, faulted, asks, unit, fault_met}
use Rattle.muf_model.specs.Chains.{programs_of, Keeps as Keep}
use Rattle.muf_model.proofs.Chains.{unit_keeps}
use Rattle.std.specs.Ordering.{int_eq}
use Rattle.spec_prims.specs.Row.{WorldAnswer, gives, refuses, breaks}
use Rattle.spec_prims.specs.Shared.{shared}
use Rattle.spec_prims.specs.Formulas.{answers_for}
use Rattle.spec_prims.proofs.Opens.{RowOpen, shared_open}
use Rattle.muck_queue.specs.declared.process.Process.{Process}
use Rattle.muck_queue.specs.Queues.{Queue, at_state, units_counted, has_pid, is_in, on_process, without_process}
use Rattle.spec_processes.specs.ProcessRows.{is_process}
use Rattle.spec_processes.proofs.Leaves.{EndedBy}
use Rattle.spec_events.specs.declared.starting.Agent.{Agent}
use Rattle.spec_events.specs.World.{World}
use Rattle.spec_events.specs.Following.{settled}
use Rattle.spec_events.specs.Slices.{acting, SharedEffect, does, rests, fails, lifted, row_done, process_done, deed, process_stands_at, out, one_counted, unit_went, after_deed, unit_done, limit_fault, within_limit, unit_taken, world_of}
use Rattle.spec_events.specs.Endings.{ProcessesLicensed, EndsIn, by_itself, by_actor, by_change}
use Rattle.spec_events.proofs.Endings.{IsTold, IsSteady, Lasting, lasting_same, lasting_both, lasting_changed, lasting_without, process_number, processes_remain}
use Rattle.spec_events.proofs.Lapses.{IsLapsing, told_lapse, marks_lapse, Cut, end_as, lasting_lapse}
use Rattle.spec_events.proofs.Deeds.{Leads, Left, leads_done, ended_open}
use Rattle.spec_events.proofs.Taken.{same_actor}

-- A unit of the process of this number, which might end itself.

module _ (pid : ℤ) (may : Process → Type 0) (steady : IsSteady may) (own : (p : Process) → has_pid pid p ≡ true → may p) where
  lasting_own : (f : Process → Process) (q : Queue) → ((p : Process) → (f p).number ≡ p.number) → Lasting may q (on_process pid f q)
  lasting_own f q same = lasting_changed may pid f q same (λ p e m. own p (process_number pid q p e))

  lasting_gone : (q : Queue) → Lasting may q (without_process pid q)
  lasting_gone q = lasting_without may pid q (λ p e. own p (process_number pid q p e))

  lasting_went : (player : Dbref) (program : ℤ) (o : Outcome) (w : World) → Lasting may w.queue (world_of (unit_went pid player program o w)).queue
  lasting_went player program (goes k t) w = lasting_own (at_state (Some t)) w.queue (λ p. refl)
  lasting_went player program (faulted f) w = lasting_gone w.queue
  lasting_went player program _ w = lasting_gone w.queue

  -- A shared primitive ends such as might end, and whatever it marks has lapsed.
  abbrev DeedLasts : World → SharedEffect World → Type 0
  DeedLasts w (does t v) = Lasting may w.queue v.queue × IsLapsing w.live v.live
  DeedLasts w (rests t v) = Lasting may w.queue v.queue × IsLapsing w.live v.live
  DeedLasts w (fails f v) = Lasting may w.queue v.queue

  lasting_row : (a : Actor) (s : Source) (w : World) (row : WorldAnswer) → IsTold w.live → RowOpen a w.live row → DeedLasts w (lifted s w row)
  lasting_row a s w (gives stack live) told h = (lasting_same may w.queue, marks_lapse a nobody w.live live (λ x. refl) told h.marks)
  lasting_row a s w (refuses f) told h = lasting_same may w.queue
  lasting_row a s w (breaks f live) told h = lasting_same may w.queue

  lasting_left : (w : World) (d : SharedEffect World) → IsTold w.live → Leads (Left may w) d → DeedLasts w d
  lasting_left w (does t v) told h = (h.lasting, told_lapse w.live v.live h.quietly.objects told)
  lasting_left w (rests t v) told h = (h.lasting, told_lapse w.live v.live h.quietly.objects told)
  lasting_left w (fails f v) told h = h.lasting

  lasting_deed : (x : Agent) (p : Name) (s : Source) (w : World) → IsTold w.live → ((q : Process) → EndedBy (acting x s w.live.objects) w.live.objects q → may q) → DeedLasts w (deed pid x p s w)
  unfolding deed row_done
  lasting_deed x p s w told ends = either (is_process p)
    where
      either : (b : Bool) → DeedLasts w (cond b (process_done pid x p s w) (row_done x p s w))
      either true = lasting_left w (process_done pid x p s w) told (leads_done may w steady pid x p s ends)
      either false =
          let a : Actor = acting x s w.live.objects in
          lasting_row (answers_for p a w.live.objects) s w (shared p a x.descr (locked_of s.marks) s.stack w.live) told (shared_open p a x.descr (locked_of s.marks) s.stack w.live)

  -- what follows ends such as run what lapsed
  abbrev Cuts : World → World → Type 0
  Cuts w v = (p : Process) → Cut w.live v.live p → may p

  lasting_behind : (w : World) (t : Source) (v : World) → Cuts w (settled (process_stands_at pid t v)) → Lasting may w.queue v.queue → IsLapsing w.live v.live → Lasting may w.queue (settled (process_stands_at pid t v)).queue
  lasting_behind w t v cut h lapsing =
      let u : World = process_stands_at pid t v in
      lasting_both may w.queue u.queue (settled u).queue
      (lasting_both may w.queue v.queue u.queue h (lasting_own (at_state (Some t)) v.queue (λ p. refl)))
      (lasting_lapse may steady w.live (settled u).live u cut refl lapsing)

  lasting_after : (player : Dbref) (s : Source) (w : World) (d : SharedEffect World) → Cuts w (world_of (after_deed pid player s d)) → DeedLasts w d → Lasting may w.queue (world_of (after_deed pid player s d)).queue
  lasting_after player s w (does t v) cut h = lasting_behind w t v cut h.0 h.1
  lasting_after player s w (rests t v) cut h = lasting_behind w t v cut h.0 h.1
  lasting_after player s w (fails f v) cut h =
      lasting_both may w.queue v.queue (world_of (unit_went pid player s.program.number (fault_met f s) v)).queue h (lasting_went player s.program.number (fault_met f s) v)

  abbrev Opens : Actor → World → Type 0
  Opens a w = (q : Process) → EndedBy a w.live.objects q → may q

  lasting_unit : (x : Agent) (s : Source) (w : World) (o : Outcome) → unit s ≡ o → IsTold w.live → Opens (acting x s w.live.objects) w → Cuts w (world_of (unit_done pid x s.program.number o w)) →
      Lasting may w.queue (world_of (unit_done pid x s.program.number o w)).queue
  lasting_unit x s w (asks p t) e told ends cut =
      let kept : Keep (programs_of s) (asks p t) = subst (Keep (programs_of s)) e (unit_keeps s) in
      let opens : Opens (acting x t w.live.objects) w = subst (λ a. Opens a w) (sym (same_actor x s t w.live.objects kept.0)) ends in
      let u : World = out pid w in
      lasting_both may w.queue u.queue (world_of (after_deed pid x.player t (deed pid x p t u))).queue
      (lasting_own (at_state None) w.queue (λ q. refl))
      (lasting_after x.player t u (deed pid x p t u) cut (lasting_deed x p t u told opens))
  lasting_unit x s w o e told ends cut = lasting_went x.player s.program.number o w

  lasting_within : (x : Agent) (s : Source) (w : World) (o : Option MufFault) → IsTold w.live → Opens (acting x s w.live.objects) w → Cuts w (world_of (within_limit o pid x s w)) →
      Lasting may w.queue (world_of (within_limit o pid x s w)).queue
  lasting_within x s w (Some f) told ends cut = lasting_gone w.queue
  lasting_within x s w None told ends cut =
      let u : World = one_counted pid w in
      lasting_both may w.queue u.queue (world_of (unit_done pid x s.program.number (unit s) u)).queue
      (lasting_own (units_counted 1) w.queue (λ p. refl))
      (lasting_unit x s u (unit s) refl told ends cut)

-- What ends in a unit may end alike in another way of going on.

steady_ends : (pid : ℤ) (a : Actor) (w v : Live) → IsSteady (EndsIn pid a w v)
steady_ends pid a w v p q s (by_itself e) = by_itself (ap (λ n. int_eq n pid) (sym s.number) ∙ e)
steady_ends pid a w v p q s (by_actor e) = by_actor (end_as a w.objects p q s ∙ e)
steady_ends pid a w v p q s (by_change d r l) = by_change d (ap (λ (t : Option Source). option_map_or (is_in d) t false) (sym s.running) ∙ r) l

-- A unit ends its own process, such as its actor may end, and such as run what it changed, at most.
pub leaves_turn : (tune : Tune) (pid : ℤ) (x : Agent) (s : Source) (w : World) → IsTold w.live →
    ProcessesLicensed (EndsIn pid (acting x s w.live.objects) w.live (world_of (unit_taken tune pid x s w)).live) w (world_of (unit_taken tune pid x s w))
unfolding unit_taken
leaves_turn tune pid x s w told =
    let a : Actor = acting x s w.live.objects in
    let o : Option MufFault = limit_fault tune a.level x in
    let v : World = world_of (within_limit o pid x s w) in
    let may : Process → Type 0 = EndsIn pid a w.live v.live in
    processes_remain may may w v (λ p m. m)
    (lasting_within pid may (steady_ends pid a w.live v.live) (λ p e. by_itself e) x s w o told (λ q e. by_actor (ended_open a w.live.objects q e)) (λ p c. by_change c.0 c.1 c.2))
