-- Where the processes behind a unit come from, and behind a slice.
use Rattle.std.proofs.Common.{◌≡◌, ◌⊎◌, ℕ, ℤ, pos, ◌<ℤ◌, Bool, true, false, cond, List, [], ◌∷◌, find, refl, sym, ◌∙◌, ap, subst, Option, Some, None, inl, inr}
use Rattle.std.specs.Prelude.{nat_lt, Result, Ok, Err}
use Rattle.std.specs.Ordering.{int_eq}
use Rattle.std.proofs.lemmas.Bool.{cond_both}
use Rattle.std.proofs.lemmas.Bool.Decides.{Decides-int_eq}
use Rattle.muck_model.specs.declared.dbref.Dbref.{Dbref}
use Rattle.muck_model.specs.declared.tune.Tune.{Tune}
use Rattle.spec_live.specs.Objects.{dbref_of, nothing}
use Rattle.spec_live.specs.Lives.{Live}
use Rattle.spec_rights.specs.declared.act.Actor.{Actor}
use Rattle.spec_rights.specs.declared.act.Act.TheVariants.{Call}
use Rattle.spec_rights.specs.Verdict.{verdict}
use Rattle.spec_rights.specs.Licence.{nobody}
use Rattle.muf_model.specs.declared.fault.MufFault.{MufFault}
use Rattle.muf_model.specs.declared.fault.MufFault.TheVariants.{CallsFull}
use Rattle.muf_model.specs.declared.prims.Primitive.{Primitive as Name}
use Rattle.muf_model.specs.Datum.{Datum, int}
use Rattle.muf_model.specs.Tree.{Definition, Tree}
use Rattle.muf_model.specs.Source.{Program, Source, locked_of, calls_running, handed, program_entered}
use Rattle.muf_model.specs.Unit.{calls_most, Outcome, goes, faulted, asks, unit, fault_met}
use Rattle.muf_model.specs.Chains.{programs_of, Keeps as Keep}
use Rattle.muf_model.proofs.Chains.{unit_keeps}
use Rattle.spec_prims.specs.Asking.{object_numbered}
use Rattle.spec_prims.specs.Row.{WorldAnswer, gives, refuses, breaks}
use Rattle.spec_prims.specs.Shared.{shared}
use Rattle.spec_prims.specs.Formulas.{answers_for}
use Rattle.spec_prims.proofs.Opens.{RowOpen, shared_open}
use Rattle.muck_library.specs.Library.{Library, formed}
use Rattle.muck_queue.specs.declared.mode.Mode.TheVariants.{Background}
use Rattle.muck_queue.specs.declared.process.Process.{Process}
use Rattle.muck_queue.specs.Queues as queues
use Rattle.muck_queue.specs.Queues.{Queue, has_pid, process, on_process, without_process, released, at_state, units_counted, told_event, woken}
use Rattle.spec_processes.specs.ProcessRows.{Effect, gives as effect_gives, waits, forks, enters, starts, refuses as effect_refuses, processed, is_process, seconds_later}
use Rattle.spec_processes.proofs.Leaves.{Leaves as Left, leaves}
use Rattle.spec_events.specs.declared.starting.Agent.{Agent}
use Rattle.spec_events.specs.declared.starting.Call.{Call as Started}
use Rattle.spec_events.specs.declared.starting.Manner.{Manner}
use Rattle.spec_events.specs.World.{World, with_library}
use Rattle.spec_events.specs.Following.{settled}
use Rattle.spec_events.specs.Starting.{new_process, process_joined, program_begun}
use Rattle.spec_events.specs.Slices.{acting, SharedEffect, does, rests, fails, state_behind, lifted, row_done, called_word, word_entered, form_entered, program_called, child_of, with_number, child_joined, forked, queued_command, with_process, queued, place_of_use, effected, process_done, deed, process_stands_at, out, one_counted, unit_went, after_deed, unit_done, limit_fault, within_limit, unit_taken, world_of, seat, unit_of, Taken, units_run, last_world, slice_most, units_of, process_awake, sliced}
use Rattle.spec_events.specs.Endings.{Lapsed}
use Rattle.spec_events.specs.Sourced.{Each}
use Rattle.spec_events.proofs.Endings.{IsTold, process_number}
use Rattle.spec_events.proofs.Quietly.{quietly_joined, quietly_begun}
use Rattle.spec_events.proofs.Slicing.{run_holds}
use Rattle.spec_events.proofs.Taken.{same_actor, told_turn}
use Rattle.spec_events.proofs.Units.{sits}
use Rattle.spec_origins.specs.Origins.{Among, SameOrigin, GoesOn, From, was_there, is_new, Comes, LostIn, IsQueued, StartedIn, SliceOrigins}
use Rattle.spec_origins.proofs.Going.{origin_both, goes_woken, among_more, from_itself, since_own, since_told, holds_changed, holds_without, holds_joined, holds_begun, holds_settled}
use Rattle.spec_origins.proofs.Lapsing.{IsLapsing, told_lapse, marks_lapse, lapse_settled}
use Rattle.spec_origins.proofs.Rows as rows

pub found_among : (P : Process → Type 0) (test : Process → Bool) (ps : List Process) (p : Process) → Each P ps → find test ps ≡ Some p → P p
found_among P test [] p h = λ e. absurd cc
found_among P test (q ∷ ps) p h =
    (elim (test q) as (λ b. cond b (Some q) (find test ps) ≡ Some p → P p) [
      | true ↦ λ e. subst P (let k : q ≡ p = cc in k) h.0
      | false ↦ λ e. found_among P test ps p h.1 e
    ])

module _ (pid : ℤ) (ts : List Taken) (start : Queue) where
  abbrev Own : ℤ → Bool
  Own n = int_eq n pid

  abbrev Lost : Dbref → Type 0
  Lost x = LostIn ts x

  abbrev New : Process → Type 0
  New q = StartedIn pid ts start q

  -- it goes on as new

  on_trigger : (x y : Dbref) → (y ≡ x) ⊎ ((y ≡ nothing) × Lost x) → x ≡ nothing → y ≡ nothing
  on_trigger x y (inl e) n = e ∙ n
  on_trigger x y (inr k) n = k.0

  on_origin : (p q r : Process) → SameOrigin Lost p q ⊎ IsQueued ts q → SameOrigin Lost q r → SameOrigin Lost p r ⊎ IsQueued ts r
  on_origin p q r (inl so) g = inl (origin_both Lost p q r so g)
  on_origin p q r (inr k) g =
      inr (g.command ∙ k.0, on_trigger q.trigger r.trigger g.trigger k.1, (k.2.0, k.2.1, subst (λ d. verdict k.2.0.before.live.objects k.2.0.actor (Call d) ≡ None) (sym g.program) k.2.2))

  untied : (x y : Option ℕ) → (y ≡ x) ⊎ (y ≡ None) → x ≡ None → y ≡ None
  untied x y (inl e) n = e ∙ n
  untied x y (inr k) n = k

  stable : (q r : Process) → New q → GoesOn Lost q r → New r
  stable q r n g = record {
    parent = n.parent;
    among = n.among;
    own = n.own;
    number = subst (λ m. start.last <ℤ m) (sym g.number) n.number;
    player = g.origin.player ∙ n.player;
    tied = untied q.descr r.descr g.tied n.tied;
    origin = on_origin n.parent q r n.origin g.origin;
  }

  abbrev Since : Process → Type 0
  Since q = From Own true Lost New start.processes q

  abbrev pub Holds : Queue → Type 0
  Holds r = Comes Own true Lost New start r

  own_holds : (f : Process → Process) → ((p : Process) → GoesOn Lost p (f p)) → (r : Queue) → Holds r → Holds (on_process pid f r)
  own_holds f g r h = holds_changed Own true Lost New start pid f (λ p e k. since_own Own true Lost New stable start f g p ((Decides-int_eq p.number pid).1 e) k) r h

  told_holds : (at : ℤ) (second : ℕ) (event : List ℕ × Datum) (r : Queue) → Holds r → Holds (on_process at (told_event second event) r)
  told_holds at second event r h = holds_changed Own true Lost New start at (told_event second event) (λ p e k. since_told Own true Lost New stable start refl second event p k) r h

  gone_holds : (at : ℤ) (r : Queue) → Holds r → Holds (without_process at r)
  gone_holds at r h = holds_without Own true Lost New start at r h

  state_goes : (o : Option Source) (p : Process) → GoesOn Lost p (at_state o p)
  state_goes o p = record { number = refl; origin = record { player = refl; program = refl; command = refl; trigger = inl refl }; tied = inl refl }

  -- The process whose slice it is comes of one of that number.
  abbrev Mine : Dbref → Type 0
  Mine player = (p : Process) × Among p start.processes × (p.number ≡ pid) × (player ≡ p.player)

  mine_by : (it : Process) → it.number ≡ pid → Since it → Mine it.player
  mine_by it e (was_there p a g s) = (p, a, sym g.number ∙ e, g.origin.player)
  mine_by it e (is_new n) = (n.parent, n.among, n.own, n.player)

  own_since : (r : Queue) (it : Process) → Holds r → process pid r ≡ Some it → Since it
  own_since r it h e = found_among Since (has_pid pid) r.processes it h.processes e

  -- FORK's child is new

  child_so : (p it : Process) (moment n : ℕ) (m : ℤ) (s : Source) → SameOrigin Lost p it ⊎ IsQueued ts it → SameOrigin Lost p (queues.process_numbered m (child_of moment s it)) ⊎ IsQueued ts (queues.process_numbered m (child_of moment s it))
  child_so p it moment n m s (inl so) = inl (record { player = so.player; program = so.program; command = so.command; trigger = so.trigger })
  child_so p it moment n m s (inr k) = inr (k.0, k.1, k.2)

  child_new : (it : Process) → it.number ≡ pid → Since it → (moment : ℕ) (s : Source) (n : ℤ) → start.last <ℤ n → New (queues.process_numbered n (child_of moment s it))
  child_new it e (was_there p a g k) moment s n l =
      record { parent = p; among = a; own = sym g.number ∙ e; number = l; player = g.origin.player; tied = refl; origin = child_so p it moment 0 n s (inl g.origin) }
  child_new it e (is_new new) moment s n l =
      record { parent = new.parent; among = new.among; own = new.own; number = l; player = new.player; tied = refl; origin = child_so new.parent it moment 0 n s new.origin }

  -- Deeds.

  abbrev DeedHolds : Live → SharedEffect World → Type 0
  DeedHolds b (does t v) = Holds v.queue × IsLapsing b v.live
  DeedHolds b (rests t v) = Holds v.queue × IsLapsing b v.live
  DeedHolds b (fails f v) = Holds v.queue

  -- a program of that number may be queued in one of the units
  abbrev Queues : Dbref → Type 0
  Queues d = (t : Taken) × Among t ts × (verdict t.before.live.objects t.actor (Call d) ≡ None)

  abbrev pub MayQueue : Agent → Source → Live → Type 0
  MayQueue x s b = (d : Dbref) → verdict b.objects (acting x s b.objects) (Call d) ≡ None → Queues d

  module _ (x : Agent) (s : Source) (w : World) (told : IsTold w.live) (h : Holds w.queue) (mine : Mine x.player) (may : MayQueue x s w.live) where
    same : IsLapsing w.live w.live
    same = told_lapse w.live w.live refl told

    numbered_deed : (stack : List Datum) (t : Source) (r : World × Result ℤ MufFault) → Holds r.0.queue → r.0.live.objects ≡ w.live.objects → DeedHolds w.live (with_number stack t r)
    numbered_deed stack t (v, Ok n) k e = (k, told_lapse w.live v.live e told)
    numbered_deed stack t (v, Err f) k e = (k, told_lapse w.live v.live e told)

    child_deed : (o : Option Process) → process pid w.queue ≡ o → (stack : List Datum) → DeedHolds w.live (child_joined o stack s w)
    child_deed None e stack = h
    child_deed (Some it) e stack =
        let child : Process = child_of w.moment (handed (int (pos 0)) (state_behind stack s)) it in
        numbered_deed stack s (process_joined child w)
        (holds_joined Own true Lost New start child w (child_new it ((Decides-int_eq it.number pid).0 (process_number pid w.queue it e)) (own_since w.queue it h e) w.moment (handed (int (pos 0)) (state_behind stack s))) h)
        (quietly_joined child w).objects

    forked_deed : (stack : List Datum) → DeedHolds w.live (forked pid stack s w)
    unfolding forked
    forked_deed stack = child_deed (process pid w.queue) refl stack

    -- QUEUE

    queue_begins : (d : ℤ) (seconds : ℕ) (argument : List ℕ) → Queues (object_numbered d) → (t : Source) (n : ℤ) → start.last <ℤ n →
        New (queues.process_numbered n (new_process (record { descr = None; mode = Background; due = seconds_later w.moment seconds })
        (record { player = x.player; program = object_numbered d; trigger = nothing; command = queued_command; argument = argument }) t))
    unfolding new_process
    queue_begins d seconds argument k t n l =
        record { parent = mine.0; among = mine.1; own = mine.2; number = l; player = mine.3; tied = refl; origin = inr (refl, refl, k) }

    process_deed : (stack : List Datum) (t : Source) (r : World × Result ℤ MufFault) → Holds r.0.queue → r.0.live.objects ≡ w.live.objects → DeedHolds w.live (with_process stack t r)
    process_deed stack t (v, Ok n) k e = (k, told_lapse w.live v.live e told)
    process_deed stack t (v, Err f) k e = k

    queued_deed : (stack : List Datum) (d : ℤ) (seconds : ℕ) (argument : List ℕ) → Queues (object_numbered d) → DeedHolds w.live (queued x stack d seconds argument s w)
    unfolding queued
    queued_deed stack d seconds argument k =
        let m : Manner = record { descr = None; mode = Background; due = seconds_later w.moment seconds } in
        let c : Started = record { player = x.player; program = object_numbered d; trigger = nothing; command = queued_command; argument = argument } in
        process_deed stack s (program_begun m c w) (holds_begun Own true Lost New start m c w (queue_begins d seconds argument k) h) (quietly_begun m c w).objects

    -- CALL

    word_deed : (t : Source) (program : Program) (o : Option Definition) (library : Library) → DeedHolds w.live (word_entered t program o (with_library library w))
    word_deed t program None library = h
    word_deed t program (Some d) library =
        cond_both (nat_lt (calls_running t.marks) calls_most) (does (program_entered program d t) (with_library library w)) (fails CallsFull (with_library library w)) (DeedHolds w.live) (λ e. (h, same)) (λ e. h)

    form_deed : (a : Actor) (t : Source) (d : ℤ) (name : Option (List ℕ)) (o : Option Tree) (library : Library) → DeedHolds w.live (form_entered a t d name o (with_library library w))
    form_deed a t d name None library = h
    form_deed a t d name (Some tree) library = word_deed t (record { number = d; tree = tree }) (called_word a name tree) library

    called_deed : (a : Actor) (t : Source) (d : ℤ) (name : Option (List ℕ)) → DeedHolds w.live (program_called a t d name w)
    unfolding program_called
    called_deed a t d name = let r = formed w.live.objects (object_numbered d) w.library in form_deed a t d name r.0 r.1

    -- any of them

    abbrev RowLeaves : Effect → Type 0
    RowLeaves e = rows.Leaves Holds Lost (place_of_use pid s w) own_holds told_holds gone_holds (acting x s w.live.objects) w.live e

    effect_deed : (e : Effect) → RowLeaves e → Left (acting x s w.live.objects) w.live w.queue e → DeedHolds w.live (effected pid x s w e)
    effect_deed (effect_gives stack live queue) k l = (k.0, told_lapse w.live live l.shows.objects told)
    effect_deed (waits n stack queue) k l = (k, same)
    effect_deed (forks stack) k l = forked_deed stack
    effect_deed (enters stack d name) k l = called_deed (acting x s w.live.objects) (state_behind stack s) d name
    effect_deed (starts stack d seconds argument) k l = queued_deed stack d seconds argument (may (object_numbered d) k)
    effect_deed (effect_refuses f) k l = h

    row_deed : (a : Actor) (row : WorldAnswer) → RowOpen a w.live row → DeedHolds w.live (lifted s w row)
    row_deed a (gives stack live) r = (h, marks_lapse a nobody w.live live (λ d. refl) told r.marks)
    row_deed a (refuses f) r = h
    row_deed a (breaks f live) r = h

    deed_holds : (p : Name) → DeedHolds w.live (deed pid x p s w)
    unfolding deed row_done process_done
    deed_holds p =
        let a : Actor = acting x s w.live.objects in
        cond_both (is_process p) (process_done pid x p s w) (row_done x p s w) (DeedHolds w.live)
        (λ e. effect_deed (processed p (place_of_use pid s w) a (locked_of s.marks) s.stack w.live w.queue)
        (rows.processed_leaves Holds Lost (place_of_use pid s w) own_holds told_holds gone_holds p a (locked_of s.marks) s.stack w.live w.queue h) (leaves p (place_of_use pid s w) a (locked_of s.marks) s.stack w.live w.queue))
        (λ e. row_deed (answers_for p a w.live.objects) (shared p a x.descr (locked_of s.marks) s.stack w.live) (shared_open p a x.descr (locked_of s.marks) s.stack w.live))

  -- Units.

  went_holds : (player : Dbref) (program : ℤ) (o : Outcome) (w : World) → Holds w.queue → Holds (world_of (unit_went pid player program o w)).queue
  went_holds player program (goes k t) w h = own_holds (at_state (Some t)) (state_goes (Some t)) w.queue h
  went_holds player program (faulted f) w h = gone_holds pid w.queue h
  went_holds player program _ w h = gone_holds pid w.queue h

  -- what lapses between these worlds is lost in one of the units
  abbrev pub Loses : Live → Live → Type 0
  Loses b v = (d : Dbref) → Lapsed d b v → Lost d

  behind_holds : (b : Live) (t : Source) (v : World) → Loses b (settled (process_stands_at pid t v)).live → Holds v.queue → IsLapsing b v.live → Holds (settled (process_stands_at pid t v)).queue
  behind_holds b t v loses h lapsing =
      let u : World = process_stands_at pid t v in
      holds_settled Own true Lost New stable start u (λ k m e. loses (dbref_of k) (lapse_settled b (settled u).live u refl lapsing k m e)) (own_holds (at_state (Some t)) (state_goes (Some t)) v.queue h)

  after_holds : (player : Dbref) (s : Source) (b : Live) (d : SharedEffect World) → Loses b (world_of (after_deed pid player s d)).live → DeedHolds b d → Holds (world_of (after_deed pid player s d)).queue
  after_holds player s b (does t v) loses h = behind_holds b t v loses h.0 h.1
  after_holds player s b (rests t v) loses h = behind_holds b t v loses h.0 h.1
  after_holds player s b (fails f v) loses h = went_holds player s.program.number (fault_met f s) v h

  unit_holds : (x : Agent) (s : Source) (w : World) (o : Outcome) → unit s ≡ o → IsTold w.live → Mine x.player → MayQueue x s w.live → Loses w.live (world_of (unit_done pid x s.program.number o w)).live → Holds w.queue →
      Holds (world_of (unit_done pid x s.program.number o w)).queue
  unit_holds x s w (asks p t) e told mine may loses h =
      let kept : Keep (programs_of s) (asks p t) = subst (Keep (programs_of s)) e (unit_keeps s) in
      let now : MayQueue x t w.live = λ d k. may d (subst (λ a. verdict w.live.objects a (Call d) ≡ None) (same_actor x s t w.live.objects kept.0) k) in
      let u : World = out pid w in
      after_holds x.player t w.live (deed pid x p t u) loses (deed_holds x t u told (own_holds (at_state None) (state_goes None) w.queue h) mine now p)
  unit_holds x s w o e told mine may loses h = went_holds x.player s.program.number o w h

  within_holds : (x : Agent) (s : Source) (w : World) (o : Option MufFault) → IsTold w.live → Mine x.player → MayQueue x s w.live → Loses w.live (world_of (within_limit o pid x s w)).live → Holds w.queue →
      Holds (world_of (within_limit o pid x s w)).queue
  within_holds x s w (Some f) told mine may loses h = gone_holds pid w.queue h
  within_holds x s w None told mine may loses h =
      unit_holds x s (one_counted pid w) (unit s) refl told mine may loses
      (own_holds (units_counted 1) (λ p. record { number = refl; origin = record { player = refl; program = refl; command = refl; trigger = inl refl }; tied = inl refl }) w.queue h)

  pub turn_holds : (tune : Tune) (x : Agent) (s : Source) (w : World) → seat pid w ≡ Some (x, s) → Among (unit_of x s w (unit_taken tune pid x s w)) ts → IsTold w.live → Holds w.queue → Holds (world_of (unit_taken tune pid x s w)).queue
  unfolding unit_taken
  turn_holds tune x s w e among told h =
      let it = sits pid x s w e in
      let mine : Mine it.it.player = mine_by it.it ((Decides-int_eq it.it.number pid).0 (process_number pid w.queue it.it it.found)) (own_since w.queue it.it h it.found) in
      let same : it.it.player ≡ x.player = ap (λ (a : Agent). a.player) it.agent in
      let taken : Taken = unit_of x s w (unit_taken tune pid x s w) in
      within_holds x s w (limit_fault tune (acting x s w.live.objects).level x) told (subst Mine same mine) (λ d k. (taken, among, k)) (λ d l. (taken, among, l)) h

  run_comes : (tune : Tune) (n : ℕ) (w : World) → Each (λ (t : Taken). Among t ts) (units_run tune n pid w) → IsTold w.live → Holds w.queue → Holds (last_world w (units_run tune n pid w)).queue
  run_comes tune n w =
      run_holds tune pid (λ v us. Each (λ (t : Taken). Among t ts) us → IsTold v.live → Holds v.queue → Holds (last_world v us).queue)
      (λ v a t h. h)
      (λ v x s us e rest a t h. rest a.1 (told_turn tune pid x s v t) (turn_holds tune x s v e a.0 t h)) n w

-- behind a slice
pub slice_comes : (pid : ℤ) (w : World) → IsTold w.live → SliceOrigins pid (units_of pid w) w (sliced pid w)
unfolding sliced
slice_comes pid w told =
    let ts : List Taken = units_of pid w in
    run_comes pid ts w.queue w.live.board.tune (slice_most w.live.board.tune) (process_awake pid w) (among_more (λ (t : Taken). Among t ts) ts (λ t a. a)) told
    (own_holds pid ts w.queue (woken w.moment) (goes_woken (LostIn ts) w.moment) w.queue (from_itself (λ n. int_eq n pid) true (LostIn ts) (StartedIn pid ts w.queue) w.queue))
