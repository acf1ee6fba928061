-- What primitives of processes do, by what their rows say.
use Rattle.std.proofs.Common.{◌≡◌, ℕ, ◌<◌, ◌≤◌, subst, List, [], ◌∷◌, drop, length, true, Option, Some, None, refl, sym, ap, ◌∙◌, arith}
use Rattle.std.specs.Prelude.{ℤ, pos, is_some, slice_get, IfOk, Result, Ok, Err}
use Rattle.std.proofs.lemmas.Bool.{cond-true, lt-ltb}
use Rattle.std.proofs.lemmas.List.{length-map}
use Rattle.muck_model.specs.declared.dbref.Dbref.{Dbref}
use Rattle.muf_model.specs.declared.fault.MufFault.{MufFault}
use Rattle.muf_model.specs.declared.prims.Primitive.{Primitive as Name}
use Rattle.muf_model.specs.Answer.{stack_most}
use Rattle.muf_model.specs.Datum.{Datum, int}
use Rattle.muf_model.specs.inner.View.{view}
use Rattle.muf_model.specs.inner.Flat.{Flat}
use Rattle.muf_model.specs.Source.{Source, handed, locked_of, item_passed, passed_at}
use Rattle.muf_model.specs.Tree.{Block, word}
use Rattle.muf_frame.specs.declared.fault.PrimFault.{PrimFault}
use Rattle.muf_frame.specs.declared.fault.PrimFault.TheVariants.{Fault as FrameFault}
use Rattle.muf_frame.specs.inner.Shown.{Shown, flat, locked_by}
use Rattle.muf_running.specs.declared.entered.Entered.{Entered}
use Rattle.muf_running.specs.inner.Fitting.{IsAtPrimitive}
use Rattle.muf_running.specs.inner.Lending.{Shows, Apart, Differs, Rejoins, with_frame}
use Rattle.spec_live.specs.Lives.{Live}
use Rattle.spec_rights.specs.declared.act.Actor.{Actor}
use Rattle.muck_queue.specs.declared.process.Process.{Process}
use Rattle.muck_queue.specs.Queues.{Queue as Table, process}
use Rattle.spec_processes.specs.declared.place.Place.{Place}
use Rattle.spec_processes.specs.ProcessRows.{Effect, gives, waits, forks, enters, starts, refuses, processed, ProcessDoing, process_row, done_in}
use Rattle.prim_proc.specs.inner.Applied.{HasStack, IsLeft, called_items}
use Rattle.prim_proc.specs.declared.after.After.{After}
use Rattle.prim_proc.specs.declared.after.After.TheVariants.{Go, Wait, Fork, Call, Queue}
use Rattle.spec_events.specs.declared.starting.Agent.{Agent}
use Rattle.spec_events.specs.declared.starting.Call.{Call as Started}
use Rattle.spec_events.specs.Starting.{process_joined}
use Rattle.spec_events.specs.World.{World}
use Rattle.spec_events.specs.Slices.{SharedEffect, does, rests, fails, acting, state_behind, child_joined, child_of, effected, form_called, forked, nearest, place_of_use, process_done, program_called, queued, with_number}
use Rattle.muck_turns.specs.declared.state.deeds.Done.{Done}
use Rattle.muck_turns.specs.declared.state.deeds.Done.TheVariants.{Does as DoneDoes, Rests as DoneRests, Fails as DoneFails}
use Rattle.muck_turns.specs.declared.state.deeds.DeedFault.{DeedFault}
use Rattle.muck_library.specs.Library.{formed}
use Rattle.muck_turns.specs.declared.state.calls.Entrance.{Entrance}
use Rattle.muck_turns.specs.inner.Deeds.{Bears, Enters, ProcessAppliedTo, DoneAs, queued_call, child_number}
use Rattle.muck_turns.proofs.Deeds.{stack_differs, stack_behind, same_stack, same_differs}

-- with an item more, where there is room
handed_more : (x : Datum) (stack : List Datum) (s : Source) (b : Block) → length stack < stack_most → handed x (passed_at b (record s { stack = stack })) ≡ passed_at b (record s { stack = x ∷ stack })
handed_more x stack s (word line w next) l = ap (λ (y : List Datum). record s { stack = y; now = next }) (cond-true _ _ _ (lt-ltb (length stack) stack_most l))
handed_more x stack s _ l = ap (λ (y : List Datum). record s { stack = y }) (cond-true _ _ _ (lt-ltb (length stack) stack_most l))

pub handed_behind : (x : Datum) (stack : List Datum) (s : Source) → length stack < stack_most → handed x (state_behind stack s) ≡ state_behind (x ∷ stack) s
handed_behind x stack s l = handed_more x stack s s.now l

-- the parent of a child gets its number
pub numbered_so : (stack : List Datum) (s : Source) (r : World × Result ℤ MufFault) (v : World) (n : ℤ) (t : Source) → length stack < stack_most → v ≡ r.0 → n ≡ child_number r → t ≡ handed (int n) (state_behind stack s) → with_number stack s r ≡ does t v
numbered_so stack s (w, Ok m) v n t room is same at =
    ap (λ k. does (state_behind (int k ∷ stack) s) w) (sym same) ∙ ap (does (state_behind (int n ∷ stack) s)) (sym is) ∙ ap (λ y. does y v) (sym (at ∙ handed_behind (int n) stack s room))
numbered_so stack s (w, Err f) v n t room is same at =
    ap (λ k. does (state_behind (int k ∷ stack) s) w) (sym same) ∙ ap (does (state_behind (int n ∷ stack) s)) (sym is) ∙ ap (λ y. does y v) (sym (at ∙ handed_behind (int n) stack s room))

-- the program that called the running one is the first of them
pub first_nearest : (ds : List Dbref) → slice_get ds 0 ≡ nearest ds
first_nearest [] = refl
first_nearest (d ∷ ds) = refl

-- what is said of what was done, so is what follows from it
pub if_done : {E : Type 0} (r : Result Done E) (P Q : Done → Type 0) → ((d : Done) → P d → Q d) → IfOk r P → IfOk r Q
if_done (Ok d) P Q k h = k d h
if_done (Err e) P Q k h = h

-- FORK is done where a child joined, or there was no room for it
pub child_joins : (pid : ℤ) (running t : Source) (w v : World) (n : ℤ) (o : Option Process) → process pid w.queue ≡ o → Bears o running w v n → t ≡ handed (int n) running →
    (s : Source) (stack : List Datum) → running ≡ state_behind stack s → length stack < 1024 → forked pid stack s w ≡ does t v
unfolding forked
child_joins pid running t w v n None there h so s stack at room = absurd h
child_joins pid running t w v n (Some p) there h so s stack at room =
    ap (λ o. child_joined o stack s w) there
    ∙ numbered_so stack s (process_joined (child_of w.moment (handed (int (pos 0)) (state_behind stack s)) p) w) v n t room
    (h.1 ∙ ap (λ y. (process_joined (child_of w.moment (handed (int (pos 0)) y) p) w).0) at)
    (h.0 ∙ ap (λ y. child_number (process_joined (child_of w.moment (handed (int (pos 0)) y) p) w)) at)
    (so ∙ ap (handed (int n)) at)

-- a primitive of processes isn't used where its process isn't there
there_in : (own : Option Process) (doing : Option ProcessDoing) (p : Name) (x : Place) (a : Actor) (locked : ℕ) (stack : List Datum) (w : Live) (q : Table) (rest : List Datum) → done_in own doing p x a locked stack w q ≡ forks rest → is_some own ≡ true
there_in (Some own) doing p x a locked stack w q rest e = refl
there_in None None p x a locked stack w q rest e = absurd cc
there_in None (Some doing) p x a locked stack w q rest e = absurd cc

module _ (pid : ℤ) (x : Agent) (p : Name) (a : Actor) (place : Place) (es : List Entered) (f g : Shown) (w v : World) (s : Source) (r : Result After PrimFault) (actor : a ≡ acting x s w.live.objects) (here : place ≡ place_of_use pid s w)
    (apart : Apart es (flat f) s) (shows : Shows (flat f) s) (applied : ProcessAppliedTo (processed p place a (locked_by (flat f).marks) (flat f).stack w.live w.queue) f g w v r) where
  -- what it does, as it is seen by the process
  abbrev effect : Effect
  effect = processed p (place_of_use pid s w) (acting x s w.live.objects) (locked_of s.marks) s.stack w.live w.queue

  seen : processed p place a (locked_by (flat f).marks) (flat f).stack w.live w.queue ≡ effect
  seen =
      ap (λ y. processed p y a (locked_by (flat f).marks) (flat f).stack w.live w.queue) here
      ∙ ap (λ y. processed p (place_of_use pid s w) y (locked_by (flat f).marks) (flat f).stack w.live w.queue) actor
      ∙ ap (λ y. processed p (place_of_use pid s w) (acting x s w.live.objects) y (flat f).stack w.live w.queue) shows.locked
      ∙ ap (λ y. processed p (place_of_use pid s w) (acting x s w.live.objects) (locked_of s.marks) y w.live w.queue) shows.stack

  applied_as : (q : Result After PrimFault) → r ≡ q → ProcessAppliedTo effect f g w v q
  applied_as q e = subst (λ y. ProcessAppliedTo y f g w v q) seen (subst (λ y. ProcessAppliedTo (processed p place a (locked_by (flat f).marks) (flat f).stack w.live w.queue) f g w v y) e applied)

  -- behind it

  abbrev IsBehind : Source → Type 0
  IsBehind t = (e : Flat) (q : Source) → Apart es e q → Differs e (flat g) → t ≡ item_passed (with_frame (flat g) q)

  behind_with : (stack : List Datum) (t : Source) → HasStack stack f g → IsBehind t → t ≡ state_behind stack s
  behind_with stack t h so = so (flat f) s apart (stack_differs stack f g h) ∙ sym (stack_behind stack f g s shows h)

  go_by : (e : Effect) (t : Source) → ProcessAppliedTo e f g w v (Ok Go) → IsBehind t → effected pid x s w e ≡ does t v
  go_by (gives stack live queue) t h so = ap (does (state_behind stack s)) (sym h.1) ∙ ap (λ y. does y v) (sym (behind_with stack t h.0 so))
  go_by _ t h so = absurd h

  pub go_done : (t : Source) → r ≡ Ok Go → IsBehind t → process_done pid x p s w ≡ does t v
  unfolding process_done
  go_done t e so = go_by effect t (applied_as (Ok Go) e) so

  wait_by : (e : Effect) (t : Source) → ProcessAppliedTo e f g w v (Ok Wait) → IsBehind t → effected pid x s w e ≡ rests t v
  wait_by (waits n stack queue) t h so = ap (rests (state_behind stack s)) (sym h.1) ∙ ap (λ y. rests y v) (sym (behind_with stack t h.0 so))
  wait_by _ t h so = absurd h

  pub wait_done : (t : Source) → r ≡ Ok Wait → IsBehind t → process_done pid x p s w ≡ rests t v
  unfolding process_done
  wait_done t e so = wait_by effect t (applied_as (Ok Wait) e) so

  -- FORK

  fork_there_by : (e : Effect) → effect ≡ e → ProcessAppliedTo e f g w v (Ok Fork) → is_some (process pid v.queue) ≡ true
  unfolding processed
  fork_there_by (forks stack) e h = ap (λ (y : World). is_some (process pid y.queue)) h.2 ∙ there_in (process pid w.queue) (process_row p) p (place_of_use pid s w) (acting x s w.live.objects) (locked_of s.marks) s.stack w.live w.queue stack e
  fork_there_by _ e h = absurd h

  pub fork_there : r ≡ Ok Fork → is_some (process pid v.queue) ≡ true
  fork_there e = fork_there_by effect refl (applied_as (Ok Fork) e)

  fork_by : (e : Effect) (t n : Source) (u : World) → ProcessAppliedTo e f g w v (Ok Fork) → IsBehind t → ((q : Source) (stack : List Datum) → t ≡ state_behind stack q → length stack < 1024 → forked pid stack q v ≡ does n u) → effected pid x s w e ≡ does n u
  fork_by (forks stack) t n u (stack_is, room, is) so k = ap (forked pid stack s) (sym is) ∙ k s stack (behind_with stack t stack_is so) room
  fork_by _ t n u h so k = absurd h

  pub fork_done : (m : ℤ) (t n : Source) (u : World) → m ≡ pid → r ≡ Ok Fork → IsBehind t → ((q : Source) (stack : List Datum) → t ≡ state_behind stack q → length stack < 1024 → forked m stack q v ≡ does n u) → process_done pid x p s w ≡ does n u
  unfolding process_done
  fork_done m t n u same e so k =
      fork_by effect t n u (applied_as (Ok Fork) e) so (subst (λ y. (q : Source) (stack : List Datum) → t ≡ state_behind stack q → length stack < 1024 → forked y stack q v ≡ does n u) same k)

  -- where the process stands at it still

  abbrev IsAtIt : Source → Type 0
  IsAtIt t = (e : Flat) (q : Source) → Apart es e q → Differs e (flat g) → t ≡ with_frame (flat g) q

  rejoins_with : g ≡ f → Rejoins es (flat g)
  rejoins_with h = (flat f, s, apart, same_differs f g h)

  at_with : (t : Source) → g ≡ f → IsAtIt t → t ≡ s
  at_with t h so = so (flat f) s apart (same_differs f g h) ∙ same_stack f g s shows h

  items_with : (n : ℕ) (stack : List Datum) (t : Source) → t ≡ s → IsLeft n stack f → (n ≤ length t.stack) × (stack ≡ drop n t.stack)
  items_with n stack t at left =
      let same : length (flat f).stack ≡ length f.stack = length-map f.stack view in
      let many : length t.stack ≡ length f.stack = ap (λ (y : Source). length y.stack) at ∙ ap length (sym shows.stack) ∙ same in
      let some : n ≤ length f.stack = left.0 in
      (omega (arith, some, many), left.1 ∙ ap (drop n) (shows.stack ∙ ap (λ (y : Source). y.stack) (sym at)))

  -- CALL

  call_frame_by : (e : Effect) (program : Dbref) (name : Option (List ℕ)) → ProcessAppliedTo e f g w v (Ok (Call program name)) → g ≡ f
  call_frame_by (enters stack d called) program name h = h.0
  call_frame_by _ program name h = absurd h

  call_frame : (program : Dbref) (name : Option (List ℕ)) → r ≡ Ok (Call program name) → g ≡ f
  call_frame program name e = call_frame_by effect program name (applied_as (Ok (Call program name)) e)

  pub call_at : (program : Dbref) (name : Option (List ℕ)) (t : Source) → r ≡ Ok (Call program name) → IsAtIt t → IsAtPrimitive s.now → IsAtPrimitive t.now
  call_at program name t e so at = subst (λ (y : Source). IsAtPrimitive y.now) (sym (at_with t (call_frame program name e) so)) at

  call_items_by : (e : Effect) (program : Dbref) (name : Option (List ℕ)) (t : Source) → t ≡ s → ProcessAppliedTo e f g w v (Ok (Call program name)) → called_items name ≤ length t.stack
  call_items_by (enters stack d called) program name t at (frame, is, program_is, name_is, left) = subst (λ n. called_items n ≤ length t.stack) (sym name_is) (items_with (called_items called) stack t at left).0
  call_items_by _ program name t at h = absurd h

  pub call_items : (program : Dbref) (name : Option (List ℕ)) (t : Source) → r ≡ Ok (Call program name) → IsAtIt t → called_items name ≤ length t.stack
  call_items program name t e so = call_items_by effect program name t (at_with t (call_frame program name e) so) (applied_as (Ok (Call program name)) e)

  call_by : (e : Effect) (program : Dbref) (name : Option (List ℕ)) (t : Source) → t ≡ s → ProcessAppliedTo e f g w v (Ok (Call program name)) → effected pid x s w e ≡ program_called a (state_behind (drop (called_items name) t.stack) t) program.0 name v
  call_by (enters stack d called) program name t at (frame, is, program_is, name_is, left) =
      ap (λ y. program_called y (state_behind stack s) d called w) (sym actor)
      ∙ ap (λ y. program_called a (state_behind stack s) y called w) (sym program_is)
      ∙ ap (λ y. program_called a (state_behind y s) program.0 called w) (items_with (called_items called) stack t at left).1
      ∙ ap (λ y. program_called a (state_behind (drop (called_items called) t.stack) y) program.0 called w) (sym at)
      ∙ ap (λ y. program_called a (state_behind (drop (called_items y) t.stack) t) program.0 y w) (sym name_is)
      ∙ ap (program_called a (state_behind (drop (called_items name) t.stack) t) program.0 name) (sym is)
  call_by _ program name t at h = absurd h

  -- an answer of what is to follow is one of the primitive
  follows : (d e : SharedEffect World) (t : Source) (u : World) (done : Done) → t ≡ s → d ≡ e → DoneAs e t u done → DoneAs d s u done
  follows d e t u (DoneDoes n) at same h = same ∙ h
  follows d e t u (DoneRests n) at same h = same ∙ h
  follows d e t u (DoneFails n k) at same h = (h.0 ∙ at, same ∙ h.1)

  pub call_done : (program : Dbref) (name : Option (List ℕ)) (t : Source) (u : World) (done : Done) → r ≡ Ok (Call program name) → IsAtIt t →
      DoneAs (program_called a (state_behind (drop (called_items name) t.stack) t) program.0 name v) t u done → DoneAs (process_done pid x p s w) s u done
  unfolding process_done
  call_done program name t u done e so h =
      let at = at_with t (call_frame program name e) so in
      follows _ _ t u done at (call_by effect program name t at (applied_as (Ok (Call program name)) e)) h

  -- QUEUE

  queue_frame_by : (e : Effect) (program : Dbref) (delay : ℕ) (text : List ℕ) → ProcessAppliedTo e f g w v (Ok (Queue program delay text)) → g ≡ f
  queue_frame_by (starts stack d seconds argument) program delay text h = h.0
  queue_frame_by _ program delay text h = absurd h

  queue_frame : (program : Dbref) (delay : ℕ) (text : List ℕ) → r ≡ Ok (Queue program delay text) → g ≡ f
  queue_frame program delay text e = queue_frame_by effect program delay text (applied_as (Ok (Queue program delay text)) e)

  pub queue_rejoins : (program : Dbref) (delay : ℕ) (text : List ℕ) → r ≡ Ok (Queue program delay text) → Rejoins es (flat g)
  queue_rejoins program delay text e = rejoins_with (queue_frame program delay text e)

  pub queue_at : (program : Dbref) (delay : ℕ) (text : List ℕ) (t : Source) → r ≡ Ok (Queue program delay text) → IsAtIt t → IsAtPrimitive s.now → IsAtPrimitive t.now
  queue_at program delay text t e so at = subst (λ (y : Source). IsAtPrimitive y.now) (sym (at_with t (queue_frame program delay text e) so)) at

  queue_items_by : (e : Effect) (program : Dbref) (delay : ℕ) (text : List ℕ) (t : Source) → t ≡ s → ProcessAppliedTo e f g w v (Ok (Queue program delay text)) → 3 ≤ length t.stack
  queue_items_by (starts stack d seconds argument) program delay text t at (frame, is, program_is, delay_is, text_is, left) = (items_with 3 stack t at left).0
  queue_items_by _ program delay text t at h = absurd h

  pub queue_items : (program : Dbref) (delay : ℕ) (text : List ℕ) (t : Source) → r ≡ Ok (Queue program delay text) → IsAtIt t → 3 ≤ length t.stack
  queue_items program delay text t e so = queue_items_by effect program delay text t (at_with t (queue_frame program delay text e) so) (applied_as (Ok (Queue program delay text)) e)

  queue_by : (e : Effect) (program : Dbref) (delay : ℕ) (text : List ℕ) (t : Source) → t ≡ s → ProcessAppliedTo e f g w v (Ok (Queue program delay text)) → effected pid x s w e ≡ queued x (drop 3 t.stack) program.0 delay text t v
  queue_by (starts stack d seconds argument) program delay text t at (frame, is, program_is, delay_is, text_is, left) =
      ap (λ y. queued x stack y seconds argument s w) (sym program_is)
      ∙ ap (λ y. queued x stack program.0 y argument s w) (sym delay_is)
      ∙ ap (λ y. queued x stack program.0 delay y s w) (sym text_is)
      ∙ ap (λ y. queued x y program.0 delay text s w) (items_with 3 stack t at left).1
      ∙ ap (λ y. queued x (drop 3 t.stack) program.0 delay text y w) (sym at)
      ∙ ap (queued x (drop 3 t.stack) program.0 delay text t) (sym is)
  queue_by _ program delay text t at h = absurd h

  acts_for : a.player ≡ x.player
  unfolding acting
  acts_for = ap (λ (y : Actor). y.player) actor

  pub queue_done : (program : Dbref) (delay : ℕ) (text : List ℕ) (t : Source) (u : World) (done : Done) (call : Started) → r ≡ Ok (Queue program delay text) → IsAtIt t → call ≡ queued_call a.player program.0 text →
      ((y : Agent) (d : ℤ) (argument : List ℕ) → call ≡ queued_call y.player d argument → DoneAs (queued y (drop 3 t.stack) d delay argument t v) t u done) → DoneAs (process_done pid x p s w) s u done
  unfolding process_done
  queue_done program delay text t u done call e so is h =
      let at = at_with t (queue_frame program delay text e) so in
      follows _ _ t u done at (queue_by effect program delay text t at (applied_as (Ok (Queue program delay text)) e))
      (h x program.0 text (is ∙ ap (λ y. queued_call y program.0 text) acts_for))

  -- it was refused

  refused_by : (e : Effect) (h : MufFault) → ProcessAppliedTo e f g w v (Err (FrameFault h)) → (g ≡ f) × (effected pid x s w e ≡ fails h v)
  refused_by (refuses e) h (same, frame, is) = (frame, ap (λ y. fails y w) (sym same) ∙ ap (fails h) (sym is))
  refused_by _ h k = absurd k

  pub refused_done : (h : MufFault) (t : Source) → r ≡ Err (FrameFault h) → IsAtIt t → DoneAs (process_done pid x p s w) s v (DoneFails t h)
  unfolding process_done
  refused_done h t e so =
      let known = refused_by effect h (applied_as (Err (FrameFault h)) e) in
      (at_with t known.0 so, known.1)

-- CALL, by how many items it takes
pub called_so : (a : Actor) (s : Source) (program : Dbref) (name : Option (List ℕ)) (items : ℕ) (w v : World) (r : Result Entrance DeedFault) → items ≡ called_items name →
    Enters (form_called a (state_behind (drop items s.stack) s) program.0 name (formed w.live.objects program w.library) w) s v r →
    Enters (program_called a (state_behind (drop (called_items name) s.stack) s) program.0 name w) s v r
unfolding program_called
called_so a s program name items w v r e h =
    subst (λ n. Enters (form_called a (state_behind (drop n s.stack) s) program.0 name (formed w.live.objects program w.library) w) s v r) e h
