-- The lines that wait and the editors behind each unit, slice and line.
use Rattle.std.proofs.Common.{◌≡◌, ℕ, ◌==◌, ℤ, pos, Bool, true, false, List, refl, sym, ap, subst, arith, Option, Some, None}
use Rattle.std.specs.Prelude.{nat_lt, Result, Ok, Err}
use Rattle.std.proofs.lemmas.Bool.{cond_both}
use Rattle.std.proofs.lemmas.Bool.Decides.{nat_tests}
use Rattle.muck_model.specs.declared.dbref.Dbref.{Dbref}
use Rattle.muck_model.specs.declared.dbref.Denial.{Denial}
use Rattle.muck_model.specs.declared.edit.EditState.{EditState}
use Rattle.muck_model.specs.declared.tune.Tune.{Tune}
use Rattle.spec_live.specs.Objects.{dbref_of, nothing}
use Rattle.spec_live.specs.Connections.{Connection}
use Rattle.spec_live.specs.Boards.{edited_one}
use Rattle.spec_live.specs.Lives.{Live, tell, leave}
use Rattle.spec_rights.specs.declared.act.Actor.{Actor}
use Rattle.spec_rights.specs.declared.act.Act.TheVariants.{Start}
use Rattle.spec_rights.specs.Changing.{tuned}
use Rattle.spec_rights.specs.Verdict.{verdict}
use Rattle.spec_rights.specs.Licence.{nobody}
use Rattle.muf_model.specs.declared.fault.MufFault.{MufFault}
use Rattle.muf_model.specs.declared.fault.MufFault.TheVariants.{CallsFull}
use Rattle.muf_model.specs.declared.prims.Primitive.{Primitive as Name}
use Rattle.muf_model.specs.Datum.{Datum, int}
use Rattle.muf_model.specs.Faults.{fault_text}
use Rattle.muf_model.specs.Tree.{Definition, Tree}
use Rattle.muf_model.specs.Source.{Program, Source, locked_of, calls_running, handed, program_entered}
use Rattle.muf_model.specs.Unit.{calls_most, Outcome as UnitOutcome, goes, faulted, asks, unit, fault_met}
use Rattle.spec_prims.specs.Asking.{object_numbered}
use Rattle.spec_prims.specs.Row.{WorldAnswer, gives, refuses, breaks}
use Rattle.spec_prims.specs.Shared.{shared}
use Rattle.spec_prims.specs.Formulas.{answers_for}
use Rattle.spec_prims.proofs.Opens.{RowOpen, shared_open}
use Rattle.muck_library.specs.declared.flaw.Flaw.{Flaw}
use Rattle.muck_library.specs.Library.{Library, formed}
use Rattle.muck_library.specs.Programs.{built_tree}
use Rattle.muck_queue.specs.declared.mode.Mode.TheVariants.{Background}
use Rattle.muck_queue.specs.declared.process.Process.{Process}
use Rattle.muck_queue.specs.Queues.{process, on_process, without_process, told_line}
use Rattle.spec_commands.specs.declared.outcome.Outcome.{Outcome}
use Rattle.spec_commands.specs.declared.outcome.Outcome.TheVariants.{Done, Said, NotMine, Start as StartOutcome, Edit, Leave, Dump, Stop, Retune}
use Rattle.spec_commands.specs.declared.edit.EditStep.{EditStep}
use Rattle.spec_commands.specs.declared.edit.EditStep.TheVariants.{Stay, Compile, Left}
use Rattle.spec_commands.specs.Editing.{editor_exited, is_editor_open, edited_by_line}
use Rattle.spec_commands.specs.Finding.{actor_of}
use Rattle.spec_commands.specs.Talk.{at_login}
use Rattle.spec_processes.specs.ProcessRows.{Effect, gives as effect_gives, waits, forks, enters, starts, refuses as effect_refuses, processed, is_process, seconds_later}
use Rattle.spec_processes.proofs.Leaves.{Leaves as ProcessLeaves, leaves}
use Rattle.spec_events.specs.declared.starting.Agent.{Agent}
use Rattle.spec_events.specs.declared.starting.Call.{Call as Started}
use Rattle.spec_events.specs.declared.starting.Manner.{Manner}
use Rattle.spec_events.specs.World.{World, on_live, on_queue, with_library}
use Rattle.spec_events.specs.Following.{settled}
use Rattle.spec_events.specs.Starting.{by_command, process_joined, program_begun, start_told, start_judged, launched}
use Rattle.spec_events.specs.Lines.{compiler_done, flaw_text, with_editor, compiled_so, compiled, next_editor, after_edit, edited_line, in_editor, editor_on, typed, processes_after_line, followed_up, in_world, program_aborted, is_abort, given_line, line_for}
use Rattle.spec_events.specs.Slices.{acting, SharedEffect, does, rests, fails, state_behind, lifted, row_done, called_word, word_entered, form_entered, program_called, child_of, with_number, child_joined, forked, queued_command, with_process, queued, place_of_use, effected, process_done, deed, program_error, process_stands_at, ended_one, broken, out, one_counted, unit_went, after_deed, unit_done, limit_fault, within_limit, unit_taken, world_of, unit_of, Taken, units_run, last_world, slice_most, units_of, process_awake, sliced}
use Rattle.spec_events.specs.Endings.{Lapsed}
use Rattle.spec_events.specs.Sourced.{Each}
use Rattle.spec_events.proofs.Endings.{IsTold}
use Rattle.spec_events.proofs.Slicing.{run_holds}
use Rattle.spec_events.proofs.Begun.{live_joined, live_begun}
use Rattle.spec_events.proofs.Taken.{told_turn}
use Rattle.spec_origins.specs.Origins.{Among, LostIn}
use Rattle.spec_origins.proofs.Going.{among_more}
use Rattle.spec_origins.proofs.Lapsing.{IsLapsing, told_lapse, marks_lapse, lapse_settled}
use Rattle.spec_origins.proofs.Lines.{world_lapses, objects_up, edited_lapses, objects_after}
use Rattle.spec_origins.proofs.Rows as rows
use Rattle.spec_origins.proofs.Seats.{Sits, sits_order, sits_tell, sits_tell_player, sits_leave, sits_refused, plays_typed, sits_login, sits_edited, sits_along}
use Rattle.spec_origins.proofs.Seating.{Kept, kept_both, kept_sits, own_editor, keeps_settled}

-- Deeds.

-- they are seated as they were, and no object changes
abbrev pub Mild : World → World → Type 0
Mild w v = Sits w.live v.live × (v.live.objects ≡ w.live.objects)

mild_as : (w v : World) → v.live ≡ w.live → Mild w v
mild_as w v e = (subst (Sits w.live) (sym e) (sits_order.itself w.live), ap (λ (x : Live). x.objects) e)

abbrev pub DeedMild : World → SharedEffect World → Type 0
DeedMild w (does t v) = Mild w v
DeedMild w (rests t v) = Mild w v
DeedMild w (fails f v) = Mild w v

module _ (w : World) where
  mild : Mild w w
  mild = mild_as w w refl

  number_mild : (stack : List Datum) (t : Source) (r : World × Result ℤ MufFault) → r.0.live ≡ w.live → DeedMild w (with_number stack t r)
  number_mild stack t (v, Ok n) e = mild_as w v e
  number_mild stack t (v, Err f) e = mild_as w v e

  child_mild : (o : Option Process) (stack : List Datum) (s : Source) → DeedMild w (child_joined o stack s w)
  child_mild None stack s = mild
  child_mild (Some p) stack s = let child : Process = child_of w.moment (handed (int (pos 0)) (state_behind stack s)) p in number_mild stack s (process_joined child w) (live_joined child w)

  forked_mild : (pid : ℤ) (stack : List Datum) (s : Source) → DeedMild w (forked pid stack s w)
  unfolding forked
  forked_mild pid stack s = child_mild (process pid w.queue) stack s

  process_mild : (stack : List Datum) (t : Source) (r : World × Result ℤ MufFault) → r.0.live ≡ w.live → DeedMild w (with_process stack t r)
  process_mild stack t (v, Ok n) e = mild_as w v e
  process_mild stack t (v, Err f) e = mild_as w v e

  queued_mild : (x : Agent) (stack : List Datum) (d : ℤ) (seconds : ℕ) (argument : List ℕ) (s : Source) → DeedMild w (queued x stack d seconds argument s w)
  unfolding queued
  queued_mild x stack d seconds argument s =
      let m : Manner = record { descr = None; mode = Background; due = seconds_later w.moment seconds } in
      let c : Started = record { player = x.player; program = object_numbered d; trigger = nothing; command = queued_command; argument = argument } in
      process_mild stack s (program_begun m c w) (live_begun m c w)

  word_mild : (t : Source) (program : Program) (o : Option Definition) (library : Library) → DeedMild w (word_entered t program o (with_library library w))
  word_mild t program None library = mild
  word_mild t program (Some d) library =
      cond_both (nat_lt (calls_running t.marks) calls_most) (does (program_entered program d t) (with_library library w)) (fails CallsFull (with_library library w)) (DeedMild w) (λ e. mild) (λ e. mild)

  form_mild : (a : Actor) (t : Source) (d : ℤ) (name : Option (List ℕ)) (o : Option Tree) (library : Library) → DeedMild w (form_entered a t d name o (with_library library w))
  form_mild a t d name None library = mild
  form_mild a t d name (Some tree) library = word_mild t (record { number = d; tree = tree }) (called_word a name tree) library

  called_mild : (a : Actor) (t : Source) (d : ℤ) (name : Option (List ℕ)) → DeedMild w (program_called a t d name w)
  unfolding program_called
  called_mild a t d name = let r = formed w.live.objects (object_numbered d) w.library in form_mild a t d name r.0 r.1

  effect_mild : (pid : ℤ) (x : Agent) (s : Source) (e : Effect) →
      rows.Leaves (λ q. Unit {0}) (λ d. ⊥) (place_of_use pid s w) (λ f g q h. tt) (λ i second event q h. tt) (λ i q h. tt) (acting x s w.live.objects) w.live e → ProcessLeaves (acting x s w.live.objects) w.live w.queue e →
      DeedMild w (effected pid x s w e)
  effect_mild pid x s (effect_gives stack live queue) k l = (k.1, l.shows.objects)
  effect_mild pid x s (waits n stack queue) k l = mild_as w (record w { queue = queue }) refl
  effect_mild pid x s (forks stack) k l = forked_mild pid stack s
  effect_mild pid x s (enters stack d name) k l = called_mild (acting x s w.live.objects) (state_behind stack s) d name
  effect_mild pid x s (starts stack d seconds argument) k l = queued_mild x stack d seconds argument s
  effect_mild pid x s (effect_refuses f) k l = mild

abbrev DeedSits : World → SharedEffect World → Type 0
DeedSits w (does t v) = Sits w.live v.live × IsLapsing w.live v.live
DeedSits w (rests t v) = Sits w.live v.live × IsLapsing w.live v.live
DeedSits w (fails f v) = Sits w.live v.live

mild_sits : (w : World) (d : SharedEffect World) → IsTold w.live → DeedMild w d → DeedSits w d
mild_sits w (does t v) told h = (h.0, told_lapse w.live v.live h.1 told)
mild_sits w (rests t v) told h = (h.0, told_lapse w.live v.live h.1 told)
mild_sits w (fails f v) told h = h.0

row_sits : (a : Actor) (s : Source) (w : World) (row : WorldAnswer) → IsTold w.live → RowOpen a w.live row → DeedSits w (lifted s w row)
row_sits a s w (gives stack live) told r = (sits_along w.live live r.goes, marks_lapse a nobody w.live live (λ d. refl) told r.marks)
row_sits a s w (refuses f) told r = sits_order.itself w.live
row_sits a s w (breaks f live) told r = sits_along w.live live r.0.goes

pub done_mild : (pid : ℤ) (x : Agent) (p : Name) (s : Source) (w : World) → DeedMild w (process_done pid x p s w)
unfolding process_done
done_mild pid x p s w =
    let a : Actor = acting x s w.live.objects in
    effect_mild w pid x s (processed p (place_of_use pid s w) a (locked_of s.marks) s.stack w.live w.queue)
    (rows.processed_leaves (λ q. Unit {0}) (λ d. ⊥) (place_of_use pid s w) (λ f g q h. tt) (λ i second event q h. tt) (λ i q h. tt) p a (locked_of s.marks) s.stack w.live w.queue tt)
    (leaves p (place_of_use pid s w) a (locked_of s.marks) s.stack w.live w.queue)

deed_sits : (pid : ℤ) (x : Agent) (p : Name) (s : Source) (w : World) → IsTold w.live → DeedSits w (deed pid x p s w)
unfolding deed row_done
deed_sits pid x p s w told =
    let a : Actor = acting x s w.live.objects in
    cond_both (is_process p) (process_done pid x p s w) (row_done x p s w) (DeedSits w)
    (λ e. mild_sits w (process_done pid x p s w) told (done_mild pid x p s w))
    (λ e. row_sits (answers_for p a w.live.objects) s w (shared p a x.descr (locked_of s.marks) s.stack w.live) told (shared_open p a x.descr (locked_of s.marks) s.stack w.live))

-- Units.

abbrev pub none_own : ℕ → Bool
none_own d = false

module _ (pid : ℤ) (ts : List Taken) (start : List Connection) where
  abbrev Seat : World → Type 0
  Seat v = Kept (LostIn ts) none_own start v.live.board.connections

  seat_on : (w v : World) → Sits w.live v.live → Seat w → Seat v
  seat_on w v s h = kept_both (LostIn ts) none_own start w.live.board.connections v.live.board.connections h (kept_sits (LostIn ts) none_own w.live.board.connections v.live.board.connections s.seats)

  seat_went : (player : Dbref) (program : ℤ) (o : UnitOutcome) (w : World) → Seat w → Seat (world_of (unit_went pid player program o w))
  seat_went player program (goes k t) w h = h
  seat_went player program (faulted f) w h = seat_on (ended_one pid w) (broken pid player program f w) ((sits_tell_player player (program_error program f)).law w.live) h
  seat_went player program _ w h = h

  abbrev Loses : Live → Live → Type 0
  Loses b v = (d : Dbref) → Lapsed d b v → LostIn ts d

  seat_behind : (w : World) (t : Source) (v : World) → Loses w.live (settled (process_stands_at pid t v)).live → Seat w → Sits w.live v.live → IsLapsing w.live v.live → Seat (settled (process_stands_at pid t v))
  seat_behind w t v loses h s lapsing =
      let u : World = process_stands_at pid t v in
      kept_both (LostIn ts) none_own start v.live.board.connections (settled u).live.board.connections (seat_on w v s h)
      (keeps_settled (LostIn ts) none_own u (λ k m e. loses (dbref_of k) (lapse_settled w.live (settled u).live u refl lapsing k m e)))

  seat_after : (player : Dbref) (s : Source) (w : World) (d : SharedEffect World) → Loses w.live (world_of (after_deed pid player s d)).live → Seat w → DeedSits w d → Seat (world_of (after_deed pid player s d))
  seat_after player s w (does t v) loses h k = seat_behind w t v loses h k.0 k.1
  seat_after player s w (rests t v) loses h k = seat_behind w t v loses h k.0 k.1
  seat_after player s w (fails f v) loses h k = seat_went player s.program.number (fault_met f s) v (seat_on w v k h)

  seat_unit : (x : Agent) (s : Source) (w : World) (o : UnitOutcome) → IsTold w.live → Loses w.live (world_of (unit_done pid x s.program.number o w)).live → Seat w → Seat (world_of (unit_done pid x s.program.number o w))
  seat_unit x s w (asks p t) told loses h = let u : World = out pid w in seat_after x.player t u (deed pid x p t u) loses h (deed_sits pid x p t u told)
  seat_unit x s w o told loses h = seat_went x.player s.program.number o w h

  seat_within : (x : Agent) (s : Source) (w : World) (o : Option MufFault) → IsTold w.live → Loses w.live (world_of (within_limit o pid x s w)).live → Seat w → Seat (world_of (within_limit o pid x s w))
  seat_within x s w (Some f) told loses h = seat_on (ended_one pid w) (broken pid x.player s.program.number f w) ((sits_tell_player x.player (program_error s.program.number f)).law w.live) h
  seat_within x s w None told loses h = seat_unit x s (one_counted pid w) (unit s) told loses h

  pub seat_turn : (tune : Tune) (x : Agent) (s : Source) (w : World) → Among (unit_of x s w (unit_taken tune pid x s w)) ts → IsTold w.live → Seat w → Seat (world_of (unit_taken tune pid x s w))
  unfolding unit_taken
  seat_turn tune x s w among told h =
      let taken : Taken = unit_of x s w (unit_taken tune pid x s w) in
      seat_within x s w (limit_fault tune (acting x s w.live.objects).level x) told (λ d l. (taken, among, l)) h

  seat_run : (tune : Tune) (n : ℕ) (w : World) → Each (λ (t : Taken). Among t ts) (units_run tune n pid w) → IsTold w.live → Seat w → Seat (last_world w (units_run tune n pid w))
  seat_run tune n w =
      run_holds tune pid (λ v us. Each (λ (t : Taken). Among t ts) us → IsTold v.live → Seat v → Seat (last_world v us))
      (λ v a t h. h)
      (λ v x s us e rest a t h. rest a.1 (told_turn tune pid x s v t) (seat_turn tune x s v a.0 t h)) n w

pub slice_seats : (pid : ℤ) (w : World) → IsTold w.live → Kept (LostIn (units_of pid w)) none_own w.live.board.connections (sliced pid w).live.board.connections
unfolding sliced
slice_seats pid w told =
    let ts : List Taken = units_of pid w in
    seat_run pid ts w.live.board.connections w.live.board.tune (slice_most w.live.board.tune) (process_awake pid w) (among_more (λ (t : Taken). Among t ts) ts (λ t a. a)) told
    (kept_sits (LostIn ts) none_own w.live.board.connections w.live.board.connections refl)

-- Lines.

told_sits : (d : ℕ) (w : World) (r : World × Result ℤ MufFault) → r.0.live ≡ w.live → Sits w.live (start_told d r).live
told_sits d w (v, Ok pid) e = (mild_as w v e).0
told_sits d w (v, Err f) e = sits_order.both w.live v.live _ (mild_as w v e).0 ((sits_tell d (fault_text f)).law v.live)

judged_sits : (d : ℕ) (c : Started) (o : Option Denial) (w : World) → Sits w.live (start_judged d c o w).live
judged_sits d c (Some denial) w = (sits_refused d denial).law w.live
judged_sits d c None w = told_sits d w (program_begun (by_command d c.program w) c w) (live_begun (by_command d c.program w) c w)

pub launched_sits : (d : ℕ) (a : Actor) (c : Started) (w : World) → Sits w.live (launched d a c w).live
unfolding launched
launched_sits d a c w = judged_sits d c (verdict w.live.objects a (Start c.program)) w

so_sits : (d : ℕ) (program : Dbref) (r : Result Tree Flaw) (w : World) → Sits w.live (compiled_so d program r w).live
so_sits d program (Ok tree) w = (sits_tell d compiler_done).law w.live
so_sits d program (Err flaw) w = (sits_tell d (flaw_text flaw)).law w.live

pub after_sits : (d : ℕ) (program : Dbref) (step : EditStep) (w : World) → Sits w.live (after_edit d program step w).live
unfolding compiled
after_sits d program Compile w = so_sits d program (built_tree w.live.objects program) w
after_sits d program Stay w = sits_order.itself w.live
after_sits d program Left w = sits_order.itself w.live

module _ (Lost : Dbref → Type 0) (n : ℕ) where
  abbrev Own : ℕ → Bool
  Own d = n == d

  abbrev Stays : World → World → Type 0
  Stays w v = Kept Lost Own w.live.board.connections v.live.board.connections

  stays_sits : (w v : World) → Sits w.live v.live → Stays w v
  stays_sits w v s = kept_sits Lost Own w.live.board.connections v.live.board.connections s.seats

  stays_both : (u v w : World) → Stays u v → Stays v w → Stays u w
  stays_both u v w g h = kept_both Lost Own u.live.board.connections v.live.board.connections w.live.board.connections g h

  stays_editor : (editor : Option EditState) (w : World) → Stays w (on_live (with_editor n editor) w)
  unfolding edited_one
  stays_editor editor w = own_editor Lost Own n editor (own_is n) w.live.board.connections
    where
      own_is : (n : ℕ) → (n == n) ≡ true
      own_is n = grind (arith, nat_tests)

  stays_up : (player : Dbref) (outcome : Outcome) (w : World) → Stays w (followed_up n player outcome w)
  unfolding tuned
  stays_up player (StartOutcome program trigger line arg) w =
      stays_sits w (followed_up n player (StartOutcome program trigger line arg) w) (launched_sits n (actor_of w.live.objects player) (record { player = player; program = program; trigger = trigger; command = line; argument = arg }) w)
  stays_up player Leave w = stays_sits w (on_live (leave n) w) ((sits_leave n).law w.live)
  stays_up player (Edit program) w = stays_editor (Some (editor_on program w.live)) w
  stays_up player Done w = stays_sits w w (sits_order.itself w.live)
  stays_up player (Said pose text) w = stays_sits w w (sits_order.itself w.live)
  stays_up player NotMine w = stays_sits w w (sits_order.itself w.live)
  stays_up player Dump w = stays_sits w w (sits_order.itself w.live)
  stays_up player Stop w = stays_sits w w (sits_order.itself w.live)
  stays_up player (Retune tune) w = stays_sits w (on_live (tuned tune) w) (record { seats = refl })

abbrev pub LineStays : ℕ → World → World → Type 0
LineStays n w v = Kept (λ x. Lapsed x w.live v.live) (λ d. n == d) w.live.board.connections v.live.board.connections

world_stays : (n : ℕ) (player : Dbref) (line : List ℕ) (w : World) → IsTold w.live → LineStays n w (in_world n player line w)
unfolding in_world
world_stays n player line w told =
    let a : Actor = actor_of w.live.objects player in
    let r = typed w.queue n a line w.live in
    let x : World = record w { live = r.0; queue = processes_after_line n a line w.live w.queue } in
    let v : World = followed_up n player r.1 (settled x) in
    let Lost : Dbref → Type 0 = λ y. Lapsed y w.live v.live in
    stays_both Lost n w x v (stays_sits Lost n w x ((plays_typed w.queue n a line).law w.live))
    (stays_both Lost n x (settled x) v (keeps_settled Lost (Own Lost n) x (lapse_settled w.live v.live x (objects_up n player r.1 (settled x)) (world_lapses n player line w told))) (stays_up Lost n player r.1 (settled x)))

edited_stays : (n : ℕ) (player : Dbref) (s : EditState) (line : List ℕ) (w : World) → IsTold w.live → LineStays n w (edited_line n player s line w)
unfolding edited_line
edited_stays n player s line w told =
    let a : Actor = actor_of w.live.objects player in
    let r = edited_by_line n a s line w.live in
    let y : World = record w { live = r.0 } in
    let x : World = on_live (with_editor n (next_editor r.2 r.1)) y in
    let v : World = after_edit n s.program r.2 (settled x) in
    let Lost : Dbref → Type 0 = λ z. Lapsed z w.live v.live in
    stays_both Lost n w y v (stays_sits Lost n w y ((sits_edited n a s line).law w.live))
    (stays_both Lost n y x v (stays_editor Lost n (next_editor r.2 r.1) y)
    (stays_both Lost n x (settled x) v (keeps_settled Lost (Own Lost n) x (lapse_settled w.live v.live x (objects_after n s.program r.2 (settled x)) (edited_lapses n a s line w.live told)))
    (stays_sits Lost n (settled x) v (after_sits n s.program r.2 (settled x)))))

editor_stays : (n : ℕ) (player : Dbref) (s : EditState) (line : List ℕ) (w : World) → IsTold w.live → LineStays n w (in_editor n player s line w)
unfolding in_editor
editor_stays n player s line w told =
    cond_both (is_editor_open s w.live) (edited_line n player s line w) (on_live (tell n editor_exited) w) (LineStays n w)
    (λ e. edited_stays n player s line w told)
    (λ e. stays_sits (λ y. Lapsed y w.live (tell n editor_exited w.live)) n w (on_live (tell n editor_exited) w) ((sits_tell n editor_exited).law w.live))

given_stays : (n : ℕ) (pid : ℤ) (line : List ℕ) (w : World) → LineStays n w (given_line n pid line w)
unfolding given_line
given_stays n pid line w =
    cond_both (is_abort line) (on_live (tell n program_aborted) (on_queue (without_process pid) w)) (on_queue (on_process pid (told_line w.moment line)) w) (LineStays n w)
    (λ e. stays_sits (λ y. Lapsed y w.live (tell n program_aborted w.live)) n w (on_live (tell n program_aborted) (on_queue (without_process pid) w)) ((sits_tell n program_aborted).law w.live))
    (λ e. stays_sits (λ y. Lapsed y w.live w.live) n w (on_queue (on_process pid (told_line w.moment line)) w) (sits_order.itself w.live))

login_stays : (n : ℕ) (line : List ℕ) (w : World) → LineStays n w (on_live (at_login n line) w)
login_stays n line w = stays_sits (λ y. Lapsed y w.live (at_login n line w.live)) n w (on_live (at_login n line) w) ((sits_login n line).law w.live)

-- an editor is taken out of its connection for its line
taken_stays : (n : ℕ) (player : Dbref) (s : EditState) (line : List ℕ) (w : World) → IsTold w.live → LineStays n w (in_editor n player s line (on_live (with_editor n None) w))
unfolding edited_one
taken_stays n player s line w told =
    let u : World = on_live (with_editor n None) w in
    let v : World = in_editor n player s line u in
    let Lost : Dbref → Type 0 = λ y. Lapsed y w.live v.live in
    stays_both Lost n w u v (stays_editor Lost n None w) (editor_stays n player s line u told)

pub line_stays : (n : ℕ) (taker : Option ℤ) (player : Option Dbref) (editor : Option EditState) (line : List ℕ) (w : World) → IsTold w.live → LineStays n w (line_for taker player editor n line w)
line_stays n (Some pid) player editor line w told = given_stays n pid line w
line_stays n None None editor line w told = login_stays n line w
line_stays n None (Some player) None line w told = world_stays n player line w told
line_stays n None (Some player) (Some s) line w told = taken_stays n player s line w told
