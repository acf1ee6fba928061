-- Lines and slices leave all claims.
use Rattle.std.proofs.Common.{◌≡◌, ℕ, ℤ, pos, suc, Bool, true, false, cond, List, [], ◌∷◌, refl, ◌∙◌, Option, Some, None}
use Rattle.std.specs.Prelude.{nat_lt, Result, Ok, Err}
use Rattle.std.specs.Option.{option_map_or}
use Rattle.muck_model.specs.declared.dbref.Dbref.{Dbref}
use Rattle.muck_model.specs.declared.dbref.Denial.{Denial}
use Rattle.muck_model.specs.declared.edit.EditState.{EditState}
use Rattle.muck_model.specs.declared.tune.Tune.{Tune}
use Rattle.spec_live.specs.declared.mark.Mark.{Mark}
use Rattle.spec_live.specs.declared.mark.Mark.TheVariants.{Lines, Gone}
use Rattle.spec_live.specs.Objects.{Entry, dbref_of, nothing}
use Rattle.spec_live.specs.Connections.{Connection}
use Rattle.spec_live.specs.Lives.{Live, tell}
use Rattle.spec_rights.specs.declared.act.Actor.{Actor}
use Rattle.spec_rights.specs.declared.act.Act.TheVariants.{Start as StartAct}
use Rattle.spec_rights.specs.Verdict.{verdict}
use Rattle.spec_commands.specs.declared.outcome.Outcome.{Outcome as Line}
use Rattle.spec_commands.specs.declared.outcome.Outcome.TheVariants.{Done, Said, NotMine, Start, Edit, Leave, Dump, Stop, Retune}
use Rattle.spec_commands.specs.declared.edit.EditStep.{EditStep}
use Rattle.spec_commands.specs.declared.edit.EditStep.TheVariants.{Stay, Compile, Left}
use Rattle.spec_commands.specs.Finding.{actor_of}
use Rattle.spec_commands.specs.Editing.{editor_exited, is_editor_open, edited_by_line}
use Rattle.spec_commands.specs.Talk.{waits}
use Rattle.spec_commands.specs.Commands.{played}
use Rattle.spec_admin.specs.Lines.{line_ends, after_line}
use Rattle.muf_model.specs.declared.fault.MufFault.{MufFault}
use Rattle.muf_model.specs.declared.fault.MufFault.TheVariants.{CallsFull}
use Rattle.muf_model.specs.declared.prims.Primitive.{Primitive as Name}
use Rattle.muf_model.specs.Datum.{Datum, int}
use Rattle.muf_model.specs.Tree.{Definition, Tree}
use Rattle.muf_model.specs.Source.{Program, Source, locked_of, calls_running, handed, program_entered}
use Rattle.muf_model.specs.Unit.{Outcome, goes, faulted, asks, unit, fault_met, calls_most}
use Rattle.spec_prims.specs.Asking.{object_numbered}
use Rattle.spec_prims.specs.Row.{WorldAnswer, gives as row_gives, refuses as row_refuses, breaks as row_breaks}
use Rattle.spec_prims.specs.Shared.{shared}
use Rattle.muck_library.specs.declared.flaw.Flaw.{Flaw}
use Rattle.muck_library.specs.Programs.{built_tree}
use Rattle.muck_library.specs.Library.{Library, formed}
use Rattle.muck_queue.specs.declared.mode.Mode.TheVariants.{Background}
use Rattle.muck_queue.specs.declared.process.Process.{Process}
use Rattle.muck_queue.specs.Queues.{Queue, process, on_process, without_process, process_added, reader, ended_running, trigger_cleared, told_line}
use Rattle.spec_processes.specs.ProcessRows.{Effect, gives, waits as pauses, forks, enters, starts, refuses, is_process, seconds_later}
use Rattle.spec_processes.proofs.Leaves.{Leaves, leaves}
use Rattle.spec_events.specs.declared.starting.Agent.{Agent}
use Rattle.spec_events.specs.declared.starting.Call.{Call as Started}
use Rattle.spec_events.specs.declared.starting.Manner.{Manner}
use Rattle.spec_events.specs.World.{World, on_live, on_queue, with_library}
use Rattle.spec_events.specs.Following.{mark_followed, swept, settled}
use Rattle.spec_events.specs.Starting.{by_command, process_joined, program_begun, start_told, start_judged, launched}
use Rattle.spec_events.specs.Lines.{with_editor, next_editor, compiled_so, compiled, after_edit, edited_line, in_editor, ended_behind, processes_after_line, typed, followed_up, in_world, command, program_aborted, given_line, is_abort, line_for, line_done, first_line_done}
use Rattle.spec_events.specs.Slices.{acting, SharedEffect, does, rests, fails, state_behind, lifted, row_done, called_word, word_entered, form_entered, form_called, program_called, child_of, with_number, child_joined, forked, queued_command, with_process, queued, place_of_use, effected, process_done, deed, process_stands_at, out, one_counted, unit_went, after_deed, unit_done, limit_fault, within_limit, unit_taken, world_of, slice_most, units_run, last_world, process_awake, sliced}
use Rattle.spec_events.proofs.Begun.{joined_keeps, begun_keeps}
use Rattle.spec_events.proofs.Slicing.{run_holds}

-- a deed leads to a world of which that is so
abbrev Leads : (World → Type 0) → SharedEffect World → Type 0
Leads P (does t v) = P v
Leads P (rests t v) = P v
Leads P (fails f v) = P v

-- both have the same claims
abbrev pub Same : World → World → Type 0
Same w v = v.queue.claims ≡ w.queue.claims

-- What follows from a change of objects.

same_followed : (m : Mark) (d : Dbref) (w : World) → Same w (mark_followed m d w)
unfolding ended_running trigger_cleared
same_followed Lines d w = refl
same_followed Gone d w = refl

same_marked : (o : Option Mark) (d : Dbref) (w : World) → Same w (option_map_or (λ m. mark_followed m d w) o w)
same_marked None d w = refl
same_marked (Some m) d w = same_followed m d w

same_swept : (n : ℕ) (es : List Entry) (w : World) → Same w (swept n es w)
unfolding swept
same_swept n [] w = refl
same_swept n (e ∷ es) w = same_swept (suc n) es _ ∙ same_marked e.mark (dbref_of n) w

same_settled : (w : World) → Same w (settled w)
unfolding settled
same_settled w = same_swept 0 w.live.objects w

-- A program that is started.

abbrev Begun : World → World × Result ℤ MufFault → Type 0
Begun w r = Same w r.0

same_joined : (p : Process) (w : World) → Begun w (process_joined p w)
unfolding process_added
same_joined p w = joined_keeps (λ u. Same w u) p w refl refl

same_begun : (m : Manner) (c : Started) (w : World) → Begun w (program_begun m c w)
unfolding process_added
same_begun m c w = begun_keeps (λ u. Same w u) m c (λ s u k. k) w refl

same_told : (d : ℕ) (w : World) (r : World × Result ℤ MufFault) → Begun w r → Same w (start_told d r)
same_told d w (v, Ok pid) q = q
same_told d w (v, Err fault) q = q

same_judged : (d : ℕ) (c : Started) (o : Option Denial) (w : World) → Same w (start_judged d c o w)
same_judged d c (Some denial) w = refl
same_judged d c None w = same_told d w _ (same_begun (by_command d c.program w) c w)

same_launched : (d : ℕ) (a : Actor) (c : Started) (w : World) → Same w (launched d a c w)
unfolding launched
same_launched d a c w = same_judged d c (verdict w.live.objects a (StartAct c.program)) w

-- Lines.

same_compiled_so : (d : ℕ) (program : Dbref) (r : Result Tree Flaw) (w : World) → Same w (compiled_so d program r w)
same_compiled_so d program (Ok tree) w = refl
same_compiled_so d program (Err flaw) w = refl

same_after_edit : (d : ℕ) (program : Dbref) (step : EditStep) (w : World) → Same w (after_edit d program step w)
unfolding compiled
same_after_edit d program Compile w = same_compiled_so d program (built_tree w.live.objects program) w
same_after_edit d program Stay w = refl
same_after_edit d program Left w = refl

same_edited : (d : ℕ) (player : Dbref) (s : EditState) (line : List ℕ) (w : World) → Same w (edited_line d player s line w)
unfolding edited_line
same_edited d player s line w =
    let r = edited_by_line d (actor_of w.live.objects player) s line w.live in
    let v : World = record w { live = with_editor d (next_editor r.2 r.1) r.0 } in
    same_after_edit d s.program r.2 (settled v) ∙ same_settled v

same_in_editor : (d : ℕ) (player : Dbref) (s : EditState) (line : List ℕ) (w : World) → Same w (in_editor d player s line w)
unfolding in_editor
same_in_editor d player s line w = either (is_editor_open s w.live)
  where
    either : (b : Bool) → Same w (cond b (edited_line d player s line w) (on_live (tell d editor_exited) w))
    either true = same_edited d player s line w
    either false = refl

same_after_line : (a : Actor) (line : List ℕ) (w : Live) (q : Queue) → (after_line a line w q).claims ≡ q.claims
unfolding after_line without_process
same_after_line a line w q = at (line_ends a q line w)
  where
    at : (o : Option Process) → (option_map_or (λ (p : Process). without_process p.number q) o q).claims ≡ q.claims
    at None = refl
    at (Some p) = refl

same_behind : (a : Actor) (line : List ℕ) (q : Queue) (r : Live × Line) → (ended_behind a line q r).claims ≡ q.claims
same_behind a line q (w, NotMine) = same_after_line a line w q
same_behind a line q (w, Done) = refl
same_behind a line q (w, Said pose text) = refl
same_behind a line q (w, Start program trigger command arg) = refl
same_behind a line q (w, Edit program) = refl
same_behind a line q (w, Leave) = refl
same_behind a line q (w, Dump) = refl
same_behind a line q (w, Stop) = refl
same_behind a line q (w, Retune tune) = refl

same_left : (d : ℕ) (a : Actor) (line : List ℕ) (w : Live) (q : Queue) → (processes_after_line d a line w q).claims ≡ q.claims
unfolding processes_after_line
same_left d a line w q = same_behind a line q (played d a line w)

same_up : (d : ℕ) (player : Dbref) (outcome : Line) (w : World) → Same w (followed_up d player outcome w)
same_up d player Leave w = refl
same_up d player (Edit program) w = refl
same_up d player (Start program trigger line arg) w = same_launched d (actor_of w.live.objects player) (record { player = player; program = program; trigger = trigger; command = line; argument = arg }) w
same_up d player Done w = refl
same_up d player (Said pose text) w = refl
same_up d player NotMine w = refl
same_up d player Dump w = refl
same_up d player Stop w = refl
same_up d player (Retune tune) w = refl

same_in_world : (d : ℕ) (player : Dbref) (line : List ℕ) (w : World) → Same w (in_world d player line w)
unfolding in_world
same_in_world d player line w =
    let a : Actor = actor_of w.live.objects player in
    let r = typed w.queue d a line w.live in
    let v : World = record w { live = r.0; queue = processes_after_line d a line w.live w.queue } in
    same_up d player r.1 (settled v) ∙ same_settled v ∙ same_left d a line w.live w.queue

same_command : (player : Option Dbref) (editor : Option EditState) (d : ℕ) (line : List ℕ) (w : World) → Same w (command player editor d line w)
same_command None editor d line w = refl
same_command (Some player) None d line w = same_in_world d player line w
same_command (Some player) (Some s) d line w = same_in_editor d player s line (on_live (with_editor d None) w)

same_given : (d : ℕ) (pid : ℤ) (line : List ℕ) (w : World) → Same w (given_line d pid line w)
unfolding given_line without_process on_process
same_given d pid line w = either (is_abort line)
  where
    either : (b : Bool) → Same w (cond b (on_live (tell d program_aborted) (on_queue (without_process pid) w)) (on_queue (on_process pid (told_line w.moment line)) w))
    either true = refl
    either false = refl

same_line_for : (taker : Option ℤ) (player : Option Dbref) (editor : Option EditState) (d : ℕ) (line : List ℕ) (w : World) → Same w (line_for taker player editor d line w)
same_line_for (Some pid) player editor d line w = same_given d pid line w
same_line_for None player editor d line w = same_command player editor d line w

same_lines : (d : ℕ) (player : Option Dbref) (editor : Option EditState) (lines : List (List ℕ)) (w : World) → Same w (line_done d player editor lines w)
same_lines d player editor [] w = refl
same_lines d player editor (line ∷ lines) w = same_line_for (reader d w.queue) player editor d line (on_live (waits d lines) w)

pub same_done : (d : ℕ) (o : Option Connection) (w : World) → Same w (first_line_done d o w)
unfolding first_line_done
same_done d None w = refl
same_done d (Some c) w = same_lines d c.player c.editor c.waiting w

-- Slices.

module _ (w : World) where
  abbrev LeadsSame : SharedEffect World → Type 0
  LeadsSame d = Leads (Same w) d

  deed_number : (stack : List Datum) (s : Source) (r : World × Result ℤ MufFault) → Begun w r → LeadsSame (with_number stack s r)
  deed_number stack s (v, Ok n) h = h
  deed_number stack s (v, Err f) h = h

  deed_child : (o : Option Process) (stack : List Datum) (s : Source) → LeadsSame (child_joined o stack s w)
  deed_child None stack s = refl
  deed_child (Some p) stack s = deed_number stack s _ (same_joined (child_of w.moment (handed (int (pos 0)) (state_behind stack s)) p) w)

  deed_forked : (pid : ℤ) (stack : List Datum) (s : Source) → LeadsSame (forked pid stack s w)
  unfolding forked
  deed_forked pid stack s = deed_child (process pid w.queue) stack s

  deed_process : (stack : List Datum) (s : Source) (r : World × Result ℤ MufFault) → Begun w r → LeadsSame (with_process stack s r)
  deed_process stack s (v, Ok n) h = h
  deed_process stack s (v, Err f) h = h

  deed_queued : (x : Agent) (stack : List Datum) (d : ℤ) (seconds : ℕ) (argument : List ℕ) (s : Source) → LeadsSame (queued x stack d seconds argument s w)
  unfolding queued
  deed_queued x stack d seconds argument s =
      deed_process stack s _ (same_begun (record { descr = None; mode = Background; due = seconds_later w.moment seconds })
      (record { player = x.player; program = object_numbered d; trigger = nothing; command = queued_command; argument = argument }) w)

  deed_word : (s : Source) (program : Program) (o : Option Definition) (v : World) → Same w v → LeadsSame (word_entered s program o v)
  deed_word s program None v h = h
  deed_word s program (Some d) v h = either (nat_lt (calls_running s.marks) calls_most)
    where
      either : (b : Bool) → LeadsSame (cond b (does (program_entered program d s) v) (fails CallsFull v))
      either true = h
      either false = h

  deed_form : (a : Actor) (after : Source) (d : ℤ) (name : Option (List ℕ)) (form : Option Tree) (v : World) → Same w v → LeadsSame (form_entered a after d name form v)
  deed_form a after d name None v h = h
  deed_form a after d name (Some tree) v h = deed_word after (record { number = d; tree = tree }) (called_word a name tree) v h

  deed_made : (a : Actor) (after : Source) (d : ℤ) (name : Option (List ℕ)) (made : Option Tree × Library) → LeadsSame (form_called a after d name made w)
  deed_made a after d name (form, library) = deed_form a after d name form (with_library library w) refl

  deed_called : (a : Actor) (after : Source) (d : ℤ) (name : Option (List ℕ)) → LeadsSame (program_called a after d name w)
  unfolding program_called
  deed_called a after d name = deed_made a after d name (formed w.live.objects (object_numbered d) w.library)

  deed_effect : (pid : ℤ) (x : Agent) (s : Source) (e : Effect) → Leaves (acting x s w.live.objects) w.live w.queue e → LeadsSame (effected pid x s w e)
  deed_effect pid x s (gives stack live queue) h = h.claims
  deed_effect pid x s (pauses n stack queue) h = h.claims
  deed_effect pid x s (forks stack) h = deed_forked pid stack s
  deed_effect pid x s (enters stack d name) h = deed_called (acting x s w.live.objects) (state_behind stack s) d name
  deed_effect pid x s (starts stack d seconds argument) h = deed_queued x stack d seconds argument s
  deed_effect pid x s (refuses f) h = refl

  deed_processed : (pid : ℤ) (x : Agent) (p : Name) (s : Source) → LeadsSame (process_done pid x p s w)
  unfolding process_done
  deed_processed pid x p s = deed_effect pid x s _ (leaves p (place_of_use pid s w) (acting x s w.live.objects) (locked_of s.marks) s.stack w.live w.queue)

  deed_lifted : (s : Source) (row : WorldAnswer) → LeadsSame (lifted s w row)
  deed_lifted s (row_gives stack live) = refl
  deed_lifted s (row_refuses f) = refl
  deed_lifted s (row_breaks f live) = refl

  deed_any : (pid : ℤ) (x : Agent) (p : Name) (s : Source) → LeadsSame (deed pid x p s w)
  unfolding deed row_done
  deed_any pid x p s = either (is_process p)
    where
      either : (b : Bool) → LeadsSame (cond b (process_done pid x p s w) (row_done x p s w))
      either true = deed_processed pid x p s
      either false = deed_lifted s (shared p (acting x s w.live.objects) x.descr (locked_of s.marks) s.stack w.live)

same_went : (pid : ℤ) (player : Dbref) (program : ℤ) (o : Outcome) (w : World) → Same w (world_of (unit_went pid player program o w))
unfolding without_process on_process
same_went pid player program (goes k t) w = refl
same_went pid player program (faulted f) w = refl
same_went pid player program _ w = refl

same_stands : (pid : ℤ) (t : Source) (w : World) → Same w (process_stands_at pid t w)
unfolding on_process
same_stands pid t w = refl

same_after_deed : (pid : ℤ) (player : Dbref) (s : Source) (w : World) (d : SharedEffect World) → Leads (Same w) d → Same w (world_of (after_deed pid player s d))
same_after_deed pid player s w (does t v) h = same_settled (process_stands_at pid t v) ∙ same_stands pid t v ∙ h
same_after_deed pid player s w (rests t v) h = same_settled (process_stands_at pid t v) ∙ same_stands pid t v ∙ h
same_after_deed pid player s w (fails f v) h = same_went pid player s.program.number (fault_met f s) v ∙ h

same_out : (pid : ℤ) (w : World) → Same w (out pid w)
unfolding on_process
same_out pid w = refl

same_counted : (pid : ℤ) (w : World) → Same w (one_counted pid w)
unfolding on_process
same_counted pid w = refl

same_unit : (pid : ℤ) (x : Agent) (program : ℤ) (o : Outcome) (w : World) → Same w (world_of (unit_done pid x program o w))
same_unit pid x program (asks p s) w = same_after_deed pid x.player s (out pid w) (deed pid x p s (out pid w)) (deed_any (out pid w) pid x p s) ∙ same_out pid w
same_unit pid x program o w = same_went pid x.player program o w

same_limited : (pid : ℤ) (x : Agent) (s : Source) (o : Option MufFault) (w : World) → Same w (world_of (within_limit o pid x s w))
unfolding without_process
same_limited pid x s (Some f) w = refl
same_limited pid x s None w = same_unit pid x s.program.number (unit s) (one_counted pid w) ∙ same_counted pid w

same_turn : (tune : Tune) (pid : ℤ) (x : Agent) (s : Source) (w : World) → Same w (world_of (unit_taken tune pid x s w))
unfolding unit_taken
same_turn tune pid x s w = same_limited pid x s (limit_fault tune (acting x s w.live.objects).level x) w

same_run : (tune : Tune) (pid : ℤ) (n : ℕ) (w : World) → Same w (last_world w (units_run tune n pid w))
same_run tune pid n w = run_holds tune pid (λ v ts. Same v (last_world v ts)) (λ v. refl) (λ v x s ts e rest. rest ∙ same_turn tune pid x s v) n w

same_awake : (pid : ℤ) (w : World) → Same w (process_awake pid w)
unfolding on_process
same_awake pid w = refl

pub same_sliced : (pid : ℤ) (w : World) → Same w (sliced pid w)
unfolding sliced
same_sliced pid w = same_run w.live.board.tune pid (slice_most w.live.board.tune) (process_awake pid w) ∙ same_awake pid w
