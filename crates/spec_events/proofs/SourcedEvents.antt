-- Whatever happens, what is kept and what runs is of its source.
use Rattle.std.proofs.Common.{◌≡◌, ℕ, ℤ, zero, suc, not, List, [], ◌∷◌, refl, sym, ◌∙◌, ap, subst, Option, Some, None, inl, inr}
use Rattle.std.specs.Prelude.{slice_get, Result, Ok, Err}
use Rattle.std.specs.Option.{option_map_or, option_and_then}
use Rattle.std.proofs.lemmas.Bool.{cond_both}
use Rattle.muck_model.specs.declared.dbref.Dbref.{Dbref}
use Rattle.muck_model.specs.declared.dbref.Denial.{Denial}
use Rattle.muck_model.specs.declared.edit.EditState.{EditState}
use Rattle.muck_model.specs.declared.event.Entry.{Entry}
use Rattle.muck_model.specs.declared.event.Event.{Event}
use Rattle.muck_model.specs.declared.event.Event.TheVariants.{Closed, Exec, Claim, Slice, Lost, Cut, Stored, DumpFailed}
use Rattle.muck_model.specs.declared.tune.Tune.{Tune}
use Rattle.spec_live.specs.declared.saving.Saving.{Saving}
use Rattle.spec_live.specs.Saving.{pending, saving_done, due_again}
use Rattle.spec_live.specs.Objects.{Entry as Kept, index_of}
use Rattle.spec_live.specs.Connections.{Connection}
use Rattle.spec_live.specs.Start.{first_objects}
use Rattle.spec_live.specs.Boards.{first_tune, connection_opened, line_added, bytes_taken}
use Rattle.spec_live.specs.Lives.{Live, tell, leave}
use Rattle.spec_rights.specs.declared.act.Actor.{Actor}
use Rattle.spec_rights.specs.declared.act.Act.TheVariants.{Start}
use Rattle.spec_rights.specs.Asking.{refused}
use Rattle.spec_rights.specs.Changing.{tuned}
use Rattle.spec_rights.specs.Verdict.{verdict}
use Rattle.spec_rights.proofs.Shown.{quiet_tell, quiet_refused}
use Rattle.muf_model.specs.declared.fault.MufFault.{MufFault}
use Rattle.muf_model.specs.Faults.{fault_text}
use Rattle.muf_model.specs.Datum.{text as words_of}
use Rattle.muf_model.specs.Tree.{Tree}
use Rattle.muf_model.specs.Source.{Program, Source}
use Rattle.muf_model.specs.Chains.{programs_of}
use Rattle.spec_prims.specs.Asking.{object_numbered}
use Rattle.muck_library.specs.declared.flaw.Flaw.{Flaw}
use Rattle.muck_library.specs.Library.{Library, itself, form_at, form_kept, form_dropped}
use Rattle.muck_library.specs.Programs.{source_in, built_tree}
use Rattle.muck_queue.specs.declared.process.Process.{Process}
use Rattle.muck_queue.specs.Queues.{Queue, empty_queue, reader, has_pid, on_process, told_line, without_process, claimed, released, is_tied_to, ended_tied}
use Rattle.spec_commands.specs.declared.outcome.Outcome.{Outcome}
use Rattle.spec_commands.specs.declared.outcome.Outcome.TheVariants.{Done, Said, NotMine, Start as StartOutcome, Edit, Leave, Dump, Stop, Retune}
use Rattle.spec_commands.specs.declared.edit.EditStep.{EditStep}
use Rattle.spec_commands.specs.declared.edit.EditStep.TheVariants.{Stay, Compile, Left}
use Rattle.spec_commands.specs.Editing.{editor_exited, is_editor_open, edited_by_line}
use Rattle.spec_commands.specs.Finding.{actor_of}
use Rattle.spec_commands.specs.Talk.{at_login, waits, gone_away}
use Rattle.spec_commands.specs.Commands.{played}
use Rattle.spec_rights.proofs.Telling.{told_along}
use Rattle.spec_commands.proofs.Edited.{edited_proper}
use Rattle.spec_commands.proofs.Lines.{seating_at_login}
use Rattle.spec_admin.specs.Lines.{line_ends, after_line}
use Rattle.spec_events.specs.declared.starting.Call.{Call as Started}
use Rattle.spec_events.specs.declared.starting.Manner.{Manner}
use Rattle.spec_events.specs.World.{World, connection, askers_of, on_live, on_queue, with_library, world_booted, starting_world}
use Rattle.spec_events.specs.Dumping.{resaved, dump_stored, dump_failed, told_each}
use Rattle.spec_events.specs.Following.{settled}
use Rattle.spec_events.specs.Starting.{by_command, by_hook, program_begun, start_told, start_judged, launched}
use Rattle.spec_events.specs.Lines.{compiler_done, flaw_text, with_editor, compiled_so, compiled, next_editor, after_edit, edited_line, in_editor, typed, ended_behind, processes_after_line, followed_up, in_world, command, program_aborted, is_abort, given_line, line_for, line_done, first_line_done as line_is_done}
use Rattle.spec_events.specs.Slices.{Taken, units_of}
use Rattle.spec_events.specs.Hooked.{hooked}
use Rattle.spec_events.specs.Steps.{effect, happened, hooked_by, rested}
use Rattle.spec_events.specs.Sourced.{Each, OfSource, Standing, AreSourced, Sourced, BuiltOf, BeforeOne, BeforeUnit, UnitsSourced, Until, SourcedSince, AllSourced}
use Rattle.spec_events.proofs.Sources.{SameSources, same_objects, source_as, IsLined, lined_told, saved_sources, stilled_sources, notes_sources}
use Rattle.spec_events.proofs.Sourcing.{each_more, each_filter, each_without, each_changed, form_left, settled_sourced}
use Rattle.spec_events.proofs.Lapses.{objects_settled}
use Rattle.spec_events.proofs.Quietly.{quietly_launched, quietly_compiled, quietly_begun, quiet_told_each}
use Rattle.spec_events.proofs.Happening.{hooked-keeps, hooked-live}
use Rattle.spec_events.proofs.SourcedUnits as units
use Rattle.spec_events.proofs.Turns.{gone_away_untouched}
use Rattle.spec_events.proofs.Typed.{typed_open}

module _ (B : Dbref → List (List ℕ) → Tree → Type 0) where
  as_sources : (w v : World) → SameSources w.live.objects v.live.objects → v.library ≡ w.library → v.queue.processes ≡ w.queue.processes → Sourced B w → Sourced B v
  as_sources w v same l q h =
      let k = units.sourced_as B w.live.objects v.live.objects w.library w.queue.processes same h in
      subst (λ ps. AreSourced B v.live.objects v.library ps) (sym q) (subst (λ library. AreSourced B v.live.objects library w.queue.processes) (sym l) k)

  -- a text is shown
  told_sourced : (d : ℕ) (text : List ℕ) (w : World) → Sourced B w → Sourced B (on_live (tell d text) w)
  told_sourced d text w h = as_sources w (on_live (tell d text) w) (same_objects w.live.objects _ ((quiet_tell d text).law w.live).objects) refl refl h

  denied_sourced : (d : ℕ) (denial : Denial) (w : World) → Sourced B w → Sourced B (on_live (refused d denial) w)
  denied_sourced d denial w h = as_sources w (on_live (refused d denial) w) (same_objects w.live.objects _ ((quiet_refused d denial).law w.live).objects) refl refl h

  -- Building by the editor.

  so_sourced : (d : ℕ) (program : Dbref) (r : Result Tree Flaw) (w : World) → built_tree w.live.objects program ≡ r → units.Moment B w.live.objects → Sourced B w → Sourced B (compiled_so d program r w)
  so_sourced d program (Ok tree) w e now h =
      told_sourced d compiler_done (with_library (form_kept program tree w.library) w)
      (record { forms = units.kept_forms B w.live.objects program tree w.library (now program tree e) h.forms; processes = h.processes })
  so_sourced d program (Err flaw) w e now h =
      told_sourced d (flaw_text flaw) (with_library (form_dropped program w.library) w)
      (record { forms = λ x tree k. h.forms x tree (form_left x program w.library tree k); processes = h.processes })

  after_sourced : (d : ℕ) (program : Dbref) (step : EditStep) (w : World) → units.Moment B (after_edit d program step w).live.objects → Sourced B w → Sourced B (after_edit d program step w)
  unfolding compiled
  after_sourced d program Compile w now h =
      so_sourced d program (built_tree w.live.objects program) w refl (subst (units.Moment B) (quietly_compiled d program w).objects now) h
  after_sourced d program Stay w now h = h
  after_sourced d program Left w now h = h

  settles : (w u : World) → IsLined w.live.objects u.live.objects → u.library ≡ w.library → Each (λ p. Standing (OfSource B w.live.objects) p.running) u.queue.processes → Sourced B w → Sourced B (settled u)
  settles w u line l q h =
      let k : AreSourced B w.live.objects u.library u.queue.processes = record { forms = λ d tree e. h.forms d tree (ap (form_at d) (sym l) ∙ e); processes = q } in
      units.sourced_as B u.live.objects (settled u).live.objects (settled u).library (settled u).queue.processes
      (λ d. source_as d u.live.objects (settled u).live.objects (objects_settled d u))
      (settled_sourced B w.live.objects u line k)

  line_edited : (d : ℕ) (player : Dbref) (s : EditState) (line : List ℕ) (w : World) → units.Moment B (edited_line d player s line w).live.objects → Sourced B w → Sourced B (edited_line d player s line w)
  unfolding edited_line
  line_edited d player s line w now h =
      let a : Actor = actor_of w.live.objects player in
      let r = edited_by_line d a s line w.live in
      let u : World = record w { live = with_editor d (next_editor r.2 r.1) r.0 } in
      after_sourced d s.program r.2 (settled u) now (settles w u (lined_told w.live.objects r.0.objects (told_along w.live r.0 (edited_proper d a s line w.live).goes)) refl h.processes h)

  editor_sourced : (d : ℕ) (player : Dbref) (s : EditState) (line : List ℕ) (w : World) → units.Moment B (in_editor d player s line w).live.objects → Sourced B w → Sourced B (in_editor d player s line w)
  unfolding in_editor
  editor_sourced d player s line w =
      cond_both (is_editor_open s w.live) (edited_line d player s line w) (on_live (tell d editor_exited) w) (λ v. units.Moment B v.live.objects → Sourced B w → Sourced B v)
      (λ e. line_edited d player s line w) (λ e now h. told_sourced d editor_exited w h)

  -- A program is started.

  started_sourced : (m : Manner) (c : Started) (w : World) → units.Moment B w.live.objects → Sourced B w → Sourced B (program_begun m c w).0
  started_sourced m c w now h =
      let r = program_begun m c w in
      subst (λ es. AreSourced B es r.0.library r.0.queue.processes) (sym (quietly_begun m c w).objects) (units.begun_sourced B m c w now h)

  -- By a line.

  told_begun : (d : ℕ) (w : World) (r : World × Result ℤ MufFault) → Sourced B r.0 → Sourced B (start_told d r)
  told_begun d w (v, Ok pid) h = h
  told_begun d w (v, Err fault) h = told_sourced d (fault_text fault) v h

  judged_sourced : (d : ℕ) (c : Started) (o : Option Denial) (w : World) → units.Moment B w.live.objects → Sourced B w → Sourced B (start_judged d c o w)
  judged_sourced d c (Some denial) w now h = denied_sourced d denial w h
  judged_sourced d c None w now h =
      told_begun d w (program_begun (by_command d c.program w) c w) (started_sourced (by_command d c.program w) c w now h)

  launched_by : (d : ℕ) (a : Actor) (c : Started) (w : World) → units.Moment B w.live.objects → Sourced B w → Sourced B (launched d a c w)
  unfolding launched
  launched_by d a c w m h = judged_sourced d c (verdict w.live.objects a (Start c.program)) w m h

  launched_sourced : (d : ℕ) (a : Actor) (c : Started) (w : World) → units.Moment B (launched d a c w).live.objects → Sourced B w → Sourced B (launched d a c w)
  launched_sourced d a c w now h = launched_by d a c w (subst (units.Moment B) (quietly_launched d a c w).objects now) h

  up_sourced : (d : ℕ) (player : Dbref) (outcome : Outcome) (w : World) → units.Moment B (followed_up d player outcome w).live.objects → Sourced B w → Sourced B (followed_up d player outcome w)
  unfolding leave tuned
  up_sourced d player (StartOutcome program trigger line arg) w now h =
      launched_sourced d (actor_of w.live.objects player) (record { player = player; program = program; trigger = trigger; command = line; argument = arg }) w now h
  up_sourced d player Leave w now h = h
  up_sourced d player (Edit program) w now h = h
  up_sourced d player Done w now h = h
  up_sourced d player (Said pose text) w now h = h
  up_sourced d player NotMine w now h = h
  up_sourced d player Dump w now h = h
  up_sourced d player Stop w now h = h
  up_sourced d player (Retune tune) w now h = h

  -- Commands.

  module _ (P : Process → Type 0) where
    ended_stand : (o : Option Process) (q : Queue) → Each P q.processes → Each P (option_map_or (λ p. without_process p.number q) o q).processes
    unfolding without_process
    ended_stand None q h = h
    ended_stand (Some p) q h = each_without (λ (p : Process). Unit {0}) p.number P q.processes h

    behind_stand : (a : Actor) (line : List ℕ) (q : Queue) (v : Live) (outcome : Outcome) → Each P q.processes → Each P (ended_behind a line q (v, outcome)).processes
    unfolding after_line
    behind_stand a line q v NotMine h = ended_stand (line_ends a q line v) q h
    behind_stand a line q v outcome h = h

    left_stand : (d : ℕ) (a : Actor) (line : List ℕ) (w : Live) (q : Queue) → Each P q.processes → Each P (processes_after_line d a line w q).processes
    unfolding processes_after_line
    left_stand d a line w q h = behind_stand a line q (played d a line w).0 (played d a line w).1 h

  world_sourced : (d : ℕ) (player : Dbref) (line : List ℕ) (w : World) → units.Moment B (in_world d player line w).live.objects → Sourced B w → Sourced B (in_world d player line w)
  unfolding in_world
  world_sourced d player line w now h =
      let a : Actor = actor_of w.live.objects player in
      let r = typed w.queue d a line w.live in
      let u : World = record w { live = r.0; queue = processes_after_line d a line w.live w.queue } in
      up_sourced d player r.1 (settled u) now
      (settles w u (lined_told w.live.objects r.0.objects (told_along w.live r.0 (((typed_open a None w.queue d line).law w.live).law tt tt).goes)) refl (left_stand (λ p. Standing (OfSource B w.live.objects) p.running) d a line w.live w.queue h.processes) h)

  command_sourced : (player : Option Dbref) (editor : Option EditState) (d : ℕ) (line : List ℕ) (w : World) → units.Moment B (command player editor d line w).live.objects → Sourced B w → Sourced B (command player editor d line w)
  command_sourced None editor d line w now h = as_sources w (on_live (at_login d line) w) (notes_sources w.live.objects (at_login d line w.live).objects ((seating_at_login d line).law w.live).objects) refl refl h
  command_sourced (Some player) None d line w now h = world_sourced d player line w now h
  command_sourced (Some player) (Some s) d line w now h = editor_sourced d player s line (on_live (with_editor d None) w) now h

  given_gone : (pid : ℤ) (w : World) → Sourced B w → Sourced B (on_queue (without_process pid) w)
  unfolding without_process
  given_gone pid w h = record { forms = h.forms; processes = each_without (λ (p : Process). Unit {0}) pid (λ p. Standing (OfSource B w.live.objects) p.running) w.queue.processes h.processes }

  given_one : (pid : ℤ) (line : List ℕ) (w : World) → Sourced B w → Sourced B (on_queue (on_process pid (told_line w.moment line)) w)
  unfolding on_process
  given_one pid line w h = record {
    forms = h.forms;
    processes = each_changed (λ p. Standing (OfSource B w.live.objects) p.running) (has_pid pid) (told_line w.moment line) (λ p k. units.stand_item B (OfSource B w.live.objects) (words_of line) p.running k) w.queue.processes h.processes;
  }

  given_sourced : (d : ℕ) (pid : ℤ) (line : List ℕ) (w : World) → Sourced B w → Sourced B (given_line d pid line w)
  unfolding given_line
  given_sourced d pid line w h =
      cond_both (is_abort line) (on_live (tell d program_aborted) (on_queue (without_process pid) w)) (on_queue (on_process pid (told_line w.moment line)) w) (Sourced B)
      (λ e. told_sourced d program_aborted (on_queue (without_process pid) w) (given_gone pid w h))
      (λ e. given_one pid line w h)

  for_sourced : (pid : Option ℤ) (player : Option Dbref) (editor : Option EditState) (d : ℕ) (line : List ℕ) (w : World) → units.Moment B (line_for pid player editor d line w).live.objects → Sourced B w → Sourced B (line_for pid player editor d line w)
  for_sourced (Some pid) player editor d line w now h = given_sourced d pid line w h
  for_sourced None player editor d line w now h = command_sourced player editor d line w now h

  done_by : (d : ℕ) (player : Option Dbref) (editor : Option EditState) (lines : List (List ℕ)) (w : World) → units.Moment B (line_done d player editor lines w).live.objects → Sourced B w → Sourced B (line_done d player editor lines w)
  unfolding waits
  done_by d player editor [] w now h = h
  done_by d player editor (line ∷ lines) w now h = for_sourced (reader d w.queue) player editor d line (on_live (waits d lines) w) now h

  pub exec_sourced : (d : ℕ) (o : Option Connection) (w : World) → units.Moment B (line_is_done d o w).live.objects → Sourced B w → Sourced B (line_is_done d o w)
  unfolding line_is_done
  exec_sourced d None w now h = h
  exec_sourced d (Some c) w now h = done_by d c.player c.editor c.waiting w now h

  -- Any event.

  each_moment : (ts : List Taken) → ((es : List Kept) → BeforeOne ts es → units.Moment B es) → Each (λ (t : Taken). units.Moment B t.before.live.objects) ts
  each_moment [] f = tt
  each_moment (t ∷ ts) f = (f t.before.live.objects (inl refl), each_moment ts (λ es k. f es (inr k)))

  tied_sourced : (d : ℕ) (w : World) → Sourced B w → Sourced B (on_queue (ended_tied d) w)
  unfolding ended_tied
  tied_sourced d w h = record { forms = h.forms; processes = each_filter (λ p. Standing (OfSource B w.live.objects) p.running) (λ p. not (is_tied_to d p)) w.queue.processes h.processes }

  saved_sourced : (f : Saving → Saving) (ds : List ℕ) (text : List ℕ) (w : World) → Sourced B w → Sourced B (on_live (told_each ds text) (on_live (resaved f) w))
  saved_sourced f ds text w h =
      let u : World = on_live (resaved f) w in
      let v : World = on_live (told_each ds text) u in
      as_sources u v (same_objects u.live.objects v.live.objects ((quiet_told_each ds text).law u.live).objects) refl refl (as_sources w u (saved_sources f w.live.objects) refl refl h)

  -- what is kept and what runs is of its source behind each event, where what is built at its moments counts as built
  happened_sourced : (event : Event) (party : ℕ) (w : World) → units.Moment B (happened w party event).live.objects → ((es : List Kept) → BeforeUnit event w es → units.Moment B es) → Sourced B w → Sourced B (happened w party event)
  unfolding claimed released connection_opened line_added bytes_taken
  happened_sourced (Closed d) party w now units_now h =
      let u : World = on_live (gone_away d) w in
      tied_sourced d u (as_sources w u (same_objects w.live.objects u.live.objects (gone_away_untouched d w.live).objects) refl refl h)
  happened_sourced (Exec d) party w now units_now h = exec_sourced d (connection d w) w now h
  happened_sourced (Slice pid) party w now units_now h =
      let k = (units.slice_sourced B pid w (each_moment (units_of pid w) units_now) h).1 in
      record { forms = k.forms; processes = k.processes }
  happened_sourced (Claim pid) party w now units_now h = record { forms = h.forms; processes = h.processes }
  happened_sourced (Lost pid) party w now units_now h = record { forms = h.forms; processes = h.processes }
  happened_sourced (Cut k) party w now units_now h =
      let u : World = on_live (resaved pending) w in
      as_sources w u (saved_sources pending w.live.objects) refl refl h
  happened_sourced (Stored k) party w now units_now h = saved_sourced saving_done (askers_of w.dumps) (dump_stored k) w h
  happened_sourced (DumpFailed k) party w now units_now h = saved_sourced due_again (askers_of w.dumps) dump_failed w h
  happened_sourced event party w now units_now h = h

  -- and behind what is hooked to it
  hooked_sourced : (w v : World) (text : Option (Dbref × List ℕ)) → units.Moment B (hooked w (rested v) text).live.objects → Sourced B v → Sourced B (hooked w (rested v) text)
  hooked_sourced w v text now h =
      let u : World = rested v in
      (hooked-keeps (λ x. units.Moment B x.live.objects × Sourced B x)
      (λ c x t k. (subst (units.Moment B) (sym (quietly_begun (by_hook x) c x).objects) k.0, started_sourced (by_hook x) c x k.0 k.1))
      w u text (subst (λ (l : Live). units.Moment B l.objects) (hooked-live w u text) now, as_sources v u (stilled_sources v.live.objects) refl refl h)).1

  follows_sourced : (event : Event) (w v : World) → units.Moment B (hooked_by w event v).live.objects → Sourced B v → Sourced B (hooked_by w event v)
  follows_sourced (Exec d) w v now h = hooked_sourced w v _ now h
  follows_sourced (Slice pid) w v now h = hooked_sourced w v _ now h
  follows_sourced (Closed d) w v now h = hooked_sourced w v _ now h
  follows_sourced event w v now h = h

  pub effect_sourced : (w : World) (e : Entry) → units.Moment B (happened w e.party e.event).live.objects → units.Moment B (effect w e).live.objects → ((es : List Kept) → BeforeUnit e.event w es → units.Moment B es) →
      Sourced B w → Sourced B (effect w e)
  unfolding effect
  effect_sourced w e here now units_now h = follows_sourced e.event w (happened w e.party e.event) now (happened_sourced e.event e.party w here units_now h)

  -- and so is what each unit of a slice runs
  pub units_sourced : (event : Event) (w : World) → ((es : List Kept) → BeforeUnit event w es → units.Moment B es) → Sourced B w → UnitsSourced B event w
  units_sourced (Slice pid) w m h = (units.slice_sourced B pid w (each_moment (units_of pid w) m) h).0
  units_sourced event w m h = tt

-- More moments.

standing_more : (P Q : Program → Type 0) → ((p : Program) → P p → Q p) → (o : Option Source) → Standing P o → Standing Q o
standing_more P Q f None h = tt
standing_more P Q f (Some s) h = each_more P Q f (programs_of s) h

sourced_more : (B C : Dbref → List (List ℕ) → Tree → Type 0) → ((d : Dbref) (lines : List (List ℕ)) (tree : Tree) → B d lines tree → C d lines tree) → (es : List Kept) (library : Library) (ps : List Process) →
    AreSourced B es library ps → AreSourced C es library ps
sourced_more B C f es library ps h = record {
  forms = λ d tree e. f d (source_in es d) tree (h.forms d tree e);
  processes = each_more (λ p. Standing (OfSource B es) p.running) (λ p. Standing (OfSource C es) p.running)
      (λ p k. standing_more (OfSource B es) (OfSource C es) (λ q l. f (object_numbered q.number) (source_in es (object_numbered q.number)) q.tree l) p.running k) ps h.processes;
}

built_more : (S T : List Kept → Type 0) → ((es : List Kept) → S es → T es) → (d : Dbref) (lines : List (List ℕ)) (tree : Tree) → BuiltOf S d lines tree → BuiltOf T d lines tree
built_more S T f d lines tree b = (b.0, f b.0 b.1, b.2, b.3)

-- what is built at a moment counts
moment_of : (Stood : List Kept → Type 0) (es : List Kept) → Stood es → units.Moment (BuiltOf Stood) es
unfolding built_tree
moment_of Stood es h d tree e = (es, h, refl, e)

-- The law of histories: from a world in which nothing is built or runs, whatever is kept or runs is what was built of the source that it has, from the
-- definitions that objects lent at a moment of the history.

sourced_since : (Stood : List Kept → Type 0) (w : World) (entries : List Entry) → Sourced (BuiltOf Stood) w → SourcedSince Stood w entries
sourced_since Stood w [] h = tt
sourced_since Stood w (entry ∷ entries) h =
    let now : List Kept → Type 0 = Until Stood w entry in
    let k : Sourced (BuiltOf now) w = sourced_more (BuiltOf Stood) (BuiltOf now) (built_more Stood now (λ es s. inl s)) w.live.objects w.library w.queue.processes h in
    let before : (es : List Kept) → BeforeUnit entry.event w es → units.Moment (BuiltOf now) es = λ es s. moment_of now es (inr (inr (inr s))) in
    let next : Sourced (BuiltOf now) (effect w entry) = effect_sourced (BuiltOf now) w entry (moment_of now (happened w entry.party entry.event).live.objects (inr (inl refl))) (moment_of now (effect w entry).live.objects (inr (inr (inl refl)))) before k in
    (units_sourced (BuiltOf now) entry.event w before k, next, sourced_since now (effect w entry) entries next)

-- a world in which nothing is built and nothing runs
pub nothing_kept : (B : Dbref → List (List ℕ) → Tree → Type 0) (es : List Kept) → AreSourced B es [] []
unfolding form_at
nothing_kept B es = record { forms = λ d tree e. absurd (none (index_of d) tree e); processes = tt }
  where
    none : (o : Option ℕ) (tree : Tree) → option_and_then (λ n. option_and_then itself (slice_get {X = Option Tree} [] n)) o ≡ Some tree → ⊥
    none None tree e = cc
    none (Some n) tree e = by_place n tree e
      where
        by_place : (n : ℕ) (tree : Tree) → option_and_then itself (slice_get {X = Option Tree} [] n) ≡ Some tree → ⊥
        by_place zero tree e = cc
        by_place (suc n) tree e = cc

pub all_sourced_booted : (objects : List Kept) (tune : Tune) (moment start : ℕ) (es : List Entry) → AllSourced (world_booted objects tune moment start) es
unfolding world_booted empty_queue
all_sourced_booted objects tune moment start es = sourced_since (λ os. ⊥) (world_booted objects tune moment start) es (nothing_kept (BuiltOf (λ os. ⊥)) objects)

pub all_sourced_starting : (es : List Entry) → AllSourced starting_world es
unfolding starting_world
all_sourced_starting es = all_sourced_booted first_objects first_tune 0 0 es
