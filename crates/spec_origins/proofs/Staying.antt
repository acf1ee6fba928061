-- Behind each entry what isn't there is nobody's trigger or program, and nobody edits it.
use Rattle.std.proofs.Common.{◌≡◌, ◌⊎◌, ◌==◌, ℕ, ℤ, Bool, true, false, not, cond, List, [], ◌∷◌, refl, sym, ◌∙◌, ap, subst, Option, Some, None, inl, inr}
use Rattle.std.specs.Prelude.{codes, nat_lt, is_some, length, Result, Ok, Err}
use Rattle.std.specs.Option.{option_map_or, option_and_then}
use Rattle.std.specs.Ordering.{int_eq}
use Rattle.std.specs.Str.{bytes_eq}
use Rattle.std.proofs.lemmas.Bool.{cond_both, and_parts}
use Rattle.std.proofs.lemmas.Option.{none-some}
use Rattle.muck_model.specs.declared.dbref.Dbref.{Dbref}
use Rattle.muck_model.specs.declared.dbref.Denial.{Denial}
use Rattle.muck_model.specs.declared.edit.EditState.{EditState}
use Rattle.muck_model.specs.declared.event.Entry.{Entry}
use Rattle.muck_model.specs.declared.event.Event.{Event}
use Rattle.muck_model.specs.declared.event.Event.TheVariants.{Opened, Closed, Exec, Slice, Cut, Stored, DumpFailed}
use Rattle.muck_model.specs.declared.tune.Tune.{Tune}
use Rattle.spec_live.specs.declared.object.Object.{Object}
use Rattle.spec_live.specs.declared.saving.Saving.{Saving}
use Rattle.spec_live.specs.Objects.{Entry as Kept, object_at, mark_in}
use Rattle.spec_live.specs.Saving.{pending, saving_done as saved, due_again}
use Rattle.spec_live.specs.Connections.{Connection}
use Rattle.spec_live.specs.Boards.{early_board, connection_opened, line_added, bytes_taken, edited_one}
use Rattle.spec_live.specs.Lives.{Live, tell, tell_player, leave}
use Rattle.spec_live.proofs.Keeping.{Keeps, keeps_more}
use Rattle.spec_rights.specs.declared.act.Actor.{Actor}
use Rattle.spec_rights.specs.declared.act.Act.TheVariants.{Start as StartAct, Edit as EditAct}
use Rattle.spec_rights.specs.Changing.{tuned}
use Rattle.spec_rights.specs.Verdict.{verdict}
use Rattle.spec_rights.proofs.Licences.{keeps_asked}
use Rattle.spec_rights.proofs.Shown.{quiet_tell_player}
use Rattle.spec_rights.proofs.Telling.{Told, told_same, told_along}
use Rattle.muf_model.specs.declared.fault.MufFault.{MufFault}
use Rattle.muf_model.specs.declared.prims.Primitive.{Primitive as Name}
use Rattle.muf_model.specs.Tree.{Tree}
use Rattle.muf_model.specs.Source.{Program, Source, locked_of}
use Rattle.muf_model.specs.Unit.{Outcome as UnitOutcome, goes, faulted, asks, unit, fault_met}
use Rattle.muf_model.specs.Chains.{programs_of}
use Rattle.muf_token.specs.Source.{words, words_from}
use Rattle.muf_token.specs.Pieces.{piece_ahead}
use Rattle.muf_compile.specs.Growth.{tree_of}
use Rattle.spec_prims.specs.Asking.{object_numbered}
use Rattle.spec_prims.specs.Formulas.{answers_for}
use Rattle.spec_prims.specs.Row.{WorldAnswer, gives, refuses, breaks}
use Rattle.spec_prims.specs.Shared.{shared}
use Rattle.spec_prims.proofs.Opens.{RowOpen, shared_open}
use Rattle.muck_library.specs.Programs.{source_in, lent_in, built_tree, tree_of_words}
use Rattle.muck_queue.specs.declared.process.Process.{Process}
use Rattle.muck_queue.specs.Queues.{Queue, empty_queue, has_pid, is_tied_to, on_process, without_process, told_line, woken, reader, claimed, released, ended_tied}
use Rattle.spec_processes.specs.ProcessRows.{is_process}
use Rattle.spec_commands.specs.declared.outcome.Outcome.{Outcome}
use Rattle.spec_commands.specs.declared.outcome.Outcome.TheVariants.{Done, Said, NotMine, Start, Edit, Leave, Dump, Stop, Retune}
use Rattle.spec_commands.specs.declared.edit.EditCommand.{EditCommand}
use Rattle.spec_commands.specs.declared.edit.EditCommand.TheVariants.{Insert, Delete, Show, Compile as CompileLine, Quit}
use Rattle.spec_commands.specs.declared.edit.EditStep.{EditStep}
use Rattle.spec_commands.specs.declared.edit.EditStep.TheVariants.{Stay, Compile, Left}
use Rattle.spec_commands.specs.Editing.{editor_exited, is_editor_open, edited_by_line, edit_done, edit_some, edited_at, edit_command, line_inserted, editing_stepped, lines_most}
use Rattle.spec_commands.specs.Finding.{actor_of}
use Rattle.spec_commands.specs.Going.{ended}
use Rattle.spec_commands.specs.Talk.{at_login, waits, gone_away}
use Rattle.spec_commands.proofs.Edited.{edited_proper}
use Rattle.spec_commands.proofs.Lines.{seating_at_login}
use Rattle.spec_admin.proofs.Following.{AsFollows}
use Rattle.spec_admin.proofs.Permitted.{admin_leading}
use Rattle.spec_commands.specs.Free.{free_line}
use Rattle.spec_commands.proofs.Permitted.{Leaves}
use Rattle.spec_events.specs.declared.starting.Agent.{Agent}
use Rattle.spec_events.specs.declared.starting.Call.{Call as Started}
use Rattle.spec_events.specs.declared.starting.Manner.{Manner}
use Rattle.spec_events.specs.World.{World, world_booted, connection, askers_of, on_live, on_queue}
use Rattle.spec_events.specs.Dumping.{resaved, dump_stored, dump_failed}
use Rattle.spec_events.specs.Following.{settled}
use Rattle.spec_events.specs.Starting.{new_process, by_command, by_hook, program_begun, start_told, start_judged, launched}
use Rattle.spec_events.specs.Lines.{with_editor, next_editor, after_edit, edited_line, in_editor, editor_on, by_keeper, typed, processes_after_line, followed_up, in_world, program_aborted, is_abort, given_line, line_for, line_done, first_line_done}
use Rattle.spec_events.specs.Slices.{acting, SharedEffect, does, rests, fails, lifted, row_done, process_done, deed, program_error, process_stands_at, broken, out, one_counted, unit_went, after_deed, unit_done, limit_fault, within_limit, unit_taken, world_of, seat, unit_of, Taken, units_run, last_world, slice_most, process_awake, sliced}
use Rattle.spec_events.specs.Sourced.{Each, OfSource, Standing, Sourced, BuiltOf, SourcedSince, Until}
use Rattle.spec_events.specs.Steps.{effect, happened, rested}
use Rattle.spec_events.specs.Histories.{AllLawful}
use Rattle.spec_events.proofs.Endings.{IsTold}
use Rattle.spec_events.proofs.Happening.{effect-keeps}
use Rattle.spec_events.proofs.Quietly.{quiet_told_each}
use Rattle.spec_events.proofs.Slicing.{run_holds}
use Rattle.spec_events.proofs.SourcedEvents.{all_sourced_booted}
use Rattle.spec_events.proofs.Sourcing.{each_more, each_filter, each_without, each_changed}
use Rattle.spec_events.proofs.Taken.{told_turn}
use Rattle.spec_events.proofs.Begun.{live_begun}
use Rattle.spec_events.proofs.Turns.{gone_away_untouched, told_effect}
use Rattle.spec_events.proofs.Typed.{typed_open}
use Rattle.spec_origins.specs.Origins.{Comes, StartedIn, LostIn, no_own_process, lowest_program, RunsOwn, AllOrigins}
use Rattle.spec_origins.specs.Seats.{Seated, AllSeated}
use Rattle.spec_origins.specs.There.{IsThere, StaysThere}
use Rattle.spec_origins.proofs.Going.{each_among, goes_woken, from_itself, holds_begun}
use Rattle.spec_origins.proofs.Histories.{all_origins_booted}
use Rattle.spec_origins.proofs.Lines.{kept_left, objects_up, objects_after, queue_after}
use Rattle.spec_origins.proofs.Named.{Stands, Names, Naming, names_or, names_played, so_there}
use Rattle.spec_origins.proofs.Runs.{lowest_each}
use Rattle.spec_origins.proofs.Seated.{DeedMild, done_mild, none_own, seat_turn, launched_sits, after_sits}
use Rattle.spec_origins.proofs.Seating.{editor_in, kept_sits}
use Rattle.spec_origins.proofs.Seats.{sits_tell, sits_leave, plays_typed, sits_login, sits_edited}
use Rattle.spec_origins.proofs.There.{NoneGoes, none_same, none_resaved, none_stilled, none_notes, FromThere, Held, held_more, trigger_as, triggers_come, Editors, editor_as, editors_sit, editors_put, none_settled, settled_held, held_settled}
use Rattle.spec_origins.proofs.Units.{turn_holds}
use Rattle.spec_origins.proofs.Waiting.{waits_editor, all_seated_booted}

-- of the objects that are there now
abbrev Now : World → Type 0
Now w = Held w.live.objects w

-- where it is of those before, and none goes
now_by : (w v : World) → NoneGoes w.live.objects v.live.objects → Held w.live.objects v → Now v
now_by w v k h = held_more w.live.objects v.live.objects v k h

-- What follows a line.

keeper_names : (a : Actor) (w v : Live) (outcome : Outcome) → Leaves (AsFollows a w) w (v, outcome) → Names v outcome
keeper_names a w v (Start program trigger line arg) h = absurd h
keeper_names a w v (Edit program) h = absurd h
keeper_names a w v outcome h = tt

names_typed : (q : Queue) (d : ℕ) (a : Actor) (line : List ℕ) → Naming (typed q d a line)
unfolding typed by_keeper ended
names_typed q d a line =
    names_or _ _ (names_played d a line)
    (names_or _ _ (keeps_more _ (λ w y h. keeper_names a w y.0 y.1 h) (admin_leading a None (free_line a line) q d line).left) (record { law = λ w. tt }))

names_as : (w v : Live) → NoneGoes w.objects v.objects → (outcome : Outcome) → Names w outcome → Names v outcome
names_as w v k (Start program trigger line arg) h = k trigger h
names_as w v k (Edit program) h = k program h
names_as w v k outcome h = tt

told_queue : (d : ℕ) (r : World × Result ℤ MufFault) → (start_told d r).queue ≡ r.0.queue
told_queue d (v, Ok pid) = refl
told_queue d (v, Err fault) = refl

module _ (es : List Kept) where
  abbrev Threads : World → Type 0
  Threads w = Each (FromThere es) w.queue.processes

  begun_triggers : (m : Manner) (c : Started) (w : World) → Stands es c.trigger → Threads w → Threads (program_begun m c w).0
  unfolding new_process
  begun_triggers m c w k h =
      let New : Process → Type 0 = λ p. p.trigger ≡ c.trigger in
      triggers_come es no_own_process false (λ x. ⊥) New w.queue (program_begun m c w).0.queue (λ p e. inr (subst (Stands es) (sym e) k)) h
      (holds_begun no_own_process false (λ x. ⊥) New w.queue m c w (λ s n l. refl) (from_itself no_own_process false (λ x. ⊥) New w.queue))

  judged_triggers : (d : ℕ) (c : Started) (o : Option Denial) (w : World) → Stands es c.trigger → Threads w → Threads (start_judged d c o w)
  judged_triggers d c (Some denial) w k h = h
  judged_triggers d c None w k h =
      let m = by_command d c.program w in
      subst (λ (q : Queue). Each (FromThere es) q.processes) (sym (told_queue d (program_begun m c w))) (begun_triggers m c w k h)

  launched_triggers : (d : ℕ) (a : Actor) (c : Started) (w : World) → Stands es c.trigger → Threads w → Threads (launched d a c w)
  unfolding launched
  launched_triggers d a c w k h = judged_triggers d c (verdict w.live.objects a (StartAct c.program)) w k h

editor_is : (es : List Kept) (s t : EditState) → ◌≡◌ {A = Option EditState} (Some s) (Some t) → Stands es s.program → Stands es t.program
editor_is es s t e h = let k : s ≡ t = cc in subst (λ (u : EditState). Stands es u.program) k h

up_held : (d : ℕ) (player : Dbref) (outcome : Outcome) (w : World) → Names w.live outcome → Now w → Held w.live.objects (followed_up d player outcome w)
unfolding tuned edited_one
up_held d player (Start program trigger line arg) w k h =
    let c : Started = record { player = player; program = program; trigger = trigger; command = line; argument = arg } in
    let a : Actor = actor_of w.live.objects player in
    record {
      triggers = launched_triggers w.live.objects d a c w k h.triggers;
      editors = editors_sit w.live.objects w.live.board.connections (launched d a c w).live.board.connections (launched_sits d a c w).seats h.editors;
    }
up_held d player Leave w k h = record { triggers = h.triggers; editors = editors_sit w.live.objects w.live.board.connections (leave d w.live).board.connections ((sits_leave d).law w.live).seats h.editors }
up_held d player (Edit program) w k h = record {
  triggers = h.triggers;
  editors = editors_put w.live.objects d (Some (editor_on program w.live)) (λ s e. editor_is w.live.objects (editor_on program w.live) s e k) w.live.board.connections h.editors;
}
up_held d player Done w k h = h
up_held d player (Said pose text) w k h = h
up_held d player NotMine w k h = h
up_held d player Dump w k h = record { triggers = h.triggers; editors = h.editors }
up_held d player Stop w k h = record { triggers = h.triggers; editors = h.editors }
up_held d player (Retune tune) w k h = record { triggers = h.triggers; editors = h.editors }

world_held : (d : ℕ) (player : Dbref) (line : List ℕ) (w : World) → Now w → Now (in_world d player line w)
unfolding in_world
world_held d player line w h =
    let a : Actor = actor_of w.live.objects player in
    let r = typed w.queue d a line w.live in
    let x : World = record w { live = r.0; queue = processes_after_line d a line w.live w.queue } in
    let v : World = followed_up d player r.1 (settled x) in
    let told : Told w.live.objects r.0.objects = told_along w.live r.0 (((typed_open a None w.queue d line).law w.live).law tt tt).goes in
    let left : Held w.live.objects x = record {
      triggers = triggers_come w.live.objects no_own_process false (λ y. ⊥) (λ p. ⊥) w.queue x.queue (λ p n. absurd n) h.triggers (kept_left (λ y. ⊥) d a line w.live w.queue);
      editors = editors_sit w.live.objects w.live.board.connections r.0.board.connections ((plays_typed w.queue d a line).law w.live).seats h.editors;
    } in
    let names : Names (settled x).live r.1 = names_as r.0 (settled x).live (none_settled x) r.1 ((names_typed w.queue d a line).law w.live) in
    now_by (settled x) v (none_same (settled x).live.objects v.live.objects (objects_up d player r.1 (settled x))) (up_held d player r.1 (settled x) names (held_settled w.live.objects x told left))

-- The editor stays on its program.

abbrev Same : EditState → (Live → Live × EditState × EditStep) → Type 0
Same s f = Keeps (λ (w : Live) (y : Live × EditState × EditStep). y.1.program ≡ s.program) f

same_done : (d : ℕ) (a : Actor) (s : EditState) (command : EditCommand) → Same s (edit_done d a s command)
unfolding edit_done editing_stepped
same_done d a s (Insert at) = record { law = λ w. refl }
same_done d a s (Delete from to) = record { law = λ w. refl }
same_done d a s (Show from to) = record { law = λ w. refl }
same_done d a s CompileLine = keeps_asked a (EditAct s.program) _ _ (λ denial. record { law = λ w. refl }) (record { law = λ w. refl })
same_done d a s Quit = keeps_asked a (EditAct s.program) _ _ (λ denial. record { law = λ w. refl }) (record { law = λ w. refl })

same_inserted : (d : ℕ) (s : EditState) (at : ℕ) (line : List ℕ) → Same s (line_inserted d s at line)
unfolding line_inserted editing_stepped
same_inserted d s at line =
    cond_both (bytes_eq line (codes ".")) _ _ (Same s) (λ e. record { law = λ w. refl })
    (λ e. cond_both (nat_lt (length s.lines) lines_most) _ _ (Same s) (λ f. record { law = λ w. refl }) (λ f. record { law = λ w. refl }))

same_edited : (d : ℕ) (a : Actor) (s : EditState) (line : List ℕ) → Same s (edited_by_line d a s line)
unfolding edited_by_line editing_stepped
same_edited d a s line = at s.inserting
  where
    some : (o : Option EditCommand) → Same s (edit_some d a s o)
    some None = record { law = λ w. refl }
    some (Some command) = same_done d a s command

    at : (o : Option ℕ) → Same s (edited_at d a s line o)
    at (Some n) = same_inserted d s n line
    at None = some (edit_command (length s.lines) line)

next_there : (es : List Kept) (step : EditStep) (s : EditState) → Stands es s.program → (t : EditState) → next_editor step s ≡ Some t → Stands es t.program
next_there es Left s h t e = absurd (none-some t e)
next_there es Stay s h t e = editor_is es s t e h
next_there es Compile s h t e = editor_is es s t e h

edited_held : (d : ℕ) (player : Dbref) (s : EditState) (line : List ℕ) (w : World) → Stands w.live.objects s.program → Now w → Now (edited_line d player s line w)
unfolding edited_line edited_one
edited_held d player s line w k h =
    let a : Actor = actor_of w.live.objects player in
    let es : List Kept = w.live.objects in
    let r = edited_by_line d a s line w.live in
    let x : World = record w { live = with_editor d (next_editor r.2 r.1) r.0 } in
    let v : World = after_edit d s.program r.2 (settled x) in
    let sat : Editors es r.0.board.connections = editors_sit es w.live.board.connections r.0.board.connections ((sits_edited d a s line).law w.live).seats h.editors in
    let same : r.1.program ≡ s.program = (same_edited d a s line).law w.live in
    let left : Held es x = record { triggers = h.triggers; editors = editors_put es d (next_editor r.2 r.1) (next_there es r.2 r.1 (subst (Stands es) (sym same) k)) r.0.board.connections sat } in
    let now : Now (settled x) = held_settled es x (told_along w.live r.0 (edited_proper d a s line w.live).goes) left in
    now_by (settled x) v (none_same (settled x).live.objects v.live.objects (objects_after d s.program r.2 (settled x)))
    (record {
      triggers = subst (λ (q : Queue). Each (FromThere (settled x).live.objects) q.processes) (sym (queue_after d s.program r.2 (settled x))) now.triggers;
      editors = editors_sit (settled x).live.objects (settled x).live.board.connections v.live.board.connections (after_sits d s.program r.2 (settled x)).seats now.editors;
    })

told_held : (d : ℕ) (text : List ℕ) (w : World) → Now w → Now (on_live (tell d text) w)
unfolding tell
told_held d text w h = record { triggers = h.triggers; editors = editors_sit w.live.objects w.live.board.connections (tell d text w.live).board.connections ((sits_tell d text).law w.live).seats h.editors }

editor_held : (d : ℕ) (player : Dbref) (s : EditState) (line : List ℕ) (w : World) → Now w → Now (in_editor d player s line w)
unfolding in_editor
editor_held d player s line w h =
    cond_both (is_editor_open s w.live) (edited_line d player s line w) (on_live (tell d editor_exited) w) Now
    (λ e. edited_held d player s line w (so_there s.program w.live (and_parts _ _ e).0) h) (λ e. told_held d editor_exited w h)

taken_held : (d : ℕ) (player : Dbref) (s : EditState) (line : List ℕ) (w : World) → Now w → Now (in_editor d player s line (on_live (with_editor d None) w))
unfolding edited_one
taken_held d player s line w h =
    editor_held d player s line (on_live (with_editor d None) w)
    (record { triggers = h.triggers; editors = editors_put w.live.objects d None (λ t e. absurd (none-some t e)) w.live.board.connections h.editors })

-- Other lines.

login_held : (d : ℕ) (line : List ℕ) (w : World) → Now w → Now (on_live (at_login d line) w)
login_held d line w h =
    let v : Live = at_login d line w.live in
    now_by w (on_live (at_login d line) w) (none_notes w.live.objects v.objects ((seating_at_login d line).law w.live).objects)
    (record { triggers = h.triggers; editors = editors_sit w.live.objects w.live.board.connections v.board.connections ((sits_login d line).law w.live).seats h.editors })

less_held : (pid : ℤ) (w : World) → Now w → Now (on_queue (without_process pid) w)
unfolding without_process
less_held pid w h = record { triggers = each_without (λ (p : Process). Unit {0}) pid (FromThere w.live.objects) w.queue.processes h.triggers; editors = h.editors }

-- a process goes on with the trigger that it has
own_held : (pid : ℤ) (f : Process → Process) → ((p : Process) → (f p).trigger ≡ p.trigger) → (w : World) → Now w → Now (on_queue (on_process pid f) w)
unfolding on_process
own_held pid f keeps w h = record {
  triggers = each_changed (FromThere w.live.objects) (has_pid pid) f (λ p. trigger_as w.live.objects (λ x. ⊥) p (f p) (inl (keeps p))) w.queue.processes h.triggers;
  editors = h.editors;
}

given_held : (d : ℕ) (pid : ℤ) (line : List ℕ) (w : World) → Now w → Now (given_line d pid line w)
unfolding given_line
given_held d pid line w h =
    cond_both (is_abort line) (on_live (tell d program_aborted) (on_queue (without_process pid) w)) (on_queue (on_process pid (told_line w.moment line)) w) Now
    (λ e. told_held d program_aborted (on_queue (without_process pid) w) (less_held pid w h)) (λ e. own_held pid (told_line w.moment line) (λ p. refl) w h)

for_held : (taker : Option ℤ) (player : Option Dbref) (editor : Option EditState) (d : ℕ) (line : List ℕ) (w : World) → Now w → Now (line_for taker player editor d line w)
for_held (Some pid) player editor d line w h = given_held d pid line w h
for_held None None editor d line w h = login_held d line w h
for_held None (Some player) None d line w h = world_held d player line w h
for_held None (Some player) (Some s) d line w h = taken_held d player s line w h

waiting_held : (d : ℕ) (lines : List (List ℕ)) (w : World) → Now w → Now (on_live (waits d lines) w)
unfolding waits
waiting_held d lines w h = record { triggers = h.triggers; editors = λ n s e. h.editors n s (sym (waits_editor n d lines w.live) ∙ e) }

lines_held : (d : ℕ) (player : Option Dbref) (editor : Option EditState) (lines : List (List ℕ)) (w : World) → Now w → Now (line_done d player editor lines w)
lines_held d player editor [] w h = h
lines_held d player editor (line ∷ lines) w h = for_held (reader d w.queue) player editor d line (on_live (waits d lines) w) (waiting_held d lines w h)

done_held : (d : ℕ) (o : Option Connection) (w : World) → Now w → Now (first_line_done d o w)
unfolding first_line_done
done_held d None w h = h
done_held d (Some c) w h = lines_held d c.player c.editor c.waiting w h

-- Units: what goes is told of behind the unit.

abbrev DeedGoes : List Kept → SharedEffect World → Type 0
DeedGoes es (does t v) = Told es v.live.objects
DeedGoes es (rests t v) = Told es v.live.objects
DeedGoes es (fails f v) = NoneGoes es v.live.objects

mild_goes : (w : World) (d : SharedEffect World) → DeedMild w d → DeedGoes w.live.objects d
mild_goes w (does t v) m = told_same w.live.objects v.live.objects m.1
mild_goes w (rests t v) m = told_same w.live.objects v.live.objects m.1
mild_goes w (fails f v) m = none_same w.live.objects v.live.objects m.1

row_goes : (a : Actor) (s : Source) (w : World) (row : WorldAnswer) → RowOpen a w.live row → DeedGoes w.live.objects (lifted s w row)
row_goes a s w (gives stack live) r = told_along w.live live r.goes
row_goes a s w (refuses f) r = λ d h. h
row_goes a s w (breaks f live) r = none_notes w.live.objects live.objects r.1.objects

deed_goes : (pid : ℤ) (x : Agent) (p : Name) (s : Source) (w : World) → DeedGoes w.live.objects (deed pid x p s w)
unfolding deed row_done
deed_goes pid x p s w =
    let a : Actor = acting x s w.live.objects in
    cond_both (is_process p) (process_done pid x p s w) (row_done x p s w) (DeedGoes w.live.objects)
    (λ e. mild_goes w (process_done pid x p s w) (done_mild pid x p s w))
    (λ e. row_goes (answers_for p a w.live.objects) s w (shared p a x.descr (locked_of s.marks) s.stack w.live) (shared_open p a x.descr (locked_of s.marks) s.stack w.live))

abbrev Behind : List Kept → World → Type 0
Behind es v = NoneGoes es v.live.objects ⊎ ((u : World) × (v ≡ settled u) × Told es u.live.objects)

none_itself : (es : List Kept) → NoneGoes es es
none_itself es d h = h

broken_goes : (pid : ℤ) (player : Dbref) (program : ℤ) (f : MufFault) (w : World) → NoneGoes w.live.objects (broken pid player program f w).live.objects
broken_goes pid player program f w = none_same w.live.objects (tell_player player (program_error program f) w.live).objects ((quiet_tell_player player (program_error program f)).law w.live).objects

went_goes : (pid : ℤ) (player : Dbref) (program : ℤ) (o : UnitOutcome) (w : World) → NoneGoes w.live.objects (world_of (unit_went pid player program o w)).live.objects
went_goes pid player program (goes k t) w = none_itself w.live.objects
went_goes pid player program (faulted f) w = broken_goes pid player program f w
went_goes pid player program _ w = none_itself w.live.objects

after_goes : (pid : ℤ) (player : Dbref) (s : Source) (es : List Kept) (d : SharedEffect World) → DeedGoes es d → Behind es (world_of (after_deed pid player s d))
after_goes pid player s es (does t v) h = inr (process_stands_at pid t v, refl, h)
after_goes pid player s es (rests t v) h = inr (process_stands_at pid t v, refl, h)
after_goes pid player s es (fails f v) h = inl (λ d k. went_goes pid player s.program.number (fault_met f s) v d (h d k))

unit_goes : (pid : ℤ) (x : Agent) (program : ℤ) (o : UnitOutcome) (w : World) → Behind w.live.objects (world_of (unit_done pid x program o w))
unit_goes pid x program (asks p t) w = after_goes pid x.player t w.live.objects (deed pid x p t (out pid w)) (deed_goes pid x p t (out pid w))
unit_goes pid x program o w = inl (went_goes pid x.player program o w)

within_goes : (pid : ℤ) (x : Agent) (s : Source) (o : Option MufFault) (w : World) → Behind w.live.objects (world_of (within_limit o pid x s w))
within_goes pid x s (Some f) w = inl (broken_goes pid x.player s.program.number f w)
within_goes pid x s None w = unit_goes pid x s.program.number (unit s) (one_counted pid w)

turn_goes : (tune : Tune) (pid : ℤ) (x : Agent) (s : Source) (w : World) → Behind w.live.objects (world_of (unit_taken tune pid x s w))
unfolding unit_taken
turn_goes tune pid x s w = within_goes pid x s (limit_fault tune (acting x s w.live.objects).level x) w

behind_held : (es : List Kept) (v : World) → Behind es v → Held es v → Now v
behind_held es v (inl k) h = held_more es v.live.objects v k h
behind_held es v (inr b) h = subst Now (sym b.1) (settled_held es b.0 b.2 (subst (Held es) b.1 h))

turn_held : (tune : Tune) (pid : ℤ) (x : Agent) (s : Source) (w : World) → seat pid w ≡ Some (x, s) → IsTold w.live → Now w → Now (world_of (unit_taken tune pid x s w))
turn_held tune pid x s w e told h =
    let es : List Kept = w.live.objects in
    let v : World = world_of (unit_taken tune pid x s w) in
    let ts : List Taken = unit_of x s w (unit_taken tune pid x s w) ∷ [] in
    let Own : ℤ → Bool = λ n. int_eq n pid in
    let New : Process → Type 0 = StartedIn pid ts w.queue in
    let comes : Comes Own true (LostIn ts) New w.queue v.queue = turn_holds pid ts w.queue tune x s w e (inl refl) told (from_itself Own true (LostIn ts) New w.queue) in
    let new : (p : Process) → New p → FromThere es p = λ p n. elim n.origin [
      | inl so ↦ trigger_as es (LostIn ts) n.parent p so.trigger (each_among (FromThere es) n.parent w.queue.processes n.among h.triggers)
      | inr k ↦ inl k.1
    ] in
    let seated = seat_turn pid ts w.live.board.connections tune x s w (inl refl) told (kept_sits (LostIn ts) none_own w.live.board.connections w.live.board.connections refl) in
    behind_held es v (turn_goes tune pid x s w) (record {
      triggers = triggers_come es Own true (LostIn ts) New w.queue v.queue new h.triggers comes;
      editors = λ d. elim (seated.editors d) [ inl o ↦ absurd (never o) | inr k ↦ editor_as es (LostIn ts) _ _ k (h.editors d) ];
    })
  where
    never : false ≡ true → ⊥
    never e = cc

run_held : (tune : Tune) (pid : ℤ) (n : ℕ) (w : World) → IsTold w.live → Now w → Now (last_world w (units_run tune n pid w))
run_held tune pid n w =
    run_holds tune pid (λ v us. IsTold v.live → Now v → Now (last_world v us)) (λ v t h. h) (λ v x s us e rest t h. rest (told_turn tune pid x s v t) (turn_held tune pid x s v e t h)) n w

awake_held : (pid : ℤ) (w : World) → Now w → Now (process_awake pid w)
unfolding on_process
awake_held pid w h = record {
  triggers = each_changed (FromThere w.live.objects) (has_pid pid) (woken w.moment) (λ p. trigger_as w.live.objects (λ x. ⊥) p (woken w.moment p) (goes_woken (λ x. ⊥) w.moment p).origin.trigger) w.queue.processes h.triggers;
  editors = h.editors;
}

sliced_held : (pid : ℤ) (w : World) → IsTold w.live → Now w → Now (sliced pid w)
unfolding sliced
sliced_held pid w told h = run_held w.live.board.tune pid (slice_most w.live.board.tune) (process_awake pid w) told (awake_held pid w h)

-- Any entry.

-- where no editor opens
closes : (es : List Kept) (b : Bool) (o q : Option EditState) → q ≡ cond b None o → ((s : EditState) → o ≡ Some s → Stands es s.program) → (s : EditState) → q ≡ Some s → Stands es s.program
closes es true o q e h s at = absurd (none-some s (sym e ∙ at))
closes es false o q e h s at = h s (sym e ∙ at)

dumped : (w v : World) (f : Saving → Saving) → v.live.objects ≡ (resaved f w.live).objects → Held w.live.objects v → Now v
dumped w v f e k = now_by w v (λ d at. none_same (resaved f w.live).objects v.live.objects e d (none_resaved f w.live.objects d at)) k

happened_held : (event : Event) (w : World) (party : ℕ) → IsTold w.live → Seated event w (happened w party event) → Now w → Now (happened w party event)
unfolding connection_opened line_added bytes_taken claimed released ended_tied
happened_held (Exec d) w party told s h = done_held d (connection d w) w h
happened_held (Slice pid) w party told s h = let k = sliced_held pid w told h in record { triggers = k.triggers; editors = k.editors }
happened_held (Opened n) w party told s h = record { triggers = h.triggers; editors = λ d. closes w.live.objects (n == d) _ _ (s.editors d) (h.editors d) }
happened_held (Closed n) w party told s h =
    now_by w (happened w party (Closed n)) (none_same w.live.objects (gone_away n w.live).objects (gone_away_untouched n w.live).objects)
    (record { triggers = each_filter (FromThere w.live.objects) (λ p. not (is_tied_to n p)) w.queue.processes h.triggers; editors = λ d. closes w.live.objects (n == d) _ _ (s.editors d) (h.editors d) })
happened_held (Cut k) w party told s h = now_by w (happened w party (Cut k)) (none_resaved pending w.live.objects) (record { triggers = h.triggers; editors = h.editors })
happened_held (Stored k) w party told s h =
    dumped w (happened w party (Stored k)) saved ((quiet_told_each (askers_of w.dumps) (dump_stored k)).law (resaved saved w.live)).objects (record { triggers = h.triggers; editors = λ d t e. h.editors d t (sym (s.editors d) ∙ e) })
happened_held (DumpFailed k) w party told s h =
    dumped w (happened w party (DumpFailed k)) due_again ((quiet_told_each (askers_of w.dumps) dump_failed).law (resaved due_again w.live)).objects (record { triggers = h.triggers; editors = λ d t e. h.editors d t (sym (s.editors d) ∙ e) })
happened_held event w party told s h = record { triggers = h.triggers; editors = λ d t e. h.editors d t (sym (s.editors d) ∙ e) }

-- what is there starts a program behind it
hooked_held : (c : Started) (w : World) → Stands w.live.objects c.trigger → Now w → Now (program_begun (by_hook w) c w).0
hooked_held c w k h =
    let v = (program_begun (by_hook w) c w).0 in
    let same = live_begun (by_hook w) c w in
    now_by w v (none_same w.live.objects v.live.objects (ap (λ (l : Live). l.objects) same))
    (record { triggers = begun_triggers w.live.objects (by_hook w) c w k h.triggers; editors = λ d s e. h.editors d s (ap (λ (l : Live). editor_in d l.board.connections) (sym same) ∙ e) })

-- another event begins behind it
rested_held : (w : World) → Now w → Now (rested w)
rested_held w h = now_by w (rested w) (none_stilled w.live.objects) (record { triggers = h.triggers; editors = h.editors })

effect_held : (w : World) (e : Entry) → IsTold w.live → Seated e.event w (happened w e.party e.event) → Now w → Now (effect w e)
effect_held w e told s h = effect-keeps Now hooked_held rested_held w e (happened_held e.event w e.party told s h)

-- Programs: what was built has a source, so that it is there.

no_tree : (es : List Kept) (d : Dbref) (tree : Tree) → built_tree es d ≡ Ok tree → source_in es d ≡ [] → ⊥
unfolding built_tree words words_from piece_ahead tree_of
no_tree es d tree e none = let k : tree_of_words (words (lent_in es) []) ≡ Ok tree = ap (λ lines. tree_of_words (words (lent_in es) lines)) (sym none) ∙ e in cc

source_there : (es : List Kept) (d : Dbref) → (source_in es d ≡ [] → ⊥) → Stands es d
unfolding source_in
source_there es d = at (object_at d es)
  where
    at : (o : Option Object) → (option_map_or (λ (o : Object). o.lines) o [] ≡ [] → ⊥) → is_some o ≡ true
    at None k = absurd (k refl)
    at (Some o) k = refl

module _ (Stood : List Kept → Type 0) (w : World) where
  abbrev Sound : Program → Type 0
  Sound q = IsThere w (object_numbered q.number)

  program_there : (q : Program) → OfSource (BuiltOf Stood) w.live.objects q → Sound q
  program_there q b = source_there w.live.objects (object_numbered q.number) (λ e. no_tree b.0 (object_numbered q.number) q.tree b.3 (b.2 ∙ e))

  running_there : (o : Option Source) → Standing (OfSource (BuiltOf Stood) w.live.objects) o → Standing Sound o
  running_there None h = tt
  running_there (Some s) h = each_more (OfSource (BuiltOf Stood) w.live.objects) Sound program_there (programs_of s) h

  programs_there : Sourced (BuiltOf Stood) w → Each (λ p. Standing Sound p.running) w.queue.processes
  programs_there h = each_more (λ p. Standing (OfSource (BuiltOf Stood) w.live.objects) p.running) (λ p. Standing Sound p.running) (λ p k. running_there p.running k) w.queue.processes h.processes

-- with the lowest of them the one for which a process was started
one_starts : (w : World) (p : Process) (o : Option Source) → option_and_then (λ s. lowest_program (programs_of s)) o ≡ Some p.program → Standing (λ q. IsThere w (object_numbered q.number)) o → IsThere w p.program
one_starts w p None e h = absurd (none-some p.program e)
one_starts w p (Some s) e h = lowest_each (IsThere w) (programs_of s) p.program h e

starts_there : (w : World) (ps : List Process) → Each RunsOwn ps → Each (λ p. Standing (λ q. IsThere w (object_numbered q.number)) p.running) ps → Each (λ p. IsThere w p.program) ps
starts_there w [] own h = tt
starts_there w (p ∷ ps) own h = (one_starts w p p.running own.0 h.0, starts_there w ps own.1 h.1)

-- Histories.

stays_there : (Stood : List Kept → Type 0) (w : World) (entries : List Entry) → IsTold w.live → Now w → SourcedSince Stood w entries → AllSeated w entries → AllOrigins w entries → StaysThere w entries
stays_there Stood w [] told h sourced seated origins = tt
stays_there Stood w (entry ∷ entries) told h sourced seated origins =
    let v : World = effect w entry in
    let now : Now v = effect_held w entry told seated.0 h in
    let programs = programs_there (Until Stood w entry) v sourced.1 in (
      record { starts = starts_there v v.queue.processes origins.0.runs programs; triggers = now.triggers; programs = programs; editors = now.editors },
      stays_there (Until Stood w entry) v entries (told_effect w entry told) now sourced.2 seated.1 origins.1,
    )

pub stays_there_booted : (objects : List Kept) (tune : Tune) (moment start : ℕ) → ((n : ℕ) → mark_in objects n ≡ None) → (entries : List Entry) → AllLawful (world_booted objects tune moment start) entries → StaysThere (world_booted objects tune moment start) entries
unfolding world_booted empty_queue early_board
stays_there_booted objects tune moment start none entries lawful =
    stays_there (λ es. ⊥) (world_booted objects tune moment start) entries none (record { triggers = tt; editors = λ d s e. absurd (none-some s e) })
    (all_sourced_booted objects tune moment start entries) (all_seated_booted objects tune moment start none entries lawful) (all_origins_booted objects tune moment start none entries)
