-- The numbers of the processes rise in each world that a history leads to.
use Rattle.std.proofs.Common.{ℕ, ℤ, pos, not, List, [], ◌∷◌, Option, Some, None, Result, Ok, Err, refl, arith}
use Rattle.std.proofs.lemmas.Bool.{cond_both}
use Rattle.std.proofs.lemmas.Int.{ints}
use Rattle.muck_model.specs.declared.dbref.Denial.{Denial}
use Rattle.muck_model.specs.declared.dbref.Dbref.{Dbref}
use Rattle.muck_model.specs.declared.tune.Tune.{Tune}
use Rattle.muck_model.specs.declared.edit.EditState.{EditState}
use Rattle.muck_model.specs.declared.event.Entry.{Entry as Happened}
use Rattle.muck_model.specs.declared.event.Event.{Event}
use Rattle.muck_model.specs.declared.event.Event.TheVariants.{Closed, Exec, Claim, Slice, Lost}
use Rattle.spec_live.specs.Connections.{Connection}
use Rattle.spec_live.specs.Objects.{Entry}
use Rattle.spec_rights.specs.declared.act.Actor.{Actor}
use Rattle.spec_rights.specs.declared.act.Act.TheVariants.{Start}
use Rattle.spec_rights.specs.Verdict.{verdict}
use Rattle.muf_model.specs.declared.fault.MufFault.{MufFault}
use Rattle.muf_model.specs.Tree.{Tree}
use Rattle.muck_library.specs.declared.flaw.Flaw.{Flaw}
use Rattle.muck_library.specs.Programs.{built_tree}
use Rattle.muck_queue.specs.Queues.{Queue, empty_queue, is_tied_to, claimed, released, ended_tied, told_line, woken, reader}
use Rattle.muck_queue.specs.inner.Numbered.{IsNumbered}
use Rattle.muck_queue.proofs.Numbered.{rises_kept}
use Rattle.muck_queue.proofs.Woken.{woken_number}
use Rattle.spec_commands.specs.declared.outcome.Outcome.{Outcome}
use Rattle.spec_commands.specs.declared.outcome.Outcome.TheVariants.{Start as StartOutcome, Edit, Leave, Dump, Stop, Retune}
use Rattle.spec_commands.specs.declared.edit.EditStep.{EditStep}
use Rattle.spec_commands.specs.declared.edit.EditStep.TheVariants.{Compile}
use Rattle.spec_commands.specs.Editing.{is_editor_open, edited_by_line}
use Rattle.spec_commands.specs.Finding.{actor_of}
use Rattle.spec_commands.specs.Talk.{waits}
use Rattle.spec_events.specs.declared.starting.Call.{Call}
use Rattle.spec_events.specs.declared.starting.Manner.{Manner}
use Rattle.spec_events.specs.World.{World, starting_world, world_booted, on_live}
use Rattle.spec_events.specs.Starting.{by_command, by_hook, new_process, program_begun, start_told, start_judged, launched}
use Rattle.spec_events.specs.Lines.{with_editor, compiled_so, compiled, next_editor, after_edit, edited_line, in_editor, typed, processes_after_line, followed_up, in_world, command, given_line, is_abort, line_for, line_done, first_line_done}
use Rattle.spec_events.specs.Slices.{process_awake, slice_most, sliced}
use Rattle.spec_events.specs.Steps.{effect, happened}
use Rattle.spec_events.proofs.Modes.{numbered_changed, numbered_without, numbered_added, settled_numbered}
use Rattle.spec_events.proofs.Sections.{run_numbered}
use Rattle.spec_events.proofs.Begun.{begun_keeps}
use Rattle.spec_events.proofs.Happening.{effect-keeps}
use Rattle.spec_events.proofs.Killed.{numbered_left}

-- the numbers of its processes rise
abbrev pub Rising : World → Type 0
Rising w = IsNumbered w.queue

-- Programs that are started.

begun_rising : (m : Manner) (c : Call) (w : World) → Rising w → Rising (program_begun m c w).0
begun_rising m c w h = begun_keeps Rising m c (λ s u k. numbered_added (new_process m c s) u.queue k) w h

told_rising : (d : ℕ) (w : World) (r : Result ℤ MufFault) → Rising w → Rising (start_told d (w, r))
told_rising d w (Ok pid) h = h
told_rising d w (Err f) h = h

judged_rising : (d : ℕ) (c : Call) (o : Option Denial) (w : World) → Rising w → Rising (start_judged d c o w)
judged_rising d c (Some denial) w h = h
judged_rising d c None w h = let r = program_begun (by_command d c.program w) c w in told_rising d r.0 r.1 (begun_rising (by_command d c.program w) c w h)

launched_rising : (d : ℕ) (a : Actor) (c : Call) (w : World) → Rising w → Rising (launched d a c w)
unfolding launched
launched_rising d a c w h = judged_rising d c (verdict w.live.objects a (Start c.program)) w h

-- Lines.

built_rising : (d : ℕ) (program : Dbref) (r : Result Tree Flaw) (w : World) → Rising w → Rising (compiled_so d program r w)
built_rising d program (Ok tree) w h = h
built_rising d program (Err flaw) w h = h

edit_rising : (d : ℕ) (program : Dbref) (step : EditStep) (w : World) → Rising w → Rising (after_edit d program step w)
unfolding compiled
edit_rising d program Compile w h = built_rising d program (built_tree w.live.objects program) w h
edit_rising d program step w h = h

editor_rising : (d : ℕ) (player : Dbref) (s : EditState) (line : List ℕ) (w : World) → Rising w → Rising (in_editor d player s line w)
unfolding in_editor edited_line
editor_rising d player s line w h =
    cond_both (is_editor_open s w.live) _ _ Rising
    (λ e. let r = edited_by_line d (actor_of w.live.objects player) s line w.live in edit_rising d s.program r.2 _ (settled_numbered (record w { live = with_editor d (next_editor r.2 r.1) r.0 }) h))
    (λ e. h)

follows_rising : (d : ℕ) (player : Dbref) (o : Outcome) (w : World) → Rising w → Rising (followed_up d player o w)
follows_rising d player Leave w h = h
follows_rising d player (Edit program) w h = h
follows_rising d player (StartOutcome program trigger command arg) w h = launched_rising d _ _ w h
follows_rising d player Dump w h = h
follows_rising d player Stop w h = h
follows_rising d player (Retune tune) w h = h
follows_rising d player o w h = h

world_rising : (d : ℕ) (player : Dbref) (line : List ℕ) (w : World) → Rising w → Rising (in_world d player line w)
unfolding in_world
world_rising d player line w h =
    let a : Actor = actor_of w.live.objects player in
    let r = typed w.queue d a line w.live in
    follows_rising d player r.1 _ (settled_numbered (record w { live = r.0; queue = processes_after_line d a line w.live w.queue }) (numbered_left d a line w.live w.queue h))

command_rising : (player : Option Dbref) (editor : Option EditState) (d : ℕ) (line : List ℕ) (w : World) → Rising w → Rising (command player editor d line w)
command_rising None editor d line w h = h
command_rising (Some player) None d line w h = world_rising d player line w h
command_rising (Some player) (Some s) d line w h = editor_rising d player s line (on_live (with_editor d None) w) h

given_rising : (d : ℕ) (pid : ℤ) (line : List ℕ) (w : World) → Rising w → Rising (given_line d pid line w)
unfolding given_line
given_rising d pid line w h =
    cond_both (is_abort line) _ _ Rising (λ e. numbered_without pid w.queue h) (λ e. numbered_changed pid (told_line w.moment line) (λ p. refl) w.queue h)

for_rising : (o : Option ℤ) (player : Option Dbref) (editor : Option EditState) (d : ℕ) (line : List ℕ) (w : World) → Rising w → Rising (line_for o player editor d line w)
for_rising (Some pid) player editor d line w h = given_rising d pid line w h
for_rising None player editor d line w h = command_rising player editor d line w h

lines_rising : (d : ℕ) (player : Option Dbref) (editor : Option EditState) (lines : List (List ℕ)) (w : World) → Rising w → Rising (line_done d player editor lines w)
lines_rising d player editor [] w h = h
lines_rising d player editor (line ∷ lines) w h = for_rising (reader d w.queue) player editor d line (on_live (waits d lines) w) h

done_rising : (d : ℕ) (o : Option Connection) (w : World) → Rising w → Rising (first_line_done d o w)
unfolding first_line_done
done_rising d None w h = h
done_rising d (Some c) w h = lines_rising d c.player c.editor c.waiting w h

-- Events.

sliced_rising : (pid : ℤ) (w : World) → Rising w → Rising (sliced pid w)
unfolding sliced
sliced_rising pid w h =
    run_numbered w.live.board.tune pid (slice_most w.live.board.tune) (process_awake pid w) (numbered_changed pid (woken w.moment) (woken_number w.moment) w.queue h)

released_numbered : (pid : ℤ) (q : Queue) → IsNumbered q → IsNumbered (released pid q)
unfolding IsNumbered released
released_numbered pid q h = h

claimed_numbered : (pid : ℤ) (party : ℕ) (q : Queue) → IsNumbered q → IsNumbered (claimed pid party q)
unfolding IsNumbered claimed
claimed_numbered pid party q h = h

tied_numbered : (d : ℕ) (q : Queue) → IsNumbered q → IsNumbered (ended_tied d q)
unfolding IsNumbered ended_tied
tied_numbered d q h = rises_kept (λ p. not (is_tied_to d p)) (pos 0) q.last q.processes h

-- each event leaves them so
pub rising_happened : (event : Event) (w : World) (party : ℕ) → Rising w → Rising (happened w party event)
rising_happened (Closed d) w party h = tied_numbered d w.queue h
rising_happened (Exec d) w party h = done_rising d _ w h
rising_happened (Claim pid) w party h = claimed_numbered pid party w.queue h
rising_happened (Slice pid) w party h = released_numbered pid (sliced pid w).queue (sliced_rising pid w h)
rising_happened (Lost pid) w party h = released_numbered pid w.queue h
rising_happened event w party h = h

pub numbered_effect : (w : World) (e : Happened) → Rising w → Rising (effect w e)
numbered_effect w e h = effect-keeps Rising (λ c u there k. begun_rising (by_hook u) c u k) (λ u k. k) w e (rising_happened e.event w e.party h)

-- and those of a world that is booted, in which nothing runs, too
pub rising_booted : (objects : List Entry) (tune : Tune) (moment start : ℕ) → Rising (world_booted objects tune moment start)
unfolding world_booted IsNumbered empty_queue
rising_booted objects tune moment start = omega (arith, ints)

-- as the first
pub rising_starting : Rising starting_world
unfolding starting_world world_booted IsNumbered empty_queue
rising_starting = omega (arith, ints)
