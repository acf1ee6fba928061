-- A program that a line starts may be started.
use Rattle.std.proofs.Common.{◌≡◌, ℕ, suc, ℤ, pos, Bool, true, false, cond, List, [], ◌∷◌, refl, ◌∙◌, Option, Some, None, inl, inr}
use Rattle.std.specs.Prelude.{◌+ℤ◌, Result, Ok, Err}
use Rattle.std.specs.Option.{option_map_or}
use Rattle.muck_model.specs.declared.dbref.Dbref.{Dbref}
use Rattle.muck_model.specs.declared.dbref.Denial.{Denial}
use Rattle.muck_model.specs.declared.edit.EditState.{EditState}
use Rattle.spec_live.specs.declared.mark.Mark.{Mark}
use Rattle.spec_live.specs.declared.mark.Mark.TheVariants.{Lines, Gone}
use Rattle.spec_live.specs.Objects.{Entry, dbref_of}
use Rattle.spec_live.specs.Connections.{Connection}
use Rattle.spec_live.specs.Lives.{Live, tell}
use Rattle.spec_rights.specs.declared.act.Actor.{Actor}
use Rattle.spec_rights.specs.declared.act.Act.TheVariants.{Start}
use Rattle.spec_rights.specs.Verdict.{verdict}
use Rattle.spec_commands.specs.declared.outcome.Outcome.{Outcome}
use Rattle.spec_commands.specs.declared.outcome.Outcome.TheVariants.{NotMine, Start as StartOutcome}
use Rattle.spec_commands.specs.declared.edit.EditStep.{EditStep}
use Rattle.spec_commands.specs.declared.edit.EditStep.TheVariants.{Compile}
use Rattle.spec_commands.specs.Finding.{actor_of}
use Rattle.spec_commands.specs.Commands.{played}
use Rattle.spec_commands.specs.Editing.{edited_by_line, editor_exited, is_editor_open}
use Rattle.spec_commands.specs.Talk.{waits}
use Rattle.spec_admin.specs.Lines.{after_line, line_ends}
use Rattle.muf_model.specs.declared.fault.MufFault.{MufFault}
use Rattle.muf_model.specs.declared.fault.MufFault.TheVariants.{ProcessLimit}
use Rattle.muf_model.specs.Source.{last_word}
use Rattle.muf_model.specs.Tree.{Definition, Tree}
use Rattle.muck_library.specs.declared.flaw.Flaw.{Flaw}
use Rattle.muck_library.specs.Library.{Library, formed}
use Rattle.muck_library.specs.Programs.{built_tree}
use Rattle.muck_queue.specs.declared.process.Process.{Process}
use Rattle.muck_queue.specs.Queues as queues
use Rattle.muck_queue.specs.Queues.{Queue, process, without_process, on_process, told_line, process_added, is_queue_full, ended_running, trigger_cleared, reader}
use Rattle.spec_events.specs.declared.starting.Call.{Call}
use Rattle.spec_events.specs.declared.starting.Manner.{Manner}
use Rattle.spec_events.specs.World.{World, on_live, on_queue, with_library}
use Rattle.spec_events.specs.Following.{unbuilt, mark_followed, swept, settled}
use Rattle.spec_events.specs.Starting.{by_command, program_beginning, new_process, process_joined, word_started, form_started, built_started, program_begun, start_told, start_judged, launched}
use Rattle.spec_events.specs.Lines.{with_editor, compiled_so, compiled, next_editor, after_edit, edited_line, in_editor, typed, ended_behind, processes_after_line, followed_up, in_world, command, is_abort, program_aborted, given_line, line_for, line_done, first_line_done}
use Rattle.spec_denials.specs.Starts.{LineStarts}

-- the program of a process may be started by its player
abbrev MayStart : World → Dbref → Dbref → Type 0
MayStart w player program = verdict w.live.objects (actor_of w.live.objects player) (Start program) ≡ None

abbrev BegunSo : World → World × Result ℤ MufFault → Type 0
BegunSo w (v, Ok n) = LineStarts w v
BegunSo w (v, Err f) = v.queue.last ≡ w.queue.last

joined_starts : (p : Process) (w : World) → MayStart w p.player p.program → BegunSo w (process_joined p w)
unfolding process_added
joined_starts p w h = either (is_queue_full p.player w.live.board.tune w.queue)
  where
    either : (b : Bool) → BegunSo w (cond b (w, Err ProcessLimit) (on_queue (process_added p) w, Ok (w.queue.last +ℤ pos 1)))
    either true = refl
    either false = inr (w.queue.processes, queues.process_numbered (w.queue.last +ℤ pos 1) p, refl, h)

word_starts : (m : Manner) (c : Call) (tree : Tree) (o : Option Definition) (w : World) → MayStart w c.player c.program → BegunSo w (word_started m c tree o w)
unfolding new_process
word_starts m c tree None w h = refl
word_starts m c tree (Some first) w h = joined_starts (new_process m c (program_beginning c tree first w)) w h

form_starts : (m : Manner) (c : Call) (o : Option Tree) (w : World) → MayStart w c.player c.program → BegunSo w (form_started m c o w)
form_starts m c None w h = refl
form_starts m c (Some tree) w h = word_starts m c tree (last_word tree.words) w h

built_starts : (m : Manner) (c : Call) (made : Option Tree × Library) (w : World) → MayStart w c.player c.program → BegunSo w (built_started m c made w)
built_starts m c (form, library) w h = as_before (form_started m c form (with_library library w)) (form_starts m c form (with_library library w) h)
  where
    as_before : (r : World × Result ℤ MufFault) → BegunSo (with_library library w) r → BegunSo w r
    as_before (v, Ok n) k = k
    as_before (v, Err f) k = k

begun_starts : (m : Manner) (c : Call) (w : World) → MayStart w c.player c.program → BegunSo w (program_begun m c w)
unfolding program_begun
begun_starts m c w h = built_starts m c (formed w.live.objects c.program w.library) w h

told_starts : (d : ℕ) (w : World) (r : World × Result ℤ MufFault) → BegunSo w r → LineStarts w (start_told d r)
told_starts d w (v, Ok n) h = h
told_starts d w (v, Err f) h = inl h

launched_starts : (d : ℕ) (c : Call) (w : World) → LineStarts w (launched d (actor_of w.live.objects c.player) c w)
unfolding launched
launched_starts d c w = at (verdict w.live.objects (actor_of w.live.objects c.player) (Start c.program)) refl
  where
    at : (o : Option Denial) → verdict w.live.objects (actor_of w.live.objects c.player) (Start c.program) ≡ o → LineStarts w (start_judged d c o w)
    at (Some denial) e = inl refl
    at None e = told_starts d w (program_begun (by_command d c.program w) c w) (begun_starts (by_command d c.program w) c w e)

-- Nothing else of a line starts any.

last_unbuilt : (d : Dbref) (w : World) → (unbuilt d w).queue.last ≡ w.queue.last
unfolding ended_running
last_unbuilt d w = refl

last_followed : (m : Mark) (d : Dbref) (w : World) → (mark_followed m d w).queue.last ≡ w.queue.last
unfolding trigger_cleared
last_followed Lines d w = last_unbuilt d w
last_followed Gone d w = last_unbuilt d w

last_marked : (o : Option Mark) (d : Dbref) (w : World) → (option_map_or (λ mark. mark_followed mark d w) o w).queue.last ≡ w.queue.last
last_marked None d w = refl
last_marked (Some m) d w = last_followed m d w

last_swept : (n : ℕ) (es : List Entry) (w : World) → (swept n es w).queue.last ≡ w.queue.last
unfolding swept
last_swept n [] w = refl
last_swept n (e ∷ es) w = last_swept (suc n) es (option_map_or (λ mark. mark_followed mark (dbref_of n) w) e.mark w) ∙ last_marked e.mark (dbref_of n) w

pub last_settled : (w : World) → (settled w).queue.last ≡ w.queue.last
unfolding settled
last_settled w = last_swept 0 w.live.objects w

last_without : (o : Option Process) (q : Queue) → (option_map_or (λ p. without_process p.number q) o q).last ≡ q.last
unfolding without_process
last_without None q = refl
last_without (Some p) q = refl

last_behind : (a : Actor) (line : List ℕ) (q : Queue) (v : Live) (outcome : Outcome) → (ended_behind a line q (v, outcome)).last ≡ q.last
unfolding after_line
last_behind a line q v NotMine = last_without (line_ends a q line v) q
last_behind a line q v _ = refl

last_left : (d : ℕ) (a : Actor) (line : List ℕ) (w : Live) (q : Queue) → (processes_after_line d a line w q).last ≡ q.last
unfolding processes_after_line
last_left d a line w q = last_behind a line q (played d a line w).0 (played d a line w).1

last_compiled : (d : ℕ) (program : Dbref) (r : Result Tree Flaw) (w : World) → (compiled_so d program r w).queue.last ≡ w.queue.last
last_compiled d program (Ok tree) w = refl
last_compiled d program (Err flaw) w = refl

last_edit : (d : ℕ) (program : Dbref) (step : EditStep) (w : World) → (after_edit d program step w).queue.last ≡ w.queue.last
unfolding compiled
last_edit d program Compile w = last_compiled d program (built_tree w.live.objects program) w
last_edit d program _ w = refl

last_edited : (d : ℕ) (player : Dbref) (s : EditState) (line : List ℕ) (w : World) → (edited_line d player s line w).queue.last ≡ w.queue.last
unfolding edited_line
last_edited d player s line w =
    let r = edited_by_line d (actor_of w.live.objects player) s line w.live in
    let u : World = record w { live = with_editor d (next_editor r.2 r.1) r.0 } in
    last_edit d s.program r.2 (settled u) ∙ last_settled u

last_editor : (d : ℕ) (player : Dbref) (s : EditState) (line : List ℕ) (w : World) → (in_editor d player s line w).queue.last ≡ w.queue.last
unfolding in_editor
last_editor d player s line w = either (is_editor_open s w.live)
  where
    either : (b : Bool) → (cond b (edited_line d player s line w) (on_live (tell d editor_exited) w)).queue.last ≡ w.queue.last
    either true = last_edited d player s line w
    either false = refl

last_given : (d : ℕ) (pid : ℤ) (line : List ℕ) (w : World) → (given_line d pid line w).queue.last ≡ w.queue.last
unfolding given_line without_process on_process
last_given d pid line w = either (is_abort line)
  where
    either : (b : Bool) → (cond b (on_live (tell d program_aborted) (on_queue (without_process pid) w)) (on_queue (on_process pid (told_line w.moment line)) w)).queue.last ≡ w.queue.last
    either true = refl
    either false = refl

starts_from : (u w v : World) → u.queue.last ≡ w.queue.last → LineStarts u v → LineStarts w v
starts_from u w v e (inl h) = inl (h ∙ e)
starts_from u w v e (inr k) = inr k

up_starts : (d : ℕ) (player : Dbref) (outcome : Outcome) (w : World) → LineStarts w (followed_up d player outcome w)
up_starts d player (StartOutcome program trigger line arg) w = launched_starts d (record { player = player; program = program; trigger = trigger; command = line; argument = arg }) w
up_starts d player _ w = inl refl

world_starts : (d : ℕ) (player : Dbref) (line : List ℕ) (w : World) → LineStarts w (in_world d player line w)
unfolding in_world
world_starts d player line w =
    let a : Actor = actor_of w.live.objects player in
    let r = typed w.queue d a line w.live in
    let u : World = record w { live = r.0; queue = processes_after_line d a line w.live w.queue } in
    starts_from (settled u) w (followed_up d player r.1 (settled u)) (last_settled u ∙ last_left d a line w.live w.queue) (up_starts d player r.1 (settled u))

command_starts : (player : Option Dbref) (editor : Option EditState) (d : ℕ) (line : List ℕ) (w : World) → LineStarts w (command player editor d line w)
command_starts None editor d line w = inl refl
command_starts (Some player) None d line w = world_starts d player line w
command_starts (Some player) (Some s) d line w = inl (last_editor d player s line (on_live (with_editor d None) w))

for_starts : (pid : Option ℤ) (player : Option Dbref) (editor : Option EditState) (d : ℕ) (line : List ℕ) (w : World) → LineStarts w (line_for pid player editor d line w)
for_starts (Some pid) player editor d line w = inl (last_given d pid line w)
for_starts None player editor d line w = command_starts player editor d line w

done_starts : (d : ℕ) (player : Option Dbref) (editor : Option EditState) (lines : List (List ℕ)) (w : World) → LineStarts w (line_done d player editor lines w)
done_starts d player editor [] w = inl refl
done_starts d player editor (line ∷ lines) w = for_starts (reader d w.queue) player editor d line (on_live (waits d lines) w)

-- a line of any connection
pub line_starts : (d : ℕ) (o : Option Connection) (w : World) → LineStarts w (first_line_done d o w)
unfolding first_line_done
line_starts d None w = inl refl
line_starts d (Some c) w = done_starts d c.player c.editor c.waiting w
