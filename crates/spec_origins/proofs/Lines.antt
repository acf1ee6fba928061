-- Where the processes behind a line come from.
use Rattle.std.proofs.Common.{◌≡◌, ℕ, ℤ, ◌<ℤ◌, Bool, true, false, List, [], ◌∷◌, refl, sym, ◌∙◌, subst, Option, Some, None, inl, inr}
use Rattle.std.specs.Prelude.{Result, Ok, Err}
use Rattle.std.specs.Option.{option_map_or}
use Rattle.std.specs.Ordering.{int_eq}
use Rattle.std.proofs.lemmas.Bool.{cond_both}
use Rattle.std.proofs.lemmas.Bool.Decides.{Decides-int_eq}
use Rattle.std.proofs.lemmas.Option.{none-some}
use Rattle.muck_model.specs.declared.dbref.Dbref.{Dbref}
use Rattle.muck_model.specs.declared.dbref.Denial.{Denial}
use Rattle.muck_model.specs.declared.edit.EditState.{EditState}
use Rattle.muck_match.specs.declared.exits.ExitHit.{ExitHit}
use Rattle.muck_match.specs.Exits.{exit_for}
use Rattle.spec_live.specs.Seen.{scenery_of}
use Rattle.spec_live.specs.Objects.{Entry, dbref_of}
use Rattle.spec_live.specs.Connections.{Connection}
use Rattle.spec_live.specs.Lives.{Live, leave, tell}
use Rattle.spec_rights.specs.declared.act.Actor.{Actor}
use Rattle.spec_rights.specs.declared.act.Act.TheVariants.{Start}
use Rattle.spec_rights.specs.Changing.{tuned}
use Rattle.spec_rights.specs.Verdict.{verdict}
use Rattle.spec_rights.proofs.Licences.{judge, SameMarks}
use Rattle.muf_model.specs.declared.fault.MufFault.{MufFault}
use Rattle.muf_model.specs.Source.{Source}
use Rattle.muf_model.specs.Tree.{Tree}
use Rattle.muck_library.specs.declared.flaw.Flaw.{Flaw}
use Rattle.muck_library.specs.Programs.{built_tree}
use Rattle.muck_queue.specs.declared.process.Process.{Process}
use Rattle.muck_queue.specs.Queues as queues
use Rattle.muck_queue.specs.Queues.{Queue, on_process, without_process, told_line, reader}
use Rattle.spec_commands.specs.declared.outcome.Outcome.{Outcome}
use Rattle.spec_commands.specs.declared.outcome.Outcome.TheVariants.{Done, Said, NotMine, Start as StartOutcome, Edit, Leave, Dump, Stop, Retune}
use Rattle.spec_commands.specs.declared.edit.EditStep.{EditStep}
use Rattle.spec_commands.specs.declared.edit.EditStep.TheVariants.{Stay, Compile, Left}
use Rattle.spec_commands.specs.Commands.{begins_with_sign, played}
use Rattle.spec_commands.specs.Editing.{editor_exited, is_editor_open, edited_by_line}
use Rattle.spec_commands.specs.Finding.{actor_of}
use Rattle.spec_commands.specs.Free.{free_play, free_through, free_line}
use Rattle.spec_commands.specs.Talk.{at_login, waits}
use Rattle.spec_commands.proofs.Sources.{edited_rewrites}
use Rattle.spec_admin.specs.Lines.{line_ends, after_line}
use Rattle.spec_events.specs.declared.starting.Call.{Call as Started}
use Rattle.spec_events.specs.World.{World, on_live, on_queue}
use Rattle.spec_events.specs.Following.{settled}
use Rattle.spec_events.specs.Starting.{new_process, by_command, program_begun, start_told, start_judged, launched}
use Rattle.spec_events.specs.Lines.{with_editor, compiled_so, compiled, next_editor, after_edit, edited_line, in_editor, typed, ended_behind, processes_after_line, followed_up, in_world, program_aborted, is_abort, given_line, line_for, line_done, first_line_done}
use Rattle.spec_events.specs.Endings.{Lapsed}
use Rattle.spec_events.proofs.Endings.{IsTold}
use Rattle.spec_events.proofs.Quietly.{quietly_launched, quietly_compiled}
use Rattle.spec_events.proofs.Typed.{typed_open}
use Rattle.spec_origins.specs.Origins.{GoesOn, Comes, no_own_process, StartedBy, LineOrigins, TurnOrigins}
use Rattle.spec_origins.proofs.Going.{from_itself, since_own, holds_changed, holds_without, holds_begun, holds_settled, comes_more}
use Rattle.spec_origins.proofs.Lapsing.{IsLapsing, marks_lapse, lapse_settled}

-- nothing is new
abbrev NoneNew : Process → Type 0
NoneNew q = ⊥

none_stable : (Lost : Dbref → Type 0) (q r : Process) → NoneNew q → GoesOn Lost q r → NoneNew r
none_stable Lost q r n g = n

none_new : (New : Process → Type 0) (q : Process) → NoneNew q → New q
none_new New q n = absurd n

-- A program that is started.

module _ (Lost : Dbref → Type 0) (start : Queue) (d : ℕ) (player : Dbref) (w : World) where
  abbrev ByLine : Process → Type 0
  ByLine q = StartedBy d player start.last w q

  abbrev Holds : Queue → Type 0
  Holds r = Comes no_own_process false Lost ByLine start r

  command_begins : (c : Started) → c.player ≡ player → verdict w.live.objects (actor_of w.live.objects player) (Start c.program) ≡ None → (s : Source) (n : ℤ) → start.last <ℤ n →
      ByLine (queues.process_numbered n (new_process (by_command d c.program w) c s))
  unfolding new_process
  command_begins c e k s n l = record { number = l; player = e; tied = refl; leave = k }

  told_holds : (r : World × Result ℤ MufFault) → Holds r.0.queue → Holds (start_told d r).queue
  told_holds (v, Ok pid) h = h
  told_holds (v, Err fault) h = h

  judged_holds : (c : Started) → c.player ≡ player → (o : Option Denial) → verdict w.live.objects (actor_of w.live.objects player) (Start c.program) ≡ o → Holds w.queue → Holds (start_judged d c o w).queue
  judged_holds c e (Some denial) k h = h
  judged_holds c e None k h = told_holds (program_begun (by_command d c.program w) c w) (holds_begun no_own_process false Lost ByLine start (by_command d c.program w) c w (command_begins c e k) h)

  launched_holds : (c : Started) → c.player ≡ player → Holds w.queue → Holds (launched d (actor_of w.live.objects player) c w).queue
  unfolding launched
  launched_holds c e h = judged_holds c e (verdict w.live.objects (actor_of w.live.objects player) (Start c.program)) refl h

  up_holds : (outcome : Outcome) → Holds w.queue → Holds (followed_up d player outcome w).queue
  up_holds (StartOutcome program trigger line arg) h = launched_holds (record { player = player; program = program; trigger = trigger; command = line; argument = arg }) refl h
  up_holds Leave h = h
  up_holds (Edit program) h = h
  up_holds Done h = h
  up_holds (Said pose text) h = h
  up_holds NotMine h = h
  up_holds Dump h = h
  up_holds Stop h = h
  up_holds (Retune tune) h = h

-- the objects are those before
pub objects_up : (d : ℕ) (player : Dbref) (outcome : Outcome) (w : World) → (followed_up d player outcome w).live.objects ≡ w.live.objects
unfolding leave tuned
objects_up d player Leave w = refl
objects_up d player (Edit program) w = refl
objects_up d player (StartOutcome program trigger line arg) w = (quietly_launched d (actor_of w.live.objects player) (record { player = player; program = program; trigger = trigger; command = line; argument = arg }) w).objects
objects_up d player Done w = refl
objects_up d player (Said pose text) w = refl
objects_up d player NotMine w = refl
objects_up d player Dump w = refl
objects_up d player Stop w = refl
objects_up d player (Retune tune) w = refl

started_as : (d : ℕ) (player : Dbref) (last : ℤ) (w v : World) → v.live.objects ≡ w.live.objects → (q : Process) → StartedBy d player last w q → StartedBy d player last v q
started_as d player last w v e q s = record {
  number = s.number;
  player = s.player;
  tied = s.tied;
  leave = subst (λ (es : List Entry). verdict es (actor_of es player) (Start q.program) ≡ None) (sym e) s.leave;
}

-- A command.

nothing_edited : (a : Actor) (line : List ℕ) (es : List Entry) (x : Dbref) → (free_line a line es).edits x ≡ false
unfolding free_line free_play
nothing_edited a line es x = at (begins_with_sign line) (exit_for (scenery_of es) a.player line)
  where
    at : (b : Bool) (hit : Option ExitHit) → (free_through b hit a line es).edits x ≡ false
    at true hit = refl
    at false None = refl
    at false (Some hit) = refl

module _ (Lost : Dbref → Type 0) where
  abbrev Kept : Queue → Queue → Type 0
  Kept start r = Comes no_own_process false Lost NoneNew start r

  kept_itself : (q : Queue) → Kept q q
  kept_itself q = from_itself no_own_process false Lost NoneNew q

  kept_ended : (o : Option Process) (q : Queue) → Kept q (option_map_or (λ p. without_process p.number q) o q)
  kept_ended None q = kept_itself q
  kept_ended (Some p) q = holds_without no_own_process false Lost NoneNew q p.number q (kept_itself q)

  kept_behind : (a : Actor) (line : List ℕ) (q : Queue) (v : Live) (outcome : Outcome) → Kept q (ended_behind a line q (v, outcome))
  unfolding after_line
  kept_behind a line q v NotMine = kept_ended (line_ends a q line v) q
  kept_behind a line q v outcome = kept_itself q

  pub kept_left : (d : ℕ) (a : Actor) (line : List ℕ) (w : Live) (q : Queue) → Kept q (processes_after_line d a line w q)
  unfolding processes_after_line
  kept_left d a line w q = kept_behind a line q (played d a line w).0 (played d a line w).1

  -- what follows a change clears triggers that lapsed
  kept_settled : (start : Queue) (w v : Live) (u : World) → ((x : Dbref) → Lapsed x w v → Lost x) → v.objects ≡ (settled u).live.objects → IsLapsing w u.live → Kept start u.queue → Kept start (settled u).queue
  kept_settled start w v u lost e lapsing h = holds_settled no_own_process false Lost NoneNew (none_stable Lost) start u (λ k m f. lost (dbref_of k) (lapse_settled w v u e lapsing k m f)) h

-- what a line of a player tells of is gone
pub world_lapses : (d : ℕ) (player : Dbref) (line : List ℕ) (w : World) → IsTold w.live → IsLapsing w.live (typed w.queue d (actor_of w.live.objects player) line w.live).0
world_lapses d player line w told =
    let a : Actor = actor_of w.live.objects player in
    let r = typed w.queue d a line w.live in
    let marks : SameMarks (judge a (free_line a line w.live.objects) w.live.objects) w.live.objects r.0.objects = (((typed_open a None w.queue d line).law w.live).law tt tt).marks in
    marks_lapse a (free_line a line w.live.objects) w.live r.0 (nothing_edited a line w.live.objects) told marks

world_comes : (d : ℕ) (player : Dbref) (line : List ℕ) (w : World) → IsTold w.live → LineOrigins d None (Some player) w (in_world d player line w)
unfolding in_world
world_comes d player line w told =
    let a : Actor = actor_of w.live.objects player in
    let r = typed w.queue d a line w.live in
    let x : World = record w { live = r.0; queue = processes_after_line d a line w.live w.queue } in
    let v : World = followed_up d player r.1 (settled x) in
    let Lost : Dbref → Type 0 = λ y. Lapsed y w.live v.live in
    let h : Kept Lost w.queue (settled x).queue = kept_settled Lost w.queue w.live v.live x (λ y l. l) (objects_up d player r.1 (settled x)) (world_lapses d player line w told) (kept_left Lost d a line w.live w.queue) in
    comes_more no_own_process false Lost (StartedBy d player w.queue.last (settled x)) (StartedBy d player w.queue.last v) (started_as d player w.queue.last (settled x) v (objects_up d player r.1 (settled x))) w.queue v.queue
    (up_holds Lost w.queue d player (settled x) r.1
    (comes_more no_own_process false Lost NoneNew (StartedBy d player w.queue.last (settled x)) (none_new (StartedBy d player w.queue.last (settled x))) w.queue (settled x).queue h))

-- The editor.

pub objects_after : (d : ℕ) (program : Dbref) (step : EditStep) (w : World) → (after_edit d program step w).live.objects ≡ w.live.objects
objects_after d program Compile w = (quietly_compiled d program w).objects
objects_after d program Stay w = refl
objects_after d program Left w = refl

queue_so : (d : ℕ) (program : Dbref) (r : Result Tree Flaw) (w : World) → (compiled_so d program r w).queue ≡ w.queue
queue_so d program (Ok tree) w = refl
queue_so d program (Err flaw) w = refl

pub queue_after : (d : ℕ) (program : Dbref) (step : EditStep) (w : World) → (after_edit d program step w).queue ≡ w.queue
unfolding compiled
queue_after d program Compile w = queue_so d program (built_tree w.live.objects program) w
queue_after d program Stay w = refl
queue_after d program Left w = refl

-- what a line of the editor tells of has another source
pub edited_lapses : (d : ℕ) (a : Actor) (s : EditState) (line : List ℕ) (w : Live) → IsTold w → IsLapsing w (edited_by_line d a s line w).0
edited_lapses d a s line w told k m e = elim (((edited_rewrites d a s line).law w).marks k) [
  | inl same ↦ absurd (none-some m (sym (same ∙ told k) ∙ e))
  | inr other ↦ inr other
]

edited_comes : (d : ℕ) (player : Dbref) (s : EditState) (line : List ℕ) (w : World) → IsTold w.live → LineOrigins d None (Some player) w (edited_line d player s line w)
unfolding edited_line
edited_comes d player s line w told =
    let a : Actor = actor_of w.live.objects player in
    let r = edited_by_line d a s line w.live in
    let x : World = record w { live = with_editor d (next_editor r.2 r.1) r.0 } in
    let v : World = after_edit d s.program r.2 (settled x) in
    let Lost : Dbref → Type 0 = λ y. Lapsed y w.live v.live in
    let h : Kept Lost w.queue (settled x).queue = kept_settled Lost w.queue w.live v.live x (λ y l. l) (objects_after d s.program r.2 (settled x)) (edited_lapses d a s line w.live told) (kept_itself Lost w.queue) in
    comes_more no_own_process false Lost NoneNew (StartedBy d player w.queue.last v) (none_new (StartedBy d player w.queue.last v)) w.queue v.queue (subst (Kept Lost w.queue) (sym (queue_after d s.program r.2 (settled x))) h)

same_comes : (d : ℕ) (player : Dbref) (w v : World) → v.queue ≡ w.queue → LineOrigins d None (Some player) w v
same_comes d player w v e =
    let New : Process → Type 0 = StartedBy d player w.queue.last v in
    let Lost : Dbref → Type 0 = λ y. Lapsed y w.live v.live in
    subst (Comes no_own_process false Lost New w.queue) (sym e) (from_itself no_own_process false Lost New w.queue)

editor_comes : (d : ℕ) (player : Dbref) (s : EditState) (line : List ℕ) (w : World) → IsTold w.live → LineOrigins d None (Some player) w (in_editor d player s line w)
unfolding in_editor
editor_comes d player s line w told =
    cond_both (is_editor_open s w.live) (edited_line d player s line w) (on_live (tell d editor_exited) w) (LineOrigins d None (Some player) w)
    (λ e. edited_comes d player s line w told) (λ e. same_comes d player w (on_live (tell d editor_exited) w) refl)

-- A line for a process that reads.

given_comes : (d : ℕ) (pid : ℤ) (player : Option Dbref) (line : List ℕ) (w : World) → LineOrigins d (Some pid) player w (given_line d pid line w)
unfolding given_line
given_comes d pid player line w =
    cond_both (is_abort line) (on_live (tell d program_aborted) (on_queue (without_process pid) w)) (on_queue (on_process pid (told_line w.moment line)) w) (LineOrigins d (Some pid) player w)
    (λ e. holds_without Own false (λ x. ⊥) NoneNew w.queue pid w.queue here)
    (λ e. holds_changed Own false (λ x. ⊥) NoneNew w.queue pid (told_line w.moment line)
    (λ p f k. since_own Own false (λ x. ⊥) NoneNew (none_stable (λ x. ⊥)) w.queue (told_line w.moment line)
    (λ q. record { number = refl; origin = record { player = refl; program = refl; command = refl; trigger = inl refl }; tied = inl refl }) p ((Decides-int_eq p.number pid).1 f) k) w.queue here)
  where
    Own : ℤ → Bool
    Own n = int_eq n pid

    here : Comes Own false (λ x. ⊥) NoneNew w.queue w.queue
    here = from_itself Own false (λ x. ⊥) NoneNew w.queue

-- Any line.

lines_kept : (d : ℕ) (taker : Option ℤ) (player : Option Dbref) (w v : World) → v.queue ≡ w.queue → LineOrigins d taker player w v
lines_kept d (Some pid) player w v e = subst (Comes (λ n. int_eq n pid) false (λ x. ⊥) NoneNew w.queue) (sym e) (from_itself (λ n. int_eq n pid) false (λ x. ⊥) NoneNew w.queue)
lines_kept d None (Some player) w v e = same_comes d player w v e
lines_kept d None None w v e = subst (Comes no_own_process false (λ x. ⊥) NoneNew w.queue) (sym e) (from_itself no_own_process false (λ x. ⊥) NoneNew w.queue)

for_comes : (d : ℕ) (taker : Option ℤ) (player : Option Dbref) (editor : Option EditState) (line : List ℕ) (w : World) → IsTold w.live → LineOrigins d taker player w (line_for taker player editor d line w)
for_comes d (Some pid) player editor line w told = given_comes d pid player line w
for_comes d None None editor line w told = lines_kept d None None w (on_live (at_login d line) w) refl
for_comes d None (Some player) None line w told = world_comes d player line w told
for_comes d None (Some player) (Some s) line w told = editor_comes d player s line (on_live (with_editor d None) w) told

-- the lines that wait behind it don't matter
waited : (d : ℕ) (lines : List (List ℕ)) (taker : Option ℤ) (player : Option Dbref) (w v : World) → LineOrigins d taker player (on_live (waits d lines) w) v → LineOrigins d taker player w v
unfolding waits
waited d lines (Some pid) player w v h = h
waited d lines None (Some player) w v h = h
waited d lines None None w v h = h

lines_come : (d : ℕ) (player : Option Dbref) (editor : Option EditState) (lines : List (List ℕ)) (w : World) → IsTold w.live → LineOrigins d (reader d w.queue) player w (line_done d player editor lines w)
unfolding waits
lines_come d player editor [] w told = lines_kept d (reader d w.queue) player w w refl
lines_come d player editor (line ∷ lines) w told =
    waited d lines (reader d w.queue) player w (line_for (reader d w.queue) player editor d line (on_live (waits d lines) w)) (for_comes d (reader d w.queue) player editor line (on_live (waits d lines) w) told)

-- behind a line
pub line_comes : (d : ℕ) (o : Option Connection) (w : World) → IsTold w.live → TurnOrigins d o w (first_line_done d o w)
unfolding first_line_done
line_comes d None w told = from_itself no_own_process false (λ x. ⊥) NoneNew w.queue
line_comes d (Some c) w told = lines_come d c.player c.editor c.waiting w told
