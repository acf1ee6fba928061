-- A line that is done: what it changes is open, it keeps the numbers of the connections, and the world lives on.
use Rattle.std.proofs.Common.{◌≡◌, ℕ, ℤ, Bool, true, false, cond, List, [], ◌∷◌, refl, sym, ◌∙◌, ap, subst, Option, Some, None, inl, inr}
use Rattle.spec_live.proofs.Keeping.{stays, one, join, keeps_followed}
use Rattle.spec_live.proofs.Steps.{Walk}
use Rattle.spec_live.proofs.Walks.{walk_told}
use Rattle.spec_live.proofs.Lives.{Loose, loose_order, Goes, board, hears, leaves_one, tunes, goes_objects}
use Rattle.std.specs.Prelude.{find, ◌==◌}
use Rattle.std.specs.Option.{option_and_then}
use Rattle.std.proofs.lemmas.Option.{none-some}
use Rattle.muck_model.specs.declared.dbref.Dbref.{Dbref}
use Rattle.muck_model.specs.declared.edit.EditState.{EditState}
use Rattle.muck_model.specs.declared.tune.Tune.{Tune}
use Rattle.muck_match.specs.declared.exits.ExitHit.{ExitHit}
use Rattle.muck_match.specs.Exits.{exit_for}
use Rattle.spec_live.specs.declared.saving.Saving.{Saving}
use Rattle.spec_live.specs.Objects.{Entry, mark_in}
use Rattle.spec_live.specs.Saving.{all_saving}
use Rattle.spec_live.specs.Seen.{scenery_of}
use Rattle.spec_live.specs.Connections.{Connection, is_connection, editor_set as edited_connection}
use Rattle.spec_live.specs.Boards as boards
use Rattle.spec_live.specs.Boards.{connection_in, player_in, leaving_one, edited_one}
use Rattle.spec_live.specs.Lives.{Live, Change, change_followed, ◌▸◌, unchanged, tell, leave}
use Rattle.spec_rights.specs.declared.act.Actor.{Actor}
use Rattle.spec_rights.specs.Verdict.{is_master}
use Rattle.spec_rights.specs.Changing.{tuned}
use Rattle.spec_rights.specs.Licence.{Freedom, SameTies, Licensed, editing}
use Rattle.spec_rights.proofs.Licences.{Proper, judge, SameMarks, Always, ties_both, own_kept, quiet_unchanged, licensed_as, licensed_from, whole_quiet}
use Rattle.spec_rights.proofs.Leaving.{whole_leave}
use Rattle.spec_rights.proofs.Shown.{loose_one, quiet_tell}
use Rattle.spec_commands.specs.declared.outcome.Outcome.{Outcome}
use Rattle.spec_commands.specs.declared.outcome.Outcome.TheVariants.{Done, Said, NotMine, Start, Edit, Leave, Dump, Stop, Retune}
use Rattle.spec_commands.specs.declared.edit.EditStep.{EditStep}
use Rattle.spec_commands.specs.declared.edit.EditStep.TheVariants.{Stay, Compile, Left}
use Rattle.spec_commands.specs.Finding.{actor_of}
use Rattle.spec_commands.specs.Free.{free_play, free_through, free_line}
use Rattle.spec_commands.specs.Commands.{begins_with_sign}
use Rattle.spec_commands.specs.Editing.{editor_exited, is_editor_open, edited_by_line}
use Rattle.spec_commands.specs.Talk.{at_login, waits}
use Rattle.spec_commands.proofs.Showing.{loose_waits}
use Rattle.spec_commands.proofs.Edited.{edited_proper}
use Rattle.spec_commands.proofs.Sources.{edited_rewrites}
use Rattle.muck_queue.specs.declared.process.Process.{Process}
use Rattle.muck_queue.specs.Queues.{reader, on_process, told_line, without_process}
use Rattle.spec_commands.proofs.Numbered.{numbers, numbers-ties, numbers-same_ties, leavers_ties, leavers_both, Seating}
use Rattle.spec_commands.proofs.Lines.{seating_at_login}
use Rattle.muck_model.specs.Parameters.{IsInRange}
use Rattle.spec_events.specs.World.{World, on_live, on_queue}
use Rattle.spec_events.specs.Dumping.{resaved}
use Rattle.spec_events.specs.Following.{swept, settled}
use Rattle.spec_events.specs.Lines.{with_editor, next_editor, after_edit, edited_line, in_editor, editor_on, typed, processes_after_line, followed_up, in_world, program_aborted, is_abort, given_line, line_for, line_done, first_line_done}
use Rattle.spec_events.specs.Endings.{ProcessesLicensed, NoProcess, MayEnd, by_actor, EndsReading}
use Rattle.spec_events.specs.Licences.{Undisturbed, LineLicensed, TurnLicensed}
use Rattle.spec_events.proofs.Quietly.{Still, still_of, lively, lively_acts, Quietly, quietly_readies, quietly_both, quietly_loose, quietly_live, quietly_queue, quietly_swept, quietly_launched, quietly_compiled}
use Rattle.spec_events.proofs.Told.{licensed_told}
use Rattle.spec_events.proofs.Typed.{MayRetune, typed_retunes, typed_open}
use Rattle.spec_events.proofs.Endings.{Lasting, lasting_same, lasting_both, lasting_changed, lasting_without, lasting_up, lasting_after, process_number, IsTold, told_settled, processes_remain}
use Rattle.spec_events.proofs.Lapses.{IsLapsing, marks_lapse, by_lapse, steady_may, lasting_lapse}
use Rattle.spec_events.proofs.Killed.{lasting_left}
use Rattle.spec_events.proofs.Login.{screen_at_login, told_notes}

-- whether a world is dead, the dump that runs in it, and the second
abbrev pub state_of : World → Bool × Still
state_of w = (w.dead, still_of w)

-- what an actor may do to a world that is one already: the changes are open, what is tuned stays in its range, and the world
-- is as dead as before, the same dump runs, and it is the same second
pub record Open (a : Actor) (free : Freedom) (start : Live) (state : Bool × Still) (v : World) : Type 0 where
  pub licensed : Licensed a free start v.live
  pub goes : Goes lively start v.live
  pub tuned : IsInRange start.board.tune → IsInRange v.live.board.tune
  pub alive : v.dead ≡ state.0
  pub still : still_of v ≡ state.1

-- the same is tuned
pub in_range_as : (w v : Live) → v.board.tune ≡ w.board.tune → IsInRange w.board.tune → IsInRange v.board.tune
in_range_as w v e h = subst IsInRange (sym e) h

pub open_quietly : (a : Actor) (free : Freedom) (start : Live) (state : Bool × Still) (u v : World) → Open a free start state u → Quietly u v → Open a free start state v
open_quietly a free start state u v p q = record {
  licensed = licensed_as a free start u.live v.live p.licensed (quietly_readies u v q);
  goes = join p.goes (one (hears u.live v.live refl (quietly_readies u v q)));
  tuned = λ h. in_range_as u.live v.live q.tune (p.tuned h);
  alive = q.dead ∙ p.alive;
  still = q.still ∙ p.still;
}

pub open_settled : (a : Actor) (free : Freedom) (start : Live) (state : Bool × Still) (u : World) → Open a free start state u → Open a free start state (settled u)
unfolding settled
open_settled a free start state u p =
    let q = open_quietly a free start state u _ p (quietly_swept 0 u.live.objects u) in
    let v : Live = (swept 0 u.live.objects u).live in
    record { licensed = licensed_told a free start v q.licensed; goes = join q.goes (goes_objects lively v _ (walk_told lively v.objects refl)); tuned = q.tuned; alive = q.alive; still = q.still }

-- Leaving.

-- a connection keeps its player
pub player-same_ties : (a : Actor) (d : ℕ) (cs ds : List Connection) → SameTies a cs ds → option_and_then (λ (c : Connection). c.player) (find (is_connection d) ds) ≡ option_and_then (λ (c : Connection). c.player) (find (is_connection d) cs)
player-same_ties a d [] [] t = refl
player-same_ties a d [] (y ∷ ys) t = absurd t
player-same_ties a d (x ∷ xs) [] t = absurd t
player-same_ties a d (x ∷ xs) (y ∷ ys) t =
    let next = player-same_ties a d xs ys t.3 in
    let P : ℕ → Type 0 = λ n. option_and_then (λ (c : Connection). c.player) (cond (n == d) (Some y) (find (is_connection d) ys)) ≡ option_and_then (λ (c : Connection). c.player) (cond (x.number == d) (Some x) (find (is_connection d) xs)) in
    subst P (sym t.0) (elim (x.number == d) as (λ b. option_and_then (λ (c : Connection). c.player) (cond b (Some y) (find (is_connection d) ys)) ≡ option_and_then (λ (c : Connection). c.player) (cond b (Some x) (find (is_connection d) xs))) [ true ↦ t.1 | false ↦ next ])

left_licensed : (a : Actor) (d : ℕ) (free : Freedom) (w v : Live) → player_in d w.board ≡ Some a.player → Licensed a free w v → Licensed a free w (leave d v)
unfolding leave leaving_one
left_licensed a d free w v own l =
    let left : Licensed a free v (leave d v) = (((whole_leave a d (λ es. free) Always).law v).law (player-same_ties a d w.board.connections v.board.connections l.connections ∙ own) tt).licensed in
    record { gone = l.gone; recycled = l.recycled; vanished = l.vanished; objects = l.objects; no_fewer = l.no_fewer; traced = l.traced; lists = l.lists; connections = ties_both a _ _ _ l.connections left.connections; tune = l.tune }

left_goes : (d : ℕ) (w : Live) → Goes lively w (leave d w)
unfolding leave
left_goes d w = one (board _ w (leaves_one d w.board refl))

left_tune : (d : ℕ) (w : Live) → (leave d w).board.tune ≡ w.board.tune
unfolding leave leaving_one
left_tune d w = refl

-- The editor.

loose_with_editor : (d : ℕ) (editor : Option EditState) → Loose (with_editor d editor)
unfolding edited_one
loose_with_editor d editor = loose_one d (edited_connection editor) (λ c. refl)

-- the lines that wait, and an editor that is taken
abbrev taken_out : ℕ → List (List ℕ) → Change
taken_out d lines = waits d lines ▸ with_editor d None

loose_taken_out : (d : ℕ) (lines : List (List ℕ)) → Loose (taken_out d lines)
loose_taken_out d lines = keeps_followed _ _ loose_order (loose_waits d lines) (loose_with_editor d None)

open_after : (a : Actor) (free : Freedom) (start : Live) (state : Bool × Still) (d : ℕ) (program : Dbref) (step : EditStep) (u : World) → Open a free start state u → Open a free start state (after_edit d program step u)
open_after a free start state d program Compile u p = open_quietly a free start state u _ p (quietly_compiled d program u)
open_after a free start state d program Stay u p = p
open_after a free start state d program Left u p = p

open_edited : (d : ℕ) (player : Dbref) (s : EditState) (line : List ℕ) (lines : List (List ℕ)) (w : World) →
    Open (actor_of w.live.objects player) (editing s.program) w.live (state_of w) (edited_line d player s line (on_live (taken_out d lines) w))
unfolding edited_line waits change_followed edited_one
open_edited d player s line lines w =
    let a : Actor = actor_of w.live.objects player in
    let u : World = on_live (taken_out d lines) w in
    let r = edited_by_line d a s line u.live in
    let proper : Proper a (editing s.program) u.live r.0 = edited_proper d a s line u.live in
    let taken = (loose_taken_out d lines).law w.live in
    let l : Licensed a (editing s.program) w.live r.0 = licensed_from a (editing s.program) w.live u.live r.0 taken proper.licensed in
    let v : World = record u { live = r.0 } in
    let e = open_quietly a (editing s.program) w.live (state_of w) v (on_live (with_editor d (next_editor r.2 r.1)) v) (record { licensed = l; goes = join (one (hears w.live u.live refl taken)) (lively_acts u.live r.0 proper.goes); tuned = in_range_as w.live r.0 proper.tune; alive = refl; still = refl }) (quietly_loose _ (loose_with_editor d (next_editor r.2 r.1)) v) in
    open_after a (editing s.program) w.live (state_of w) d s.program r.2 _ (open_settled a (editing s.program) w.live (state_of w) _ e)

left_open : (d : ℕ) (player : Dbref) (s : EditState) (lines : List (List ℕ)) (w : World) →
    Open (actor_of w.live.objects player) (editing s.program) w.live (state_of w) (on_live (tell d editor_exited) (on_live (taken_out d lines) w))
unfolding unchanged
left_open d player s lines w =
    let a : Actor = actor_of w.live.objects player in
    let u : World = on_live (taken_out d lines) w in
    let whole : Proper a (editing s.program) w.live (unchanged w.live) = ((whole_quiet a None (λ es. editing s.program) Always unchanged quiet_unchanged).law w.live).law tt tt in
    open_quietly a (editing s.program) w.live (state_of w) w _ (record { licensed = whole.licensed; goes = stays; tuned = λ h. h; alive = refl; still = refl })
    (quietly_both w u _ (quietly_loose (taken_out d lines) (loose_taken_out d lines) w) (quietly_live (tell d editor_exited) (quiet_tell d editor_exited) u))

open_in_editor : (d : ℕ) (player : Dbref) (s : EditState) (line : List ℕ) (lines : List (List ℕ)) (w : World) →
    Open (actor_of w.live.objects player) (editing s.program) w.live (state_of w) (in_editor d player s line (on_live (taken_out d lines) w))
unfolding in_editor
open_in_editor d player s line lines w = at (is_editor_open s (taken_out d lines w.live))
  where
    at : (b : Bool) → Open (actor_of w.live.objects player) (editing s.program) w.live (state_of w) (cond b (edited_line d player s line (on_live (taken_out d lines) w)) (on_live (tell d editor_exited) (on_live (taken_out d lines) w)))
    at true = open_edited d player s line lines w
    at false = left_open d player s lines w

-- Commands.

-- who may tune the world may follow
tuned_licensed : (a : Actor) (free : Freedom) (w v : Live) (tune : Tune) → Licensed a free w v → is_master a ≡ true → Licensed a free w (tuned tune v)
unfolding tuned
tuned_licensed a free w v tune l h =
    record { gone = l.gone; recycled = l.recycled; vanished = l.vanished; objects = l.objects; no_fewer = l.no_fewer; traced = l.traced; lists = l.lists; connections = l.connections; tune = inr h }

tuned_goes : (tune : Tune) (w : Live) → Goes lively w (tuned tune w)
unfolding tuned boards.tuned
tuned_goes tune w = one (board _ w (tunes tune w.board refl))

tuned_in_range : (w : Live) (tune : Tune) → IsInRange tune → IsInRange (tuned tune w).board.tune
unfolding tuned
tuned_in_range w tune h = h

open_followed : (d : ℕ) (player : Dbref) (a : Actor) (free : Freedom) (start : Live) (state : Bool × Still) (outcome : Outcome) (u : World) → player_in d start.board ≡ Some a.player →
    ((tune : Tune) → outcome ≡ Retune tune → MayRetune a start tune) → Open a free start state u → Open a free start state (followed_up d player outcome u)
open_followed d player a free start state Leave u own may p = record { licensed = left_licensed a d free start u.live own p.licensed; goes = join p.goes (left_goes d u.live); tuned = λ h. in_range_as u.live (leave d u.live) (left_tune d u.live) (p.tuned h); alive = p.alive; still = p.still }
open_followed d player a free start state (Edit program) u own may p =
    open_quietly a free start state u _ p (quietly_loose (with_editor d (Some (editor_on program u.live))) (loose_with_editor d (Some (editor_on program u.live))) u)
open_followed d player a free start state (Start program trigger line arg) u own may p =
    open_quietly a free start state u _ p (quietly_launched d (actor_of u.live.objects player) (record { player = player; program = program; trigger = trigger; command = line; argument = arg }) u)
open_followed d player a free start state Done u own may p = p
open_followed d player a free start state (Said pose text) u own may p = p
open_followed d player a free start state NotMine u own may p = p
open_followed d player a free start state Dump u own may p = record { licensed = p.licensed; goes = p.goes; tuned = p.tuned; alive = p.alive; still = p.still }
open_followed d player a free start state Stop u own may p = record { licensed = p.licensed; goes = p.goes; tuned = p.tuned; alive = p.alive; still = p.still }
open_followed d player a free start state (Retune tune) u own may p = record { licensed = tuned_licensed a free start u.live tune p.licensed (may tune refl).0; goes = join p.goes (tuned_goes tune u.live); tuned = λ h. tuned_in_range u.live tune ((may tune refl).1 h); alive = p.alive; still = p.still }

-- what it does behind the lines that wait
waited_proper : (d : ℕ) (a : Actor) (line : List ℕ) (lines : List (List ℕ)) (w : World) → player_in d w.live.board ≡ Some a.player →
    let u = on_live (waits d lines) w in Proper a (free_line a line u.live.objects) u.live (typed u.queue d a line u.live).0
waited_proper d a line lines w own =
    let u : World = on_live (waits d lines) w in
    ((typed_open a (Some d) u.queue d line).law u.live).law (own_kept (Some d) w.live u.live a ((loose_waits d lines).law w.live).ties own) tt

open_in_world : (d : ℕ) (player : Dbref) (line : List ℕ) (lines : List (List ℕ)) (w : World) → player_in d w.live.board ≡ Some player →
    Open (actor_of w.live.objects player) (free_line (actor_of w.live.objects player) line w.live.objects) w.live (state_of w) (in_world d player line (on_live (waits d lines) w))
unfolding in_world waits change_followed actor_of
open_in_world d player line lines w own =
    let a : Actor = actor_of w.live.objects player in
    let free : Freedom = free_line a line w.live.objects in
    let u : World = on_live (waits d lines) w in
    let r = typed u.queue d a line u.live in
    let taken = (loose_waits d lines).law w.live in
    let proper : Proper a free u.live r.0 = waited_proper d a line lines w own in
    open_followed d player a free w.live (state_of w) r.1 _ own (typed_retunes u.queue d a line u.live)
    (open_settled a free w.live (state_of w) (record u { live = r.0; queue = processes_after_line d a line u.live u.queue }) (record { licensed = licensed_from a free w.live u.live r.0 taken proper.licensed; goes = join (one (hears w.live u.live refl taken)) (lively_acts u.live r.0 proper.goes); tuned = in_range_as w.live r.0 proper.tune; alive = refl; still = refl }))

-- Processes.

objects_up : (d : ℕ) (player : Dbref) (outcome : Outcome) (w : World) → (followed_up d player outcome w).live.objects ≡ w.live.objects
unfolding leave tuned
objects_up d player Leave w = refl
objects_up d player (Edit program) w = refl
objects_up d player (Start program trigger line arg) w = (quietly_launched d (actor_of w.live.objects player) (record { player = player; program = program; trigger = trigger; command = line; argument = arg }) w).objects
objects_up d player Done w = refl
objects_up d player (Said pose text) w = refl
objects_up d player NotMine w = refl
objects_up d player Dump w = refl
objects_up d player Stop w = refl
objects_up d player (Retune tune) w = refl

objects_after : (d : ℕ) (program : Dbref) (step : EditStep) (w : World) → (after_edit d program step w).live.objects ≡ w.live.objects
objects_after d program Compile w = (quietly_compiled d program w).objects
objects_after d program Stay w = refl
objects_after d program Left w = refl

-- such as may end by the line end
may_ends : (a : Actor) (w v : World) → Lasting (MayEnd a w.live v.live) w.queue v.queue → ProcessesLicensed (MayEnd a w.live v.live) w v
may_ends a w v g = processes_remain (MayEnd a w.live v.live) (MayEnd a w.live v.live) w v (λ p m. m) g

-- what follows a change ends such as run what lapsed
lapse_settled : (a : Actor) (w v : Live) (u : World) → v.objects ≡ (settled u).live.objects → IsLapsing w u.live → Lasting (MayEnd a w v) u.queue (settled u).queue
lapse_settled a w v u e lapsing = lasting_lapse (MayEnd a w v) (steady_may a w v) w v u (by_lapse a w v) e lapsing

nothing_edited : (a : Actor) (line : List ℕ) (es : List Entry) (x : Dbref) → (free_line a line es).edits x ≡ false
unfolding free_line free_play
nothing_edited a line es x = at (begins_with_sign line) (exit_for (scenery_of es) a.player line)
  where
    at : (b : Bool) (hit : Option ExitHit) → (free_through b hit a line es).edits x ≡ false
    at true hit = refl
    at false None = refl
    at false (Some hit) = refl

ends_in_world : (d : ℕ) (player : Dbref) (line : List ℕ) (lines : List (List ℕ)) (w : World) → player_in d w.live.board ≡ Some player → IsTold w.live →
    let v = in_world d player line (on_live (waits d lines) w) in ProcessesLicensed (MayEnd (actor_of w.live.objects player) w.live v.live) w v
unfolding in_world waits change_followed actor_of
ends_in_world d player line lines w own told =
    let a : Actor = actor_of w.live.objects player in
    let free : Freedom = free_line a line w.live.objects in
    let u : World = on_live (waits d lines) w in
    let r = typed u.queue d a line u.live in
    let x : World = record u { live = r.0; queue = processes_after_line d a line u.live u.queue } in
    let v : World = followed_up d player r.1 (settled x) in
    let may : Process → Type 0 = MayEnd a w.live v.live in
    let marks : SameMarks (judge a free w.live.objects) w.live.objects r.0.objects = (waited_proper d a line lines w own).marks in
    let cut : IsLapsing w.live x.live = marks_lapse a free w.live r.0 (nothing_edited a line w.live.objects) told marks in
    may_ends a w v
    (lasting_both may w.queue x.queue v.queue (lasting_left may a line u.live u.queue (λ p e. by_actor e) d)
    (lasting_both may x.queue (settled x).queue v.queue (lapse_settled a w.live v.live x (objects_up d player r.1 (settled x)) cut) (lasting_up may d player r.1 (settled x))))

ends_edited : (d : ℕ) (player : Dbref) (s : EditState) (line : List ℕ) (lines : List (List ℕ)) (w : World) → IsTold w.live →
    let v = edited_line d player s line (on_live (taken_out d lines) w) in ProcessesLicensed (MayEnd (actor_of w.live.objects player) w.live v.live) w v
unfolding edited_line waits change_followed edited_one
ends_edited d player s line lines w told =
    let a : Actor = actor_of w.live.objects player in
    let u : World = on_live (taken_out d lines) w in
    let r = edited_by_line d a s line u.live in
    let x : World = record u { live = with_editor d (next_editor r.2 r.1) r.0 } in
    let v : World = after_edit d s.program r.2 (settled x) in
    let cut : IsLapsing w.live x.live = λ k m e. elim (((edited_rewrites d a s line).law u.live).marks k) [
      | inl same ↦ absurd (none-some m (sym (same ∙ told k) ∙ e))
      | inr other ↦ inr other
    ] in
    let may : Process → Type 0 = MayEnd a w.live v.live in
    may_ends a w v (lasting_both may w.queue (settled x).queue v.queue (lapse_settled a w.live v.live x (objects_after d s.program r.2 (settled x)) cut) (lasting_after may d s.program r.2 (settled x)))

ends_in_editor : (d : ℕ) (player : Dbref) (s : EditState) (line : List ℕ) (lines : List (List ℕ)) (w : World) → IsTold w.live →
    let v = in_editor d player s line (on_live (taken_out d lines) w) in ProcessesLicensed (MayEnd (actor_of w.live.objects player) w.live v.live) w v
unfolding in_editor
ends_in_editor d player s line lines w told = at (is_editor_open s (taken_out d lines w.live))
  where
    at : (b : Bool) → let v = cond b (edited_line d player s line (on_live (taken_out d lines) w)) (on_live (tell d editor_exited) (on_live (taken_out d lines) w)) in
        ProcessesLicensed (MayEnd (actor_of w.live.objects player) w.live v.live) w v
    at true = ends_edited d player s line lines w told
    at false = let v : World = on_live (tell d editor_exited) (on_live (taken_out d lines) w) in may_ends (actor_of w.live.objects player) w v (lasting_same (MayEnd (actor_of w.live.objects player) w.live v.live) w.queue)

-- What a line does is open.

-- nothing but the processes is asked
pub none_ends : (w v : World) → v.queue.processes ≡ w.queue.processes → ProcessesLicensed NoProcess w v
none_ends w v e =
    let P : List Process → Type 0 = λ ps. Lasting (λ t. ⊥) w.queue (record w.queue { processes = ps }) in
    processes_remain (λ t. ⊥) NoProcess w v (λ p m. m) (subst P (sym e) (lasting_same (λ t. ⊥) w.queue))

pub undisturbed : (may : Connection → Bool) (w : World) → Undisturbed may w w
undisturbed may w = (record { objects = refl; tune = refl }, none_ends w w refl, leavers_ties may w.live.board.connections w.live.board.connections refl)

-- what only shows on the way disturbs nothing
pub undisturbed_quietly : (may : Connection → Bool) (f : Change) (w : World) → Loose f → Undisturbed may w (on_live f w)
undisturbed_quietly may f w q = let s = q.law w.live in (record { objects = s.objects; tune = s.tune }, none_ends w (on_live f w) refl, leavers_ties may w.live.board.connections (f w.live).board.connections s.ties)

login_licensed : (d : ℕ) (editor : Option EditState) (line : List ℕ) (lines : List (List ℕ)) (w : World) →
    LineLicensed d None None editor (line ∷ lines) w (on_live (at_login d line) (on_live (waits d lines) w))
unfolding waits change_followed
login_licensed d editor line lines w =
    let u : World = on_live (waits d lines) w in
    let v : World = on_live (at_login d line) u in
    let may : Connection → Bool = is_connection d in
    let before = leavers_ties may w.live.board.connections u.live.board.connections ((loose_waits d lines).law w.live).ties in
    elim (screen_at_login d line (waits d lines w.live)) [
      | inl same ↦ inl (record { objects = same.objects; tune = same.tune }, none_ends w v refl, leavers_both d _ _ _ before ((seating_at_login d line).law u.live).leavers)
      | inr found ↦ inr (record { player = found.0; licensed = found.1; notes = found.2; processes = none_ends w v refl })
    ]

-- A line for a process that reads changes nothing but that process.

given_quietly : (d : ℕ) (pid : ℤ) (line : List ℕ) (lines : List (List ℕ)) (w : World) → Quietly w (given_line d pid line (on_live (waits d lines) w))
unfolding given_line
given_quietly d pid line lines w = either (is_abort line)
  where
    u : World
    u = on_live (waits d lines) w

    waiting : Quietly w u
    waiting = quietly_loose (waits d lines) (loose_waits d lines) w

    either : (b : Bool) → Quietly w (cond b (on_live (tell d program_aborted) (on_queue (without_process pid) u)) (on_queue (on_process pid (told_line u.moment line)) u))
    either true =
        quietly_both w (on_queue (without_process pid) u) _ (quietly_both w u _ waiting (quietly_queue (without_process pid) u)) (quietly_live (tell d program_aborted) (quiet_tell d program_aborted) (on_queue (without_process pid) u))
    either false = quietly_both w u _ waiting (quietly_queue (on_process pid (told_line u.moment line)) u)

given_lasts : (d : ℕ) (pid : ℤ) (line : List ℕ) (w : World) → Lasting (EndsReading pid) w.queue (given_line d pid line w).queue
unfolding given_line
given_lasts d pid line w = either (is_abort line)
  where
    either : (b : Bool) → Lasting (EndsReading pid) w.queue (cond b (on_live (tell d program_aborted) (on_queue (without_process pid) w)) (on_queue (on_process pid (told_line w.moment line)) w)).queue
    either true = lasting_without (EndsReading pid) pid w.queue (process_number pid w.queue)
    either false = lasting_changed (EndsReading pid) pid (told_line w.moment line) w.queue (λ p. refl) (λ p e m. m)

given_licensed : (d : ℕ) (pid : ℤ) (player : Option Dbref) (editor : Option EditState) (line : List ℕ) (lines : List (List ℕ)) (w : World) →
    LineLicensed d (Some pid) player editor (line ∷ lines) w (given_line d pid line (on_live (waits d lines) w))
given_licensed d pid player editor line lines w =
    let v : World = given_line d pid line (on_live (waits d lines) w) in
    let q = given_quietly d pid line lines w in (
      record { objects = q.objects; tune = q.tune },
      processes_remain (EndsReading pid) (EndsReading pid) w v (λ p m. m) (given_lasts d pid line (on_live (waits d lines) w)),
      leavers_ties (λ c. false) w.live.board.connections v.live.board.connections q.ties,
    )

-- Any line.

none_waits : (d : ℕ) (w : World) (taker : Option ℤ) (player : Option Dbref) (editor : Option EditState) → LineLicensed d taker player editor [] w w
none_waits d w (Some pid) player editor = undisturbed (is_connection d) w
none_waits d w None (Some player) editor = undisturbed (is_connection d) w
none_waits d w None None editor = undisturbed (is_connection d) w

line_licensed : (d : ℕ) (w : World) (taker : Option ℤ) (player : Option Dbref) (editor : Option EditState) (line : List ℕ) (lines : List (List ℕ)) → player_in d w.live.board ≡ player → IsTold w.live →
    LineLicensed d taker player editor (line ∷ lines) w (line_for taker player editor d line (on_live (waits d lines) w))
unfolding change_followed
line_licensed d w (Some pid) player editor line lines e told = given_licensed d pid player editor line lines w
line_licensed d w None None editor line lines e told = login_licensed d editor line lines w
line_licensed d w None (Some player) None line lines e told = ((open_in_world d player line lines w e).licensed, ends_in_world d player line lines w e told)
line_licensed d w None (Some player) (Some s) line lines e told = ((open_in_editor d player s line lines w).licensed, ends_in_editor d player s line lines w told)

lines_licensed : (d : ℕ) (w : World) (player : Option Dbref) (editor : Option EditState) (lines : List (List ℕ)) → player_in d w.live.board ≡ player → IsTold w.live →
    LineLicensed d (reader d w.queue) player editor lines w (line_done d player editor lines w)
lines_licensed d w player editor [] e told = none_waits d w (reader d w.queue) player editor
lines_licensed d w player editor (line ∷ lines) e told = line_licensed d w (reader d w.queue) player editor line lines e told

pub turn_licensed : (d : ℕ) (w : World) (o : Option Connection) → connection_in d w.live.board ≡ o → IsTold w.live → TurnLicensed d o w (first_line_done d o w)
unfolding first_line_done
turn_licensed d w None e told = undisturbed (is_connection d) w
turn_licensed d w (Some c) e told = lines_licensed d w c.player c.editor c.waiting (ap (λ (o : Option Connection). option_and_then (λ (k : Connection). k.player) o) e) told

-- Behind it nothing is to be told.

pub told_by : (w v : Live) → v.objects ≡ w.objects → IsTold w → IsTold v
told_by w v e h n = ap (λ os. mark_in os n) e ∙ h n

told_in_world : (d : ℕ) (player : Dbref) (line : List ℕ) (w : World) → IsTold (in_world d player line w).live
unfolding in_world
told_in_world d player line w =
    let a : Actor = actor_of w.live.objects player in
    let r = typed w.queue d a line w.live in
    let x : World = record w { live = r.0; queue = processes_after_line d a line w.live w.queue } in
    told_by (settled x).live (followed_up d player r.1 (settled x)).live (objects_up d player r.1 (settled x)) (told_settled x)

told_in_editor : (d : ℕ) (player : Dbref) (s : EditState) (line : List ℕ) (w : World) → IsTold w.live → IsTold (in_editor d player s line w).live
unfolding in_editor edited_line
told_in_editor d player s line w h = at (is_editor_open s w.live)
  where
    at : (b : Bool) → IsTold (cond b (edited_line d player s line w) (on_live (tell d editor_exited) w)).live
    at true =
        let r = edited_by_line d (actor_of w.live.objects player) s line w.live in
        let x : World = record w { live = with_editor d (next_editor r.2 r.1) r.0 } in
        told_by (settled x).live (after_edit d s.program r.2 (settled x)).live (objects_after d s.program r.2 (settled x)) (told_settled x)
    at false = told_by w.live (tell d editor_exited w.live) ((quiet_tell d editor_exited).law w.live).objects h

line_told : (d : ℕ) (w : World) (taker : Option ℤ) (player : Option Dbref) (editor : Option EditState) (line : List ℕ) (lines : List (List ℕ)) → IsTold w.live →
    IsTold (line_for taker player editor d line (on_live (waits d lines) w)).live
unfolding change_followed
line_told d w (Some pid) player editor line lines h = told_by w.live (given_line d pid line (on_live (waits d lines) w)).live (given_quietly d pid line lines w).objects h
line_told d w None None editor line lines h = let u : Live = waits d lines w.live in told_notes u (at_login d line u) ((seating_at_login d line).law u).objects (told_by w.live u ((loose_waits d lines).law w.live).objects h)
line_told d w None (Some player) None line lines h = told_in_world d player line (on_live (waits d lines) w)
line_told d w None (Some player) (Some s) line lines h =
    told_in_editor d player s line (on_live (taken_out d lines) w) (told_by w.live (taken_out d lines w.live) (((loose_taken_out d lines).law w.live).objects) h)

lines_told : (d : ℕ) (w : World) (player : Option Dbref) (editor : Option EditState) (lines : List (List ℕ)) → IsTold w.live → IsTold (line_done d player editor lines w).live
lines_told d w player editor [] h = h
lines_told d w player editor (line ∷ lines) h = line_told d w (reader d w.queue) player editor line lines h

pub told_done : (d : ℕ) (w : World) (o : Option Connection) → IsTold w.live → IsTold (first_line_done d o w).live
unfolding first_line_done
told_done d w None h = h
told_done d w (Some c) h = lines_told d w c.player c.editor c.waiting h

-- The way that it goes, the numbers of the connections, that what is tuned stays in its range, that the world lives on, and that the same dump runs.

pub record Going (w v : World) : Type 0 where
  pub goes : Goes lively w.live v.live
  pub numbers : numbers v.live.board.connections ≡ numbers w.live.board.connections
  pub tuned : IsInRange w.live.board.tune → IsInRange v.live.board.tune
  pub dead : v.dead ≡ w.dead
  pub running : v.dumps.running ≡ w.dumps.running
  pub moment : v.moment ≡ w.moment

pub going_open : (a : Actor) (free : Freedom) (w v : World) → Open a free w.live (state_of w) v → Going w v
going_open a free w v p = record { goes = p.goes; numbers = numbers-same_ties a w.live.board.connections v.live.board.connections p.licensed.connections; tuned = p.tuned; dead = p.alive; running = ap (λ (x : Still). x.0) p.still; moment = ap (λ (x : Still). x.1) p.still }

pub going_same : (w : World) → Going w w
going_same w = record { goes = stays; numbers = refl; tuned = λ h. h; dead = refl; running = refl; moment = refl }

pub going_both : (u v w : World) → Going u v → Going v w → Going u w
going_both u v w p q = record {
  goes = join p.goes q.goes;
  numbers = q.numbers ∙ p.numbers;
  tuned = λ h. q.tuned (p.tuned h);
  dead = q.dead ∙ p.dead;
  running = q.running ∙ p.running;
  moment = q.moment ∙ p.moment;
}

pub going_quietly : (w v : World) → Quietly w v → Going w v
going_quietly w v q = record {
  goes = one (hears w.live v.live refl (quietly_readies w v q));
  numbers = numbers-ties w.live.board.connections v.live.board.connections q.ties;
  tuned = in_range_as w.live v.live q.tune;
  dead = q.dead;
  running = ap (λ (x : Still). x.0) q.still;
  moment = ap (λ (x : Still). x.1) q.still;
}

pub going_live : (d : ℕ) (f : Change) → Seating d f → (w : World) → Going w (on_live f w)
going_live d f p w = record {
  goes = lively_acts w.live (f w.live) (p.law w.live).goes;
  numbers = (p.law w.live).numbers;
  tuned = in_range_as w.live (f w.live) (p.law w.live).tune;
  dead = refl;
  running = refl;
  moment = refl;
}

-- where objects stand otherwise to the dumps
pub going_resaved : (f : Saving → Saving) (w : World) → Walk lively w.live.objects (all_saving f w.live.objects) → Going w (on_live (resaved f) w)
going_resaved f w walk = record {
  goes = goes_objects lively w.live (all_saving f w.live.objects) walk;
  numbers = refl;
  tuned = λ h. h;
  dead = refl;
  running = refl;
  moment = refl;
}

line_going : (d : ℕ) (w : World) (taker : Option ℤ) (player : Option Dbref) (editor : Option EditState) (line : List ℕ) (lines : List (List ℕ)) → player_in d w.live.board ≡ player →
    Going w (line_for taker player editor d line (on_live (waits d lines) w))
unfolding change_followed
line_going d w (Some pid) player editor line lines e = going_quietly w _ (given_quietly d pid line lines w)
line_going d w None None editor line lines e = let u : World = on_live (waits d lines) w in going_both w u _ (going_quietly w u (quietly_loose (waits d lines) (loose_waits d lines) w)) (going_live d (at_login d line) (seating_at_login d line) u)
line_going d w None (Some player) None line lines e = going_open _ _ w _ (open_in_world d player line lines w e)
line_going d w None (Some player) (Some s) line lines e = going_open _ _ w _ (open_in_editor d player s line lines w)

lines_going : (d : ℕ) (w : World) (player : Option Dbref) (editor : Option EditState) (lines : List (List ℕ)) → player_in d w.live.board ≡ player → Going w (line_done d player editor lines w)
lines_going d w player editor [] e = going_same w
lines_going d w player editor (line ∷ lines) e = line_going d w (reader d w.queue) player editor line lines e

pub done_going : (d : ℕ) (w : World) (o : Option Connection) → connection_in d w.live.board ≡ o → Going w (first_line_done d o w)
unfolding first_line_done
done_going d w None e = going_same w
done_going d w (Some c) e = lines_going d w c.player c.editor c.waiting (ap (λ (o : Option Connection). option_and_then (λ (k : Connection). k.player) o) e)
