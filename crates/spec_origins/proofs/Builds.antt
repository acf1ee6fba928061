-- Behind a line of an editor that builds, the form that is kept is what building gives there.
use Rattle.std.proofs.Common.{◌≡◌, ℕ, ℤ, zero, suc, pos, negsuc, true, cond, List, [], ◌∷◌, Option, Some, None, refl, sym, ◌∙◌, ap, subst}
use Rattle.std.specs.Prelude.{slice_get, is_some, Result, Ok, Err}
use Rattle.std.specs.Option.{option_map, option_map_or, option_and_then}
use Rattle.std.proofs.lemmas.Bool.{and_parts}
use Rattle.muck_laws.proofs.Truths.{never_both}
use Rattle.muck_model.specs.declared.dbref.Dbref.{Dbref}
use Rattle.muck_model.specs.declared.edit.EditState.{EditState}
use Rattle.muck_model.specs.declared.event.Event.{Event}
use Rattle.muck_model.specs.declared.event.Event.TheVariants.{Exec}
use Rattle.spec_live.specs.Connections.{Connection}
use Rattle.spec_live.specs.Lives.{tell}
use Rattle.spec_live.specs.Objects.{Entry, index_of, object_at, changed_at}
use Rattle.spec_live.proofs.Lists.{get_changed_same}
use Rattle.spec_rights.proofs.Lookups.{at_negative}
use Rattle.spec_prims.specs.Asking.{object_numbered}
use Rattle.spec_commands.specs.declared.edit.EditStep.{EditStep}
use Rattle.spec_commands.specs.declared.edit.EditStep.TheVariants.{Stay, Compile, Left}
use Rattle.spec_commands.specs.Editing.{editor_exited, edited_by_line}
use Rattle.spec_commands.specs.Finding.{actor_of}
use Rattle.spec_commands.specs.Talk.{waits}
use Rattle.muf_model.specs.Tree.{Tree}
use Rattle.muck_library.specs.declared.flaw.Flaw.{Flaw}
use Rattle.muck_library.specs.Library.{Library, itself, form_at, with_form, form_kept, form_dropped}
use Rattle.muck_library.specs.Programs.{built_tree}
use Rattle.muck_queue.specs.Queues.{reader}
use Rattle.spec_events.specs.World.{World, connection, on_live}
use Rattle.spec_events.specs.Following.{settled}
use Rattle.spec_events.specs.Lines.{with_editor, compiled_so, compiled, next_editor, after_edit, edited_line, in_editor, line_for, line_done, first_line_done}
use Rattle.spec_events.specs.Steps.{happened}
use Rattle.spec_origins.specs.Builds.{built_form, StepBuilds, EditorBuilds, LineBuilds, SeatBuilds, EventBuilds}
use Rattle.spec_origins.proofs.Named.{Stands, so_there}

-- Forms.

form_put : (n : ℕ) (tree : Tree) (library : Library) → option_and_then itself (slice_get (with_form n tree library) n) ≡ Some tree
form_put zero tree [] = refl
form_put zero tree (form ∷ forms) = refl
form_put (suc n) tree [] = form_put n tree []
form_put (suc n) tree (form ∷ forms) = form_put n tree forms

form_now : (d : Dbref) (tree : Tree) (library : Library) → is_some (index_of d) ≡ true → form_at d (form_kept d tree library) ≡ Some tree
unfolding form_at form_kept
form_now d tree library = at (index_of d)
  where
    at : (o : Option ℕ) → is_some o ≡ true → option_and_then (λ n. option_and_then itself (slice_get (option_map_or (λ n. with_form n tree library) o library) n)) o ≡ Some tree
    at None e = absurd cc
    at (Some n) e = form_put n tree library

none_at : (o : Option (Option Tree)) → option_and_then itself (option_map (λ form. None) o) ≡ None
none_at None = refl
none_at (Some x) = refl

form_none : (d : Dbref) (library : Library) → form_at d (form_dropped d library) ≡ None
unfolding form_at form_dropped
form_none d library = at (index_of d)
  where
    at : (o : Option ℕ) → option_and_then (λ n. option_and_then itself (slice_get (option_map_or (λ n. changed_at n (λ form. None) library) o library) n)) o ≡ None
    at None = refl
    at (Some n) = ap (option_and_then itself) (get_changed_same library n (λ form. None)) ∙ none_at (slice_get library n)

-- what is there has a place
place_there : (es : List Entry) (d : Dbref) → Stands es d → is_some (index_of d) ≡ true
place_there es d = at d.0
  where
    at : (z : ℤ) → Stands es (object_numbered z) → is_some (index_of (object_numbered z)) ≡ true
    at (pos n) h = refl
    at (negsuc n) h = never_both (is_some (object_at (object_numbered (negsuc n)) es)) h (ap is_some (at_negative es n))

-- Lines.

so_builds : (d : ℕ) (program : Dbref) (r : Result Tree Flaw) (w : World) → is_some (index_of program) ≡ true → built_tree w.live.objects program ≡ r → StepBuilds Compile program (compiled_so d program r w)
unfolding tell
so_builds d program (Ok tree) w h e = form_now program tree w.library h ∙ sym (ap built_form e)
so_builds d program (Err flaw) w h e = form_none program w.library ∙ sym (ap built_form e)

after_builds : (d : ℕ) (program : Dbref) (step : EditStep) (w : World) → is_some (index_of program) ≡ true → StepBuilds step program (after_edit d program step w)
unfolding compiled
after_builds d program Compile w h = so_builds d program (built_tree w.live.objects program) w h refl
after_builds d program Stay w h = tt
after_builds d program Left w h = tt

editor_builds : (d : ℕ) (player : Dbref) (s : EditState) (line : List ℕ) (w : World) → EditorBuilds d player s line w (in_editor d player s line w)
unfolding in_editor edited_line
editor_builds d player s line w e =
    let r = edited_by_line d (actor_of w.live.objects player) s line w.live in
    let x : World = record w { live = with_editor d (next_editor r.2 r.1) r.0 } in
    subst (λ b. StepBuilds r.2 s.program (cond b (after_edit d s.program r.2 (settled x)) (on_live (tell d editor_exited) w))) (sym e)
    (after_builds d s.program r.2 (settled x) (place_there w.live.objects s.program (so_there s.program w.live (and_parts _ _ e).0)))

abbrev At : Option ℤ → Option Dbref → Option EditState → List (List ℕ) → ℕ → World → World → Type 0
At None player editor lines d w v = LineBuilds d player editor lines w v
At (Some pid) player editor lines d w v = Unit {0}

for_builds : (d : ℕ) (pid : Option ℤ) (player : Option Dbref) (editor : Option EditState) (line : List ℕ) (lines : List (List ℕ)) (w : World) →
    At pid player editor (line ∷ lines) d w (line_for pid player editor d line (on_live (waits d lines) w))
for_builds d (Some pid) player editor line lines w = tt
for_builds d None None editor line lines w = tt
for_builds d None (Some player) None line lines w = tt
for_builds d None (Some player) (Some s) line lines w = editor_builds d player s line (on_live (with_editor d None) (on_live (waits d lines) w))

none_builds : (pid : Option ℤ) (player : Option Dbref) (editor : Option EditState) (d : ℕ) (w v : World) → At pid player editor [] d w v
none_builds (Some pid) player editor d w v = tt
none_builds None None editor d w v = tt
none_builds None (Some player) None d w v = tt
none_builds None (Some player) (Some s) d w v = tt

lines_build : (d : ℕ) (player : Option Dbref) (editor : Option EditState) (lines : List (List ℕ)) (w : World) → At (reader d w.queue) player editor lines d w (line_done d player editor lines w)
lines_build d player editor [] w = none_builds (reader d w.queue) player editor d w w
lines_build d player editor (line ∷ lines) w = for_builds d (reader d w.queue) player editor line lines w

seat_builds : (pid : Option ℤ) (c : Connection) (d : ℕ) (w v : World) → At pid c.player c.editor c.waiting d w v → SeatBuilds pid (Some c) d w v
seat_builds None c d w v h = h
seat_builds (Some pid) c d w v h = tt

nobody_builds : (pid : Option ℤ) (d : ℕ) (w v : World) → SeatBuilds pid None d w v
nobody_builds None d w v = tt
nobody_builds (Some pid) d w v = tt

done_builds : (d : ℕ) (w : World) → SeatBuilds (reader d w.queue) (connection d w) d w (first_line_done d (connection d w) w)
unfolding first_line_done
done_builds d w = at (connection d w)
  where
    at : (o : Option Connection) → SeatBuilds (reader d w.queue) o d w (first_line_done d o w)
    at None = nobody_builds (reader d w.queue) d w w
    at (Some c) = seat_builds (reader d w.queue) c d w (line_done d c.player c.editor c.waiting w) (lines_build d c.player c.editor c.waiting w)

pub event_builds : (event : Event) (w : World) (party : ℕ) → EventBuilds event w (happened w party event)
event_builds (Exec d) w party = done_builds d w
event_builds event w party = tt
