-- The worked rows, which the checker computes.
use Rattle.std.proofs.Common.{ℕ, true, false, List, [], ◌∷◌, ◌++◌, take, refl, ◌∙◌}
use Rattle.std.specs.Prelude.{pos}
use Rattle.std.specs.Fmt.{digits}
use Rattle.spec_live.specs.Output.{sent_lines, queue_most, sent_lines_bytes, line_sent, lines_sent, text_sent}
use Rattle.spec_live.specs.Objects.{dbref_of, object_at, number_in, kind_in, flags_in, place_in, object_in, list_in, changed_at}
use Rattle.spec_live.specs.Boards.{first_tune, early_board, told_one, told_player}
use Rattle.spec_live.specs.Lives.{unchanged, tell, tell_player}
use Rattle.spec_live.specs.Start.{room_zero, player_one, first_objects}
use Rattle.spec_rights.specs.Levels.{level_at, owner_at, flag_at, owns, controls_as, effective, inherits, level, user}
use Rattle.spec_rights.specs.Verdict.{controls, controls_or}
use Rattle.muf_debug.specs.declared.places.Spot.{Spot}
use Rattle.muf_debug.specs.Shown.{new_tracer, views_told}
use Rattle.spec_prims.specs.Asking.{level_fault, is_number_there, near_fault}
use Rattle.spec_prims.specs.Shared.{first_fault, shared}
use Rattle.muck_queue.specs.Queues.{empty_queue, number_most, is_queue_full, process_added, on_process, without_process}
use Rattle.spec_events.specs.World.{world_booted, starting_world}
use Rattle.spec_events.specs.Starting.{new_process}
use Rattle.spec_events.specs.Following.{swept, settled}
use Rattle.spec_events.specs.Slices.{acting, row_done, deed, program_error, unit_taken, units_run, sliced}
use Rattle.spec_events.specs.inner.Rows.{running, running_of, bounded, words, two_numbers}
use Rattle.muf_model.specs.declared.code.Word.TheVariants.{Primitive}
use Rattle.muf_model.specs.declared.prims.Primitive.TheVariants.{Pop}
use Rattle.muf_model.specs.Tree.{stop}
use Rattle.spec_views.proofs.Showing.{keeps_those}
use Rattle.spec_views.specs.inner.Rows.{sum, first_views, next_views, nine_sevens, comes, of_main, on_line, Rows}

-- a break at this line of the program `#3`
abbrev at_line : ℕ → List Spot
at_line line = record { program = dbref_of 3; line = line } ∷ []

pub rows : Rows
unfolding views_told new_tracer digits sent_lines queue_most sent_lines_bytes line_sent lines_sent text_sent object_at number_in kind_in flags_in place_in object_in list_in changed_at first_tune early_board told_one told_player unchanged tell tell_player room_zero player_one first_objects level_at owner_at flag_at owns controls_as effective inherits level user controls controls_or empty_queue number_most is_queue_full process_added on_process without_process world_booted starting_world new_process acting level_fault is_number_there near_fault first_fault shared row_done deed program_error swept settled unit_taken units_run sliced
rows = record {
  trace_row = keeps_those [] true [] (first_views (running sum)) ∙ refl;
  break_row = keeps_those [] false (at_line 3) (first_views (running sum)) ∙ refl;
  elsewhere_row = keeps_those [] false (at_line 5) (first_views (running sum)) ∙ refl;
  pop_row = keeps_those [] true [] (first_views (running (words (Primitive Pop ∷ [])))) ∙ refl;
  scope_row = keeps_those [] true [] (first_views (running (of_main 1 1 (on_line 1 (Primitive Pop ∷ []) stop)))) ∙ refl;
  limit_row = keeps_those [] true [] (first_views (bounded 3 (running_of 2 (words two_numbers)))) ∙ refl;
  next_row = keeps_those [] true [] (take 1 (next_views nine_sevens)) ∙ refl;
  stays_row = keeps_those [] false (at_line 1) (first_views nine_sevens ++ next_views nine_sevens) ∙ refl;
  nobody_row = refl;
  others_row = keeps_those [] false (at_line 3) (comes (pos 1) ∷ comes (pos 2) ∷ comes (pos 1) ∷ []) ∙ refl;
}
