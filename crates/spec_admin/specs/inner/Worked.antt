-- Lines of keepers, by examples, which the checker computes.
use Rattle.std.specs.Prelude.{◌≡◌, ℕ, pos, List, [], ◌∷◌, codes, Option, Some, None, refl}
use Rattle.std.specs.Fmt.{digits}
use Rattle.muck_model.specs.Decimal.{decimal_of}
use Rattle.muck_model.specs.Numbers.{dbref_written as number_named}
use Rattle.muck_match.specs.Words.{is_same, begins_alike, has_word, texts_placed, aliases}
use Rattle.muck_match.specs.Scenery.{numbers, place_in_scenery as sight_place, things_in, exit_order, is_in_scenery}
use Rattle.muck_match.specs.Naming.{name_fits, answers_to, objects_near, near, name_matched, if_there, found_by_sign, thing_found, player_named}
use Rattle.spec_live.specs.Output.{sent_lines, queue_most, sent_lines_bytes, line_sent, lines_sent, text_sent}
use Rattle.spec_live.specs.Objects.{dbref_of, object_at, number_in, kind_in, flags_in, place_in, object_in, list_in, is_vehicle_in, fits_in, changed_at, garbage}
use Rattle.spec_live.specs.Chain.{walk, has, without_number}
use Rattle.spec_live.specs.Making.{objects_most, free_in, blank_entry, objects_grown, new_object, created, may_make, make_judged, owner_judged, create_check}
use Rattle.spec_live.specs.Moving.{moved}
use Rattle.spec_live.specs.Setting.{checked, password_check}
use Rattle.spec_live.specs.Start.{room_zero, player_one}
use Rattle.spec_live.specs.Seen.{scenery_of, listed_in, places_of, flag_letters, long_form}
use Rattle.spec_live.specs.Boards.{first_tune, early_board, told_one, told_all, random_drawn}
use Rattle.spec_live.specs.Lives.{change_followed, reading, either, unchanged, tell, tell_all, draw}
use Rattle.spec_rights.specs.declared.act.Actor.{Actor}
use Rattle.spec_rights.specs.Levels.{level_at, owner_at, flag_at, owns, controls_as}
use Rattle.spec_rights.specs.Verdict.{controls, controls_or}
use Rattle.spec_rights.specs.Asking.{asked, denied_text, refused}
use Rattle.spec_rights.specs.Changing.{created_so, password_kept, connections_left}
use Rattle.spec_commands.specs.declared.outcome.Outcome.{Outcome}
use Rattle.spec_commands.specs.declared.outcome.Outcome.TheVariants.{Done, NotMine, Dump, Stop, Retune}
use Rattle.spec_commands.specs.Replies.{bad_name, cant_be_done, usage, created_reply, not_understood}
use Rattle.spec_commands.specs.Finding.{for_each, finding, finding_player, where_so, is_object_so}
use Rattle.spec_commands.specs.Going.{ended}
use Rattle.spec_commands.specs.Building.{is_name, is_player_name, created_shown, done_where, change_by_leave}
use Rattle.spec_commands.specs.Reading.{incomplete, name_judged, object_sought, with_fit, with_parts, with_arguments, by_table}
use Rattle.spec_commands.specs.inner.EditRows.{desk, one, two}
use Rattle.spec_commands.specs.inner.ProgramRows.{played_so, shows}
use Rattle.muck_queue.specs.declared.mode.Mode.TheVariants.{Background}
use Rattle.muck_queue.specs.declared.mode.Wait.TheVariants.{Nothing}
use Rattle.muck_queue.specs.declared.process.Process.{Process}
use Rattle.muck_queue.specs.Queues.{Queue}
use Rattle.muck_model.specs.Parameters.{parameters}
use Rattle.spec_admin.specs.Parameters.{retuned}
use Rattle.spec_admin.specs.Replies.{process_line, processes_count, killed_reply, no_process_reply, parameter_line, parameter_reply, bad_parameter, booted_reply, shouts, password_reply, dumping_reply, going_down}
use Rattle.spec_admin.specs.Processes.{process_shown, processes_shown, kill_told}
use Rattle.spec_admin.specs.Players.{password_most, password_drawn, player_put, player_made, password_changed}
use Rattle.spec_admin.specs.Lines.{parameter_shown, parameters_shown, parameter_set, tune_done, player_booted, shouted, admin_words, admin_done, admin_line, line_ends}

-- a process of this player, of the program `#3`
abbrev pub process_of : ℕ → ℕ → Process
process_of n player = record {
  number = pos n;
  due = 0;
  player = dbref_of player;
  trigger = dbref_of 3;
  command = codes "go";
  descr = None;
  program = dbref_of 3;
  mode = Background;
  wait = Nothing;
  units = 0;
  section = 0;
  events = [];
  running = None;
}

-- the first is One's, and the second Two's
abbrev pub both_run : Queue
both_run = record { processes = process_of 1 1 ∷ process_of 2 2 ∷ []; last = pos 2; claims = [] }

-- a line on One's connection, where a program `#3` is One's: what is shown there, and what is to follow
abbrev pub typed : Actor → List ℕ → List (List (List ℕ)) × Outcome
typed a line = played_so (admin_line both_run 1 a line (desk 1))

abbrev pub ends_by : Actor → List ℕ → Option Process
ends_by a line = line_ends a both_run line (desk 1)

-- the rows
unfoldable pub WorkedRows : Type 0
WorkedRows =
    -- who may end which: others aren't shown
    (typed one (codes "@ps") ≡ ((codes "1 #3 One" ∷ codes "2 #3 Two" ∷ codes "2 processes." ∷ []) ∷ [], Done))
    × (typed two (codes "@PS all") ≡ ((codes "2 #3 Two" ∷ codes "1 processes." ∷ []) ∷ [], Done))
    -- one's own, another's, and one that no process has as its number
    × (typed two (codes "@kill 2") ≡ (shows killed_reply, Done))
    × (ends_by two (codes "@kill 2") ≡ Some (process_of 2 2))
    × (typed two (codes "@kill 1") ≡ (shows (codes "Permission denied (P23)."), Done))
    × (ends_by two (codes "@kill 1") ≡ None)
    × (ends_by one (codes "@Kill 2 ") ≡ Some (process_of 2 2))
    × (typed one (codes "@kill 01") ≡ (shows no_process_reply, Done))
    × (ends_by one (codes "@kill 01") ≡ None)
    × (typed one (codes "@kill") ≡ (shows (codes "Usage: @kill"), Done))
    -- a part that is missing, before the rule, and the rule before what is wrong with a parameter
    × (typed two (codes "@TUNE instr_slice=") ≡ (shows (codes "Usage: @tune"), Done))
    × (typed two (codes "@tune x=0") ≡ (shows (codes "Permission denied (P17)."), Done))
    × (typed two (codes "@tune") ≡ (shows (codes "Permission denied (P17)."), Done))
    -- values from 1 to the most, of a parameter of exactly that name
    × (typed one (codes "@tune instr_slice=0") ≡ (shows bad_parameter, Done))
    × (typed one (codes "@tune instr_slice=20001") ≡ (shows bad_parameter, Done))
    × (typed one (codes "@tune instr_slice=010") ≡ (shows bad_parameter, Done))
    × (typed one (codes "@tune Instr_slice=1") ≡ (shows bad_parameter, Done))
    × (typed one (codes "@tune instr_slice = 20000") ≡ (shows parameter_reply, Retune (record first_tune { instr_slice = 20000 })))
    -- a player is looked for before the rule, and a name is judged before it
    × (typed two (codes "@boot Nobody") ≡ (shows (not_understood (codes "Nobody")), Done))
    × (typed two (codes "@boot One") ≡ (shows (codes "Permission denied (P17)."), Done))
    × (typed two (codes "@pcreate one=secret") ≡ (shows bad_name, Done))
    -- so is how long a password is
    × (typed two (codes "@pcreate Three=123456789012345678901234567890123") ≡ (shows cant_be_done, Done))
    × (typed two (codes "@newpassword One=12345678901234567890123456789012") ≡ (shows (codes "Permission denied (P17)."), Done))
    -- what follows
    × (typed one (codes "@wall hi") ≡ (shows (codes "One shouts, \"hi\""), Done))
    × (typed one (codes "@dump") ≡ (shows dumping_reply, Dump))
    × (typed one (codes "@shutdown now") ≡ (shows going_down, Stop))
    × (typed two (codes "@shutdown") ≡ (shows (codes "Permission denied (P17)."), Done))
    -- what isn't one of these words
    × (typed one (codes "@tunes") ≡ ([] ∷ [], NotMine))

pub worked_rows : WorkedRows
unfolding WorkedRows number_named is_same begins_alike has_word texts_placed aliases numbers sight_place things_in exit_order is_in_scenery name_fits answers_to objects_near near name_matched if_there found_by_sign thing_found player_named sent_lines queue_most sent_lines_bytes line_sent lines_sent text_sent object_at number_in kind_in flags_in place_in object_in list_in is_vehicle_in fits_in changed_at garbage walk has without_number objects_most free_in blank_entry objects_grown new_object created may_make make_judged owner_judged create_check moved checked password_check room_zero player_one scenery_of listed_in places_of flag_letters long_form first_tune early_board told_one told_all random_drawn change_followed reading either unchanged tell tell_all draw level_at owner_at flag_at owns controls_as controls controls_or asked denied_text refused created_so password_kept connections_left bad_name cant_be_done usage created_reply not_understood for_each finding finding_player where_so is_object_so ended is_name is_player_name created_shown done_where change_by_leave incomplete name_judged object_sought with_fit with_parts with_arguments by_table parameters retuned process_line processes_count killed_reply no_process_reply parameter_line parameter_reply bad_parameter booted_reply shouts password_reply dumping_reply going_down process_shown processes_shown kill_told password_most password_drawn player_put player_made password_changed parameter_shown parameters_shown parameter_set tune_done player_booted shouted admin_words admin_done admin_line line_ends decimal_of digits
worked_rows = (refl, refl, refl, refl, refl, refl, refl, refl, refl, refl, refl, refl, refl, refl, refl, refl, refl, refl, refl, refl, refl, refl, refl, refl, refl, refl, refl, refl)
