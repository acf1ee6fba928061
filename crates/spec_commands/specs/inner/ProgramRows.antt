-- What the commands of programs show, and what is to follow, by examples.
use Rattle.std.specs.Prelude.{◌≡◌, ℕ, List, [], ◌∷◌, refl, codes}
use Rattle.std.specs.Fmt.{digits}
use Rattle.muck_model.specs.Decimal.{decimal_of}
use Rattle.muck_model.specs.Numbers.{dbref_written as number_named}
use Rattle.muck_match.specs.Words.{is_same, begins_alike, has_word, texts_placed, aliases}
use Rattle.muck_match.specs.Scenery.{numbers, place_in_scenery as sight_place, things_in, exit_order, is_in_scenery}
use Rattle.muck_match.specs.Naming.{name_fits, answers_to, objects_near, near, name_matched, if_there, found_by_sign, thing_found}
use Rattle.spec_live.specs.Output.{sent_lines, queue_most, sent_lines_bytes, line_sent, lines_sent, text_sent}
use Rattle.spec_live.specs.Objects.{dbref_of, object_at, number_in, kind_in, flags_in, place_in, object_in, list_in, is_vehicle_in, fits_in, changed_at, garbage}
use Rattle.spec_live.specs.Chain.{walk, follower, has, without_number}
use Rattle.spec_live.specs.Making.{objects_most, free_in, blank_entry, objects_grown, new_object, created, may_make, make_judged, owner_judged, create_check}
use Rattle.spec_live.specs.Moving.{set_down, moved}
use Rattle.spec_live.specs.Saving.{next_in, links_in, due_from, relinked}
use Rattle.spec_live.specs.Start.{room_zero, player_one}
use Rattle.spec_live.specs.Seen.{scenery_of, listed_in, places_of, flag_letters, long_form}
use Rattle.spec_live.specs.Boards.{early_board, told_one}
use Rattle.spec_live.specs.Lives.{Live, change_followed, reading, either, unchanged, tell}
use Rattle.spec_rights.specs.declared.act.Actor.{Actor}
use Rattle.spec_rights.specs.Levels.{level_at, owner_at, flag_at, owns, controls_as}
use Rattle.spec_rights.specs.Verdict.{controls, controls_or}
use Rattle.spec_rights.specs.Asking.{asked, denied_text, refused}
use Rattle.spec_rights.specs.Changing.{created_so}
use Rattle.spec_commands.specs.declared.outcome.Outcome.{Outcome}
use Rattle.spec_commands.specs.declared.outcome.Outcome.TheVariants.{Done, NotMine, Start, Edit}
use Rattle.spec_commands.specs.Replies.{bad_name, cant_be_done, usage, created_reply, not_understood, entering_editor}
use Rattle.spec_commands.specs.Finding.{finding, where_so, is_object_so}
use Rattle.spec_commands.specs.Going.{ended}
use Rattle.spec_commands.specs.Building.{is_name, created_shown}
use Rattle.spec_commands.specs.Programming.{lines_shown, program_put, program_new, program_made, program_edited, program_listed, program_run}
use Rattle.spec_commands.specs.Reading.{incomplete, name_judged, object_sought, with_fit, with_parts, with_arguments, by_table}
use Rattle.spec_live.specs.Messages.{messages}
use Rattle.spec_commands.specs.Commands.{build_own, build_words, build_done, build_line}
use Rattle.spec_commands.specs.inner.Company.{company, queues}
use Rattle.spec_commands.specs.inner.EditRows.{desk, one, two}

-- what is shown, and what is to follow
abbrev pub played_so : Live × Outcome → List (List (List ℕ)) × Outcome
played_so (w, outcome) = (queues w.board.connections, outcome)

-- a line where One and Two are there, and a program `#3` that belongs to this player
abbrev pub typed : Actor → ℕ → List ℕ → List (List (List ℕ)) × Outcome
typed a owner line = played_so (build_line 1 a line (desk owner))

-- one line is shown
abbrev pub shows : List ℕ → List (List (List ℕ))
shows text = (text ∷ []) ∷ []

unfoldable pub ProgramRows : Type 0
ProgramRows =
    -- a new program gets the first free number, and its editor is to be opened
    (played_so (build_line 1 one (codes "@program ed") (company (1 ∷ []))) ≡ ((codes "Created ed(#3FM3)." ∷ entering_editor ∷ []) ∷ [], Edit (dbref_of 3)))
    × (typed one 1 (codes " @PROGRAM ") ≡ (shows (codes "Usage: @program"), Done))
    -- a name is judged before the player
    × (typed two 1 (codes "@program #ed") ≡ (shows bad_name, Done))
    × (typed two 1 (codes "@program ed") ≡ (shows (codes "Permission denied (P22)."), Done))
    -- editing
    × (typed one 1 (codes "@edit #3") ≡ (shows entering_editor, Edit (dbref_of 3)))
    × (typed two 1 (codes "@edit #3") ≡ (shows (codes "Permission denied (P16)."), Done))
    × (typed two 2 (codes "@Edit #3") ≡ (shows (codes "Permission denied (P22)."), Done))
    × (typed two 1 (codes "@edit me") ≡ (shows cant_be_done, Done))
    -- listing
    × (typed two 2 (codes "@list #3") ≡ (shows (codes "old"), Done))
    × (typed two 1 (codes "@list #3") ≡ (shows (codes "Permission denied (P16)."), Done))
    × (typed two 1 (codes "@list #9") ≡ (shows (not_understood (codes "#9")), Done))
    -- the line that starts a program is kept as it was typed
    × (typed two 2 (codes " @run #3 = a  b ") ≡ ([] ∷ [], Start (dbref_of 3) (dbref_of 3) (codes " @run #3 = a  b ") (codes "a  b")))
    × (typed two 2 (codes "@run #3=") ≡ ([] ∷ [], Start (dbref_of 3) (dbref_of 3) (codes "@run #3=") []))
    × (typed two 2 (codes "@run #3") ≡ (shows (codes "Usage: @run"), Done))
    × (typed two 1 (codes "@run #3=a") ≡ (shows (codes "Permission denied (P24)."), Done))
    × (typed two 1 (codes "@run #2=a") ≡ (shows cant_be_done, Done))
    -- what isn't one of these words
    × (typed one 1 (codes "@programs ed") ≡ ([] ∷ [], NotMine))

pub rows : ProgramRows
unfolding ProgramRows follower number_named is_same begins_alike has_word texts_placed aliases numbers sight_place things_in exit_order is_in_scenery name_fits answers_to objects_near near name_matched if_there found_by_sign thing_found sent_lines queue_most sent_lines_bytes line_sent lines_sent text_sent object_at number_in kind_in flags_in place_in object_in list_in is_vehicle_in fits_in changed_at garbage walk has without_number objects_most free_in blank_entry objects_grown new_object created may_make make_judged owner_judged create_check set_down moved next_in links_in due_from relinked room_zero player_one scenery_of listed_in places_of flag_letters long_form early_board told_one change_followed reading either unchanged tell level_at owner_at flag_at owns controls_as controls controls_or asked denied_text refused created_so bad_name cant_be_done usage created_reply not_understood entering_editor finding where_so is_object_so ended is_name created_shown lines_shown program_put program_new program_made program_edited program_listed program_run incomplete name_judged object_sought with_fit with_parts with_arguments by_table build_own build_words messages build_done build_line decimal_of digits
rows = (refl, refl, refl, refl, refl, refl, refl, refl, refl, refl, refl, refl, refl, refl, refl, refl, refl)
