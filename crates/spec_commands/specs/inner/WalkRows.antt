-- Who sees that a player walks, by an example.
use Rattle.std.specs.Prelude.{◌≡◌, ℕ, Bool, true, false, not, List, [], ◌∷◌, codes, Option, None, refl}
use Rattle.std.specs.Option.{option_map, option_map_or, option_and_then}
use Rattle.std.specs.FinMap.{get, empty, get-empty}
use Rattle.std.proofs.Common.{ap, ◌∙◌}
use Rattle.muck_model.specs.Numbers.{dbref_written as number_named}
use Rattle.muck_model.specs.declared.dbref.Dbref.{Dbref}
use Rattle.muck_model.specs.declared.dbref.Denial.{Denial}
use Rattle.muck_model.specs.declared.dbref.Kind.TheVariants.{Exit}
use Rattle.muck_prop.specs.Order.{path_cmp}
use Rattle.muck_prop.specs.Store.{PropMap}
use Rattle.muck_match.specs.Words.{is_same, begins_alike, texts_placed, aliases}
use Rattle.muck_match.specs.Scenery.{place_in_scenery as sight_place, things_in, exit_order}
use Rattle.muck_match.specs.Exits.{alias_takes, rest_behind, hits_in, leads_to_program, hits_at, hits, exit_for}
use Rattle.spec_live.specs.declared.object.Object.{Object}
use Rattle.spec_live.specs.declared.saving.Saving.TheVariants.{Done as Saved}
use Rattle.spec_live.specs.Objects.{Entry, dbref_of, object_at, number_in, kind_in, object_in, list_in, place_in, is_vehicle_in, flags_in, fits_in, places_from, changed_at}
use Rattle.spec_live.specs.Chain.{walk, has, without_number, follower}
use Rattle.spec_live.specs.Moving.{set_down, moved, move_judged, move_check}
use Rattle.spec_live.specs.Saving.{next_in, links_in, due_from, relinked}
use Rattle.spec_live.specs.Seen.{scenery_of, listed_in, places_of}
use Rattle.spec_live.specs.Output.{sent_lines, queue_most, sent_lines_bytes, line_sent, lines_sent, text_sent}
use Rattle.spec_live.specs.Start.{room_zero, player_one}
use Rattle.spec_live.specs.Worth.{message_of, message_at, kept_opens, opens_at}
use Rattle.spec_live.specs.Boards.{early_board, told_one, told_others}
use Rattle.spec_live.specs.Lives.{Live, Change, change_followed, ◌▸◌, reading, either, where_so, unchanged, tell, tell_but, tell_others}
use Rattle.spec_rights.specs.declared.act.Actor.{Actor}
use Rattle.spec_rights.specs.declared.act.Act.TheVariants.{Walk}
use Rattle.spec_rights.specs.Levels.{level_at, owns, controls_as, command_level, flag_at, name_shown}
use Rattle.spec_rights.specs.Verdict.{when, or_else, verdict}
use Rattle.spec_rights.specs.Asking.{denial_answered, asked}
use Rattle.spec_rights.specs.Changing.{moved_to}
use Rattle.spec_commands.specs.declared.outcome.Outcome.{Outcome}
use Rattle.spec_commands.specs.declared.outcome.Outcome.TheVariants.{Done}
use Rattle.spec_commands.specs.declared.typed.Typed.{Typed}
use Rattle.spec_live.specs.declared.message.Message.{Message}
use Rattle.spec_live.specs.declared.message.Message.TheVariants.{Success, OthersSuccess, Drop, OthersDrop, Describe}
use Rattle.spec_commands.specs.Messages.{message_name, message_path, spoken_some, with_message}
use Rattle.spec_commands.specs.Replies.{cant_go, has_left, has_arrived, contents_head}
use Rattle.spec_commands.specs.Finding.{is_object_so, message_shown, message_to_others, shown_others, names_listed, listed_under, seen_in, room_shown, place_looked_at}
use Rattle.spec_commands.specs.Going.{Play, ended, player_gone, both_shown, failed, link_at, led, tried, exit_walked}
use Rattle.spec_commands.specs.Commands.{played}
use Rattle.spec_commands.specs.inner.Company.{held, seats, player_two, queues}

abbrev holding : List ℕ → List ℕ → Object → Entry
holding contents exits o = record { object = o; contents = contents; exits = exits; mark = None; saving = Saved; stood = None }

-- One and Two stand in Room Zero, from which exit `#5` leads to Den `#3`; there is Three, and Four is in Attic `#6`
abbrev square : Live
square = held (
    holding (2 ∷ 1 ∷ []) (5 ∷ []) room_zero ∷
    holding [] [] player_one ∷
    holding [] [] player_two ∷
    holding (4 ∷ []) [] (record room_zero { name = codes "Den"; place = dbref_of 0 }) ∷
    holding [] [] (record player_two { name = codes "Three"; owner = dbref_of 4; place = dbref_of 3 }) ∷
    holding [] [] (record player_one { kind = Exit; name = codes "out;in"; link = dbref_of 3 }) ∷
    holding (7 ∷ []) [] (record room_zero { name = codes "Attic"; place = dbref_of 0 }) ∷
    holding [] [] (record player_two { name = codes "Four"; owner = dbref_of 7; place = dbref_of 6 }) ∷ []) (seats 1 (1 ∷ 2 ∷ 4 ∷ 7 ∷ []))

abbrev two : Actor
two = record { level = 1; user = dbref_of 2; player = dbref_of 2 }

abbrev after_walking : Live × Outcome
after_walking = played 2 two (codes "in") square

unfoldable pub WalkRows : Type 0
WalkRows =
    -- who walks sees the place, those who are left and those who are there see it, and nobody else does
    (queues after_walking.0.board.connections ≡ (codes "Two has left." ∷ []) ∷ (codes "Den" ∷ codes "Contents:" ∷ codes "Three" ∷ []) ∷ (codes "Two has arrived." ∷ []) ∷ [] ∷ [])
    × (after_walking.1 ≡ Done)
    × (list_in false after_walking.0.objects 0 ≡ 1 ∷ [])
    × (list_in false after_walking.0.objects 3 ≡ 2 ∷ 4 ∷ [])

abbrev door : Dbref
door = dbref_of 5

abbrev den : Dbref
den = dbref_of 3

abbrev typed : Typed
typed = record { word = codes "in"; rest = [] }

abbrev no_props : PropMap
no_props = empty

no_prop : (path : List (List ℕ)) → get no_props path ≡ None
no_prop path = get-empty path_cmp path

free : opens_at square.objects (dbref_of 2) door ≡ true
unfolding opens_at object_at number_in kind_in object_in room_zero player_one
free = ap (λ lock. option_map_or (kept_opens square.objects (dbref_of 2)) lock true) (no_prop (codes "_" ∷ codes "lok" ∷ []))

abbrev judged_by : Bool → Option Denial
judged_by opens = or_else (option_map (λ x. record { rule = 10; object = x }) (when (not opens) door)) None

allowed : verdict square.objects two (Walk door) ≡ None
unfolding object_at number_in kind_in object_in room_zero player_one
allowed = ap judged_by free

-- what has no message says nothing
unsaid : (m : Message) (x : Dbref) (go : List ℕ → Change) (w : Live) → message_at (message_path (message_name m)) x w.objects ≡ None → with_message two typed m x unchanged go w ≡ w
unfolding with_message reading unchanged
unsaid m x go w e = ap (λ text. spoken_some two typed m x unchanged go text w) e

abbrev aloud : List ℕ → Change
aloud text = shown_others (dbref_of 2) (32 ∷ text)

-- Two goes there
abbrev into_den : Change
into_den = shown_others (dbref_of 2) has_left ▸ moved_to (dbref_of 2) den ▸ shown_others (dbref_of 2) has_arrived

abbrev arrived : Live
arrived = into_den square

-- and looks
abbrev named : Live
named = reading (name_shown (dbref_of 2) den) (tell 2) arrived

abbrev company_shown : Change
company_shown = reading (seen_in (dbref_of 2) den) (listed_under 2 (dbref_of 2) contents_head unchanged)

quiet_door : (m : Message) → message_at (message_path (message_name m)) door square.objects ≡ None
unfolding message_at object_at number_in kind_in object_in room_zero player_one
quiet_door m = ap (λ value. option_and_then message_of value) (no_prop (message_path (message_name m)))

quiet_behind : (m : Message) → message_at (message_path (message_name m)) door arrived.objects ≡ None
unfolding message_at change_followed reading shown_others tell_others tell_but moved_to moved set_down next_in links_in due_from relinked follower walk has without_number changed_at place_in list_in object_at number_in kind_in object_in room_zero player_one
quiet_behind m = ap (λ value. option_and_then message_of value) (no_prop (message_path (message_name m)))

quiet_den : message_at (message_path (message_name Describe)) den named.objects ≡ None
unfolding message_at change_followed reading shown_others tell tell_others tell_but moved_to moved set_down next_in links_in due_from relinked follower walk has without_number changed_at place_in list_in object_at number_in kind_in object_in room_zero player_one
quiet_den = ap (λ value. option_and_then message_of value) (no_prop (message_path (message_name Describe)))

abbrev leads : Play
leads = reading (link_at door) (led 2 two typed door (codes "in"))

abbrev by_leave : Option Denial → Live × Outcome
by_leave denial = denial_answered denial (λ denial. ended Done (failed 2 two typed cant_go door)) (λ w. leads (both_shown 2 two typed Success OthersSuccess door w)) square

abbrev dropped_there : Live → Live × Outcome
dropped_there w = (place_looked_at 2 two typed (both_shown 2 two typed Drop OthersDrop door w), Done)

tried_so : after_walking ≡ leads square
unfolding played exit_walked tried asked where_so reading either change_followed is_object_so object_at number_in kind_in object_in list_in place_in walk room_zero player_one scenery_of listed_in places_of both_shown message_shown message_to_others exit_for hits hits_at hits_in leads_to_program alias_takes rest_behind is_same begins_alike texts_placed aliases sight_place things_in exit_order number_named
tried_so =
    ap by_leave allowed
    ∙ ap (λ w. leads (message_to_others two typed OthersSuccess door w)) (unsaid Success door (tell 2) square (quiet_door Success))
    ∙ ap leads (unsaid OthersSuccess door aloud square (quiet_door OthersSuccess))

led_so : leads square ≡ dropped_there arrived
unfolding led player_gone ended moved_to move_check move_judged where_so reading either change_followed is_object_so object_at number_in kind_in object_in list_in place_in places_from fits_in flags_in is_vehicle_in walk has room_zero player_one
led_so = refl

abbrev looks : Live → Live × Outcome
looks w = (place_looked_at 2 two typed w, Done)

seen_so : dropped_there arrived ≡ (company_shown named, Done)
unfolding both_shown message_shown message_to_others place_looked_at room_shown reading change_followed shown_others tell tell_others tell_but moved_to moved set_down next_in links_in due_from relinked follower walk has without_number changed_at place_in list_in object_at number_in kind_in object_in room_zero player_one
seen_so =
    ap (λ w. looks (message_to_others two typed OthersDrop door w)) (unsaid Drop door (tell 2) arrived (quiet_behind Drop))
    ∙ ap looks (unsaid OthersDrop door aloud arrived (quiet_behind OthersDrop))
    ∙ ap (λ w. (company_shown w, Done)) (unsaid Describe den (tell 2) named quiet_den)

walked_so : after_walking ≡ (company_shown named, Done)
walked_so = tried_so ∙ led_so ∙ seen_so

pub walk_rows : WalkRows
unfolding WalkRows change_followed reading either unchanged tell tell_others tell_but told_one told_others sent_lines queue_most sent_lines_bytes line_sent lines_sent text_sent shown_others has_left has_arrived contents_head seen_in names_listed listed_under name_shown level_at owns controls_as command_level flag_at listed_in moved_to moved set_down next_in links_in due_from relinked follower walk has without_number changed_at place_in list_in object_at number_in kind_in object_in room_zero player_one early_board
walk_rows = (
  ap (λ (p : Live × Outcome). queues p.0.board.connections) walked_so,
  ap (λ (p : Live × Outcome). p.1) walked_so,
  ap (λ (p : Live × Outcome). list_in false p.0.objects 0) walked_so,
  ap (λ (p : Live × Outcome). list_in false p.0.objects 3) walked_so,
)
