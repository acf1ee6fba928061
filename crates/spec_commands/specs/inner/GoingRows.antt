-- Who sees what a player takes, by an example.
use Rattle.std.specs.Prelude.{◌≡◌, ℕ, Bool, true, false, not, List, [], ◌∷◌, codes, Option, None}
use Rattle.std.specs.Option.{option_map, option_map_or, option_and_then}
use Rattle.std.specs.FinMap.{get, empty, get-empty}
use Rattle.std.proofs.Common.{ap, ◌∙◌}
use Rattle.muck_model.specs.declared.dbref.Dbref.{Dbref}
use Rattle.muck_model.specs.declared.dbref.Denial.{Denial}
use Rattle.muck_model.specs.declared.dbref.Kind.TheVariants.{Thing}
use Rattle.muck_prop.specs.Order.{path_cmp}
use Rattle.muck_prop.specs.Store.{PropMap}
use Rattle.spec_live.specs.Objects.{dbref_of, object_at, number_in, kind_in, object_in, list_in, place_in, owner_in, is_vehicle_in, flags_in, fits_in, places_from, changed_at}
use Rattle.spec_live.specs.Chain.{walk, has, without_number, follower}
use Rattle.spec_live.specs.Moving.{set_down, moved, move_judged, move_check}
use Rattle.spec_live.specs.Saving.{next_in, links_in, due_from, relinked}
use Rattle.spec_live.specs.Output.{sent_lines, queue_most, sent_lines_bytes, line_sent, lines_sent, text_sent}
use Rattle.spec_live.specs.Start.{room_zero, player_one}
use Rattle.spec_live.specs.Worth.{message_of, message_at, kept_opens, opens_at}
use Rattle.spec_live.specs.Boards.{early_board, told_one}
use Rattle.spec_live.specs.Lives.{Live, Change, change_followed, reading, either, where_so, unchanged, tell}
use Rattle.spec_rights.specs.declared.act.Act.TheVariants.{Take}
use Rattle.spec_rights.specs.Verdict.{when, or_else, verdict}
use Rattle.spec_rights.specs.Asking.{denial_answered, asked}
use Rattle.spec_rights.specs.Changing.{moved_to}
use Rattle.spec_commands.specs.declared.typed.Typed.{Typed}
use Rattle.spec_live.specs.declared.message.Message.{Message}
use Rattle.spec_live.specs.declared.message.Message.TheVariants.{Success, OthersSuccess}
use Rattle.spec_commands.specs.Messages.{message_name, message_path, spoken_some, with_message}
use Rattle.spec_commands.specs.Replies.{taken_reply}
use Rattle.spec_commands.specs.Finding.{is_object_so, message_shown, message_to_others, shown_others}
use Rattle.spec_commands.specs.Going.{both_shown, thing_moving, not_taken, thing_taken}
use Rattle.spec_commands.specs.inner.Company.{held, seats, player_two, queues}
use Rattle.spec_commands.specs.inner.EditRows.{one}
use Rattle.spec_commands.specs.inner.TalkRows.{holding}

-- One and Two stand in Room Zero, where ball `#3` lies
abbrev hall : Live
hall = held (
    holding (3 ∷ 2 ∷ 1 ∷ []) room_zero ∷
    holding [] player_one ∷
    holding [] player_two ∷
    holding [] (record player_one { kind = Thing; name = codes "ball" }) ∷ []) (seats 1 (1 ∷ 2 ∷ []))

abbrev ball : Dbref
ball = dbref_of 3

abbrev typed : Typed
typed = record { word = codes "get"; rest = codes "ball" }

abbrev after_taking : Live
after_taking = thing_taken 1 one typed ball hall

unfoldable pub GoingRows : Type 0
GoingRows =
    -- who takes is told, and the ball is where it should be
    (queues after_taking.board.connections ≡ (codes "Taken." ∷ []) ∷ [] ∷ [])
    × (list_in false after_taking.objects 1 ≡ 3 ∷ [])
    × (list_in false after_taking.objects 0 ≡ 2 ∷ 1 ∷ [])

abbrev no_props : PropMap
no_props = empty

no_prop : (path : List (List ℕ)) → get no_props path ≡ None
no_prop path = get-empty path_cmp path

free : opens_at hall.objects (dbref_of 1) ball ≡ true
unfolding opens_at object_at number_in kind_in object_in room_zero player_one
free = ap (λ lock. option_map_or (kept_opens hall.objects (dbref_of 1)) lock true) (no_prop (codes "_" ∷ codes "lok" ∷ []))

abbrev judged_by : Bool → Option Denial
judged_by opens = or_else (option_map (λ x. record { rule = 10; object = x }) (when (not opens) ball)) None

allowed : verdict hall.objects one (Take ball) ≡ None
unfolding object_at number_in kind_in object_in room_zero player_one
allowed = ap judged_by free

no_message : (m : Message) → message_at (message_path (message_name m)) ball hall.objects ≡ None
unfolding message_at object_at number_in kind_in object_in room_zero player_one
no_message m = ap (λ value. option_and_then message_of value) (no_prop (message_path (message_name m)))

unsaid : (m : Message) (go : List ℕ → Change) → with_message one typed m ball unchanged go hall ≡ hall
unfolding with_message reading unchanged
unsaid m go = ap (λ text. spoken_some one typed m ball unchanged go text hall) (no_message m)

abbrev aloud : Change
aloud = message_to_others one typed OthersSuccess ball

abbrev into_hand : Change
into_hand = thing_moving 1 ball (dbref_of 1) (tell 1 taken_reply)

abbrev by_leave : Option Denial → Live
by_leave denial = denial_answered denial (not_taken 1 one typed ball) (λ w. into_hand (aloud (message_shown 1 one typed Success ball w))) hall

taken_so : after_taking ≡ into_hand hall
unfolding thing_taken asked where_so reading either change_followed is_object_so object_at number_in kind_in object_in room_zero player_one both_shown message_shown message_to_others
taken_so =
    ap by_leave allowed
    ∙ ap (λ w. into_hand (aloud w)) (unsaid Success (tell 1))
    ∙ ap into_hand (unsaid OthersSuccess (λ text. shown_others (dbref_of 1) (32 ∷ text)))

pub going_rows : GoingRows
unfolding GoingRows thing_moving moved_to moved where_so reading either change_followed tell told_one sent_lines queue_most sent_lines_bytes line_sent lines_sent text_sent set_down move_judged move_check next_in links_in due_from relinked follower walk has without_number changed_at places_from fits_in flags_in is_vehicle_in owner_in place_in list_in object_at number_in kind_in object_in room_zero player_one early_board taken_reply
going_rows = (
  ap (λ (w : Live). queues w.board.connections) taken_so,
  ap (λ (w : Live). list_in false w.objects 1) taken_so,
  ap (λ (w : Live). list_in false w.objects 0) taken_so,
)
