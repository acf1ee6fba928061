-- How players go, take and drop.
use Rattle.std.specs.Prelude.{ℕ, Bool, true, false, not, ◌&&◌, ◌||◌, ◌==◌, if◌then◌else◌, List, take, drop, Option, Some, None, Result, Ok, Err}
use Rattle.std.specs.Option.{option_map_or}
use Rattle.muck_model.specs.declared.dbref.Dbref.{Dbref}
use Rattle.muck_model.specs.declared.dbref.Denial.{Denial}
use Rattle.muck_match.specs.declared.exits.ExitHit.{ExitHit}
use Rattle.muck_match.specs.Exits.{exit_for}
use Rattle.spec_live.specs.declared.fault.DbFault.{DbFault}
use Rattle.spec_live.specs.Objects.{nothing, home, same, is_thing, is_program, object_at}
use Rattle.spec_live.specs.Moving.{move_check}
use Rattle.spec_live.specs.Seen.{scenery_of, listed_in}
use Rattle.spec_live.specs.Lives.{Live, Change, change_followed, ◌▸◌, reading, either, unchanged, tell, place_at, name_at}
use Rattle.spec_rights.specs.declared.act.Actor.{Actor}
use Rattle.spec_rights.specs.declared.act.Act.TheVariants.{Walk, Take}
use Rattle.spec_rights.specs.Asking.{asked, refused}
use Rattle.spec_rights.specs.Changing.{moved_to}
use Rattle.spec_commands.specs.declared.outcome.Outcome.{Outcome}
use Rattle.spec_commands.specs.declared.outcome.Outcome.TheVariants.{Done, Start}
use Rattle.spec_commands.specs.declared.typed.Typed.{Typed}
use Rattle.spec_live.specs.declared.message.Message.{Message}
use Rattle.spec_live.specs.declared.message.Message.TheVariants.{Success, OthersSuccess, Fail, OthersFail, Drop, OthersDrop}
use Rattle.spec_commands.specs.Replies.{cant_be_done, cant_go, cant_take, has_left, has_arrived, carrying_head, carrying_nothing, taken_reply, dropped_reply}
use Rattle.spec_commands.specs.Finding.{where_so, is_room_at, is_object_so, message_or, message_shown, message_to_others, shown_others, listed_under, place_looked_at}

-- A line of a player: what it does, and what is to follow.
abbrev pub Play : Type 0
Play = Live → Live × Outcome

unfoldable pub ended : Outcome → Change → Play
ended outcome f w = (f w, outcome)

-- Moving.

abbrev pub home_at : Dbref → Live → Dbref
home_at x w = option_map_or (λ o. o.home) (object_at x w.objects) nothing

abbrev pub link_at : Dbref → Live → Dbref
link_at x w = option_map_or (λ o. o.link) (object_at x w.objects) nothing

abbrev pub may_move : {X : Type 0} → Result X DbFault → Bool
may_move (Ok p) = true
may_move (Err fault) = false

abbrev pub movable : Dbref → Dbref → Live → Bool
movable x to w = may_move (move_check x to w.objects)

-- x is moved, and go follows; where the world refuses that is told
unfoldable pub thing_moving : ℕ → Dbref → Dbref → Change → Change
thing_moving d x to go = where_so (movable x to) (tell d cant_be_done) (moved_to x to ▸ go)

-- the player goes to another place: others see it leave and arrive, then `seen` is shown, and it looks
unfoldable pub player_gone : ℕ → Actor → Typed → Dbref → Change → Change
player_gone d a typed to seen =
    where_so (movable a.player to) (tell d cant_be_done)
    (shown_others a.player has_left ▸ moved_to a.player to ▸ shown_others a.player has_arrived ▸ seen ▸ place_looked_at d a typed)

-- the player walks home
unfoldable pub gone_home : ℕ → Actor → Typed → Change
gone_home d a typed = reading (home_at a.player) (λ to. player_gone d a typed to unchanged)

-- What a player and the others see who are there.

-- the player sees one message of x, and the others another, each where x has it
unfoldable pub both_shown : ℕ → Actor → Typed → Message → Message → Dbref → Change
both_shown d a typed mine theirs x = message_shown d a typed mine x ▸ message_to_others a typed theirs x

-- the player may do something with x
abbrev pub succeeded : ℕ → Actor → Typed → Dbref → Change
succeeded d a typed x = both_shown d a typed Success OthersSuccess x

-- the player may not
unfoldable pub failed : ℕ → Actor → Typed → List ℕ → Dbref → Change
failed d a typed otherwise x = message_or d a typed otherwise Fail x ▸ message_to_others a typed OthersFail x

-- the player went through x, or dropped it
abbrev pub drop_shown : ℕ → Actor → Typed → Dbref → Change
drop_shown d a typed x = both_shown d a typed Drop OthersDrop x

-- Exits.

-- what stands behind the words that an exit takes
abbrev pub argument_of : ExitHit → List ℕ → List ℕ
argument_of hit line = drop hit.rest line

-- the alias of the exit, as its name spells it
abbrev pub alias_of : ExitHit → Live → List ℕ
alias_of hit w = drop hit.alias.0 (take hit.alias.1 (name_at hit.exit w))

abbrev pub exit_typed : ExitHit → List ℕ → Live → Typed
exit_typed hit line w = record { word = alias_of hit w; rest = argument_of hit line }

-- the place to which a link leads: home is the player's own
abbrev pub led_place : Dbref → Dbref → Live → Dbref
led_place player to w = if same to home then home_at player w else to

abbrev pub is_program_there : Dbref → Live → Bool
is_program_there x w = is_object_so (λ o. is_program o.kind) x w

-- the exit leads there: a program is to be started, and to any other place the player goes
unfoldable pub led : ℕ → Actor → Typed → Dbref → List ℕ → Dbref → Play
led d a typed exit line to =
    either (same to nothing) (ended Done (tell d cant_go))
    (where_so (is_program_there to)
    (ended Done (reading (led_place a.player to) (λ place. player_gone d a typed place (drop_shown d a typed exit))))
    (ended (Start to exit line typed.rest) unchanged))

-- the player tries the exit: its messages of failure or of success, and then it goes to where the exit leads
unfoldable pub tried : ℕ → Actor → Typed → Dbref → List ℕ → Play
tried d a typed exit line =
    asked a (Walk exit) (λ denial. ended Done (failed d a typed cant_go exit))
    (change_followed (succeeded d a typed exit) (reading (link_at exit) (led d a typed exit line)))

-- the player walks through an exit that takes the line
unfoldable pub exit_walked : ℕ → Actor → ExitHit → List ℕ → Play
exit_walked d a hit line = reading (exit_typed hit line) (λ typed. tried d a typed hit.exit line)

abbrev pub walked_some : ℕ → Actor → List ℕ → Option ExitHit → Play
walked_some d a line None = ended Done (tell d cant_go)
walked_some d a line (Some hit) = exit_walked d a hit line

-- `go` and the words that an exit takes
unfoldable pub player_went : ℕ → Actor → List ℕ → Play
player_went d a line = reading (λ w. exit_for (scenery_of w.objects) a.player line) (walked_some d a line)

-- Taking and dropping.

abbrev pub is_item : Dbref → Live → Bool
is_item x w = is_object_so (λ o. is_thing o.kind || is_program o.kind) x w

-- a lock that doesn't open is told by the object's own messages, and any other denial by its rule
abbrev pub not_taken : ℕ → Actor → Typed → Dbref → Denial → Change
not_taken d a typed x denial = either (denial.rule == 10) (failed d a typed cant_take x) (refused d denial)

unfoldable pub thing_taken : ℕ → Actor → Typed → Dbref → Change
thing_taken d a typed x =
    where_so (is_item x) (tell d cant_be_done)
    (asked a (Take x) (not_taken d a typed x) (succeeded d a typed x ▸ thing_moving d x a.player (tell d taken_reply)))

abbrev pub is_carried : Dbref → Dbref → Live → Bool
is_carried player x w = is_object_so (λ o. (is_thing o.kind || is_program o.kind) && same o.place player) x w

-- where something goes that is dropped: to the place, or where the room sends it
abbrev pub drop_place : Dbref → Live → Dbref
drop_place player w =
    let here = place_at player w in
    if is_room_at here w && not (same (link_at here w) nothing) then link_at here w else here

unfoldable pub dropped : ℕ → Actor → Typed → Dbref → Change
dropped d a typed x =
    where_so (is_carried a.player x) (tell d cant_be_done)
    (reading (drop_place a.player) (λ to. thing_moving d x to (tell d dropped_reply ▸ drop_shown d a typed x)))

-- what the player carries
unfoldable pub inventory_shown : ℕ → Dbref → Change
inventory_shown d player = reading (λ w. listed_in false player w.objects) (listed_under d player carrying_head (tell d carrying_nothing))
