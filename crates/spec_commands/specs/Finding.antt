-- Finding what a line names, and showing it.
use Rattle.std.specs.Prelude.{ℕ, Bool, true, false, not, ◌&&◌, ◌||◌, List, [], ◌∷◌, ◌++◌, Option, Some, None}
use Rattle.std.specs.Option.{option_map_or}
use Rattle.std.specs.List.{filter}
use Rattle.muck_model.specs.declared.dbref.Dbref.{Dbref}
use Rattle.muck_match.specs.declared.naming.Found.{Found}
use Rattle.muck_match.specs.declared.naming.Found.TheVariants.{One, None as Nobody, Many}
use Rattle.muck_match.specs.Naming.{thing_found, player_named}
use Rattle.spec_live.specs.declared.object.Object.{Object}
use Rattle.spec_live.specs.Flags.{dark}
use Rattle.spec_live.specs.Objects.{Entry, same, is_room, object_at}
use Rattle.spec_live.specs.Seen.{scenery_of, listed_in}
unfoldable pub use Rattle.spec_live.specs.Lives.{where_so}
use Rattle.spec_live.specs.Lives.{Live, Change, ◌▸◌, reading, unchanged, tell, tell_others, place_at, name_at}
use Rattle.spec_rights.specs.declared.act.Actor.{Actor}
use Rattle.spec_live.specs.Worth.{lock_text}
use Rattle.spec_rights.specs.Levels.{command_level, controls_as, flag_at, name_shown, owner_at}
use Rattle.spec_commands.specs.declared.typed.Typed.{Typed}
use Rattle.spec_live.specs.declared.message.Message.{Message}
use Rattle.spec_live.specs.declared.message.Message.TheVariants.{Describe}
use Rattle.spec_commands.specs.Replies.{not_understood, not_known, contents_head, cant_be_done, nothing_special, owner_line, lock_line}
use Rattle.spec_commands.specs.Messages.{with_message}
pub use Rattle.spec_commands.specs.Messages.{message_path}

-- A command acts by the rights of its player.
unfoldable pub actor_of : List Entry → Dbref → Actor
actor_of es player = record { level = command_level es player; user = player; player = player }

-- this is done for each of these, one after another
unfoldable pub for_each : {X : Type 0} → (X → Change) → List X → Change
for_each go [] = unchanged
for_each go (x ∷ xs) = go x ▸ for_each go xs

-- Finding. `refuse` says how a command ends that doesn't find what it was told.

abbrev pub object_chosen : {W Y : Type 0} → (List ℕ → W → Y) → List ℕ → (Dbref → W → Y) → Found → W → Y
object_chosen refuse text go (One x) = go x
object_chosen refuse text go Nobody = refuse (not_understood text)
object_chosen refuse text go Many = refuse (not_known text)

-- what the player means by the text
unfoldable pub finding : {Y : Type 0} → (List ℕ → Live → Y) → Dbref → List ℕ → (Dbref → Live → Y) → Live → Y
finding refuse player text go = reading (λ w. thing_found (scenery_of w.objects) player text) (object_chosen refuse text go)

abbrev pub named_player : {W Y : Type 0} → (List ℕ → W → Y) → List ℕ → (Dbref → W → Y) → Option Dbref → W → Y
named_player refuse name go (Some x) = go x
named_player refuse name go None = refuse (not_understood name)

-- the player of that name
unfoldable pub finding_player : {Y : Type 0} → (List ℕ → Live → Y) → List ℕ → (Dbref → Live → Y) → Live → Y
finding_player refuse name go = reading (λ w. player_named (scenery_of w.objects) name) (named_player refuse name go)

-- an object that is there and passes the test
unfoldable pub is_object_so : (Object → Bool) → Dbref → Live → Bool
is_object_so test x w = option_map_or test (object_at x w.objects) false

abbrev pub is_object : Dbref → Live → Bool
is_object x w = is_object_so (λ o. true) x w

-- an object that is there, found by its name
unfoldable pub finding_object : ℕ → Actor → List ℕ → (Dbref → Change) → Change
finding_object d a name go = finding (tell d) a.player name (λ x. where_so (is_object x) (tell d cant_be_done) (go x))

-- Messages.

-- the others where the player is see its name, and this behind it
unfoldable pub shown_others : Dbref → List ℕ → Change
shown_others player tail = reading (place_at player) (λ room. reading (name_at player) (λ name. tell_others room player (name ++ tail)))

-- the player sees a message of x, or what is shown without one
unfoldable pub message_or : ℕ → Actor → Typed → List ℕ → Message → Dbref → Change
message_or d a typed otherwise m x = with_message a typed m x (tell d otherwise) (tell d)

-- the player sees a message of x, where it has one
unfoldable pub message_shown : ℕ → Actor → Typed → Message → Dbref → Change
message_shown d a typed m x = with_message a typed m x unchanged (tell d)

-- the others see the player's name with a message of x, where it has one
unfoldable pub message_to_others : Actor → Typed → Message → Dbref → Change
message_to_others a typed m x = with_message a typed m x unchanged (λ text. shown_others a.player (32 ∷ text))

-- Looking.

-- the names of these objects, one a line
unfoldable pub names_listed : ℕ → Dbref → List Dbref → Change
names_listed d player [] = unchanged
names_listed d player (x ∷ xs) = reading (name_shown player x) (tell d) ▸ names_listed d player xs

-- a head and the names, where there are any
unfoldable pub listed_under : ℕ → Dbref → List ℕ → Change → List Dbref → Change
listed_under d player head otherwise [] = otherwise
listed_under d player head otherwise (x ∷ xs) = tell d head ▸ names_listed d player (x ∷ xs)

-- another object that isn't hidden from the player
abbrev pub is_seen : Live → Dbref → Dbref → Bool
is_seen w player x = not (same x player) && (not (flag_at dark w.objects x) || controls_as w.objects (command_level w.objects player) player x)

-- what the player sees in a room
unfoldable pub seen_in : Dbref → Dbref → Live → List Dbref
seen_in player room w = filter (is_seen w player) (listed_in false room w.objects)

-- the name, the description and what is in a room
unfoldable pub room_shown : ℕ → Actor → Typed → Dbref → Change
room_shown d a typed room =
    reading (name_shown a.player room) (tell d)
    ▸ message_shown d a typed Describe room
    ▸ reading (seen_in a.player room) (listed_under d a.player contents_head unchanged)

-- the player looks at where it is
unfoldable pub place_looked_at : ℕ → Actor → Typed → Change
place_looked_at d a typed = reading (place_at a.player) (room_shown d a typed)

abbrev pub is_room_at : Dbref → Live → Bool
is_room_at x w = is_object_so (λ o. is_room o.kind) x w

-- the player looks at something: a room is shown whole
unfoldable pub look_shown : ℕ → Actor → Typed → Dbref → Change
look_shown d a typed x = where_so (is_room_at x) (message_or d a typed nothing_special Describe x) (room_shown d a typed x)

-- Examining.

abbrev pub is_own : Actor → Dbref → Live → Bool
is_own a x w = controls_as w.objects a.level a.user x

unfoldable pub owner_shown : ℕ → Dbref → Change
owner_shown d x = reading (λ w. name_at (owner_at w.objects x) w) (λ name. tell d (owner_line name))

-- the player sees the name, the owner and the lock of something, and of what it doesn't control the owner alone
unfoldable pub thing_examined : ℕ → Actor → Dbref → Change
thing_examined d a x =
    where_so (is_own a x) (owner_shown d x)
    (reading (name_shown a.player x) (tell d) ▸ owner_shown d x ▸ reading (λ w. lock_text x w.objects) (λ text. tell d (lock_line text)))
