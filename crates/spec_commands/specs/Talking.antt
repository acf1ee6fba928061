-- What players say.
use Rattle.std.specs.Prelude.{ℕ, Bool, ◌&&◌, ◌==◌, if◌then◌else◌, List, [], ◌∷◌, ◌++◌, length, codes, take, Option}
use Rattle.std.specs.Option.{option_map}
use Rattle.std.specs.List.{list_any, filter_map}
use Rattle.muck_model.specs.declared.dbref.Dbref.{Dbref}
use Rattle.muck_model.specs.Bytes.{text_most}
use Rattle.spec_live.specs.Objects.{same, is_player}
use Rattle.spec_live.specs.Connections.{Connection, is_connection_of}
use Rattle.spec_live.specs.Lives.{Live, Change, ◌▸◌, reading, tell, tell_player, place_at, name_at}
use Rattle.spec_commands.specs.Replies.{cant_be_done, you_say, says, you_say_to, says_to, not_connected, connected_line, connected_count}
use Rattle.spec_commands.specs.declared.presence.Presence.{Presence}
use Rattle.spec_commands.specs.Finding.{where_so, is_object_so, for_each, shown_others}

unfoldable pub said : ℕ → Dbref → List ℕ → Change
said d player text = tell d (you_say text) ▸ shown_others player (says text)

-- a space stands before what a player does, but for an apostrophe
abbrev pub pose_tail : List ℕ → List ℕ
pose_tail [] = []
pose_tail (b ∷ text) = if b == 39 then b ∷ text else 32 ∷ b ∷ text

unfoldable pub posed : ℕ → Dbref → List ℕ → Change
posed d player text = reading (name_at player) (λ name. tell d (name ++ pose_tail text)) ▸ shown_others player (pose_tail text)

-- what others hear of it, who see the name of who spoke in front
abbrev pub heard_as : Bool → List ℕ → List ℕ → List ℕ
heard_as pose name text = take text_most (name ++ (if pose then pose_tail text else says text))

abbrev pub is_connected : Dbref → Live → Bool
is_connected player w = list_any (is_connection_of player) w.board.connections

-- the player and the other one see what was said to that one alone
unfoldable pub said_to : ℕ → Dbref → Dbref → List ℕ → List ℕ → Change
said_to d player to verb text =
    reading (name_at to) (λ name. tell d (you_say_to verb text name)) ▸ reading (name_at player) (λ name. tell_player to (name ++ says_to verb text))

unfoldable pub paged : ℕ → Dbref → Dbref → List ℕ → Change
paged d player to text =
    where_so (is_connected to) (reading (name_at to) (λ name. tell d (name ++ not_connected)))
    (said_to d player to (codes "page") text)

-- a player who is where the player is
abbrev pub is_company : Dbref → Dbref → Live → Bool
is_company player to w = is_object_so (λ o. is_player o.kind && same o.place (place_at player w)) to w

unfoldable pub whispered : ℕ → Dbref → Dbref → List ℕ → Change
whispered d player to text = where_so (is_company player to) (tell d cant_be_done) (said_to d player to (codes "whisper") text)

-- Who is connected.

-- a connection that has a player
abbrev pub presence : Connection → Option Presence
presence c = option_map (λ player. record { number = c.number; player = player }) c.player

abbrev pub presences : List Connection → List Presence
presences cs = filter_map presence cs

unfoldable pub presence_shown : ℕ → Presence → Change
presence_shown d p = reading (name_at p.player) (λ name. tell d (connected_line name p.number))

-- a line for each connection with a player, and how many they are
unfoldable pub who_shown : ℕ → Change
who_shown d = reading (λ w. presences w.board.connections) (λ ps. for_each (presence_shown d) ps ▸ tell d (connected_count (length ps)))
