-- What a line does at the login screen, and what others see of a connection that goes.
use Rattle.std.specs.Prelude.{ℕ, Bool, true, false, if◌then◌else◌, List, [], ◌∷◌, Option, Some, None, codes}
use Rattle.std.specs.Option.{option_map_or, option_and_then}
use Rattle.std.specs.List.{list_any}
use Rattle.muck_model.specs.declared.dbref.Dbref.{Dbref}
use Rattle.muck_match.specs.Naming.{player_named}
use Rattle.spec_live.specs.Objects.{Entry, object_at}
use Rattle.spec_live.specs.Password.{is_digest_of}
use Rattle.spec_live.specs.Seen.{scenery_of}
use Rattle.spec_live.specs.Connections.{is_connection_of}
use Rattle.spec_live.specs.Boards.{on_connection, player_in, connection_closed}
use Rattle.spec_live.specs.Lives.{Change, ◌▸◌, reading, either, unchanged, on_board, tell, leave, enter}
use Rattle.spec_commands.specs.Texts.{first_word, other_words, trimmed, is_alike}
use Rattle.spec_commands.specs.Replies.{goodbye, has_connected, has_disconnected}
use Rattle.spec_commands.specs.Messages.{look_typed}
use Rattle.spec_commands.specs.Finding.{actor_of, shown_others, place_looked_at}
use Rattle.spec_commands.specs.Talking.{who_shown}

unfoldable pub welcome : List ℕ
welcome = codes "Use: connect NAME PASSWORD, WHO or QUIT."

unfoldable pub refused_login : List ℕ
refused_login = codes "Either that player does not exist, or has a different password."

-- The login screen.

-- the player of a name whose password the word is
unfoldable pub proved : List ℕ → List ℕ → List Entry → Option Dbref
proved name word es = option_and_then (λ player. if option_map_or (λ o. is_digest_of word o.digest) (object_at player es) false then Some player else None) (player_named (scenery_of es) name)

abbrev pub let_in : ℕ → Option Dbref → Change
let_in d None = tell d refused_login
let_in d (Some player) = enter d player ▸ reading (λ w. actor_of w.objects player) (λ a. shown_others player has_connected ▸ place_looked_at d a look_typed)

unfoldable pub logged_in : ℕ → List ℕ → List ℕ → Change
logged_in d name word = reading (λ w. proved name word w.objects) (let_in d)

-- `connect` is followed by a name and a password, which may have spaces inside; where one is missing nothing is meant
unfoldable pub connecting : ℕ → List ℕ → List ℕ → Change
connecting d name [] = tell d welcome
connecting d name (b ∷ word) = logged_in d name (b ∷ word)

unfoldable pub quit : ℕ → Change
quit d = tell d goodbye ▸ leave d

-- a line of the login screen
unfoldable pub at_login : ℕ → List ℕ → Change
at_login d line =
    let text = trimmed line in
    let rest = trimmed (other_words text) in
    either (is_alike text (codes "QUIT")) (quit d)
    (either (is_alike text (codes "WHO")) (who_shown d)
    (either (is_alike (first_word text) (codes "connect")) (connecting d (first_word rest) (trimmed (other_words rest))) (tell d welcome)))

-- Lines that wait.

-- these lines wait on the connection
unfoldable pub waits : ℕ → List (List ℕ) → Change
waits d lines = on_board (on_connection d (λ c. record c { waiting = lines }))

-- Going away.

abbrev pub parting : Bool → Dbref → Change
parting true player = unchanged
parting false player = shown_others player has_disconnected

-- others see it where a player has no other connection
unfoldable pub player_parted : Option Dbref → Change
player_parted None = unchanged
player_parted (Some player) = reading (λ w. list_any (is_connection_of player) w.board.connections) (λ others. parting others player)

-- a connection goes
unfoldable pub gone_away : ℕ → Change
gone_away d = reading (λ w. player_in d w.board) (λ player. on_board (connection_closed d) ▸ player_parted player)
