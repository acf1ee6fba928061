-- Who is connected, the state of the random numbers, and what a wizard tuned.
use Rattle.std.specs.Prelude.{ℕ, Bool, false, List, [], map, find, Option, None}
use Rattle.std.specs.Option.{option_map_or, option_and_then}
use Rattle.rand_core.specs.Pcg32Seed.{pcg32_seed}
use Rattle.rand_pcg.specs.Lcg.{Lcg}
use Rattle.rand_pcg.specs.Pcg.{pcg32, pcg32_of_seed}
use Rattle.muck_model.specs.declared.dbref.Dbref.{Dbref}
use Rattle.muck_model.specs.declared.edit.EditState.{EditState}
use Rattle.muck_model.specs.declared.tune.Tune.{Tune}
unfoldable pub use Rattle.muck_model.specs.Parameters.{first_tune}
use Rattle.spec_live.specs.Output.{bytes_of, output_taken}
use Rattle.spec_live.specs.Connections.{Connection, is_connection, changed_in, connection_placed, without_connection, newcomer, text_told, left, player_seated, lined, editor_set, edits, edited_where, is_connection_of, hears, told_where, left_where, has_player}

pub record Board : Type 0 where
  pub connections : List Connection
  pub random : Lcg
  pub tune : Tune

-- the random numbers that begin so
unfoldable pub random_from : ℕ → Lcg
random_from start = pcg32_of_seed (pcg32_seed 16 start)

-- nobody is connected
unfoldable pub early_board : ℕ → Tune → Board
early_board start tune = record { connections = []; random = random_from start; tune = tune }

-- Readers.

abbrev pub connection_in : ℕ → Board → Option Connection
connection_in d b = find (is_connection d) b.connections

-- the bytes that wait to be sent to it
abbrev pub queue_in : ℕ → Board → List ℕ
queue_in d b = option_map_or (λ c. bytes_of c.output) (connection_in d b) []

abbrev pub is_leaving_in : ℕ → Board → Bool
is_leaving_in d b = option_map_or (λ c. c.leaving) (connection_in d b) false

abbrev pub player_in : ℕ → Board → Option Dbref
player_in d b = option_and_then (λ c. c.player) (connection_in d b)

abbrev pub editor_in : ℕ → Board → Option EditState
editor_in d b = option_and_then (λ c. c.editor) (connection_in d b)

-- Changes.

abbrev pub with_connections : List Connection → Board → Board
with_connections connections b = record b { connections = connections }

-- with the connection d changed by f
abbrev pub on_connection : ℕ → (Connection → Connection) → Board → Board
on_connection d f b = with_connections (changed_in d f b.connections) b

abbrev pub on_connections : (Connection → Connection) → Board → Board
on_connections f b = with_connections (map f b.connections) b

unfoldable pub connection_opened : ℕ → List ℕ → Board → Board
connection_opened d greeting b = with_connections (connection_placed (newcomer d greeting) b.connections) b

unfoldable pub connection_closed : ℕ → Board → Board
connection_closed d b = with_connections (without_connection d b.connections) b

unfoldable pub line_added : ℕ → List ℕ → Board → Board
line_added d line b = on_connection d (lined line) b

unfoldable pub bytes_taken : ℕ → ℕ → Board → Board
bytes_taken d n b = on_connection d (λ c. record c { output = output_taken n c.output }) b

-- a text is sent to one connection
unfoldable pub told_one : ℕ → List ℕ → Board → Board
told_one d text b = on_connection d (text_told text) b

-- to all connections of a player
unfoldable pub told_player : Dbref → List ℕ → Board → Board
told_player player text b = on_connections (told_where (is_connection_of player) text) b

-- to those of the players in a room but these
unfoldable pub told_others : (Dbref → Option Dbref) → Dbref → List Dbref → List ℕ → Board → Board
told_others places room but text b = on_connections (told_where (hears places room but) text) b

-- to those of all players
unfoldable pub told_all : List ℕ → Board → Board
told_all text b = on_connections (told_where has_player text) b

unfoldable pub leaving_one : ℕ → Board → Board
leaving_one d b = on_connection d left b

unfoldable pub seated_one : ℕ → Dbref → Board → Board
seated_one d player b = on_connection d (player_seated player) b

-- all connections of a player are leaving
unfoldable pub left_player : Dbref → Board → Board
left_player player b = on_connections (left_where (is_connection_of player)) b

unfoldable pub edited_one : ℕ → Option EditState → Board → Board
edited_one d editor b = on_connection d (editor_set editor) b

-- each editor that is open on that program is closed
unfoldable pub editors_closed : Dbref → Board → Board
editors_closed program b = on_connections (edited_where (edits program) None) b

unfoldable pub tuned : Tune → Board → Board
tuned tune b = record b { tune = tune }

-- the next random word, and the board after it was drawn
unfoldable pub random_drawn : Board → ℕ × Board
random_drawn b = ((pcg32 b.random).0, record b { random = (pcg32 b.random).1 })
