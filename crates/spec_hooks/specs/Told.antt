-- The causes of an event, told by who stands elsewhere than before, and by the one player whose connections came or went.
use Rattle.std.specs.Prelude.{◌≡◌, ℕ, ◌<◌, Bool, false, not, ◌&&◌, int_lt, nat_lt, if◌then◌else◌, List, [], ◌∷◌, ◌++◌, length, Option, Some, None}
use Rattle.std.specs.List.{flat_map, list_any}
use Rattle.std.specs.Option.{option_map_or}
use Rattle.muck_model.specs.declared.dbref.Dbref.{Dbref}
use Rattle.spec_live.specs.declared.moved.Move.{Move}
use Rattle.spec_live.specs.Objects.{dbref_of, same, index_of}
use Rattle.spec_live.specs.Connections.{is_connection, is_connection_of}
use Rattle.spec_live.specs.Boards.{player_in}
use Rattle.spec_live.specs.Stood.{stood_in, stands_in}
use Rattle.spec_live.specs.Lives.{Live}
use Rattle.spec_commands.specs.Talking.{is_connected}
use Rattle.spec_hooks.specs.declared.cause.Cause.{Cause}
use Rattle.spec_hooks.specs.declared.cause.Cause.TheVariants.{Arrive, Depart, Connect, Disconnect}
use Rattle.spec_hooks.specs.declared.turned.Turned.{Turned}
use Rattle.spec_hooks.specs.declared.turned.Turned.TheVariants.{Nobody, Came, Went}
use Rattle.spec_hooks.specs.Causes.{has_gone, has_come}

abbrev pub of_move : Move → List Cause
of_move m = Depart m.player m.from ∷ Arrive m.player m.to ∷ []

abbrev pub of_moves : List Move → List Cause
of_moves ms = flat_map of_move ms

-- one whose last connection went is told of before it moved, and one whose first one came behind that
unfoldable pub told : Turned → List Move → List Cause
told Nobody ms = of_moves ms
told (Went p) [] = Disconnect p ∷ []
told (Went p) (m ∷ ms) = if int_lt m.player.0 p.0 then of_move m ++ told (Went p) ms else Disconnect p ∷ of_moves (m ∷ ms)
told (Came p) [] = Connect p ∷ []
told (Came p) (m ∷ ms) = if int_lt p.0 m.player.0 then Connect p ∷ of_moves (m ∷ ms) else of_move m ++ told (Came p) ms

-- The one player whose connections came or went. It is a number from 0 on, below that of the objects.

abbrev pub is_number : Dbref → Live → Bool
is_number player w = option_map_or (λ n. nat_lt n (length w.objects)) (index_of player) false

-- no other connection than d is of this player
abbrev pub is_alone : ℕ → Dbref → Live → Bool
is_alone d player w = not (list_any (λ c. is_connection_of player c && not (is_connection d c)) w.board.connections)

-- of whom the first connection came, where d has this player now and had that one before
abbrev pub came_by : ℕ → Option Dbref → Option Dbref → Live → Turned
came_by d None (Some player) w = if is_number player w && is_alone d player w then Came player else Nobody
came_by d before now w = Nobody

abbrev pub came_on : ℕ → Option Dbref → Live → Turned
came_on d before w = came_by d before (player_in d w.board) w

-- of whom the last one went, where one of this player did
abbrev pub went_of : Option Dbref → Live → Turned
went_of None w = Nobody
went_of (Some player) w = if is_number player w && not (is_connected player w) then Went player else Nobody

abbrev pub is_gone : Turned → Dbref → Bool
is_gone (Went p) player = same p player
is_gone turned player = false

abbrev pub is_come : Turned → Dbref → Bool
is_come (Came p) player = same p player
is_come turned player = false

-- it is a number from 0 on, below that
abbrev pub IsBelow : ℕ → Turned → Type 0
IsBelow n Nobody = Unit {0}
IsBelow n (Came p) = (k : ℕ) × (p ≡ dbref_of k) × (k < n)
IsBelow n (Went p) = (k : ℕ) × (p ≡ dbref_of k) × (k < n)

-- From the world before to this one the connections of players came and went so, and what is kept of where players stood is where they stood before.
pub record Turns (turned : Turned) (before after : Live) : Type 0 where
  pub below : IsBelow (length after.objects) turned
  pub gone : (n : ℕ) → n < length after.objects → has_gone before after (dbref_of n) ≡ is_gone turned (dbref_of n)
  pub come : (n : ℕ) → n < length after.objects → has_come before after (dbref_of n) ≡ is_come turned (dbref_of n)
  pub stood : (n : ℕ) → stood_in after.objects n ≡ stands_in before.objects n
