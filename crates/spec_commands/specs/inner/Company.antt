-- Who is there in the worked examples.
use Rattle.std.specs.Prelude.{ℕ, ◌+◌, false, List, [], ◌∷◌, codes, Option, Some, None}
use Rattle.muck_model.specs.declared.dbref.Dbref.{Dbref}
use Rattle.spec_live.specs.declared.object.Object.{Object}
use Rattle.spec_live.specs.declared.saving.Saving.TheVariants.{Done}
use Rattle.spec_live.specs.Objects.{Entry, dbref_of}
use Rattle.spec_live.specs.Flags.{no_flags}
use Rattle.spec_live.specs.Start.{room_zero, player_one}
use Rattle.spec_live.specs.Connections.{Connection}
use Rattle.spec_live.specs.Boards.{first_tune, early_board}
use Rattle.spec_live.specs.Lives.{Live}

-- a connection with this player, on which nothing waits
abbrev pub seated : ℕ → Option Dbref → Connection
seated d player = record { number = d; player = player; waiting = []; editor = None; leaving = false; output = record { rest = []; flushed = false; lines = [] } }

-- these objects and connections
abbrev pub held : List Entry → List Connection → Live
held objects connections = record { objects = objects; board = record (early_board 0 first_tune) { connections = connections } }

-- Two, who is no wizard
abbrev pub player_two : Object
player_two = record player_one { name = codes "Two"; owner = dbref_of 2; flags = no_flags }

-- One and Two stand in Room Zero, as a dump has them
abbrev pub both_there : List Entry
both_there =
    record { object = room_zero; contents = 2 ∷ 1 ∷ []; exits = []; mark = None; saving = Done; stood = None } ∷
    record { object = player_one; contents = []; exits = []; mark = None; saving = Done; stood = None } ∷
    record { object = player_two; contents = []; exits = []; mark = None; saving = Done; stood = None } ∷ []

-- and these players are connected, on the connections from d on
abbrev pub seats : ℕ → List ℕ → List Connection
seats d [] = []
seats d (n ∷ ns) = seated d (Some (dbref_of n)) ∷ seats (d + 1) ns

abbrev pub company : List ℕ → Live
company ns = held both_there (seats 1 ns)

-- what is sent to each connection
abbrev pub queues : List Connection → List (List (List ℕ))
queues [] = []
queues (c ∷ cs) = c.output.lines ∷ queues cs
