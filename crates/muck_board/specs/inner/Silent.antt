-- The board without what waits to be sent.
use Rattle.std.specs.Prelude.{ℕ, List, map}
use Rattle.spec_live.specs.Output.{no_output, lines_sent}
use Rattle.spec_live.specs.Connections.{Connection}
use Rattle.spec_live.specs.Boards.{Board, with_connections}

abbrev pub quiet : Connection → Connection
quiet c = record c { output = no_output }

-- what is left of a board where a text was sent in part
abbrev pub silent : Board → Board
silent b = with_connections (map quiet b.connections) b

-- these lines were sent
abbrev pub told_lines : List (List ℕ) → Connection → Connection
told_lines lines c = record c { output = lines_sent lines c.output }
