-- What a board ends as, where one of its connections is lent.
use Rattle.std.specs.Prelude.{ℕ, Option}
use Rattle.std.specs.Borrow.{Fml, MutBor, LendsIf}
use Rattle.spec_live.specs.Connections.{Connection}
use Rattle.spec_live.specs.Boards.{Board, on_connection}
use Rattle.muck_board.specs.contracts.board.Board.{the_row as board_row}
use Rattle.muck_board.specs.contracts.connection.Connection.{the_row as connection_row}

-- the connection d is that one, where it is lent; else the board stays as it is
abbrev pub LendsConnection : MutBor Board → ℕ → Option (MutBor Connection) → Fml
LendsConnection b d r = LendsIf board_row connection_row b r (λ c. on_connection d (λ _. c) b.now) b.now
