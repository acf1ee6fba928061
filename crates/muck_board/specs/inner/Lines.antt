-- Taking a waiting line.
use Rattle.std.specs.Prelude.{◌≡◌, ℕ, List, [], ◌∷◌, Option, Some, None, find}
use Rattle.muck_model.specs.declared.dbref.Dbref.{Dbref}
use Rattle.spec_live.specs.Connections.{Connection, is_connection, changed_in}
use Rattle.spec_live.specs.Boards.{Board, with_connections}

-- no line waits there
abbrev pub HasNoLine : Option Connection → Type 0
HasNoLine None = Unit {0}
HasNoLine (Some c) = c.waiting ≡ []

-- this line is the first, and these are the others
abbrev pub HasLine : Option Connection → Option Dbref → List ℕ → List (List ℕ) → Type 0
HasLine None player line lines = ⊥
HasLine (Some c) player line lines = (c.player ≡ player) × (c.waiting ≡ line ∷ lines)

-- The connection d, where a line waits on it, loses the first, which is answered with its player; else nothing changes.
abbrev pub TakesLine : ℕ → List Connection → List Connection → Option (Option Dbref × List ℕ) → Type 0
TakesLine d old new None = HasNoLine (find (is_connection d) old) × (new ≡ old)
TakesLine d old new (Some (player, line)) = (lines : List (List ℕ)) × HasLine (find (is_connection d) old) player line lines × (new ≡ changed_in d (λ c. record c { waiting = lines }) old)

-- the same of a board, of which nothing else changes
abbrev pub BoardTakesLine : ℕ → Board → Board → Option (Option Dbref × List ℕ) → Type 0
BoardTakesLine d old new line = TakesLine d old.connections new.connections line × (new ≡ with_connections new.connections old)
