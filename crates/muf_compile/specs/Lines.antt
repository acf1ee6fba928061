-- The line of the source at which a program stands.
use Rattle.std.specs.Prelude.{ℕ}
use Rattle.muf_model.specs.Tree.{Block, stop, word, when, fork, ring, BlockEnd, closes, hops}

-- that of the word that ends items, or of the ELSE or CATCH behind them
abbrev pub last_line : BlockEnd → ℕ
last_line (closes c line) = line
last_line (hops k line next end) = line

-- that of the item that comes next, and where none is left, of what ends the items
abbrev pub next_line : Block → BlockEnd → ℕ
next_line stop end = last_line end
next_line (word line w next) end = line
next_line (when line a next) end = line
next_line (fork k line a mid b next) end = line
next_line (ring k line a c last next) end = line
