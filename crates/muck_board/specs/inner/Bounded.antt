-- The bound of what waits to be sent.
use Rattle.std.specs.Prelude.{◌≤◌, ℕ, ◌+◌, true, List, length, drop, nat_le, if◌then◌else◌}
use Rattle.muck_board.specs.declared.output.Begun.{Begun}
use Rattle.muck_board.specs.declared.output.Begun.TheVariants.{Line, Notice}
use Rattle.muck_board.specs.inner.Sent.{sent_most}
use Rattle.muck_board.specs.inner.Waiting.{Waiting}
use Rattle.spec_live.specs.Output.{Output, notice, notice_of, sent_lines_bytes, newest}

-- what is left of what was begun
abbrev pub rest_of : Begun → Waiting → List ℕ
rest_of Line waiting = waiting.begun
rest_of (Notice from) waiting = drop from notice

-- no more went of the notice than it has
abbrev pub IsWithin : Begun → Type 0
IsWithin Line = Unit {0}
IsWithin (Notice from) = from ≤ 18

-- The notice isn't counted when a line is sent, so that there may be as many bytes as it has above the most that a queue
-- holds.
pub record IsBounded (begun : Begun) (o : Output) : Type 0 where
  pub within : IsWithin begun
  pub rest : length o.rest ≤ sent_most
  pub most : length o.rest + (length (notice_of o.flushed) + length (sent_lines_bytes o.lines)) ≤ 131090

-- with the notice, and without the oldest lines, where they have more than so many bytes
abbrev pub kept_newest : ℕ → Output → Output
kept_newest room o = if nat_le (length (sent_lines_bytes o.lines)) room then o else record o { flushed = true; lines = newest room o.lines }
