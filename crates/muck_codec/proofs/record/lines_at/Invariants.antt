use Rattle.std.proofs.Common.{◌≡◌, ◌-◌}
use Rattle.muck_codec.specs.Reading.{last_key, several}
use Rattle.muck_codec.specs.Records.{line_at, source_lines_at}
use Rattle.muck_codec.proofs.Loops.{with_front}
use Rattle.muck_codec.proofs.record.lines_at.Given as goal

abbrev pub invariant-loop : goal.invariant-loop
invariant-loop l = with_front l.lines.items (several (λ line. line) line_at (last_key (λ line. line) l.lines.items) (l.count - l.counter) l.rest) ≡ source_lines_at l.count l.bytes
