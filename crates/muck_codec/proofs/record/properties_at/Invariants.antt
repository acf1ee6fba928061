use Rattle.std.proofs.Common.{◌≡◌, ◌-◌}
use Rattle.muck_codec.specs.Reading.{last_key, several}
use Rattle.muck_codec.specs.Records.{property_at, properties_at}
use Rattle.muck_codec.proofs.Loops.{with_front}
use Rattle.muck_codec.proofs.record.properties_at.Given as goal

abbrev pub invariant-loop : goal.invariant-loop
invariant-loop l = with_front l.props.items (several (λ p. p.path) (property_at l.version) (last_key (λ p. p.path) l.props.items) (l.count - l.counter) l.rest) ≡ properties_at l.version l.count l.bytes
