use Rattle.std.proofs.Common.{◌≡◌, ◌-◌}
use Rattle.muck_codec.specs.Reading.{last_key, several}
use Rattle.muck_codec.specs.Batches.{next_record_at, records_at}
use Rattle.muck_codec.proofs.Loops.{with_front}
use Rattle.muck_codec.proofs.batch.records_at.Given as goal

abbrev pub invariant-loop : goal.invariant-loop
invariant-loop l = with_front l.records.items (several (λ o. o.dbref) (next_record_at l.version) (last_key (λ o. o.dbref) l.records.items) (l.count - l.counter) l.rest) ≡ records_at l.version l.count l.bytes
