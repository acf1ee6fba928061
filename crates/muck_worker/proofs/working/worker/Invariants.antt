use Rattle.std.proofs.Common.{◌≡◌}
use Rattle.muck_worker.specs.inner.Deeds.{Works}
use Rattle.muck_worker.proofs.working.worker.Given as goal

abbrev pub invariant-loop : goal.invariant-loop
invariant-loop g l =
    (l.seat.table_id ≡ l.initial.seat.table_id) × (l.seat.id ≡ l.initial.seat.id) × Works l.fn.party l.task l.initial.seat.me l.seat.me
