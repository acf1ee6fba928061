use Rattle.std.proofs.Common.{◌≡◌}
use Rattle.tests_links_rows.specs.inner.Seats.{Rests, SameLists}
use Rattle.tests_links_rows.proofs.turns.enter_all.Given as goal

abbrev pub invariant-loop : goal.invariant-loop
invariant-loop g l = (l.seat.table_id ≡ l.initial.seat.table_id) × (l.seat.id ≡ l.initial.seat.id) × Rests l.fn.party l.seat.me × SameLists l.initial.seat.me l.seat.me
