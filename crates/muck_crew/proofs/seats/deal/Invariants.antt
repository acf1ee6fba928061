use Rattle.std.proofs.Common.{◌≡◌, ◌≤◌, vec_capacity}
use Rattle.muck_crew.specs.inner.Parts.{AreDealt, given_to}
use Rattle.muck_crew.proofs.seats.deal.Given as goal

abbrev pub invariant-loop-number : goal.invariant-loop-number
invariant-loop-number l = record {
  lock : l.seat.table_id ≡ l.initial.seat.table_id;
  first : l.seat.id ≡ 0;
  me : l.seat.me ≡ (given_to l.number l.initial.seat.me.0, l.initial.seat.me.1);
  room : l.fn.workers ≤ vec_capacity l.parts.all;
  dealt : AreDealt l.initial.seat.table_id l.number l.initial.seat.me.0 l.parts.all.items;
}
