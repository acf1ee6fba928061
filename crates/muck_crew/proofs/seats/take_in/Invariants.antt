use Rattle.std.proofs.Common.{◌≡◌, ◌⊎◌, length}
use Rattle.turn_lock.specs.declared.view.Place.TheVariants.{Idle, Told}
use Rattle.muck_crew.specs.inner.Parts.{AreOver, all_in}
use Rattle.muck_crew.proofs.seats.take_in.Given as goal

abbrev pub invariant-loop-part : goal.invariant-loop-part
invariant-loop-part l = record {
  lock : l.seat.table_id ≡ l.initial.seat.table_id;
  first : l.seat.id ≡ 0;
  place : (l.seat.me.0.place ≡ Idle) ⊎ (l.seat.me.0.place ≡ Told);
  over : AreOver l.initial.seat.table_id l.all.items;
  free : l.seat.me.1 ≡ l.initial.seat.me.1;
  me : all_in l.all.items l.seat.me.0 ≡ all_in l.fn.parts.all.items l.initial.seat.me.0;
}

abbrev pub decreases-loop-part : goal.decreases-loop-part
decreases-loop-part l = length l.all.items
