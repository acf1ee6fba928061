use Rattle.std.proofs.Common.{◌≡◌}
use Rattle.turn_lock.specs.inner.Turns.{Same}
use Rattle.turn_lock.specs.declared.view.Place.TheVariants.{Told}
use Rattle.turn_lock.proofs.turn.Turn.wait_spent.Given as goal

abbrev pub invariant-loop : goal.invariant-loop
invariant-loop g l = (l.seat.table_id ≡ l.initial.seat.table_id) × (l.seat.id ≡ l.initial.seat.id) × Same g.T.Story.history g.T.Story.party g.T.Story.start l.initial.seat.me l.seat.me × (l.seat.me.0.place ≡ Told) × (l.seat.me.1 ≡ l.initial.seat.me.1)
