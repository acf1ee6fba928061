use Rattle.std.proofs.Common.{◌≡◌, ◌⊎◌, List, refl, sym, ap, ◌∙◌, subst}
use Rattle.turn_lock.specs.declared.view.Place.TheVariants.{Idle, Told}
use Rattle.muck_machine.specs.inner.Seats.{Chair}
use Rattle.muck_crew.specs.declared.seats.Part.{Part}
use Rattle.muck_crew.specs.inner.Parts.{AreOver}
use Rattle.muck_crew.proofs.Seating.{in_next, over_front}
use Rattle.muck_crew.proofs.seats.take_in.Goals as goal

pub loop-part-init : goal.loop-part-init
loop-part-init c = record { lock = refl; first = c.requires.own.1; place = c.requires.over; over = subst (λ t. AreOver t c.args.parts.all.items) (sym c.requires.own.0) c.requires.parts; free = refl; me = refl }

pub join-requires-clause-own : goal.join-requires-clause-own
join-requires-clause-own c = (c.loop-part.invariant.lock ∙ c.requires.own.0, c.loop-part.invariant.first, c.loop-part.invariant.place)

pub join-requires-clause-other : goal.join-requires-clause-other
join-requires-clause-other c =
    let over = over_front _ _ _ (subst (λ (ps : List Part). AreOver c.args.seat.now.table_id ps) c.in-Some.ensures.items c.loop-part.invariant.over) in
    (over.1.0 ∙ c.requires.own.0, over.1.1)

pub join-requires-clause-done : goal.join-requires-clause-done
join-requires-clause-done c =
    let over = over_front _ _ _ (subst (λ (ps : List Part). AreOver c.args.seat.now.table_id ps) c.in-Some.ensures.items c.loop-part.invariant.over) in over.1.2

pub loop-part-preserved : goal.loop-part-preserved
loop-part-preserved c =
    let inv = c.loop-part.invariant in
    let over = over_front _ _ _ (subst (λ (ps : List Part). AreOver c.args.seat.now.table_id ps) c.in-Some.ensures.items inv.over) in
    let taken = c.join.ensures.taken in record {
      lock = c.join.ensures.own.0 ∙ inv.lock;
      first = c.join.ensures.own.1;
      place = subst (λ (m : Chair). (m.0.place ≡ Idle) ⊎ (m.0.place ≡ Told)) (sym taken) inv.place;
      over = over.0;
      free = ap (λ (m : Chair). m.1) taken ∙ inv.free;
      me = in_next _ _ _ _ _ c.in-Some.ensures.items (ap (λ (m : Chair). m.0) taken) ∙ inv.me;
    }

pub returns-clause-own : goal.returns-clause-own
returns-clause-own c = (c.loop-part.invariant.lock, c.loop-part.invariant.first)
