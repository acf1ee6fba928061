use Rattle.std.proofs.Common.{refl}
use Rattle.muck_model.specs.declared.event.Event.TheVariants.{Moment}
use Rattle.muck_porter.proofs.OneServed.{served_on}
use Rattle.muck_porter.proofs.deeds.serves.Goals as goal

pub serves_at-requires-clause-below : goal.serves_at-requires-clause-below
serves_at-requires-clause-below g c = c.in-Some.ensures.1

pub serves_at-requires-clause-wanted : goal.serves_at-requires-clause-wanted
serves_at-requires-clause-wanted g c = c.in-Some.ensures.2

pub returns-in-Some-clause-place : goal.returns-in-Some-clause-place
returns-in-Some-clause-place g c = served_on c.args.from c.in-Some.at c.serves_at.result c.in-Some.ensures.0 c.serves_at.ensures.place

pub returns-in-None-clause-step : goal.returns-in-None-clause-step
returns-in-None-clause-step g c = let t = c.tells_time.ensures in (Moment t.0, t.1, ((t.0, refl), refl), t.2)
