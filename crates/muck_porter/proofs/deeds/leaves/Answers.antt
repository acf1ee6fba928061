use Rattle.std.proofs.Common.{refl, sym, ◌∙◌}
use Rattle.muck_laws.proofs.Truths.{did_so}
use Rattle.muck_model.specs.declared.event.Event.TheVariants.{Moment, StopSeen}
use Rattle.muck_porter.proofs.deeds.leaves.Goals as goal

pub returns-then-not-is_stopping : goal.returns-then-not-is_stopping
returns-then-not-is_stopping g c = let t = c.tells_time.ensures in (Moment t.0, t.1, (t.0, refl), t.2)

pub returns-then-not-all_worked_off : goal.returns-then-not-all_worked_off
returns-then-not-all_worked_off g c = let t = c.tells_time-then-not-all_worked_off.ensures in (Moment t.0, t.1, (t.0, refl), t.2)

pub returns-then-stopped : goal.returns-then-stopped
returns-then-stopped g c = (
  StopSeen,
  c.stopped.ensures.step ∙ did_so c.stopped.result _ _ c.if-stopped.true,
  (refl, sym (c.is_stopping.ensures c.requires) ∙ c.if-not-is_stopping.false, c.all_worked_off.ensures c.if-not-all_worked_off.false),
  refl,
)
