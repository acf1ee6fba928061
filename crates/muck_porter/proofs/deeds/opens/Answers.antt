use Rattle.std.proofs.Common.{refl, ◌∙◌}
use Rattle.muck_laws.proofs.Truths.{did_so}
use Rattle.muck_model.specs.declared.event.Event.TheVariants.{Opened}
use Rattle.muck_porter.proofs.deeds.opens.Goals as goal

pub returns-then-opened : goal.returns-then-opened
returns-then-opened g c = (Opened c.args.d, c.in-Ok.ensures.step ∙ did_so c.in-Ok.opened _ _ c.if-opened.true, (refl, c.if-noted.false), refl)
