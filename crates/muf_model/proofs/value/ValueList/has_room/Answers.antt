use Rattle.std.proofs.Common.{◌∙◌}
use Rattle.muf_model.specs.inner.View.{view}
use Rattle.muf_model.proofs.Edited.{room}
use Rattle.muf_model.proofs.value.ValueList.has_room.Goals as goal

pub returns : goal.returns
returns c = λ at. c.fits.ensures ∙ room c.args.self.now (view c.args.value.now) c.size.result c.with.result c.size.ensures.sized c.with.ensures.weight c.with.ensures.nesting at
