use Rattle.std.proofs.Common.{◌∙◌}
use Rattle.muf_model.specs.inner.View.{view}
use Rattle.muf_frame.specs.inner.Shown.{flat}
use Rattle.muf_running.proofs.Process.{common_there, common_set}
use Rattle.muf_running.proofs.begin.set_common.Goals as goal

pub returns : goal.returns
returns c =
    c.set_variable-set.ensures.yes (c.set_variable-set.ensures.found 0 ∙ common_there c.args.number (flat c.args.frame.now) c.requires.number c.requires.there) ∙ common_set c.args.number (view c.args.value) (flat c.args.frame.now) c.requires.number
