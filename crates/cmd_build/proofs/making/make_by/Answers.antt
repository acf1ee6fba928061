use Rattle.cmd_build.proofs.Made.{told_making}
use Rattle.cmd_build.proofs.making.make_by.Goals as goal

pub returns : goal.returns
returns c = told_making _ _ _ _ _ _ _ c.create-made.new.guard _ c.create-made.result _ c.create-made.ensures c.tell_made.ensures
