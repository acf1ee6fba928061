use Rattle.std.proofs.Common.{rules}
use Rattle.cmd_build.proofs.settings.assign.Goals as goal
use Rattle.cmd_build.proofs.Assigned.{property_assigned}

pub returns : goal.returns
returns c =
    property_assigned c.args.d c.args.guard.now.actor c.args.x c.args.text.now c.in_ok-path.path c.in_ok-value.value c.args.guard.now c.set_property.new.guard c.set_property.result
    (search rules) (search rules) (search rules) (search rules)
