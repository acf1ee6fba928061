use Rattle.std.proofs.Common.{rules, ◌≡◌}
use Rattle.muck_perm.specs.inner.Guards.{world_of}
use Rattle.cmd_admin.proofs.Each.{all_shown}
use Rattle.cmd_admin.proofs.parameters.show_parameters.Goals as goal

pub returns : goal.returns
returns c =
    let now : c.tune-tune.result ≡ (world_of c.args.guard.now).board.tune = search rules in
    all_shown c.args.d c.tune-tune.result c.all.result.now c.args.guard.now c.show_each.new.guard c.show_each.result c.all.ensures now c.show_each.ensures
