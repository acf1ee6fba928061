use Rattle.std.proofs.Common.{rules, ◌≡◌, true, None}
use Rattle.spec_rights.specs.declared.act.Act.TheVariants.{Password}
use Rattle.spec_rights.specs.Verdict.{verdict}
use Rattle.spec_admin.specs.Players.{is_password}
use Rattle.muck_perm.specs.inner.Guards.{objects_of}
use Rattle.cmd_admin.proofs.Changed.{password_by}
use Rattle.cmd_admin.proofs.players.change_password.Goals as goal

pub returns : goal.returns
returns c =
    let short : is_password c.args.word.now ≡ true = search rules in
    let may : verdict (objects_of c.args.guard.now) c.args.guard.now.actor (Password c.args.x) ≡ None = search rules in
    password_by c.args.d c.args.guard.now.actor c.args.x c.args.word.now c.args.guard.now c.change_by.new.guard c.change_by.result short may c.change_by.ensures
