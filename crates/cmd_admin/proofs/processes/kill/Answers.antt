use Rattle.std.proofs.Common.{rules, ◌≡◌, Some, None}
use Rattle.spec_rights.specs.Verdict.{verdict}
use Rattle.spec_admin.specs.Processes.{ending_act, process_meant}
use Rattle.muck_perm.specs.inner.Guards.{objects_of}
use Rattle.cmd_admin.proofs.Killed.{ends_told}
use Rattle.cmd_admin.proofs.processes.kill.Goals as goal

pub returns-clause-told : goal.returns-clause-told
returns-clause-told c =
    let p = c.in-Some.process.now in
    let meant : process_meant c.args.text.now c.args.queue.now ≡ Some p = search rules in
    let may : verdict (objects_of c.args.guard.now) c.args.guard.now.actor (ending_act p) ≡ None = search rules in
    ends_told c.args.d c.args.guard.now.actor c.args.text.now c.args.queue.now p c.args.guard.now c.tell-2.new.self meant may c.in_ok-tell.ensures
