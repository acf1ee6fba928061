use Rattle.std.proofs.Common.{rules, ◌≡◌, Some, Ok}
use Rattle.cmd_common.proofs.Taking.{takes_whole}
use Rattle.cmd_common.proofs.reading.arguments.Goals as goal

pub returns-in-Some-clause-takes : goal.returns-in-Some-clause-takes
returns-in-Some-clause-takes c =
    let some : c.parts_in.result ≡ Ok (Some c.in-Some.parts) = search rules in
    takes_whole _ _ _ _ _ c.in-Some.parts c.args.guard.now c.take.new.guard c.parts_in.result c.take.result c.parts_in.ensures some c.take.ensures.takes
