use Rattle.std.proofs.Common.{arith}
use Rattle.cmd_build.proofs.Owned.{found_all}
use Rattle.cmd_build.proofs.searching.owned_named.Goals as goal

pub returns : goal.returns
returns c = found_all c.args.user c.args.part.now c.loop-n.n c.args.db.now _ _ (omega arith) c.loop-n.invariant
