use Rattle.std.proofs.Common.{arith}
use Rattle.muck_bodies.proofs.Heads.{no_bodies}
use Rattle.muck_bodies.proofs.beginning.first_head.Goals as goal

pub returns-then-end-eq0-clause-head : goal.returns-then-end-eq0-clause-head
returns-then-end-eq0-clause-head g c t n = no_bodies (g.D.Disk.seen c.args.disk.now) (omega (arith, c.in_ok-end.ensures.size t, c.if-end-eq0.true)) n
