use Rattle.std.proofs.Common.{ap, ◌≤◌, length, arith}
use Rattle.spec_live.specs.Output.{Output}
use Rattle.muck_board.specs.inner.Bounded.{rest_of}
use Rattle.muck_board.proofs.Sending.{notice_advances}
use Rattle.muck_board.proofs.output.Output.advance.Goals as goal

pub invariant_of-self-in-Notice : goal.invariant_of-self-in-Notice
invariant_of-self-in-Notice c =
    let s = c.self.inside in
    let few : c.args.n ≤ length (rest_of s.begun s.lines) = omega (arith, c.requires, ap (λ (o : Output). length o.rest) c.self.view_is) in
    notice_advances s.begun c.in-Notice.from c.args.n s.lines s.flushed c.in-Notice.is c.self.invariant few
