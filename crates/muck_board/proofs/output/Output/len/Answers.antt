use Rattle.std.proofs.Common.{arith, ap, length}
use Rattle.spec_live.specs.Output.{Output, bytes_of}
use Rattle.muck_board.specs.inner.Bounded.{rest_of}
use Rattle.muck_board.proofs.Outputs.{bytes_length}
use Rattle.muck_board.proofs.output.Output.len.Goals as goal

pub returns-clause-count : goal.returns-clause-count
returns-clause-count c =
    let s = c.self.inside in
    omega (arith, ap length c.rest.ensures.bytes, ap (λ (o : Output). length o.rest) c.self.view_is, ap (λ (o : Output). length (bytes_of o)) c.self.view_is, bytes_length (record { rest = rest_of s.begun s.lines; flushed = s.flushed; lines = s.lines.lines }))
