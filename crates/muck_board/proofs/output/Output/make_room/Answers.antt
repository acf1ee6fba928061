use Rattle.std.proofs.Common.{◌∙◌, arith, ap, length, true}
use Rattle.spec_live.specs.Output.{Output, sent_lines_bytes}
use Rattle.muck_board.specs.inner.Bounded.{rest_of}
use Rattle.muck_board.specs.inner.Waiting.{Waiting}
use Rattle.muck_board.proofs.Outputs.{notice_most}
use Rattle.muck_board.proofs.Sending.{newest_most, rest_same}
use Rattle.muck_board.proofs.output.Output.make_room.Goals as goal

pub returns-then-len-room-clause-most : goal.returns-then-len-room-clause-most
returns-then-len-room-clause-most c =
    omega (arith, ap (λ (w : Waiting). length (sent_lines_bytes w.lines)) c.keep_newest.ensures, newest_most c.args.room c.self.inside.lines.lines)

pub invariant_of-self : goal.invariant_of-self
invariant_of-self c =
    let s = c.self.inside in
    let same = ap length (ap (rest_of s.begun) c.keep_newest.ensures ∙ rest_same s.begun s.lines _) in
    let kept = ap (λ (w : Waiting). length (sent_lines_bytes w.lines)) c.keep_newest.ensures in
    record {
      within = c.self.invariant.within;
      rest = omega (arith, same, c.self.invariant.rest);
      most = omega (arith, same, kept, notice_most true, newest_most c.args.room s.lines.lines, c.requires, ap (λ (o : Output). length o.rest) c.self.view_is);
    }
