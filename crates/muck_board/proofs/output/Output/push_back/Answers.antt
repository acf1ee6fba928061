use Rattle.std.proofs.Common.{◌∙◌, arith, ap, length}
use Rattle.spec_live.specs.Output.{Output, sent_lines_bytes}
use Rattle.muck_board.specs.inner.Bounded.{rest_of}
use Rattle.muck_board.specs.inner.Waiting.{Waiting}
use Rattle.muck_board.proofs.Outputs.{notice_most}
use Rattle.muck_board.proofs.Ended.{joined_length}
use Rattle.muck_board.proofs.Sending.{rest_same}
use Rattle.muck_board.proofs.output.Output.push_back.Goals as goal

pub invariant_of-self-2 : goal.invariant_of-self-2
invariant_of-self-2 c =
    let s = c.self.inside in
    let same = ap length (ap (rest_of s.begun) c.in_ok-push.ensures.ok ∙ rest_same s.begun s.lines _) in
    let more = ap (λ (w : Waiting). length (sent_lines_bytes w.lines)) c.in_ok-push.ensures.ok in
    record {
      within = c.self.invariant.within;
      rest = omega (arith, same, c.self.invariant.rest);
      most = omega (arith, same, more, joined_length s.lines.lines c.args.sent.now, notice_most s.flushed, c.requires, ap (λ (o : Output). length o.rest) c.self.view_is, ap (λ (o : Output). length (sent_lines_bytes o.lines)) c.self.view_is);
    }
