use Rattle.std.proofs.Common.{◌-◌, ◌+◌, arith, ap, length}
use Rattle.spec_live.specs.Output.{queue_most}
use Rattle.muck_board.proofs.Sending.{sent_at_once}
use Rattle.muck_board.proofs.output.Output.send.Goals as goal

pub returns : goal.returns
unfolding queue_most
returns c =
    let rest = ap length c.rest.ensures.bytes in
    let sent = ap length c.as_slice.ensures.bytes in
    sent_at_once c.args.sent.now c.args.self.now c.make_room.new.self c.push_back.new.self (131072 - (length c.rest.result.now + length c.as_slice.result.now)) (omega (arith, sent, c.as_slice.ensures.some)) (omega (arith, sent, rest, c.rest.ensures.most, c.as_slice.ensures.most)) (omega (arith, sent, rest)) c.make_room.ensures.room c.in_ok-push_back.ensures
