use Rattle.muck_machine.proofs.Seating.{left_told}
use Rattle.muck_work.proofs.holds.takes.Goals as goal

pub hold-requires-clause-own : goal.hold-requires-clause-own
hold-requires-clause-own g c = (c.requires.own, c.requires.rests.1.free)

pub hold-requires-clause-idle : goal.hold-requires-clause-idle
hold-requires-clause-idle g c = c.requires.rests.1.idle

pub returns-in-Ok-clause-ok : goal.returns-in-Ok-clause-ok
returns-in-Ok-clause-ok g c whose rests =
    let ok = c.in-Ok.ensures in
    record {
      rests = rests;
      waited = ok.kept;
      turn = (ok.turn.0, ok.turn.1);
      out = ok.out;
      known = ok.mine;
      orderly = ok.allowed;
      seen = ok.state.0;
      root = ok.state.1;
      lawful = c.is_dead-dead.ensures.lawful;
      placed = c.is_dead-dead.ensures.placed;
    }

pub returns-in-Err-clause-waited : goal.returns-in-Err-clause-waited
returns-in-Err-clause-waited g c = (c.in-Err.ensures.kept, c.in-Err.ensures.spent.1)

pub returns-in-Err-clause-left : goal.returns-in-Err-clause-left
returns-in-Err-clause-left g c whose rests = let err = c.in-Err.ensures in left_told whose c.args.seat.now.me c.hold.new.seat.me rests err.kept err.told.0 err.told.1
