use Rattle.muck_work.proofs.Holding.{entry_given, start_given, turn_over}
use Rattle.muck_work.proofs.holds.gives.Goals as goal

pub give-requires-clause-own : goal.give-requires-clause-own
give-requires-clause-own g c = let e = c.requires.entered.3 in (c.requires.own, e.turn.out)

pub give-requires-clause-turn : goal.give-requires-clause-turn
give-requires-clause-turn g c = c.requires.entered.3.turn.turn

pub give-requires-clause-entry : goal.give-requires-clause-entry
give-requires-clause-entry g c = entry_given _ _ _ _ _ c.requires.entered.3

pub give-requires-clause-start : goal.give-requires-clause-start
give-requires-clause-start g c = start_given _ _ _ _ _ c.requires.entered.3

pub returns-clause-given : goal.returns-clause-given
returns-clause-given g c whose me item e =
    turn_over whose me c.args.seat.now.me _ item e c.give.new.seat.me c.give.ensures.own.2 c.give.ensures.idle c.give.ensures.seen c.give.ensures.same c.give.ensures.mine
