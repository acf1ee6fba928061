use Rattle.std.proofs.Common.{rules, Some}
use Rattle.turn_lock.proofs.Moves.{draws, carried_again}
use Rattle.turn_lock.proofs.turn.Turn.hold.Goals as goal

pub fetch_add-ticket-requires : goal.fetch_add-ticket-requires
fetch_add-ticket-requires g c = (search rules, search rules, draws g.T.Story.history g.T.Story.party g.T.Story.start g.T.Story.allowed _ _ _ c.requires.idle)

pub exchange-found-requires : goal.exchange-found-requires
exchange-found-requires g c =
    let turn = c.wait_turn.ensures.turn.1 in (search rules, (Some turn.0, carried_again _ _ turn.1))
