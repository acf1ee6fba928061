use Rattle.muck_db.proofs.Bridge.{order_up}
use Rattle.muck_db.proofs.moves.check_move.Goals as goal

pub leads_to-requires : goal.leads_to-requires
leads_to-requires c = order_up _ c.requires _ c.in-Some-number_of.ensures.within
