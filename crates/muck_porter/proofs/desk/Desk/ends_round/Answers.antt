use Rattle.std.proofs.Common.{sym}
use Rattle.muck_porter.proofs.Going.{free_then, goes_as}
use Rattle.muck_porter.proofs.desk.Desk.ends_round.Goals as goal

pub returns-in-Ok : goal.returns-in-Ok
returns-in-Ok g c = goes_as _ _ _ _ (sym c.left_round.ensures) (free_then _ _ _ _ c.in-Ok-Ready.ensures c.in-Ok.ensures.goes)
