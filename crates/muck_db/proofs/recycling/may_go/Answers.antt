use Rattle.std.proofs.Common.{sym, ◌∙◌}
use Rattle.muck_db.proofs.Bridge.{order_up}
use Rattle.muck_db.proofs.Leaving.{fits_within}
use Rattle.muck_db.proofs.recycling.may_go.Goals as goal

pub leads_to-requires : goal.leads_to-requires
leads_to-requires c = order_up _ c.requires _ (fits_within _ _ _ (sym c.fits.ensures ∙ c.if-not-fits.false))
